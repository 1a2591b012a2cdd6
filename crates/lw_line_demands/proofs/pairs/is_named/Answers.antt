use Rattle.std.proofs.Common.{true, false, sym, ◌∙◌}
use Rattle.lw_words.specs.Cuts.{targets}
use Rattle.lw_line_demands.proofs.NamesWith.{named_known, named_new}
use Rattle.lw_line_demands.proofs.pairs.is_named.Goals as goal

pub returns-then-has_name : goal.returns-then-has_name
returns-then-has_name c =
    named_known (targets c.args.reader.now.tasks.layer_names.keys) c.args.first.now.now c.args.second.now.now c.args.name.now.now (sym c.has_name.ensures ∙ c.if-has_name.true)

pub returns-then-is_text : goal.returns-then-is_text
returns-then-is_text c =
    named_new (targets c.args.reader.now.tasks.layer_names.keys) c.args.first.now.now c.args.second.now.now c.args.name.now.now true (sym c.has_name.ensures ∙ c.if-has_name.false) (sym c.is_text.ensures ∙ c.if-is_text.true)

pub returns : goal.returns
returns c =
    c.is_text-2.ensures ∙ named_new (targets c.args.reader.now.tasks.layer_names.keys) c.args.first.now.now c.args.second.now.now c.args.name.now.now false (sym c.has_name.ensures ∙ c.if-has_name.false) (sym c.is_text.ensures ∙ c.if-is_text.false)
