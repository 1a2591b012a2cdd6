use Rattle.std.proofs.Common.{◌+◌, sym, ap, ◌∙◌}
use Rattle.lw_words.specs.Cuts.{targets}
use Rattle.lw_words.proofs.Targets.{length_targets}
use Rattle.lw_line_demands.proofs.NamesWith.{known_first, alike, known_second, both_new}
use Rattle.lw_line_demands.proofs.tested.with_two.Goals as goal

pub returns-then-has_name : goal.returns-then-has_name
returns-then-has_name c =
    c.with_name.ensures ∙ known_first _ c.args.first.now.now c.args.second.now.now (sym c.has_name.ensures ∙ c.if-has_name.true)

pub returns-then-is_text : goal.returns-then-is_text
returns-then-is_text c =
    let ks = c.args.reader.now.tasks.layer_names.keys in
    ap (λ n. n + 1) (c.len.ensures.len ∙ sym (length_targets ks)) ∙ alike (targets ks) c.args.first.now.now c.args.second.now.now (sym c.has_name.ensures ∙ c.if-has_name.false) (sym c.is_text.ensures ∙ c.if-is_text.true)

pub returns-then-has_name-2 : goal.returns-then-has_name-2
returns-then-has_name-2 c =
    let ks = c.args.reader.now.tasks.layer_names.keys in
    ap (λ n. n + 1) (c.len-then-has_name-2.ensures.len ∙ sym (length_targets ks)) ∙ known_second (targets ks) c.args.first.now.now c.args.second.now.now (sym c.has_name.ensures ∙ c.if-has_name.false) (sym c.has_name-2.ensures ∙ c.if-has_name-2.true)

pub returns : goal.returns
returns c =
    let ks = c.args.reader.now.tasks.layer_names.keys in
    ap (λ n. n + 2) (c.len-2.ensures.len ∙ sym (length_targets ks)) ∙ both_new (targets ks) c.args.first.now.now c.args.second.now.now (sym c.has_name.ensures ∙ c.if-has_name.false) (sym c.is_text.ensures ∙ c.if-is_text.false) (sym c.has_name-2.ensures ∙ c.if-has_name-2.false)
