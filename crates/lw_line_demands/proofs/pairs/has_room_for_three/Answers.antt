use Rattle.std.proofs.Common.{nat_le, nat_lt, sym, ap, ◌∙◌}
use Rattle.lw_grammar.specs.Told.{and_name}
use Rattle.lw_words.specs.Cuts.{targets}
use Rattle.lw_line_demands.proofs.NamesWith.{third_named, third_new}
use Rattle.lw_line_demands.proofs.pairs.has_room_for_three.Goals as goal

pub returns-then-is_named : goal.returns-then-is_named
returns-then-is_named c =
    let two = and_name (and_name (targets c.args.reader.now.tasks.layer_names.keys) c.args.first.now.now) c.args.second.now.now in
    ap (λ n. nat_le n c.args.names) c.with_two-two.ensures ∙ third_named two c.args.third.now.now c.args.names (sym c.is_named.ensures ∙ c.if-is_named.true)

pub returns-else-is_named : goal.returns-else-is_named
returns-else-is_named c =
    let two = and_name (and_name (targets c.args.reader.now.tasks.layer_names.keys) c.args.first.now.now) c.args.second.now.now in
    ap (λ n. nat_lt n c.args.names) c.with_two-two.ensures ∙ third_new two c.args.third.now.now c.args.names (sym c.is_named.ensures ∙ c.if-is_named.false)
