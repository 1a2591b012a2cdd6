use Rattle.std.proofs.Common.{◌∙◌, arith, rules}
use Rattle.std.proofs.lemmas.Int.{ints}
use Rattle.lw_reveal.proofs.PairingLaws.{none_paired}
use Rattle.lw_reveal.proofs.pairing.Pairing.empty.Goals as goal

pub returns-clause-sound : goal.returns-clause-sound
returns-clause-sound c =
    none_paired _ c.len.result c.len-2.result
    (record { left = omega (arith, ints); right = omega (arith, ints); upper = omega (arith, ints); lower = omega (arith, ints) })
    (c.len.ensures ∙ c.args.former.ok.0) (c.len-2.ensures ∙ c.args.news.ok.0)
    (c.in_ok-handed.ensures.items_if_clones_equal (λ y is. search rules)) (c.in_ok-given.ensures.items_if_clones_equal (λ y is. search rules))
