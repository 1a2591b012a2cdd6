use Rattle.std.proofs.Common.{◌≡◌, true, ℤ, pos, ◌+ℤ◌, ap, sym, ◌∙◌, to_z, of_z, w32, arith, rules}
use Rattle.std.proofs.lemmas.Int.{ints, by_lt_z}
use Rattle.lw_area.specs.Patterns.{word_has}
use Rattle.lw_area.proofs.runs.end_of_ones.Goals as goal

pub loop-end-preserved : goal.loop-end-preserved
loop-end-preserved c =
    let i = c.loop-end.invariant in
    let test = c.loop-end-test.true in
    let end = to_z w32 c.loop-end.end-bits in
    let one : word_has c.args.word end ≡ true = search rules in (
      omega (arith, ints, i.0, i.1),
      omega (arith, ints, i.0, i.1),
      λ x h k. by_lt_z x end (λ a. i.2 x h a) (λ a. let same : x ≡ end = omega (arith, ints) in ap (word_has c.args.word) same ∙ one),
    )
