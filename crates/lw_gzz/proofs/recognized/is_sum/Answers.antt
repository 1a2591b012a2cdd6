use Rattle.std.proofs.Common.{◌≡◌, ℤ, ◌+ℤ◌, nat_eq, to_z, of_z, w32, w64, FitsSigned, arith, ap, ◌∙◌}
use Rattle.std.specs.Ordering.{int_eq}
use Rattle.std.proofs.lemmas.Int.{ints}
use Rattle.lw_gzz.proofs.recognized.is_sum.Goals as goal

same_test : (s c : ℤ) → FitsSigned w64 s → FitsSigned w64 c → nat_eq (of_z w64 s) (of_z w64 c) ≡ int_eq s c
same_test s c fits also = grind (arith, ints)

sum_fits : (a b : ℤ) → FitsSigned w32 a → FitsSigned w32 b → FitsSigned w64 (a +ℤ b)
sum_fits a b fits also = omega (arith, ints)

wide : (a : ℤ) → FitsSigned w32 a → FitsSigned w64 a
wide a fits = omega (arith, ints)

pub returns : goal.returns
returns c =
    let sum : to_z w64 (of_z w64 c.from.result) +ℤ to_z w64 (of_z w64 c.from-2.result) ≡ c.args.number +ℤ c.args.by =
    omega (arith, ints) in
    let other : c.from-3.result ≡ c.args.sum = omega (arith, ints) in
    ap (λ z. nat_eq (of_z w64 z) (of_z w64 c.from-3.result)) sum ∙
    (ap (λ z. nat_eq (of_z w64 (c.args.number +ℤ c.args.by)) (of_z w64 z)) other ∙
    same_test (c.args.number +ℤ c.args.by) c.args.sum (sum_fits c.args.number c.args.by c.ranges.number c.ranges.by)
    (wide c.args.sum c.ranges.sum))
