use Rattle.std.proofs.Common.{◌≡◌, ℤ, to_z, of_z, FitsSigned, w32, arith, take, get_or, pos, negsuc, ◌≤ℤ◌, sym, rules}
use Rattle.std.proofs.lemmas.Int.{ints}
use Rattle.std.proofs.lemmas.List.{take_all}
use Rattle.std.proofs.lemmas.List.Elements.{All-more, All-weaker, All-same}
use Rattle.lw_region.proofs.Numbers.{le_trans}
use Rattle.lw_area.specs.declared.point.Point.{Point}
use Rattle.lw_area.proofs.slab.first_row.Goals as goal

pub loop-point-preserved : goal.loop-point-preserved
loop-point-preserved c =
    let points = c.args.points.now in
    let i = c.loop-point.invariant in
    let top = to_z w32 c.loop-point.top-bits in
    let now = to_z w32 (of_z w32 c.higher-top.result) in
    let d : Point = record { x = pos 0; y = pos 0 } in
    let y = (get_or points c.loop-point.point-index d).y in
    let fits : FitsSigned w32 y = search rules in
    let r = c.higher-top.ensures.none in
    let least = c.higher-top.ensures.least in
    let most = c.higher-top.ensures.most in
    let is : to_z w32 (of_z w32 y) ≡ y = omega (arith, ints) in
    let same : now ≡ c.higher-top.result = omega (arith, ints, i.1) in
    let up : now ≤ℤ top = omega (arith, ints) in (
      omega (arith, ints),
      omega (arith, ints, i.1),
      All-more (λ p. negsuc 2047 ≤ℤ p.y → now ≤ℤ p.y) points c.loop-point.point-index d c.loop-point-test.true
          (All-weaker (λ p. negsuc 2047 ≤ℤ p.y → top ≤ℤ p.y) (λ p. negsuc 2047 ≤ℤ p.y → now ≤ℤ p.y) (λ p f h. le_trans now top p.y up (f h)) (take c.loop-point.point-index points) i.2)
          (λ h. let k = r (omega (arith, ints)) in omega (arith, ints)),
    )

pub returns-clause-none : goal.returns-clause-none
returns-clause-none c =
    let points = c.args.points.now in
    let top = to_z w32 c.loop-point.top-bits in
    All-same (λ p. negsuc 2047 ≤ℤ p.y → top ≤ℤ p.y) points (take c.loop-point.point-index points) (sym (take_all c.loop-point.point-index points c.loop-point-test.false)) c.loop-point.invariant.2
