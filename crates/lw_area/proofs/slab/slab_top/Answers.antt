use Rattle.std.proofs.Common.{◌≡◌, ℤ, to_z, of_z, to_z-of_z, FitsSigned, w32, arith, take, get_or, pos, ◌≤ℤ◌, sym, ap, rules}
use Rattle.std.specs.List.{All}
use Rattle.std.proofs.lemmas.Int.{ints}
use Rattle.std.proofs.lemmas.List.{take_all}
use Rattle.std.proofs.lemmas.List.Elements.{All-more, All-weaker, All-same}
use Rattle.lw_region.proofs.Numbers.{le_trans}
use Rattle.lw_area.specs.declared.point.Point.{Point}
use Rattle.lw_area.proofs.slab.slab_top.Goals as goal

pub loop-point-preserved : goal.loop-point-preserved
loop-point-preserved c =
    let points = c.args.points.now in
    let i = c.loop-point.invariant in
    let row = to_z w32 (of_z w32 c.args.row) in
    let top = to_z w32 c.loop-point.top-bits in
    let now = to_z w32 (of_z w32 c.lowered-top.result) in
    let d : Point = record { x = pos 0; y = pos 0 } in
    let y = (get_or points c.loop-point.point-index d).y in
    let fits : FitsSigned w32 y = search rules in
    let r = c.lowered-top.ensures.none in
    let least = c.lowered-top.ensures.least in
    let most = c.lowered-top.ensures.most in
    let is : to_z w32 (of_z w32 y) ≡ y = omega (arith, ints) in
    let same : now ≡ c.lowered-top.result = omega (arith, ints) in
    let up : top ≤ℤ now = omega (arith, ints) in (
      omega (arith, ints, i.0),
      omega (arith, ints),
      All-more (λ p. p.y ≤ℤ row → p.y ≤ℤ now) points c.loop-point.point-index d c.loop-point-test.true
          (All-weaker (λ p. p.y ≤ℤ row → p.y ≤ℤ top) (λ p. p.y ≤ℤ row → p.y ≤ℤ now) (λ p f h. le_trans p.y top now (f h) up) (take c.loop-point.point-index points) i.2)
          (λ h. let k = r (omega (arith, ints)) in omega (arith, ints)),
    )

pub returns-clause-none : goal.returns-clause-none
returns-clause-none c =
    let points = c.args.points.now in
    let i = c.loop-point.invariant in
    let row = to_z w32 (of_z w32 c.args.row) in
    let top = to_z w32 c.loop-point.top-bits in
    let same : row ≡ c.args.row = omega (arith, ints) in
    All-weaker (λ p. p.y ≤ℤ row → p.y ≤ℤ top) (λ p. p.y ≤ℤ c.args.row → p.y ≤ℤ top) (λ p f h. f (omega (arith, ints))) points
    (All-same (λ p. p.y ≤ℤ row → p.y ≤ℤ top) points (take c.loop-point.point-index points) (sym (take_all c.loop-point.point-index points c.loop-point-test.false)) i.2)
