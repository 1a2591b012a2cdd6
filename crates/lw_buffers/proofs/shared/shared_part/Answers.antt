use Rattle.std.proofs.Common.{◌≡◌, ◌<ℤ◌, ◌+ℤ◌, pos, arith, w32, to_z, of_z}
use Rattle.std.proofs.lemmas.Int.{ints, to_z-of_z}
use Rattle.lw_buffers.proofs.SharedLaws.{lacks_above, lacks_below, lacks_columns, not_less, part_shared}
use Rattle.lw_buffers.proofs.shared.shared_part.Goals as goal
use Rattle.lw_buffers.proofs.shared.shared_part.Goals.{then-y-top-via-then-y-top, then-y-top-via-else-y-top+then-from-y}

pub returns-then-y-top : goal.returns-then-y-top
returns-then-y-top c =
    let r = c.args.rect.now in
    elim c.then-y-top.branch [
      | then-y-top-via-then-y-top w ↦ let above : c.args.y <ℤ r.min_y = grind (arith, ints) in λ i l. lacks_above r (c.args.x +ℤ pos i) c.args.y above
      | then-y-top-via-else-y-top+then-from-y w ↦ let below : r.max_y <ℤ c.args.y = grind (arith, ints) in
          λ i l. lacks_below r (c.args.x +ℤ pos i) c.args.y below
    ]

pub returns-then-end-bit : goal.returns-then-end-bit
returns-then-end-bit c =
    let r = c.args.rect.now in
    let x = to_z-of_z w32 c.args.x c.ranges.x in
    let left : to_z w32 (of_z w32 c.from-left.result) ≡ r.min_x = omega (arith, ints) in
    let right : to_z w32 (of_z w32 (to_z w32 (of_z w32 c.from-2.result) +ℤ pos 1)) ≡ r.max_x +ℤ pos 1 = omega (arith, ints) in
    lacks_columns r c.args.x c.args.y c.distance-bit.result c.distance.result c.first_of-end.result _ (rw (x, left) at c.distance-bit.ensures)
    (rw (x, right) at c.distance.ensures) c.first_of-end.ensures c.if-end-bit.true

pub returns : goal.returns
returns c =
    let r = c.args.rect.now in
    let x = to_z-of_z w32 c.args.x c.ranges.x in
    let y = to_z-of_z w32 c.args.y c.ranges.y in
    let left : to_z w32 (of_z w32 c.from-left.result) ≡ r.min_x = omega (arith, ints) in
    let top : to_z w32 (of_z w32 c.from-top.result) ≡ r.min_y = omega (arith, ints) in
    let bottom : to_z w32 (of_z w32 c.from.result) ≡ r.max_y = omega (arith, ints) in
    let right : to_z w32 (of_z w32 (to_z w32 (of_z w32 c.from-2.result) +ℤ pos 1)) ≡ r.max_x +ℤ pos 1 = omega (arith, ints) in
    part_shared r c.args.x c.args.y c.distance-bit.result c.distance-2.result c.distance-3.result c.distance.result c.first_of-end.result _
    (not_less _ _ (rw (y, top) at c.if-y-top.false)) (not_less _ _ (rw (bottom, y) at c.if-from-y.false)) (rw (x, left) at c.distance-bit.ensures) (rw (top, y) at c.distance-2.ensures)
    (rw (left, x) at c.distance-3.ensures) (rw (x, right) at c.distance.ensures) c.first_of-end.ensures c.if-end-bit.false
