use Rattle.std.proofs.Common.{◌≡◌, ◌<ℤ◌, pos, ◌+ℤ◌, ℤ, false, to_z, of_z, w64, arith, rules, FitsSigned}
use Rattle.std.specs.Prelude.{int_le}
use Rattle.std.proofs.lemmas.Int.{ints, to_z-of_z}
use Rattle.lw_region.proofs.Numbers.{le_of}
use Rattle.lw_strips.proofs.OverlapLaws.{off_behind, off_before, common_part_is}
use Rattle.lw_strips.proofs.overlap.part_of.Goals as goal

-- what the test says where it fails
not_upto : (a b : ℤ) → int_le a b ≡ false → b <ℤ a
not_upto a b h = grind (arith, ints)

pub returns-then-place-size : goal.returns-then-place-size
returns-then-place-size c =
    let place = to_z-of_z w64 c.args.place c.ranges.place in
    let size : to_z w64 (of_z w64 c.from-size.result) ≡ pos c.args.size = omega (arith, ints, c.from-size.ensures, c.ranges.size) in
    off_behind c.args.place c.args.count c.args.size (le_of _ _ (rw (place, size) at c.if-place-size.true))

pub returns-then-end-begin : goal.returns-then-end-begin
returns-then-end-begin c =
    let place = to_z-of_z w64 c.args.place c.ranges.place in
    let size : to_z w64 (of_z w64 c.from-size.result) ≡ pos c.args.size = omega (arith, ints, c.from-size.ensures, c.ranges.size) in
    let count : to_z w64 (of_z w64 c.from.result) ≡ pos c.args.count = omega (arith, ints, c.from.ensures, c.ranges.count) in
    let before : c.args.place <ℤ pos c.args.size = not_upto _ _ (rw (place, size) at c.if-place-size.false) in
    let fits : FitsSigned w64 c.args.place = c.ranges.place in
    let behind : to_z w64 (of_z w64 (c.args.place +ℤ pos c.args.count)) ≡ c.args.place +ℤ pos c.args.count = omega (arith, ints, c.ranges.count, c.ranges.size) in
    let begin_fits : FitsSigned w64 c.max-begin.result = search rules in
    let end_fits : FitsSigned w64 c.min-end.result = search rules in
    off_before c.args.place c.max-begin.result c.min-end.result c.args.count c.args.size
    (rw place at c.max-begin.ensures.value)
    (rw (place, count, behind, size) at c.min-end.ensures.value)
    (le_of _ _ (rw (to_z-of_z w64 c.max-begin.result begin_fits, to_z-of_z w64 c.min-end.result end_fits) at c.if-end-begin.true))
    before

pub returns : goal.returns
returns c =
    let place = to_z-of_z w64 c.args.place c.ranges.place in
    let size : to_z w64 (of_z w64 c.from-size.result) ≡ pos c.args.size = omega (arith, ints, c.from-size.ensures, c.ranges.size) in
    let count : to_z w64 (of_z w64 c.from.result) ≡ pos c.args.count = omega (arith, ints, c.from.ensures, c.ranges.count) in
    let before : c.args.place <ℤ pos c.args.size = not_upto _ _ (rw (place, size) at c.if-place-size.false) in
    let behind : to_z w64 (of_z w64 (c.args.place +ℤ pos c.args.count)) ≡ c.args.place +ℤ pos c.args.count = omega (arith, ints, c.ranges.place, c.ranges.count, c.ranges.size) in
    let begin_fits : FitsSigned w64 c.max-begin.result = search rules in
    let end_fits : FitsSigned w64 c.min-end.result = search rules in
    let begin = to_z-of_z w64 c.max-begin.result begin_fits in
    let end = to_z-of_z w64 c.min-end.result end_fits in
    common_part_is c.args.place c.max-begin.result c.min-end.result c.args.count c.args.size c.gap.result c.gap-2.result c.gap-3.result
    (rw place at c.max-begin.ensures.value)
    (rw (place, count, behind, size) at c.min-end.ensures.value)
    (not_upto _ _ (rw (begin, end) at c.if-end-begin.false))
    (omega (arith, ints, rw begin at c.gap.ensures))
    (rw (place, begin) at c.gap-2.ensures)
    (rw (begin, end) at c.gap-3.ensures)
