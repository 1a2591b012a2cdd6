use Rattle.std.proofs.Common.{◌≡◌, ◌+ℤ◌, pos, arith, w32, to_z, of_z}
use Rattle.std.proofs.lemmas.Int.{ints, to_z-of_z}
use Rattle.lw_region.specs.Rectangle.{columns_of, rows_of}
use Rattle.lw_super.proofs.PortionLaws.{fits_both, fits_not}
use Rattle.lw_super.proofs.scrolling.look_fits.Goals as goal

pub returns-then-across : goal.returns-then-across
returns-then-across c =
    let k = c.args.look.now in
    let dx = to_z-of_z w32 c.args.dx c.ranges.dx in
    let dy = to_z-of_z w32 c.args.dy c.ranges.dy in
    let x : to_z w32 (of_z w32 k.scroll_x) ≡ k.scroll_x = omega (arith, ints) in
    let y : to_z w32 (of_z w32 k.scroll_y) ≡ k.scroll_y = omega (arith, ints) in
    let columns : pos c.width.result ≡ columns_of k.bounds = omega (arith, ints, c.width.ensures.value, c.width.ensures.ordered.columns) in
    let rows : pos c.height.result ≡ rows_of k.bounds = omega (arith, ints, c.height.ensures.value, c.height.ensures.ordered.rows) in
    fits_both (k.scroll_x +ℤ c.args.dx) (k.scroll_y +ℤ c.args.dy) k.bits_w k.bits_h k.bounds c.axis_fits-across.result c.axis_fits-down.result (rw (dx, x, columns) at c.axis_fits-across.ensures) (rw (dy, y, rows) at c.axis_fits-down.ensures) c.if-across.true

pub returns-else-across : goal.returns-else-across
returns-else-across c =
    let k = c.args.look.now in
    let dx = to_z-of_z w32 c.args.dx c.ranges.dx in
    let x : to_z w32 (of_z w32 k.scroll_x) ≡ k.scroll_x = omega (arith, ints) in
    let columns : pos c.width.result ≡ columns_of k.bounds = omega (arith, ints, c.width.ensures.value, c.width.ensures.ordered.columns) in
    fits_not (k.scroll_x +ℤ c.args.dx) (k.scroll_y +ℤ c.args.dy) k.bits_w k.bits_h k.bounds c.axis_fits-across.result (rw (dx, x, columns) at c.axis_fits-across.ensures) c.if-across.false
