-- New layers.
use Rattle.std.proofs.Common.{◌≡◌, ℕ, ◌<◌, ◌≤◌, true, List, length, get_or, arith, ℤ, pos, ◌+ℤ◌, ◌-ℤ◌, ◌≤ℤ◌, unsigned_abs}
use Rattle.std.proofs.lemmas.Int.{ints}
use Rattle.std.proofs.lemmas.Bool.{and_parts, and_from}
use Rattle.lw_region.specs.Rectangle.{Rectangle, within, has_pixel, IsOrdered, width, height}
use Rattle.lw_region.proofs.Disjoint.{has_at}
use Rattle.lw_planes.specs.Sizes.{AreSizes}
use Rattle.lw_cliprects.specs.Parts.{LieIn}

-- the edges of a part of an extent
edges_within : (least greatest : ℤ) → least ≤ℤ greatest → (within least least greatest ≡ true) × (within least greatest greatest ≡ true)
unfolding within
edges_within least greatest ordered = (grind (arith, ints), grind (arith, ints))

part_extent : (least greatest low high : ℤ) → least ≤ℤ greatest → within low least high ≡ true → within low greatest high ≡ true → (1 ≤ unsigned_abs ((greatest +ℤ pos 1) -ℤ least)) × (unsigned_abs ((greatest +ℤ pos 1) -ℤ least) ≤ unsigned_abs ((high +ℤ pos 1) -ℤ low))
unfolding within
part_extent least greatest low high ordered first last = (grind (arith, ints), grind (arith, ints))

-- a rectangle in the bounds is no larger than these
pub part_size : (r bounds : Rectangle) (depth : ℕ) → IsOrdered r → ((x y : ℤ) → has_pixel r x y ≡ true → has_pixel bounds x y ≡ true) → AreSizes (width bounds) (height bounds) depth → AreSizes (width r) (height r) depth
part_size r bounds depth ordered inside sizes =
    let across = edges_within r.min_x r.max_x ordered.columns in
    let down = edges_within r.min_y r.max_y ordered.rows in
    let first = and_parts _ _ (inside r.min_x r.min_y (and_from _ _ across.0 down.0)) in
    let last = and_parts _ _ (inside r.max_x r.max_y (and_from _ _ across.1 down.1)) in
    let wide = part_extent r.min_x r.max_x bounds.min_x bounds.max_x ordered.columns first.0 last.0 in
    let high = part_extent r.min_y r.max_y bounds.min_y bounds.max_y ordered.rows first.1 last.1 in
    record {
      columns = (wide.0, omega (arith, wide.1, sizes.columns.1));
      rows = (high.0, omega (arith, high.1, sizes.rows.1));
      planes = sizes.planes;
    }

-- a rectangle of a list in the bounds lies in them
pub lies_at : (bounds : Rectangle) (rects : List Rectangle) (k : ℕ) (d : Rectangle) → LieIn bounds rects → k < length rects → (x y : ℤ) → has_pixel (get_or rects k d) x y ≡ true → has_pixel bounds x y ≡ true
lies_at bounds rects k d inside below x y has = inside x y (has_at rects k d x y below has)
