-- Laws of blits as wholes: what is drawn in the rows and columns that they reach is the blit.
use Rattle.std.proofs.Common.{◌≡◌, ℕ, ◌==◌, ◌<◌, nat_lt, Bool, true, false, ◌&&◌, ◌||◌, if◌then◌else◌, Some, None, ◌∙◌, sym, refl, ap, arith, ℤ, pos, negsuc, ◌+ℤ◌, ◌-ℤ◌, ◌≤ℤ◌, unsigned_abs, IsTrue}
use Rattle.std.specs.Int.{bit_at}
use Rattle.std.proofs.lemmas.Bool.{and_parts}
use Rattle.std.proofs.lemmas.Bool.Decides.{nat_tests}
use Rattle.std.proofs.lemmas.Int.{ints}
use Rattle.lw_region.specs.Rectangle.{within, has_pixel}
use Rattle.lw_region.proofs.Within.{within_low, within_high}
use Rattle.lw_planes.specs.Bitmap.{Bitmap, IsBitmap, pen_at}
use Rattle.lw_planes.specs.Minterm.{minterm_bit}
use Rattle.lw_kernels.specs.Kernel.{is_between}
use Rattle.lw_kernels.proofs.ByteLaws.{minterm_copies}
use Rattle.lw_calls.specs.Limits.{area_fits, coordinates_fit, is_coordinate, is_extent, is_minterm}
use Rattle.lw_calls.specs.declared.area.Area.{Area}
use Rattle.lw_machine.specs.Kept.{holds_at}
use Rattle.lw_machine.specs.Blits.{source_column, source_row, source_pen, clip_blit, blt_bitmap_rast_port}
use Rattle.lw_machine.specs.Shapes.{box_at}
use Rattle.lw_layer.specs.View.{LiveView, shows, keeps, draws, kept_pen, with_layer}
use Rattle.lw_layer.specs.Copied.{bit_in, kept_bit}
use Rattle.lw_layer.proofs.CopyingLaws.{bit_in_lt}
use Rattle.lw_draw.specs.Drawn.{drawn, in_rows}
use Rattle.lw_draw.proofs.DrawnLaws.{bits_same, bit_of_layer}
use Rattle.lw_draw.proofs.PaintLaws.{layer_alike, shape_drawn}
use Rattle.lw_blit.specs.Blitting.{has_place, blended, blit_by, has_source, source_bit, from_layer, from_bits, masked, IsNear, keeps_source, taken}
use Rattle.lw_blit.specs.declared.transfers.Transfer.{Transfer}
use Rattle.lw_blit.proofs.SourceLaws.{kept_place}

coordinate_low : (z : ℤ) → is_coordinate z ≡ true → negsuc 65535 ≤ℤ z
coordinate_low z is = let low = within_low (negsuc 32767) z (pos 32767) is in omega (arith, ints)

coordinate_high : (z : ℤ) → is_coordinate z ≡ true → z ≤ℤ pos 65535
coordinate_high z is = let high = within_high (negsuc 32767) z (pos 32767) is in omega (arith, ints)

extent_low : (z : ℤ) → is_extent z ≡ true → pos 0 ≤ℤ z
extent_low z is = let low = within_low (pos 1) z (pos 32767) is in omega (arith, ints)

extent_high : (z : ℤ) → is_extent z ≡ true → z ≤ℤ pos 65535
extent_high z is = let high = within_high (pos 1) z (pos 32767) is in omega (arith, ints)

pub area_near : (a : Area) → IsTrue (area_fits a) → IsNear a
area_near a fits =
    let places = coordinates_fit a.sx a.sy && coordinates_fit a.x a.y in
    let sizes = is_extent a.w && is_extent a.h in
    let parts = and_parts places sizes (and_parts (places && sizes) (is_minterm a.minterm) fits).0 in
    let corners = and_parts (coordinates_fit a.sx a.sy) (coordinates_fit a.x a.y) parts.0 in
    let source = and_parts (is_coordinate a.sx) (is_coordinate a.sy) corners.0 in
    let to = and_parts (is_coordinate a.x) (is_coordinate a.y) corners.1 in
    let size = and_parts (is_extent a.w) (is_extent a.h) parts.1 in
    record {
      sx_low = coordinate_low a.sx source.0;
      sx_high = coordinate_high a.sx source.0;
      sy_low = coordinate_low a.sy source.1;
      sy_high = coordinate_high a.sy source.1;
      x_low = coordinate_low a.x to.0;
      x_high = coordinate_high a.x to.0;
      y_low = coordinate_low a.y to.1;
      y_high = coordinate_high a.y to.1;
      w_low = extent_low a.w size.0;
      w_high = extent_high a.w size.0;
      h_low = extent_low a.h size.1;
      h_high = extent_high a.h size.1;
    }

-- what is told of the columns and rows that a blit reaches in a layer, from a source of this size
pub record AreReached (a : Area) (across down width height top bottom from end : ℕ) : Type 0 where
  pub columns : (u : ℕ) → u < width → (within a.x (pos u) ((a.x +ℤ a.w) -ℤ pos 1) && has_place across (source_column a u)) ≡ is_between from end u
  pub rows : (v : ℕ) → v < height → (within a.y (pos v) ((a.y +ℤ a.h) -ℤ pos 1) && has_place down (source_row a v)) ≡ is_between top bottom v

-- by sizes that were read
pub reached_by : (a : Area) (across down width height m n w h top bottom from end : ℕ) → m ≡ across → n ≡ down → w ≡ width → h ≡ height → ((u : ℕ) → u < w → (within a.x (pos u) ((a.x +ℤ a.w) -ℤ pos 1) && has_place m (source_column a u)) ≡ is_between from end u) → ((v : ℕ) → v < h → (within a.y (pos v) ((a.y +ℤ a.h) -ℤ pos 1) && has_place n (source_row a v)) ≡ is_between top bottom v) → AreReached a across down width height top bottom from end
reached_by a across down width height m n w h top bottom from end source_wide source_high wide high columns rows = record {
  columns = λ u left. ap (λ k. within a.x (pos u) ((a.x +ℤ a.w) -ℤ pos 1) && has_place k (source_column a u)) (sym source_wide) ∙ columns u (omega (arith, left, wide));
  rows = λ v low. ap (λ k. within a.y (pos v) ((a.y +ℤ a.h) -ℤ pos 1) && has_place k (source_row a v)) (sym source_high) ∙ rows v (omega (arith, low, high));
}

-- a pixel that is kept has its place in the layer's bits
inside_low : (n x : ℕ) → x < n → has_place n (pos x) ≡ true
inside_low n x low = grind (arith, ints)

kept_column : (c : LiveView) (x y : ℤ) → holds_at (λ i j. keeps c i j) x y ≡ true → has_place c.layer.bits.width x ≡ true
kept_column c (pos x) (pos y) is = inside_low c.layer.bits.width x (kept_place c x y is).0
kept_column c (pos x) (negsuc y) is = absurd (cc is)
kept_column c (negsuc x) y is = absurd (cc is)

kept_row : (c : LiveView) (x y : ℤ) → holds_at (λ i j. keeps c i j) x y ≡ true → has_place c.layer.bits.height y ≡ true
kept_row c (pos x) (pos y) is = inside_low c.layer.bits.height y (kept_place c x y is).1
kept_row c (pos x) (negsuc y) is = absurd (cc is)
kept_row c (negsuc x) y is = absurd (cc is)

-- and its bit is that of its pen
pub kept_pen_bit : (c : LiveView) (p : ℕ) (x y : ℤ) → holds_at (λ i j. keeps c i j) x y ≡ true → kept_bit c p x y ≡ bit_at (pen_at c.layer.bits (unsigned_abs x) (unsigned_abs y)) p
unfolding kept_bit
kept_pen_bit c p (pos x) (pos y) is = ap (λ t. bit_in p (if t then Some (pen_at c.layer.bits x y) else None)) is
kept_pen_bit c p (pos x) (negsuc y) is = absurd (cc is)
kept_pen_bit c p (negsuc x) y is = absurd (cc is)

-- a bit that is blended where it has a source, and one that is painted where it is kept
blended_kept : (has area kept : Bool) (m source pen old : ℕ) → (kept ≡ true → source ≡ pen) → (if has && area then blended m kept source old else old) ≡ (if has && (area && kept) then minterm_bit m pen old else old)
blended_kept true true true m source pen old same = ap (λ b. minterm_bit m b old) (same refl)
blended_kept true true false m source pen old same = refl
blended_kept true false kept m source pen old same = refl
blended_kept false area kept m source pen old same = refl

-- the tests of a pixel, in another order
kept_turned : (drawable across down column row kept from to : Bool) → (across && column) ≡ from → (down && row) ≡ to → (kept ≡ true → column ≡ true) → (kept ≡ true → row ≡ true) → (drawable && ((across && down) && kept)) ≡ ((to && (from && drawable)) && kept)
kept_turned drawable across down column row true from to columns rows left low = let first : column ≡ true = left refl in let second : row ≡ true = low refl in grind (arith, nat_tests)
kept_turned drawable across down column row false from to columns rows left low = grind (arith, nat_tests)

all_turned : (drawable across down column row from to : Bool) → (across && column) ≡ from → (down && row) ≡ to → (drawable && ((across && down) && (column && row))) ≡ (to && (from && drawable))
all_turned drawable across down column row from to columns rows = grind (arith, nat_tests)

-- A layer is blitted from a layer once the drawable pixels are painted, of those that are reached, whose sources are kept.
pub kept_blitted : (c source : LiveView) (a : Area) (mask top bottom from end : ℕ) → IsBitmap c.layer.bits → mask ≡ c.layer.raster.mask → AreReached a source.layer.bits.width source.layer.bits.height c.layer.bits.width c.layer.bits.height top bottom from end → drawn (taken mask c source a top bottom from end) (from_bits source.layer.bits a) c ≡ with_layer (λ l. clip_blit (λ i j. shows source i j) source.layer (λ i j. shows c i j) a l) c
unfolding keeps
kept_blitted c source a mask top bottom from end ok same are =
    ap (λ m. drawn (taken m c source a top bottom from end) (from_bits source.layer.bits a) c) same ∙
    shape_drawn c (λ x y. has_pixel (box_at a.x a.y a.w a.h) (pos x) (pos y) && keeps_source source a x y) (λ x y. in_rows c top bottom from end x y && keeps_source source a x y) (from_bits source.layer.bits a) ok
    (λ x y left low.
    kept_turned (draws c x y) (within a.x (pos x) ((a.x +ℤ a.w) -ℤ pos 1)) (within a.y (pos y) ((a.y +ℤ a.h) -ℤ pos 1)) (has_place source.layer.bits.width (source_column a x)) (has_place source.layer.bits.height (source_row a y)) (keeps_source source a x y) (is_between from end x) (is_between top bottom y) (are.columns x left) (are.rows y low)
    (λ is. kept_column source (source_column a x) (source_row a y) is) (λ is. kept_row source (source_column a x) (source_row a y) is))

-- And so it is where a pixel whose source isn't kept is left as it is.
pub layer_blitted : (c source : LiveView) (a : Area) (mask top bottom from end : ℕ) → IsBitmap c.layer.bits → mask ≡ c.layer.raster.mask → AreReached a source.layer.bits.width source.layer.bits.height c.layer.bits.width c.layer.bits.height top bottom from end → drawn (masked mask c top bottom from end) (from_layer source (blit_by a)) c ≡ with_layer (λ l. clip_blit (λ i j. shows source i j) source.layer (λ i j. shows c i j) a l) c
unfolding drawn from_layer keeps
layer_blitted c source a mask top bottom from end ok same are =
    bits_same c (λ p x y. if masked mask c top bottom from end p x y then from_layer source (blit_by a) p x y (bit_of_layer c p x y) else bit_of_layer c p x y)
    (λ p x y. if taken mask c source a top bottom from end p x y then from_bits source.layer.bits a p x y (bit_of_layer c p x y) else bit_of_layer c p x y)
    (λ p x y _ _ _.
    blended_kept (bit_at mask p == 1) (in_rows c top bottom from end x y) (keeps_source source a x y) a.minterm (kept_bit source p (source_column a x) (source_row a y)) (bit_at (source_pen source.layer.bits a x y) p) (bit_of_layer c p x y)
    (λ is. kept_pen_bit source p (source_column a x) (source_row a y) is)) ∙
    kept_blitted c source a mask top bottom from end ok same are

-- all pixels of a bitmap
bitmap_place : (n x : ℕ) → nat_lt x n ≡ has_place n (pos x)
bitmap_place n x = grind (arith, ints, nat_tests)

place_off : (n x : ℕ) → has_place n (negsuc x) ≡ false
place_off n x = grind (arith, ints)

no_place : (a b : Bool) → b ≡ false → false ≡ (a && b)
no_place true b off = sym off
no_place false b off = refl

bitmap_has : (b : Bitmap) (x y : ℤ) → holds_at (λ i j. nat_lt i b.width && nat_lt j b.height) x y ≡ (has_place b.width x && has_place b.height y)
bitmap_has b (pos x) (pos y) = ap (λ t. t && nat_lt y b.height) (bitmap_place b.width x) ∙ ap (λ t. has_place b.width (pos x) && t) (bitmap_place b.height y)
bitmap_has b (pos x) (negsuc y) = no_place (has_place b.width (pos x)) (has_place b.height (negsuc y)) (place_off b.height y)
bitmap_has b (negsuc x) y = sym (ap (λ t. t && has_place b.height y) (place_off b.width x))

-- And so it is from a bitmap.
pub bitmap_blitted : (c : LiveView) (b : Bitmap) (a : Area) (mask top bottom from end : ℕ) → IsBitmap c.layer.bits → mask ≡ c.layer.raster.mask → AreReached a b.width b.height c.layer.bits.width c.layer.bits.height top bottom from end → drawn (masked mask c top bottom from end) (from_bits b a) c ≡ with_layer (λ l. blt_bitmap_rast_port b (λ i j. shows c i j) a l) c
bitmap_blitted c b a mask top bottom from end ok same are =
    ap (λ m. drawn (masked m c top bottom from end) (from_bits b a) c) same ∙
    shape_drawn c (λ x y. has_pixel (box_at a.x a.y a.w a.h) (pos x) (pos y) && holds_at (λ i j. nat_lt i b.width && nat_lt j b.height) (source_column a x) (source_row a y)) (λ x y. in_rows c top bottom from end x y) (from_bits b a) ok
    (λ x y left low.
    ap (λ t. draws c x y && (has_pixel (box_at a.x a.y a.w a.h) (pos x) (pos y) && t)) (bitmap_has b (source_column a x) (source_row a y)) ∙
    all_turned (draws c x y) (within a.x (pos x) ((a.x +ℤ a.w) -ℤ pos 1)) (within a.y (pos y) ((a.y +ℤ a.h) -ℤ pos 1)) (has_place b.width (source_column a x)) (has_place b.height (source_row a y)) (is_between from end x) (is_between top bottom y) (are.columns x left) (are.rows y low))

kept_small : (c : LiveView) (p : ℕ) (x y : ℤ) → kept_bit c p x y < 2
unfolding kept_bit
kept_small c p x y = bit_in_lt p (kept_pen c x y)

-- A layer whose rows are shifted takes the bits of its own pixels.
pub layer_shifted : (v w : LiveView) (t : Transfer) (dx dy : ℤ) (on : LiveView → ℕ → ℕ → ℕ → Bool) → t.dx ≡ dx → t.dy ≡ dy → t.minterm ≡ 192 → t.clears ≡ true → w ≡ drawn (on v) (from_layer v t) v → w ≡ drawn (on v) (λ p i j old. kept_bit v p (pos i +ℤ dx) (pos j +ℤ dy)) v
unfolding from_layer
layer_shifted v w t dx dy on across down copy clears is =
    layer_alike v w (on v) (from_layer v t) (λ p i j old. kept_bit v p (pos i +ℤ dx) (pos j +ℤ dy)) is
    (λ p i j old _ _ _ _ small.
    ap (λ m. blended m (t.clears || has_source v t i j) (source_bit v t p i j) old) copy ∙
    (ap (λ q. blended 192 (q || has_source v t i j) (source_bit v t p i j) old) clears ∙
    (minterm_copies 192 (source_bit v t p i j) old (kept_small v p (pos i +ℤ t.dx) (pos j +ℤ t.dy)) refl ∙
    (ap (λ z. kept_bit v p (pos i +ℤ z) (pos j +ℤ t.dy)) across ∙ ap (λ z. kept_bit v p (pos i +ℤ dx) (pos j +ℤ z)) down))))
