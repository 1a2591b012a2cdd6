-- Laws of painting a layer plane by plane, run by run and row by row.
use Rattle.std.proofs.Common.{◌≡◌, ℕ, ◌+◌, ◌==◌, ◌<◌, ◌≤◌, ◌^◌, Bool, true, false, ◌&&◌, ◌||◌, nat_lt, if◌then◌else◌, ◌∙◌, None, sym, refl, ap, subst, arith, pos}
use Rattle.std.specs.Int.{bit_at}
use Rattle.std.proofs.lemmas.Bool.Decides.{nat_tests}
use Rattle.std.proofs.lemmas.Nat.Bits.{bit_at-lt}
use Rattle.lw_region.specs.Rectangle.{Rectangle, within, has_pixel}
use Rattle.lw_planes.specs.Pen.{pen_of}
use Rattle.lw_planes.specs.Bitmap.{IsBitmap, pen_at}
use Rattle.lw_planes.proofs.PenLaws.{pen_of_same, pen_same}
use Rattle.lw_kernels.specs.Kernel.{is_between}
use Rattle.lw_machine.specs.Layer.{Raster}
use Rattle.lw_machine.specs.Kept.{is_drawable, is_kept}
use Rattle.lw_machine.specs.Paint.{through_mask, with_pens, draw_where, paint_where}
use Rattle.lw_machine.specs.Shapes.{rect_fill}
use Rattle.lw_layer.specs.View.{LiveView, shows, draws, with_layer}
use Rattle.lw_layer.specs.Runs.{IsRun}
use Rattle.lw_layer.specs.declared.run.Run.{Run}
use Rattle.lw_layer.proofs.LineLaws.{repainted_same}
use Rattle.lw_draw.specs.Drawn.{drawn, GivesBits, painted_bit, painted, in_mask, in_rows}
use Rattle.lw_draw.specs.Stretches.{IsFirstStretch, IsNextStretch}
use Rattle.lw_draw.specs.declared.spans.Places.{Places}
use Rattle.lw_draw.specs.declared.stretch.Stretch.{Stretch}
use Rattle.lw_draw.proofs.DrawnLaws.{AreMore, drawn_more, drawn_same, drawn_alike, drawn_nowhere}

-- a layer drawn on nowhere
pub layer_nowhere : (v : LiveView) (on : ℕ → ℕ → ℕ → Bool) (new : ℕ → ℕ → ℕ → ℕ → ℕ) → IsBitmap v.layer.bits → ((p x y : ℕ) → on p x y ≡ false) → v ≡ drawn on new v
layer_nowhere v on new ok none = sym (drawn_nowhere v on new ok none)

-- a layer drawn on at the same places
pub layer_same : (v w : LiveView) (on again : ℕ → ℕ → ℕ → Bool) (new : ℕ → ℕ → ℕ → ℕ → ℕ) → w ≡ drawn on new v → ((p x y : ℕ) → p < v.layer.bits.depth → on p x y ≡ again p x y) → w ≡ drawn again new v
layer_same v w on again new is same = is ∙ drawn_same v on again new (λ p x y deep _ _. same p x y deep)

-- a layer drawn on with what gives the same bits there
pub layer_alike : (v w : LiveView) (on : ℕ → ℕ → ℕ → Bool) (new again : ℕ → ℕ → ℕ → ℕ → ℕ) → w ≡ drawn on new v → ((p x y old : ℕ) → p < v.layer.bits.depth → x < v.layer.bits.width → y < v.layer.bits.height → on p x y ≡ true → old < 2 → new p x y old ≡ again p x y old) → w ≡ drawn on again v
layer_alike v w on new again is same = is ∙ drawn_alike v on new again same

-- a layer drawn on twice, at places that are apart
pub layer_more : (v w u : LiveView) (former more both : ℕ → ℕ → ℕ → Bool) (new : ℕ → ℕ → ℕ → ℕ → ℕ) → GivesBits new → AreMore v former more both → w ≡ drawn former new v → u ≡ drawn more new w → u ≡ drawn both new v
layer_more v w u former more both new gives are was is =
    is ∙ (ap (λ c. drawn more new c) was ∙ drawn_more v former more both new gives are)

-- a run stays one
pub run_stays : (v w : LiveView) (on : ℕ → ℕ → ℕ → Bool) (new : ℕ → ℕ → ℕ → ℕ → ℕ) (x y : ℕ) (r : Run) → w ≡ drawn on new v → IsRun v (λ i j. draws v i j) x y r → IsRun w (λ i j. draws w i j) x y r
unfolding drawn draws is_drawable is_kept
run_stays v w on new x y r is run =
    let P : LiveView → Type 0 = λ q. IsRun q (λ i j. draws q i j) x y r in
    subst P (sym is) (record { some = run.some; there = run.there; holds = run.holds; inside = run.inside; fits = run.fits; bits = run.bits })

-- how many planes there are stays
pub depth_stays : (v w : LiveView) (on : ℕ → ℕ → ℕ → Bool) (new : ℕ → ℕ → ℕ → ℕ → ℕ) → w ≡ drawn on new v → w.layer.bits.depth ≡ v.layer.bits.depth
unfolding drawn
depth_stays v w on new is = ap (λ (q : LiveView). q.layer.bits.depth) is

-- how high it is stays
pub height_stays : (v w : LiveView) (on : ℕ → ℕ → ℕ → Bool) (new : ℕ → ℕ → ℕ → ℕ → ℕ) → w ≡ drawn on new v → w.layer.bits.height ≡ v.layer.bits.height
unfolding drawn
height_stays v w on new is = ap (λ (q : LiveView). q.layer.bits.height) is

-- which pixels are drawable stays
pub draws_stays : (v w : LiveView) (on : ℕ → ℕ → ℕ → Bool) (new : ℕ → ℕ → ℕ → ℕ → ℕ) (x y : ℕ) → w ≡ drawn on new v → draws w x y ≡ draws v x y
unfolding drawn draws is_drawable is_kept
draws_stays v w on new x y is = ap (λ (q : LiveView). draws q x y) is

-- what a bit is painted to is a bit
pub paints_bits : (raster : Raster) → GivesBits (painted_bit raster)
paints_bits raster p x y old small =
    let a = bit_at-lt raster.pen_a p in
    let b = bit_at-lt raster.pen_b p in
    grind (arith, nat_tests)

-- the first run of a row that is left is the same
pub first_stays : (v w : LiveView) (on : ℕ → ℕ → ℕ → Bool) (new : ℕ → ℕ → ℕ → ℕ → ℕ) (x y end : ℕ) (s : Stretch) → w ≡ drawn on new v → IsFirstStretch w x y end s → IsFirstStretch v x y end s
unfolding drawn draws is_drawable is_kept
first_stays v w on new x y end s is first =
    let P : LiveView → Type 0 = λ q. IsFirstStretch q x y end s in
    let there : P (drawn on new v) = subst P is first in
    let column = there.column in
    let run = there.run in
    record {
      row = there.row;
      column = record { reaches = column.reaches; ends = column.ends; holds = column.holds; before = column.before };
      ends = there.ends;
      run = record { some = run.some; there = run.there; holds = run.holds; inside = run.inside; fits = run.fits; bits = run.bits };
    }

-- that no drawable pixel is left stays
pub none_stays : (v w : LiveView) (on : ℕ → ℕ → ℕ → Bool) (new : ℕ → ℕ → ℕ → ℕ → ℕ) (x y end : ℕ) → w ≡ drawn on new v → IsNextStretch w x y end None → IsNextStretch v x y end None
unfolding drawn draws is_drawable is_kept
none_stays v w on new x y end is none =
    let P : LiveView → Type 0 = λ q. IsNextStretch q x y end None in
    let there : P (drawn on new v) = subst P is none in
    λ u late low. there u late low

-- no column and no row
pub no_column : (has row : Bool) (from i : ℕ) (more : Bool) → (has && (row && (is_between from from i && more))) ≡ false
no_column has row from i more = grind (arith, nat_tests)

pub no_row : (has : Bool) (top j : ℕ) (more : Bool) → (has && (is_between top top j && more)) ≡ false
no_row has top j more = grind (arith, nat_tests)

-- one plane more, which the mask has
plane_apart : (p k : ℕ) (has run : Bool) → ((nat_lt p k && (has && run)) && (p == k && run)) ≡ false
plane_apart p k has run = grind (arith, nat_tests)

plane_whole : (p k : ℕ) (has run : Bool) → (p ≡ k → has ≡ true) → (nat_lt p (k + 1) && (has && run)) ≡ ((nat_lt p k && (has && run)) || (p == k && run))
plane_whole p k has run masked = grind (arith, nat_tests)

pub next_plane : (c : LiveView) (has : ℕ → Bool) (k : ℕ) (run : ℕ → ℕ → Bool) → has k ≡ true → AreMore c (λ p i j. nat_lt p k && (has p && run i j)) (λ p i j. p == k && run i j) (λ p i j. nat_lt p (k + 1) && (has p && run i j))
next_plane c has k run masked = record {
  apart = λ p i j _ _ _. plane_apart p k (has p) (run i j);
  whole = λ p i j _ _ _. plane_whole p k (has p) (run i j) (λ e. ap has e ∙ masked);
}

-- one plane more, which the mask leaves out
pub left_plane : (has : ℕ → Bool) (k : ℕ) (run : Bool) (p : ℕ) → has k ≡ false → (nat_lt p k && (has p && run)) ≡ (nat_lt p (k + 1) && (has p && run))
left_plane has k run p left = let off : p ≡ k → has p ≡ false = λ e. ap has e ∙ left in let b : Bool = has p in grind (arith, nat_tests)

-- the end of a row
pub row_end : (has row : Bool) (i from x end : ℕ) (drawable : Bool) → from ≤ x → x ≤ end → (x ≤ i → i < end → row ≡ true → drawable ≡ false) → (has && (row && (is_between from x i && drawable))) ≡ (has && (row && (is_between from end i && drawable)))
row_end has row i from x end drawable first late none = grind (arith, nat_tests)

-- some rows more
rows_apart : (has inside : Bool) (j top y n : ℕ) → ((has && (is_between top y j && inside)) && (has && (is_between y (y + n) j && inside))) ≡ false
rows_apart has inside j top y n = grind (arith, nat_tests)

rows_whole : (has inside : Bool) (j top y n : ℕ) → top ≤ y → (has && (is_between top (y + n) j && inside)) ≡ ((has && (is_between top y j && inside)) || (has && (is_between y (y + n) j && inside)))
rows_whole has inside j top y n low = grind (arith, nat_tests)

-- of any shape
pub next_rows_of : (c : LiveView) (has : ℕ → Bool) (shape : ℕ → ℕ → Bool) (top y n : ℕ) → top ≤ y → AreMore c (λ p i j. has p && (is_between top y j && shape i j)) (λ p i j. has p && (is_between y (y + n) j && shape i j)) (λ p i j. has p && (is_between top (y + n) j && shape i j))
next_rows_of c has shape top y n low = record {
  apart = λ p i j _ _ _. rows_apart (has p) (shape i j) j top y n;
  whole = λ p i j _ _ _. rows_whole (has p) (shape i j) j top y n low;
}

-- of some columns
pub next_rows : (c : LiveView) (has : ℕ → Bool) (top y n from end : ℕ) → top ≤ y → AreMore c (λ p i j. has p && in_rows c top y from end i j) (λ p i j. has p && in_rows c y (y + n) from end i j) (λ p i j. has p && in_rows c top (y + n) from end i j)
next_rows c has top y n from end low = next_rows_of c has (λ i j. is_between from end i && draws c i j) top y n low

-- one row more
pub next_row : (c : LiveView) (has : ℕ → Bool) (top y from end : ℕ) → top ≤ y → AreMore c (λ p i j. has p && in_rows c top y from end i j) (λ p i j. has p && in_rows c y (y + 1) from end i j) (λ p i j. has p && in_rows c top (y + 1) from end i j)
next_row c has top y from end low = next_rows c has top y 1 from end low

-- a pixel of some of the rows is one of all of them
row_inside : (drawable : Bool) (top bottom y n from end i j : ℕ) → top ≤ y → y + n ≤ bottom → (is_between y (y + n) j && (is_between from end i && drawable)) ≡ true → ((is_between top bottom j ≡ true) × (is_between from end i ≡ true)) × (drawable ≡ true)
row_inside drawable top bottom y n from end i j late low on = ((grind (arith, nat_tests), grind (arith, nat_tests)), grind (arith, nat_tests))

before_end : (from end high k : ℕ) → end ≤ high → is_between from end k ≡ true → k < high
before_end from end high k inside on = grind (arith, nat_tests)

all_three : (row column drawable : Bool) → row ≡ true → column ≡ true → drawable ≡ true → (row && (column && drawable)) ≡ true
all_three row column drawable r c d = cc (r, c, d)

-- what is told of rows and columns that are cut where a layer ends
pub record AreCut (c : LiveView) (rows columns high wide : Places) : Type 0 where
  pub bottom : high.end ≤ c.layer.bits.height
  pub right : wide.end ≤ c.layer.bits.width
  pub down : (j : ℕ) → j < c.layer.bits.height → is_between high.from high.end j ≡ is_between rows.from rows.end j
  pub across : (i : ℕ) → i < c.layer.bits.width → is_between wide.from wide.end i ≡ is_between columns.from columns.end i

-- a pixel of a few rows of what was cut is one of what it was cut from
pub cut_reached : (c : LiveView) (rows columns high wide : Places) (y n i j : ℕ) → AreCut c rows columns high wide → high.from ≤ y → y + n ≤ high.end → in_rows c y (y + n) wide.from wide.end i j ≡ true → in_rows c rows.from rows.end columns.from columns.end i j ≡ true
cut_reached c rows columns high wide y n i j cut late low on =
    let is = row_inside (draws c i j) high.from high.end y n wide.from wide.end i j late low on in
    all_three (is_between rows.from rows.end j) (is_between columns.from columns.end i) (draws c i j)
    (sym (cut.down j (before_end high.from high.end c.layer.bits.height j cut.bottom is.0.0)) ∙ is.0.0)
    (sym (cut.across i (before_end wide.from wide.end c.layer.bits.width i cut.right is.0.1)) ∙ is.0.1)
    is.1

-- all rows and columns are painted once those are that the layer has
pub cut_done : (v w : LiveView) (has : ℕ → Bool) (new : ℕ → ℕ → ℕ → ℕ → ℕ) (rows columns high wide : Places) → AreCut v rows columns high wide → w ≡ drawn (λ p i j. has p && in_rows v high.from high.end wide.from wide.end i j) new v → w ≡ drawn (λ p i j. has p && in_rows v rows.from rows.end columns.from columns.end i j) new v
cut_done v w has new rows columns high wide cut is =
    is ∙
    drawn_same v (λ p i j. has p && in_rows v high.from high.end wide.from wide.end i j) (λ p i j. has p && in_rows v rows.from rows.end columns.from columns.end i j) new
    (λ p i j _ left low.
    ap (λ t. has p && (t && (is_between wide.from wide.end i && draws v i j))) (cut.down j low) ∙
    ap (λ t. has p && (is_between rows.from rows.end j && (t && draws v i j))) (cut.across i left))

-- a plane's bit where the pixel is painted, and where it isn't
painted_plane : (has : Bool) (a b : ℕ) → (if has && true then a else b) ≡ (if has then a else b)
painted_plane true a b = refl
painted_plane false a b = refl

left_bit : (has : Bool) (a b : ℕ) → (if has && false then a else b) ≡ b
left_bit true a b = refl
left_bit false a b = refl

-- a pen that is painted through the mask, if it is painted
painted_pen : (d pen : ℕ) (there on : Bool) (has : ℕ → Bool) (new : ℕ → ℕ) → pen < 2 ^ d → there ≡ on → pen_of d (λ p. if has p && on then new p else bit_at pen p) ≡ (if there then pen_of d (λ p. if has p then new p else bit_at pen p) else pen)
painted_pen d pen true true has new small is = pen_of_same d _ _ (λ p _. painted_plane (has p) (new p) (bit_at pen p))
painted_pen d pen false false has new small is = pen_of_same d _ (λ p. bit_at pen p) (λ p _. left_bit (has p) (new p) (bit_at pen p)) ∙ pen_same d pen small
painted_pen d pen true false has new small is = absurd (cc is)
painted_pen d pen false true has new small is = absurd (cc is)

-- the tests of a pixel, in another order
pub tests_turned : (drawable column row across down : Bool) → column ≡ across → row ≡ down → (drawable && (column && row)) ≡ (down && (across && drawable))
tests_turned true column row across true first second = grind (arith, nat_tests)
tests_turned true column row across false first second = grind (arith, nat_tests)
tests_turned false column row true true first second = refl
tests_turned false column row false true first second = refl
tests_turned false column row across false first second = refl

-- A shape is drawn once its drawable pixels are drawn in the planes that the mask has.
pub shape_drawn : (c : LiveView) (shape on : ℕ → ℕ → Bool) (new : ℕ → ℕ → ℕ → ℕ → ℕ) → IsBitmap c.layer.bits → ((x y : ℕ) → x < c.layer.bits.width → y < c.layer.bits.height → (draws c x y && shape x y) ≡ on x y) → drawn (λ p x y. in_mask c.layer.raster p && on x y) new c ≡ with_layer (λ l. draw_where (λ x y. shows c x y) shape (λ x y k. new k x y (bit_at (pen_at l.bits x y) k)) l) c
unfolding drawn draws with_pens through_mask
shape_drawn c shape on new ok same =
    repainted_same c _ _
    (λ x y left low. painted_pen c.layer.bits.depth (pen_at c.layer.bits x y) (is_drawable (λ i j. shows c i j) c.layer x y && shape x y) (on x y) (λ p. in_mask c.layer.raster p) (λ p. new p x y (bit_at (pen_at c.layer.bits x y) p)) (ok.pens x y left low) (same x y left low))

-- A shape is painted once its drawable pixels are.
pub shape_painted : (c : LiveView) (raster : Raster) (shape on : ℕ → ℕ → Bool) → IsBitmap c.layer.bits → raster ≡ c.layer.raster → ((x y : ℕ) → x < c.layer.bits.width → y < c.layer.bits.height → (draws c x y && shape x y) ≡ on x y) → painted raster on c ≡ with_layer (λ l. paint_where (λ x y. shows c x y) shape (λ x y. true) l) c
shape_painted c raster shape on ok is same =
    ap (λ r. painted r on c) is ∙ shape_drawn c shape on (painted_bit c.layer.raster) ok same

-- A rectangle is filled once its drawable pixels are painted.
pub rectangle_filled : (c : LiveView) (raster : Raster) (rect : Rectangle) (top bottom from end : ℕ) → IsBitmap c.layer.bits → raster ≡ c.layer.raster → ((u : ℕ) → u < c.layer.bits.width → within rect.min_x (pos u) rect.max_x ≡ is_between from end u) → ((v : ℕ) → v < c.layer.bits.height → within rect.min_y (pos v) rect.max_y ≡ is_between top bottom v) → painted raster (λ i j. in_rows c top bottom from end i j) c ≡ with_layer (λ l. rect_fill (λ x y. shows c x y) rect l) c
rectangle_filled c raster rect top bottom from end ok same columns rows =
    shape_painted c raster (λ x y. has_pixel rect (pos x) (pos y)) (λ i j. in_rows c top bottom from end i j) ok same
    (λ x y left low. tests_turned (draws c x y) (within rect.min_x (pos x) rect.max_x) (within rect.min_y (pos y) rect.max_y) (is_between from end x) (is_between top bottom y) (columns x left) (rows y low))
