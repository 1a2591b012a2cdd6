-- Laws of drawing a line row by row.
use Rattle.std.proofs.Common.{◌≡◌, ℕ, ◌+◌, ◌<◌, Bool, true, false, ◌&&◌, ◌∙◌, sym, refl, ap, arith, ℤ, pos}
use Rattle.std.specs.Int.{int_min, int_max}
use Rattle.std.proofs.lemmas.Bool.Decides.{nat_tests}
use Rattle.lw_region.specs.Rectangle.{within}
use Rattle.lw_planes.specs.Bitmap.{IsBitmap}
use Rattle.lw_kernels.specs.Kernel.{is_between}
use Rattle.lw_machine.specs.Layer.{Raster}
use Rattle.lw_machine.specs.Shapes.{is_on_line, draw_line}
use Rattle.lw_machine.specs.Paint.{paint_where, with_pens}
use Rattle.lw_layer.specs.View.{LiveView, shows, draws, with_layer}
use Rattle.lw_draw.specs.Drawn.{painted, painted_bit, in_mask, in_rows}
use Rattle.lw_draw.specs.LineSpans.{on_line_rows}
use Rattle.lw_draw.specs.declared.row_spans.Line.{Line}
use Rattle.lw_draw.proofs.DrawnLaws.{drawn_same}
use Rattle.lw_draw.proofs.PaintLaws.{shape_painted}
use Rattle.lw_draw.proofs.RowSpanLaws.{rows_of_line}

-- the pixels of a row by another test, which there is the same
row_by_another : (row a b drawable : Bool) → (row ≡ true → a ≡ b) → (row && (a && drawable)) ≡ (row && (b && drawable))
row_by_another true a b drawable same = ap (λ t. t && drawable) (same refl)
row_by_another false a b drawable same = refl

the_row : (y j : ℕ) → is_between y (y + 1) j ≡ true → j ≡ y
the_row y j is = grind (arith, nat_tests)

-- A row's columns are painted: the row of the line.
pub line_row_painted : (c : LiveView) (raster : Raster) (line : Line) (y from end : ℕ) → ((i : ℕ) → i < c.layer.bits.width → is_on_line line.x0 line.y0 line.x1 line.y1 (pos i) (pos y) ≡ is_between from end i) → painted raster (λ i j. in_rows c y (y + 1) from end i j) c ≡ painted raster (λ i j. on_line_rows c line y (y + 1) i j) c
line_row_painted c raster line y from end are =
    drawn_same c (λ p i j. in_mask raster p && in_rows c y (y + 1) from end i j) (λ p i j. in_mask raster p && on_line_rows c line y (y + 1) i j) (painted_bit raster)
    (λ p i j _ left _.
    ap (λ t. in_mask raster p && t)
    (row_by_another (is_between y (y + 1) j) (is_between from end i) (is_on_line line.x0 line.y0 line.x1 line.y1 (pos i) (pos j)) (draws c i j)
    (λ row. sym (are i left) ∙ ap (λ v. is_on_line line.x0 line.y0 line.x1 line.y1 (pos i) (pos v)) (sym (the_row y j row)))))

-- the tests of a pixel, in another order; only in a row of the line it can be on it
line_tests : (drawable on row down : Bool) → (on ≡ true → row ≡ true) → row ≡ down → (drawable && on) ≡ (down && (on && drawable))
line_tests true true true true inside same = refl
line_tests true true true false inside same = absurd (cc same)
line_tests true true false down inside same = absurd (cc (inside refl))
line_tests false true true true inside same = refl
line_tests false true true false inside same = refl
line_tests false true false true inside same = refl
line_tests false true false false inside same = refl
line_tests true false row true inside same = refl
line_tests true false row false inside same = refl
line_tests false false row true inside same = refl
line_tests false false row false inside same = refl

-- A line is drawn once its pixels in all of its rows are painted.
pub line_painted : (c : LiveView) (raster : Raster) (line : Line) (top bottom : ℕ) → IsBitmap c.layer.bits → raster ≡ c.layer.raster → ((v : ℕ) → v < c.layer.bits.height → within (int_min line.y0 line.y1) (pos v) (int_max line.y0 line.y1) ≡ is_between top bottom v) → painted raster (λ i j. on_line_rows c line top bottom i j) c ≡ with_layer (λ l. paint_where (λ x y. shows c x y) (λ x y. is_on_line line.x0 line.y0 line.x1 line.y1 (pos x) (pos y)) (λ x y. true) l) c
line_painted c raster line top bottom ok same rows =
    shape_painted c raster (λ x y. is_on_line line.x0 line.y0 line.x1 line.y1 (pos x) (pos y)) (λ i j. on_line_rows c line top bottom i j) ok same
    (λ x y _ low. line_tests (draws c x y) (is_on_line line.x0 line.y0 line.x1 line.y1 (pos x) (pos y)) _ (is_between top bottom y) (rows_of_line line.x0 line.y0 line.x1 line.y1 (pos x) (pos y)) (rows y low))

-- With its pixels drawn and the cursor at its end the line is drawn.
pub line_done : (v w u : LiveView) (raster after : Raster) (line : Line) (px py : ℤ) (top bottom : ℕ) → IsBitmap v.layer.bits → raster ≡ v.layer.raster → ((j : ℕ) → j < v.layer.bits.height → within (int_min line.y0 line.y1) (pos j) (int_max line.y0 line.y1) ≡ is_between top bottom j) → w ≡ painted raster (λ i j. on_line_rows v line top bottom i j) v → u ≡ with_layer (λ l. record l { raster = after }) w → line.x0 ≡ raster.cursor_x → line.y0 ≡ raster.cursor_y → line.x1 ≡ px → line.y1 ≡ py → after ≡ record raster { cursor_x = px; cursor_y = py } → u ≡ with_layer (λ l. draw_line (λ i j. shows v i j) px py l) v
unfolding with_pens
line_done v w u raster after line px py top bottom ok same rows was is from_x from_y to_x to_y ends =
    let drawn_as : ℤ → ℤ → ℤ → ℤ → Raster → LiveView = λ x0 y0 x1 y1 a. record v { layer = record (paint_where (λ i j. shows v i j) (λ i j. is_on_line x0 y0 x1 y1 (pos i) (pos j)) (λ i j. true) v.layer) { raster = a } } in
    let old = v.layer.raster in
    is ∙ ap (λ (q : LiveView). with_layer (λ l. record l { raster = after }) q) was ∙
    ap (λ (q : LiveView). with_layer (λ l. record l { raster = after }) q) (line_painted v raster line top bottom ok same rows) ∙
    ap (λ z. drawn_as z line.y0 line.x1 line.y1 after) (from_x ∙ ap (λ (r : Raster). r.cursor_x) same) ∙
    ap (λ z. drawn_as old.cursor_x z line.x1 line.y1 after) (from_y ∙ ap (λ (r : Raster). r.cursor_y) same) ∙
    ap (λ z. drawn_as old.cursor_x old.cursor_y z line.y1 after) to_x ∙
    ap (λ z. drawn_as old.cursor_x old.cursor_y px z after) to_y ∙
    ap (λ a. drawn_as old.cursor_x old.cursor_y px py a) (ends ∙ ap (λ (r : Raster). record r { cursor_x = px; cursor_y = py }) same)
