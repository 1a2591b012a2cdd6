-- Laws of the title of a frame: its pixels are those of a text's cells.
use Rattle.std.proofs.Common.{◌≡◌, ℕ, ◌+◌, ◌-◌, ◌*◌, ◌/◌, ◌%◌, ◌==◌, ◌≤◌, Bool, true, false, ◌&&◌, nat_le, nat_lt, List, length, None, ◌||◌, ◌∙◌, refl, ap, arith, pos, ◌+ℤ◌, ◌-ℤ◌, int_le, unsigned_abs}
use Rattle.std.specs.List.{slice_index_or}
use Rattle.std.proofs.lemmas.Bool.Decides.{nat_tests}
use Rattle.std.proofs.lemmas.Int.{ints}
use Rattle.std.proofs.lemmas.Nat.Bits.{bit_at-zero}
use Rattle.lw_region.specs.Rectangle.{within}
use Rattle.lw_planes.specs.Bitmap.{IsBitmap}
use Rattle.lw_machine.specs.Layer.{Raster}
use Rattle.lw_machine.specs.Paint.{has_inversvid}
use Rattle.lw_machine.specs.Shapes.{glyph_has, cell_has, differ, in_cells}
use Rattle.lw_machine.specs.Reveal.{in_title}
use Rattle.lw_layer.specs.View.{LiveView, shows, with_layer}
use Rattle.lw_text.specs.Letters.{text_before}
use Rattle.lw_frames.specs.Framing.{solid_raster, overlaid}
use Rattle.lw_frames.proofs.OverlayLaws.{overlay_begun, overlay_more, overlay_same}

-- The tests of a pixel's column, in the cells and in the title, and those of its row.
is_right : (x : ℕ) → int_le (pos 4) (pos x) ≡ nat_le 4 x
is_right x = grind (arith, ints, nat_tests)

has_character : (x n : ℕ) → 4 ≤ x → int_le (pos x +ℤ pos 1) (pos 4 +ℤ pos (8 * n)) ≡ nat_lt ((x - 4) / 8) n
has_character x n late = grind (arith, ints, nat_tests)

is_before : (x w : ℕ) → nat_lt x (w - 4) ≡ nat_lt (x + 4) w
is_before x w = grind (arith, nat_tests)

is_row : (y : ℕ) → within (pos 8 -ℤ pos 6) (pos y) ((pos 8 -ℤ pos 6) +ℤ pos 7) ≡ (nat_le 2 y && nat_le y 9)
unfolding within
is_row y = grind (arith, ints, nat_tests)

-- what a test that holds says
right_of : (x : ℕ) → nat_le 4 x ≡ true → 4 ≤ x
right_of x is = grind (arith, nat_tests)

below_of : (y : ℕ) → (nat_le 2 y && nat_le y 9) ≡ true → 2 ≤ y
below_of y is = grind (arith, nat_tests)

-- a pixel's column and row in the cells
across : (x : ℕ) → 4 ≤ x → unsigned_abs (pos x -ℤ pos 4) ≡ x - 4
across x late = omega (arith, ints, late)

down : (y : ℕ) → 2 ≤ y → unsigned_abs (pos y -ℤ (pos 8 -ℤ pos 6)) ≡ y - 2
down y low = omega (arith, ints, low)

-- the tests together, each side in its own order
joined : (right inside before row right_too inside_too before_too row_too has has_too : Bool) → right ≡ right_too → (right_too ≡ true → inside ≡ inside_too) → before ≡ before_too → row ≡ row_too → (right_too ≡ true → row_too ≡ true → has ≡ has_too) → ((((right && inside) && row) && before) && has) ≡ ((((right_too && before_too) && row_too) && inside_too) && has_too)
joined true inside before row true inside_too before_too true has has_too first second third fourth last =
    rw (second refl) rw third rw fourth rw (last refl refl) (turned inside_too before_too has_too)
  where
    turned : (inside before has : Bool) → (((inside && true) && before) && has) ≡ (((before && true) && inside) && has)
    turned true true has = refl
    turned true false has = refl
    turned false true has = refl
    turned false false has = refl
joined true inside before row true inside_too before_too false has has_too first second third fourth last = rw fourth (none inside before before_too inside_too has has_too)
  where
    none : (inside before again same has too : Bool) → (((inside && false) && before) && has) ≡ (((again && false) && same) && too)
    none true before true same has too = refl
    none true before false same has too = refl
    none false before true same has too = refl
    none false before false same has too = refl
joined false inside before row false inside_too before_too row_too has has_too first second third fourth last = refl
joined true inside before row false inside_too before_too row_too has has_too first second third fourth last = absurd (cc first)
joined false inside before row true inside_too before_too row_too has has_too first second third fourth last = absurd (cc first)

-- The cells of a text at column 4 and row 2, up to the fifth column from the right, have the pixels of the title.
pub title_cells : (glyphs : List (List ℕ)) (title : List ℕ) (w x y : ℕ) → ((in_cells (pos 4) (pos 8 -ℤ pos 6) (length title) (pos x) (pos y) && nat_lt x (w - 4)) && cell_has glyphs title (pos 4) (pos 8 -ℤ pos 6) (pos x) (pos y)) ≡ in_title glyphs title w x y
unfolding in_cells cell_has in_title
title_cells glyphs title w x y =
    let has : ℕ → ℕ → Bool = λ column row. glyph_has glyphs (slice_index_or title (column / 8) 0) (column % 8) row in
    joined (int_le (pos 4) (pos x)) (int_le (pos x +ℤ pos 1) (pos 4 +ℤ pos (8 * length title))) (nat_lt x (w - 4)) (within (pos 8 -ℤ pos 6) (pos y) ((pos 8 -ℤ pos 6) +ℤ pos 7)) (nat_le 4 x) (nat_lt ((x - 4) / 8) (length title)) (nat_lt (x + 4) w) (nat_le 2 y && nat_le y 9) _ _ (is_right x)
    (λ right. has_character x (length title) (right_of x right)) (is_before x w) (is_row y)
    (λ right low. ap (λ column. has column (unsigned_abs (pos y -ℤ (pos 8 -ℤ pos 6)))) (across x (right_of x right)) ∙ ap (has (x - 4)) (down y (below_of y low)))

-- The title's pixels have the pen once its letters are painted with it alone.
pub title_laid : (v w u : LiveView) (glyphs : List (List ℕ)) (title : List ℕ) (end pen : ℕ) (raster : Raster) → IsBitmap v.layer.bits → v.layer.bits.depth ≤ 8 → v.layer.clip ≡ None → v.layer.updating ≡ false → end ≡ v.layer.bits.width - 4 → raster ≡ solid_raster pen → w ≡ with_layer (λ l. record l { raster = raster }) v → u ≡ with_layer (λ l. text_before glyphs (λ x y. shows w x y) title end l) w → u ≡ overlaid (in_title glyphs title v.layer.bits.width) pen v
title_laid v w u glyphs title end pen raster ok deep unclipped idle cut same begun is =
    let cells : ℕ → ℕ → ℕ → Bool = λ n x y. in_cells (pos 4) (pos 8 -ℤ pos 6) (length title) (pos x) (pos y) && nat_lt x n in
    let has : ℕ → ℕ → Bool = λ x y. cell_has glyphs title (pos 4) (pos 8 -ℤ pos 6) (pos x) (pos y) in
    let letters : ℕ → ℕ → Bool = λ x y. differ (has_inversvid (solid_raster pen)) (has x y) in
    overlay_same v u (λ x y. false || (cells end x y && letters x y)) (in_title glyphs title v.layer.bits.width) pen
    (overlay_more v (overlaid (λ x y. false) pen v) u (λ x y. false) (cells end) letters pen ok deep unclipped idle refl
    (is ∙ ap (λ (c : LiveView). with_layer (λ l. text_before glyphs (λ x y. shows c x y) title end l) c) (overlay_begun v w pen raster ok same begun)))
    (λ x y.
    ap (λ b. cells end x y && differ (b == 1) (has x y)) (bit_at-zero 2) ∙
    (ap (λ n. cells n x y && has x y) cut ∙ title_cells glyphs title v.layer.bits.width x y))
