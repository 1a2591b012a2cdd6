-- Laws of blits from a layer, by bands and runs of its kept pixels.
use Rattle.std.proofs.Common.{◌≡◌, ℕ, ◌+◌, ◌-◌, ◌==◌, ◌<◌, ◌≤◌, Bool, true, false, not, ◌&&◌, ◌||◌, None, ◌∙◌, sym, ap, subst, arith, pos, ◌≤ℤ◌, int_le}
use Rattle.std.specs.Int.{bit_at}
use Rattle.std.proofs.lemmas.Bool.{and_from, and_parts}
use Rattle.std.proofs.lemmas.Bool.Decides.{nat_tests}
use Rattle.std.proofs.lemmas.Int.{ints}
use Rattle.lw_planes.specs.Bitmap.{Bitmap, IsBitmap}
use Rattle.lw_kernels.specs.Kernel.{is_between}
use Rattle.lw_calls.specs.declared.area.Area.{Area}
use Rattle.lw_machine.specs.Kept.{holds_at}
use Rattle.lw_machine.specs.Blits.{source_column, source_row}
use Rattle.lw_layer.specs.View.{LiveView, keeps, draws}
use Rattle.lw_layer.specs.Runs.{IsRun}
use Rattle.lw_draw.specs.Blocks.{IsBlock, AreBand}
use Rattle.lw_draw.specs.Drawn.{drawn, in_rows}
use Rattle.lw_draw.specs.Stretches.{IsFirstOf, IsNextKept}
use Rattle.lw_draw.specs.declared.blocks.Block.{Block}
use Rattle.lw_draw.specs.declared.stretch.Stretch.{Stretch}
use Rattle.lw_draw.proofs.BlockLaws.{kept_block}
use Rattle.lw_draw.proofs.PaintLaws.{layer_nowhere, layer_same, layer_more}
use Rattle.lw_blit.specs.Blitting.{has_place as is_place, from_bits, is_source, keeps_source, leads_to, taken}
use Rattle.lw_blit.proofs.BitmapLaws.{place_low, place_high, next_column, next_row}
use Rattle.lw_blit.proofs.LoopLaws.{bitmap_gives_bits, rows_stay}

-- no row and no column so far
pub nothing_taken : (v source : LiveView) (a : Area) (mask top from end : ℕ) → IsBitmap v.layer.bits → v ≡ drawn (taken mask v source a top top from end) (from_bits source.layer.bits a) v
nothing_taken v source a mask top from end ok =
    layer_nowhere v (taken mask v source a top top from end) (from_bits source.layer.bits a) ok (λ p i j. no_row (bit_at mask p == 1) top j (is_between from end i && draws v i j) (keeps_source source a i j))
  where
    no_row : (m : Bool) (top j : ℕ) (more has : Bool) → (m && ((is_between top top j && more) && has)) ≡ false
    no_row m top j more has = grind (arith, nat_tests)

pub no_column_taken : (v source : LiveView) (a : Area) (mask top bottom from end : ℕ) → IsBitmap v.layer.bits → end ≤ from → v ≡ drawn (taken mask v source a top bottom from end) (from_bits source.layer.bits a) v
no_column_taken v source a mask top bottom from end ok none =
    layer_nowhere v (taken mask v source a top bottom from end) (from_bits source.layer.bits a) ok (λ p i j. no_column (bit_at mask p == 1) (is_between top bottom j) from end i (draws v i j) (keeps_source source a i j) none)
  where
    no_column : (m row : Bool) (from end i : ℕ) (more has : Bool) → end ≤ from → (m && ((row && (is_between from end i && more)) && has)) ≡ false
    no_column m row from end i more has none = grind (arith, nat_tests)

-- some rows more
rows_apart : (m inside has : Bool) (j top y n : ℕ) → ((m && ((is_between top y j && inside) && has)) && (m && ((is_between y n j && inside) && has))) ≡ false
rows_apart m inside has j top y n = grind (arith, nat_tests)

rows_whole : (m inside has : Bool) (j top y n : ℕ) → top ≤ y → y ≤ n → (m && ((is_between top n j && inside) && has)) ≡ ((m && ((is_between top y j && inside) && has)) || (m && ((is_between y n j && inside) && has)))
rows_whole m inside has j top y n low more = grind (arith, nat_tests)

taken_stays : (v w : LiveView) (on : ℕ → ℕ → ℕ → Bool) (new : ℕ → ℕ → ℕ → ℕ → ℕ) (source : LiveView) (a : Area) (mask top bottom from end p i j : ℕ) → w ≡ drawn on new v → taken mask w source a top bottom from end p i j ≡ taken mask v source a top bottom from end p i j
taken_stays v w on new source a mask top bottom from end p i j is = ap (λ t. bit_at mask p == 1 && (t && keeps_source source a i j)) (rows_stay v w on new top bottom from end i j is)

pub rows_taken : (v w u source : LiveView) (a : Area) (mask top y n from end : ℕ) → top ≤ y → y ≤ n → w ≡ drawn (taken mask v source a top y from end) (from_bits source.layer.bits a) v → u ≡ drawn (taken mask w source a y n from end) (from_bits source.layer.bits a) w → u ≡ drawn (taken mask v source a top n from end) (from_bits source.layer.bits a) v
rows_taken v w u source a mask top y n from end low more was is =
    let new = from_bits source.layer.bits a in
    layer_more v w u (taken mask v source a top y from end) (taken mask v source a y n from end) (taken mask v source a top n from end) new (bitmap_gives_bits source.layer.bits a)
    (record {
      apart = λ p i j _ _ _. rows_apart (bit_at mask p == 1) (is_between from end i && draws v i j) (keeps_source source a i j) j top y n;
      whole = λ p i j _ _ _. rows_whole (bit_at mask p == 1) (is_between from end i && draws v i j) (keeps_source source a i j) j top y n low more;
    }) was
    (layer_same w u (taken mask w source a y n from end) (taken mask v source a y n from end) new is
    (λ p i j _. taken_stays v w (taken mask v source a top y from end) new source a mask y n from end p i j was))

-- where the source of a pixel of a band is
column_on : (a : Area) (from first i : ℕ) → pos first ≡ source_column a from → from ≤ i → source_column a i ≡ pos (first + (i - from))
column_on a from first i is late = omega (arith, ints, is, late)

row_on : (a : Area) (top line j : ℕ) → pos line ≡ source_row a top → top ≤ j → source_row a j ≡ pos (line + (j - top))
row_on a top line j is late = omega (arith, ints, is, late)

kept_as_first : (source : LiveView) (a : Area) (first line from top bottom i j : ℕ) → pos first ≡ source_column a from → pos line ≡ source_row a top → AreBand source line (bottom - top) → from ≤ i → top ≤ j → j < bottom → keeps_source source a i j ≡ keeps source (first + (i - from)) line
kept_as_first source a first line from top bottom i j column row band late low high =
    ap (λ z. holds_at (λ u v. keeps source u v) z (source_row a j)) (column_on a from first i column late) ∙
    (ap (λ z. holds_at (λ u v. keeps source u v) (pos (first + (i - from))) z) (row_on a top line j row low) ∙
    sym ((band (j - top) (omega (arith, low, high))).kept (first + (i - from))))

-- one piece more of a band
piece_apart : (m row : Bool) (from n column end i : ℕ) (d has : Bool) → n ≤ column → ((m && ((row && (is_between from n i && d)) && has)) && (m && (row && (is_between column end i && d)))) ≡ false
piece_apart m row from n column end i d has late = grind (arith, nat_tests)

piece_whole : (m row : Bool) (from n column end i : ℕ) (d has : Bool) → from ≤ n → n ≤ column → column ≤ end → (row ≡ true → n ≤ i → i < column → has ≡ false) → (row ≡ true → column ≤ i → i < end → has ≡ true) → (m && ((row && (is_between from end i && d)) && has)) ≡ ((m && ((row && (is_between from n i && d)) && has)) || (m && (row && (is_between column end i && d))))
piece_whole m row from n column end i d has first late more before inside = grind (arith, nat_tests)

-- what is told of a band so far
pub record IsBand (source : LiveView) (a : Area) (first line from top bottom : ℕ) : Type 0 where
  pub column : pos first ≡ source_column a from
  pub row : pos line ≡ source_row a top
  pub alike : AreBand source line (bottom - top)

pub piece_taken : (v w u source : LiveView) (a : Area) (mask first line from top bottom x end : ℕ) (s : Stretch) → IsBand source a first line from top bottom → first ≤ x → IsFirstOf source (λ i j. keeps source i j) x line end s → w ≡ drawn (taken mask v source a top bottom from (from + (x - first))) (from_bits source.layer.bits a) v → u ≡ drawn (λ p i j. bit_at mask p == 1 && in_rows w top bottom (from + (s.x - first)) (from + (s.x - first) + s.run.len) i j) (from_bits source.layer.bits a) w → u ≡ drawn (taken mask v source a top bottom from (from + (s.x + s.run.len - first))) (from_bits source.layer.bits a) v
piece_taken v w u source a mask first line from top bottom x end s is late found was drew =
    let new = from_bits source.layer.bits a in
    let n : ℕ = from + (x - first) in
    let column : ℕ = from + (s.x - first) in
    let upto : ℕ = column + s.run.len in
    let reaches : x ≤ s.x = let e = found.column.reaches in omega (arith, ints) in
    let ends : upto ≡ from + (s.x + s.run.len - first) = omega (arith, late, reaches) in
    let row_is : (u : ℕ) → keeps source u s.y ≡ keeps source u line = λ q. ap (λ z. keeps source q z) found.row in
    let before : (i j : ℕ) → is_between top bottom j ≡ true → n ≤ i → i < column → keeps_source source a i j ≡ false =
    λ i j row low high.
    let down : top ≤ j = grind (arith, nat_tests) in
    let up : j < bottom = grind (arith, nat_tests) in
    kept_as_first source a first line from top bottom i j is.column is.row is.alike (omega (arith, low)) down up ∙ found.column.before (pos (first + (i - from))) (omega (arith, ints, low, late)) (omega (arith, ints, low, high, late, reaches))
    in
    let inside : (i j : ℕ) → is_between top bottom j ≡ true → column ≤ i → i < upto → keeps_source source a i j ≡ true =
    λ i j row low high.
    let down : top ≤ j = grind (arith, nat_tests) in
    let up : j < bottom = grind (arith, nat_tests) in
    kept_as_first source a first line from top bottom i j is.column is.row is.alike (omega (arith, low)) down up ∙ (sym (row_is (first + (i - from))) ∙ found.run.holds (first + (i - from)) (omega (arith, low, late, reaches)) (omega (arith, low, high, late, reaches)))
    in
    let piece : LiveView → ℕ → ℕ → ℕ → Bool = λ q p i j. bit_at mask p == 1 && in_rows q top bottom column upto i j in
    let done : u ≡ drawn (taken mask v source a top bottom from upto) new v =
    layer_more v w u (taken mask v source a top bottom from n) (piece v) (taken mask v source a top bottom from upto) new (bitmap_gives_bits source.layer.bits a)
    (record {
      apart = λ p i j _ _ _. piece_apart (bit_at mask p == 1) (is_between top bottom j) from n column upto i (draws v i j) (keeps_source source a i j) (omega (arith, reaches, late));
      whole = λ p i j _ _ _. piece_whole (bit_at mask p == 1) (is_between top bottom j) from n column upto i (draws v i j) (keeps_source source a i j) (omega arith) (omega (arith, reaches, late)) (omega arith) (before i j) (inside i j);
    }) was
    (layer_same w u (piece w) (piece v) new drew
    (λ p i j _. ap (λ t. bit_at mask p == 1 && t) (rows_stay v w (taken mask v source a top bottom from n) new top bottom column upto i j was)))
    in
    done ∙ ap (λ e. drawn (taken mask v source a top bottom from e) new v) ends

-- the end of a band
band_end : (m row : Bool) (from n end i : ℕ) (d has : Bool) → from ≤ n → n ≤ end → (row ≡ true → n ≤ i → i < end → has ≡ false) → (m && ((row && (is_between from n i && d)) && has)) ≡ (m && ((row && (is_between from end i && d)) && has))
band_end m row from n end i d has first late none = grind (arith, nat_tests)

pub band_taken : (v w source : LiveView) (a : Area) (mask first line from top bottom x end last : ℕ) → IsBand source a first line from top bottom → first ≤ x → x ≤ last → last ≡ first + (end - from) → from ≤ end → IsNextKept source x line last None → w ≡ drawn (taken mask v source a top bottom from (from + (x - first))) (from_bits source.layer.bits a) v → w ≡ drawn (taken mask v source a top bottom from end) (from_bits source.layer.bits a) v
band_taken v w source a mask first line from top bottom x end last is late early all ordered none was =
    layer_same v w (taken mask v source a top bottom from (from + (x - first))) (taken mask v source a top bottom from end) (from_bits source.layer.bits a) was
    (λ p i j _.
    band_end (bit_at mask p == 1) (is_between top bottom j) from (from + (x - first)) end i (draws v i j) (keeps_source source a i j) (omega arith) (omega (arith, late, early, all, ordered))
    (λ row low high.
    let down : top ≤ j = grind (arith, nat_tests) in
    let up : j < bottom = grind (arith, nat_tests) in
    kept_as_first source a first line from top bottom i j is.column is.row is.alike (omega (arith, low)) down up ∙ none (pos (first + (i - from))) (omega (arith, ints, low, late)) (omega (arith, ints, low, high, late, all))))

-- what goes to a piece is a block of kept pixels
pub kept_leads : (a : Area) (first line from top bottom i j : ℕ) (b : Block) → pos first ≡ source_column a from → pos line ≡ source_row a top → first ≤ b.x → b.y ≡ line → b.rows ≡ bottom - top → is_between top bottom j ≡ true → is_between (from + (b.x - first)) (from + (b.x - first) + b.run.len) i ≡ true → leads_to b a i j ≡ true
kept_leads a first line from top bottom i j b column row late same high rows columns =
    let down : top ≤ j = grind (arith, nat_tests) in
    let up : j < bottom = grind (arith, nat_tests) in
    let left : from + (b.x - first) ≤ i = grind (arith, nat_tests) in
    let right : i < from + (b.x - first) + b.run.len = grind (arith, nat_tests) in
    let across = column_on a from first i column (omega (arith, left)) in
    let along = row_on a top line j row down in
    let u : ℕ = first + (i - from) in
    let v : ℕ = line + (j - top) in
    let low_u : b.x ≤ u = omega (arith, left, late) in
    let high_u : u < b.x + b.run.len = omega (arith, left, right, late) in
    let low_v : b.y ≤ v = omega (arith, same) in
    let high_v : v < b.y + b.rows = omega (arith, same, high, down, up) in
    rw (across, along) (and_from _ _ (tests u b.x (b.x + b.run.len) low_u high_u) (tests v b.y (b.y + b.rows) low_v high_v))
  where
    tests : (n low high : ℕ) → low ≤ n → n < high → (int_le (pos low) (pos n) && not (int_le (pos high) (pos n))) ≡ true
    tests n low high first last = grind (arith, ints)

-- what goes to some rows and columns lies in the source
pub record AreInside (b : Bitmap) (a : Area) (top bottom from end : ℕ) : Type 0 where
  pub left : pos 0 ≤ℤ source_column a from
  pub right : source_column a end ≤ℤ pos b.width
  pub upper : pos 0 ≤ℤ source_row a top
  pub lower : source_row a bottom ≤ℤ pos b.height

pub all_inside : (b : Bitmap) (a : Area) (top bottom from end : ℕ) → top < bottom → from < end → ((i j : ℕ) → is_between top bottom j ≡ true → is_between from end i ≡ true → is_source b a i j ≡ true) → AreInside b a top bottom from end
all_inside b a top bottom from end high wide sources =
    let len : ℕ = end - from in
    let rows : ℕ = bottom - top in
    let last_i : ℕ = from + (len - 1) in
    let last_j : ℕ = top + (rows - 1) in
    let top_in : is_between top bottom top ≡ true = grind (arith, nat_tests) in
    let from_in : is_between from end from ≡ true = grind (arith, nat_tests) in
    let last_row : is_between top bottom last_j ≡ true = grind (arith, nat_tests) in
    let last_column : is_between from end last_i ≡ true = grind (arith, nat_tests) in
    let first = and_parts (is_place b.width (source_column a from)) (is_place b.height (source_row a top)) (sources from top top_in from_in) in
    let last = and_parts (is_place b.width (source_column a last_i)) (is_place b.height (source_row a last_j)) (sources last_i last_j last_row last_column) in
    let end_is : from + len ≡ end = omega (arith, wide) in
    let bottom_is : top + rows ≡ bottom = omega (arith, high) in
    let right = next_column a from len b.width (omega (arith, wide)) (place_high b.width (source_column a last_i) last.0) in
    let lower = next_row a top rows b.height (omega (arith, high)) (place_high b.height (source_row a last_j) last.1) in
    record {
      left = place_low b.width (source_column a from) first.0;
      right = rw end_is at right;
      upper = place_low b.height (source_row a top) first.1;
      lower = rw bottom_is at lower;
    }

-- and so do those of the rows from one of them on
pub later_inside : (b : Bitmap) (a : Area) (top y bottom from end : ℕ) → top ≤ y → y < bottom → from < end → ((i j : ℕ) → is_between top bottom j ≡ true → is_between from end i ≡ true → is_source b a i j ≡ true) → AreInside b a y bottom from end
later_inside b a top y bottom from end low high wide sources =
    all_inside b a y bottom from end high wide (λ i j row column. sources i j (wider top y bottom j low row) column)
  where
    wider : (top y bottom j : ℕ) → top ≤ y → is_between y bottom j ≡ true → is_between top bottom j ≡ true
    wider top y bottom j low row = grind (arith, nat_tests)

-- the numbers of the first source and of the one after the last
pub column_near : (b : Bitmap) (a : Area) (top bottom from end first : ℕ) → AreInside b a top bottom from end → from ≤ end → pos first ≡ source_column a from → first + (end - from) ≤ b.width
column_near b a top bottom from end first are ordered is = let right = are.right in omega (arith, ints, right, ordered, is)

pub row_near : (b : Bitmap) (a : Area) (top bottom from end line : ℕ) → AreInside b a top bottom from end → top ≤ bottom → pos line ≡ source_row a top → line + (bottom - top) ≤ b.height
row_near b a top bottom from end line are ordered is = let lower = are.lower in omega (arith, ints, lower, ordered, is)

-- a run of kept pixels in a band is a block of them
pub stretch_block : (source : LiveView) (x line end rows : ℕ) (s : Stretch) → 0 < rows → AreBand source line rows → IsFirstOf source (λ i j. keeps source i j) x line end s → IsBlock source (λ i j. keeps source i j) (record { x = s.x; y = line; rows = rows; run = s.run })
stretch_block source x line end rows s some band found =
    let P : ℕ → Type 0 = λ y. IsRun source (λ i j. keeps source i j) s.x y s.run in
    kept_block source (record { x = s.x; y = line; rows = rows; run = s.run }) some (subst P found.row found.run) band
