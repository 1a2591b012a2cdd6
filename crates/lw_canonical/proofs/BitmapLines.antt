-- Good lines of bitmaps come back from the bitmaps that they spell.
use Rattle.std.proofs.Common.{◌≡◌, ℕ, zero, suc, ◌+◌, ◌-◌, ◌*◌, ◌/◌, ◌%◌, ◌<◌, ◌≤◌, ◌==◌, true, false, ◌&&◌, List, [], ◌∷◌, ◌++◌, length, map, flat_map, filter, reverse, slice_index, slice_index_or, ℤ, pos, unsigned_abs, refl, sym, ap, ap₂, ◌∙◌, arith, append-nil, append_assoc, zero-add, suc-mul, zero-mul, add-one, add-zero}
use Rattle.std.specs.List.{concat, range_with_len}
use Rattle.std.specs.Int.{bit_at}
use Rattle.lw_region.specs.Rectangle.{within}
use Rattle.lw_planes.specs.Row.{row_bit}
use Rattle.lw_planes.specs.Bitmap.{Bitmap, row_bytes, plane_row}
use Rattle.lw_planes.specs.Storage.{bit_place, stored}
use Rattle.lw_planes.proofs.BitmapLaws.{row_bytes_wide}
use Rattle.lw_grammar.specs.Statements.{Statement, BitmapLine, RowLine, are_sizes_in_range, bitmap_size_limit}
use Rattle.lw_grammar.specs.Told.{told}
use Rattle.lw_grammar.specs.Script.{Setting}
use Rattle.lw_grammar.specs.GoodLines.{AreGoodLines}
use Rattle.lw_canonical.specs.Canonical.{enumerated, lines_of_bitmap}
use Rattle.lw_canonical.proofs.Rearranged.{is_of_bitmaps}
use Rattle.lw_grammar.proofs.ScriptSizes.{here, tests, bitmaps_named}
use Rattle.lw_canonical.proofs.CallLinesBack.{number_back}
use Rattle.lw_canonical.proofs.ByNumber.{gathered_same}
use Rattle.lw_canonical.proofs.RowsBack.{IsRow, row_made, row_back}
use Rattle.std.proofs.lemmas.Bool.{true≢false, eqb-true, and_parts}
use Rattle.std.proofs.lemmas.Nat.{mul-le}
use Rattle.std.proofs.lemmas.List.{nil_from_length, get_or_append_left, get_or-append-add, get_or-map, length-map, reverse-append}
use Rattle.std.proofs.lemmas.List.FromFn.{fill_by_all}

-- rows of a bitmap of this width
abbrev pub AreRows : ℕ → List (List ℕ) → Type 0
AreRows w [] = Unit {0}
AreRows w (r ∷ rs) = IsRow w r × AreRows w rs

-- each of them
row_at : (w : ℕ) (rows : List (List ℕ)) (i : ℕ) → AreRows w rows → i < length rows → IsRow w (slice_index_or rows i [])
row_at w [] i h low = absurd (omega arith)
row_at w (r ∷ rs) zero h low = h.0
row_at w (r ∷ rs) (suc i) h low = row_at w rs i h.1 (omega arith)

-- its bytes among those of all
byte_at : (w : ℕ) (rows : List (List ℕ)) (i j : ℕ) → AreRows w rows → i < length rows → j < row_bytes w → slice_index (concat rows) (i * row_bytes w + j) ≡ slice_index (slice_index_or rows i []) j
byte_at w [] i j h low inside = absurd (omega arith)
byte_at w (r ∷ rs) zero j h low inside =
    ap (slice_index (r ++ concat rs)) (ap (λ k. k + j) (zero-mul (row_bytes w)) ∙ zero-add j) ∙ get_or_append_left r (concat rs) 0 j (omega (arith, h.0.long))
byte_at w (r ∷ rs) (suc i) j h low inside =
    let n : ℕ = row_bytes w in
    let place : suc i * n + j ≡ length r + (i * n + j) = omega (arith, suc-mul i n, h.0.long) in
    ap (slice_index (r ++ concat rs)) place ∙ get_or-append-add r (concat rs) (i * n + j) 0 ∙ byte_at w rs i j h.1 (omega arith) inside

-- its bits
bit_among : (w : ℕ) (rows : List (List ℕ)) (i x : ℕ) → AreRows w rows → i < length rows → x < w → row_bit (slice_index_or rows i []) x ≡ row_bit (concat rows) (8 * (i * row_bytes w) + x)
unfolding row_bit
bit_among w rows i x h low left =
    let n : ℕ = row_bytes w in
    let wide : w ≤ 8 * n = row_bytes_wide w in
    let inside : x / 8 < n = omega (arith, wide, left) in
    let byte : (8 * (i * n) + x) / 8 ≡ i * n + x / 8 = omega arith in
    let place : (8 * (i * n) + x) % 8 ≡ x % 8 = omega arith in
    ap (λ p. bit_at p (7 - x % 8)) (sym (byte_at w rows i (x / 8) h low inside)) ∙ ap₂ (λ p k. bit_at (slice_index (concat rows) p) (7 - k)) (sym byte) (sym place)

-- a row among all rows
row_inside : (h d k y : ℕ) → k < d → y < h → k * h + y < d * h
row_inside h d k y deep low =
    let planes : (k + 1) * h ≤ d * h = mul-le (k + 1) h d h (omega arith) (omega arith) in
    omega arith

-- A row of a plane is the row that was given.
plane_back : (w h d : ℕ) (rows : List (List ℕ)) (k y : ℕ) → AreRows w rows → length rows ≡ d * h → k < d → y < h → plane_row (stored w h d (concat rows)) k y ≡ slice_index_or rows (k * h + y) []
unfolding bit_place
plane_back w h d rows k y r long deep low =
    let i : ℕ = k * h + y in
    let inside : i < length rows = omega (arith, row_inside h d k y deep low, long) in
    row_back w h d (concat rows) k y (slice_index_or rows i []) deep low (row_at w rows i r inside) (λ x left. bit_among w rows i x r inside left)

-- numbers that begin after others
counted_on : (f : ℕ → Statement) (s a n : ℕ) → map (λ y. f (s + y)) (range_with_len a n) ≡ map f (range_with_len (s + a) n)
counted_on f s a zero = refl
counted_on f s a (suc n) =
    let next : s + (a + 1) ≡ s + a + 1 = omega arith in
    ap (λ (t : List Statement). f (s + a) ∷ t) (counted_on f s (a + 1) n ∙ ap (λ k. map f (range_with_len k n)) next)

counted_both : (f : ℕ → Statement) (s m n : ℕ) → map f (range_with_len s m) ++ map f (range_with_len (s + m) n) ≡ map f (range_with_len s (m + n))
counted_both f s zero n = ap₂ (λ a k. map f (range_with_len a k)) (add-zero s) (sym (zero-add n))
counted_both f s (suc m) n =
    let next : s + suc m ≡ s + 1 + m = omega arith in
    let more : suc m + n ≡ suc (m + n) = omega arith in
    ap (λ (t : List Statement). f s ∷ t) (ap (λ k. map f (range_with_len (s + 1) m) ++ map f (range_with_len k n)) next ∙ counted_both f (s + 1) m n) ∙ ap (λ k. map f (range_with_len s k)) (sym more)

-- planes of rows, one after another
planes_counted : (f : ℕ → Statement) (h a d : ℕ) → flat_map (λ k. map (λ y. f (k * h + y)) (range_with_len 0 h)) (range_with_len a d) ≡ map f (range_with_len (a * h) (d * h))
planes_counted f h a zero = ap (λ n. map f (range_with_len (a * h) n)) (sym (zero-mul h))
planes_counted f h a (suc d) =
    let first : map (λ y. f (a * h + y)) (range_with_len 0 h) ≡ map f (range_with_len (a * h) h) = counted_on f (a * h) 0 h ∙ ap (λ k. map f (range_with_len k h)) (add-zero (a * h)) in
    let next : (a + 1) * h ≡ a * h + h = omega arith in
    let all : h + d * h ≡ suc d * h = omega (arith, suc-mul d h) in
    ap₂ (λ (x y : List Statement). x ++ y) first (planes_counted f h (a + 1) d ∙ ap (λ k. map f (range_with_len k (d * h))) next) ∙ counted_both f (a * h) h (d * h) ∙ ap (λ k. map f (range_with_len (a * h) k)) all

-- the same at each number
mapped_same : (f g : ℕ → Statement) (a n : ℕ) → ((i : ℕ) → a ≤ i → i < a + n → f i ≡ g i) → map f (range_with_len a n) ≡ map g (range_with_len a n)
mapped_same f g a zero h = refl
mapped_same f g a (suc n) h =
    ap₂ (λ (x : Statement) (t : List Statement). x ∷ t) (h a (omega arith) (omega arith)) (mapped_same f g (a + 1) n (λ i low high. h i (omega arith) (omega arith)))

-- The lines of a bitmap's planes are those of its rows.
planes_back : (w h d : ℕ) (rows : List (List ℕ)) → AreRows w rows → length rows ≡ d * h → flat_map (λ k. map (λ y. RowLine (plane_row (stored w h d (concat rows)) k y)) (range_with_len 0 h)) (range_with_len 0 d) ≡ map (λ r. RowLine r) rows
planes_back w h d rows r long =
    let f : ℕ → Statement = λ i. RowLine (slice_index_or rows i []) in
    let each = gathered_same (λ k. map (λ y. RowLine (plane_row (stored w h d (concat rows)) k y)) (range_with_len 0 h)) (λ k. map (λ y. f (k * h + y)) (range_with_len 0 h)) 0 d (λ k from deep. mapped_same (λ y. RowLine (plane_row (stored w h d (concat rows)) k y)) (λ y. f (k * h + y)) 0 h (λ y start low. ap (λ (t : List ℕ). RowLine t) (plane_back w h d rows k y r long (omega arith) (omega arith)))) in
    let count : map f (range_with_len (0 * h) (d * h)) ≡ map f (range_with_len 0 (d * h)) = ap (λ k. map f (range_with_len k (d * h))) (zero-mul h) in
    let told : length (map (λ (t : List ℕ). RowLine t) rows) ≡ length rows = length-map rows (λ (t : List ℕ). RowLine t) in
    let filled : map (λ (t : List ℕ). RowLine t) rows ≡ map f (range_with_len 0 (d * h)) = fill_by_all f (map (λ (t : List ℕ). RowLine t) rows) (d * h) (RowLine []) (told ∙ long) (λ k low. get_or-map (λ (t : List ℕ). RowLine t) rows k [] (RowLine []) (omega (arith, long))) in
    each ∙ planes_counted f h 0 d ∙ count ∙ sym filled

-- the lines of bitmaps with these names
abbrev pub all_bitmap_lines : List (List ℕ) → List Bitmap → List Statement
all_bitmap_lines [] bs = []
all_bitmap_lines (n ∷ ns) [] = []
all_bitmap_lines (n ∷ ns) (b ∷ bs) = lines_of_bitmap n b ++ all_bitmap_lines ns bs

-- one bitmap more
bitmaps_pushed : (ns : List (List ℕ)) (bs : List Bitmap) (n : List ℕ) (b : Bitmap) → length bs ≡ length ns → all_bitmap_lines (ns ++ n ∷ []) (bs ++ b ∷ []) ≡ all_bitmap_lines ns bs ++ lines_of_bitmap n b
bitmaps_pushed [] [] n b h = append-nil (lines_of_bitmap n b)
bitmaps_pushed [] (c ∷ bs) n b h = absurd (omega arith)
bitmaps_pushed (m ∷ ns) [] n b h = absurd (omega arith)
bitmaps_pushed (m ∷ ns) (c ∷ bs) n b h =
    ap (λ (t : List Statement). lines_of_bitmap m c ++ t) (bitmaps_pushed ns bs n b (omega arith)) ∙ sym (append_assoc (lines_of_bitmap m c) (all_bitmap_lines ns bs) (lines_of_bitmap n b))

-- with their numbers from the next one on
enumerated_next : (f : ℕ × Bitmap → List Statement) (a : ℕ) (bs : List Bitmap) → flat_map f (enumerated (a + 1) bs) ≡ flat_map (λ b. f (suc b.0, b.1)) (enumerated a bs)
enumerated_next f a [] = refl
enumerated_next f a (b ∷ bs) = ap₂ (λ (x y : List Statement). x ++ y) (ap (λ k. f (k, b)) (add-one a)) (enumerated_next f (a + 1) bs)

-- the lines of bitmaps by their numbers
bitmaps_by_number : (ns : List (List ℕ)) (bs : List Bitmap) → length bs ≡ length ns → flat_map (λ b. lines_of_bitmap (slice_index_or ns b.0 []) b.1) (enumerated 0 bs) ≡ all_bitmap_lines ns bs
bitmaps_by_number [] [] h = refl
bitmaps_by_number [] (b ∷ bs) h = absurd (omega arith)
bitmaps_by_number (n ∷ ns) [] h = refl
bitmaps_by_number (n ∷ ns) (b ∷ bs) h =
    ap (λ (t : List Statement). lines_of_bitmap n b ++ t) (enumerated_next (λ c. lines_of_bitmap (slice_index_or (n ∷ ns) c.0 []) c.1) 0 bs ∙ bitmaps_by_number ns bs (omega arith))

-- a bitmap's line
bitmap_line_back : (name : List ℕ) (w h d : ℤ) → are_sizes_in_range bitmap_size_limit w h d ≡ true → BitmapLine name (pos (unsigned_abs w)) (pos (unsigned_abs h)) (pos (unsigned_abs d)) ≡ BitmapLine name w h d
bitmap_line_back name w h d e =
    let halves = and_parts (within (pos 1) w (pos 1024) && within (pos 1) h (pos 1024)) _ e in
    let sides = and_parts (within (pos 1) w (pos 1024)) _ halves.0 in
    ap (λ (z : ℤ). BitmapLine name z (pos (unsigned_abs h)) (pos (unsigned_abs d))) (number_back 1 w 1024 sides.0) ∙ ap (λ (z : ℤ). BitmapLine name w z (pos (unsigned_abs d))) (number_back 1 h 1024 sides.1) ∙ ap (λ (z : ℤ). BitmapLine name w h z) (number_back 1 d 8 halves.1)

-- one row less was due
row_more : (due n : ℕ) → (due == 0) ≡ false → n ≡ due - 1 → suc n ≡ due
row_more zero n e h = absurd (true≢false e)
row_more (suc due) n e h = omega arith

-- the lines of bitmaps above, the first one first
abbrev pub bitmaps_told : List Statement → List Statement
bitmaps_told above = reverse (filter is_of_bitmaps above)

-- Good lines give their bitmaps back, where these rows stand after the nearest one.
bitmaps_back : (s : Setting) (above : List Statement) → AreGoodLines s above → (rows : List (List ℕ)) → length rows ≡ (told above).rows_due → AreRows (told above).row_width rows → all_bitmap_lines (told above).bitmap_names ((told above).bitmaps (concat rows)) ≡ bitmaps_told above ++ map (λ r. RowLine r) rows
bitmaps_back s [] g rows n r = ap (λ (t : List (List ℕ)). map (λ (k : List ℕ). RowLine k) t) (sym (nil_from_length rows n))
bitmaps_back s (BitmapLine name w h d ∷ above) g rows n r =
    let due : (told above).rows_due ≡ 0 = eqb-true _ 0 (here s above (BitmapLine name w h d) g).0 in
    let b : Bitmap = stored (unsigned_abs w) (unsigned_abs h) (unsigned_abs d) (concat rows) in
    let own : lines_of_bitmap name b ≡ BitmapLine name w h d ∷ map (λ (k : List ℕ). RowLine k) rows = ap₂ (λ (x : Statement) (t : List Statement). x ∷ t) (bitmap_line_back name w h d (tests s above (BitmapLine name w h d) g).range) (planes_back (unsigned_abs w) (unsigned_abs h) (unsigned_abs d) rows r n) in
    let before : all_bitmap_lines (told above).bitmap_names ((told above).bitmaps []) ≡ bitmaps_told above = bitmaps_back s above g.1 [] (sym due) tt ∙ append-nil (bitmaps_told above) in
    let line : bitmaps_told (BitmapLine name w h d ∷ above) ≡ bitmaps_told above ++ BitmapLine name w h d ∷ [] = reverse-append (BitmapLine name w h d ∷ []) (filter is_of_bitmaps above) in
    bitmaps_pushed (told above).bitmap_names ((told above).bitmaps []) name b (bitmaps_named above []) ∙ ap₂ (λ (x y : List Statement). x ++ y) before own ∙
    sym (append_assoc (bitmaps_told above) (BitmapLine name w h d ∷ []) (map (λ (k : List ℕ). RowLine k) rows)) ∙ ap (λ (t : List Statement). t ++ map (λ (k : List ℕ). RowLine k) rows) (sym line)
bitmaps_back s (RowLine bytes ∷ above) g rows n r =
    let h = here s above (RowLine bytes) g in
    let row : IsRow (told above).row_width bytes = row_made (told above).row_width bytes h.1 h.2 (tests s above (RowLine bytes) g).padding in
    let more : length (bytes ∷ rows) ≡ (told above).rows_due = row_more (told above).rows_due (length rows) h.0 n in
    let line : bitmaps_told (RowLine bytes ∷ above) ≡ bitmaps_told above ++ RowLine bytes ∷ [] = reverse-append (RowLine bytes ∷ []) (filter is_of_bitmaps above) in
    bitmaps_back s above g.1 (bytes ∷ rows) more (row, r) ∙ sym (append_assoc (bitmaps_told above) (RowLine bytes ∷ []) (map (λ (k : List ℕ). RowLine k) rows)) ∙
    ap (λ (t : List Statement). t ++ map (λ (k : List ℕ). RowLine k) rows) (sym line)
bitmaps_back s (f ∷ above) g rows n r = bitmaps_back s above g.1 rows n r

-- The lines of the bitmaps of good lines, where no rows are due.
pub bitmaps_given : (s : Setting) (above : List Statement) → AreGoodLines s above → (told above).rows_due ≡ 0 → flat_map (λ b. lines_of_bitmap (slice_index_or (told above).bitmap_names b.0 []) b.1) (enumerated 0 ((told above).bitmaps [])) ≡ reverse (filter is_of_bitmaps above)
bitmaps_given s above g due =
    bitmaps_by_number (told above).bitmap_names ((told above).bitmaps []) (bitmaps_named above []) ∙ bitmaps_back s above g [] (sym due) tt ∙ append-nil (bitmaps_told above)
