-- Laws of the pixels of a text.
use Rattle.std.proofs.Common.{◌≡◌, ℕ, ◌+◌, ◌-◌, ◌*◌, ◌/◌, ◌%◌, ◌==◌, ◌<◌, ◌≤◌, Bool, true, false, not, ◌&&◌, nat_le, nat_lt, min, if◌then◌else◌, List, [], length, slice_index, set, get_or-set_other, ◌∙◌, sym, refl, ap, subst, ⊎_elim, arith, ℤ, pos, negsuc, ◌+ℤ◌, ◌-ℤ◌, ◌≤ℤ◌, int_le, unsigned_abs}
use Rattle.std.specs.Int.{bit_at}
use Rattle.std.specs.List.{slice_index_or}
use Rattle.std.proofs.lemmas.Bool.{cases_eq, cases_lt}
use Rattle.std.proofs.lemmas.Bool.Decides.{nat_tests}
use Rattle.std.proofs.lemmas.Grind.{get_or-set_at}
use Rattle.std.proofs.lemmas.Int.{clamps, ints}
use Rattle.std.proofs.lemmas.Nat.Bits.{bit_at-zero}
use Rattle.lw_planes.specs.Row.{row_bit}
use Rattle.lw_planes.specs.Minterm.{minterm_bit}
use Rattle.lw_planes.proofs.RowLaws.{row_bit_lt}
use Rattle.lw_planes.specs.Bitmap.{IsBitmap, pen_at}
use Rattle.lw_region.specs.Rectangle.{within}
use Rattle.lw_region.proofs.Lists.{and_between}
use Rattle.lw_kernels.specs.Kernel.{is_between, is_named, place_in}
use Rattle.lw_kernels.proofs.ByteLaws.{minterm_copies}
use Rattle.lw_machine.specs.Layer.{Raster}
use Rattle.lw_machine.specs.Kept.{is_drawable}
use Rattle.lw_machine.specs.Paint.{candidate_bit, has_inversvid, paint_where, through_mask, with_pens}
use Rattle.lw_machine.specs.Shapes.{glyph_has, cell_has, in_cells, differ, draw_text}
use Rattle.lw_layer.specs.View.{LiveView, shows, draws, with_layer}
use Rattle.lw_layer.proofs.LineLaws.{repainted_same}
use Rattle.lw_draw.specs.Drawn.{drawn, in_mask, in_rows}
use Rattle.lw_draw.proofs.PaintLaws.{shape_drawn, tests_turned, layer_alike}
use Rattle.lw_text.specs.Letters.{text_before}
use Rattle.lw_text.specs.Templates.{glyph_bits, stamped, stamped_bit, text_has}

-- a bit of a glyph's row, where the code has a glyph
bit_of_known : (known : Bool) (byte place : ℕ) → (bit_at (if known then byte else 0) place == 1) ≡ (known && (bit_at byte place == 1))
bit_of_known true byte place = refl
bit_of_known false byte place = ap (λ t. t == 1) (bit_at-zero place)

-- a bit of a row of glyphs side by side is that of the character's cell
pub cell_bit : (glyphs : List (List ℕ)) (text bytes : List ℕ) (left top : ℤ) (first n place row i j : ℕ) → unsigned_abs (pos i -ℤ left) ≡ 8 * first + n → unsigned_abs (pos j -ℤ top) ≡ row → place % 8 ≡ n % 8 → slice_index bytes (place / 8) ≡ glyph_bits glyphs (slice_index_or text (first + n / 8) 0) row → (row_bit bytes place == 1) ≡ cell_has glyphs text left top (pos i) (pos j)
unfolding row_bit cell_has glyph_has glyph_bits
cell_bit glyphs text bytes left top first n place row i j column line rest byte =
    let has : ℕ → ℕ → ℕ → Bool = λ place across down. glyph_has glyphs (slice_index_or text place 0) across down in
    let code = slice_index_or text (first + n / 8) 0 in
    let at : (8 * first + n) / 8 ≡ first + n / 8 = omega arith in
    let across : (8 * first + n) % 8 ≡ n % 8 = omega arith in
    ap (λ r. bit_at (slice_index bytes (place / 8)) (7 - r) == 1) rest ∙
    (ap (λ b. bit_at b (7 - n % 8) == 1) byte ∙
    (bit_of_known (nat_le 32 code && nat_le code 126) (slice_index_or (slice_index_or glyphs (code - 32) []) row 0) (7 - n % 8) ∙
    (ap (λ p. has p (n % 8) row) (sym at) ∙
    (ap (λ a. has ((8 * first + n) / 8) a row) (sym across) ∙
    (ap (λ u. has (u / 8) (u % 8) row) (sym column) ∙ ap (λ v. has (unsigned_abs (pos i -ℤ left) / 8) (unsigned_abs (pos i -ℤ left) % 8) v) (sym line))))))

-- A text is painted in the columns before one once its cells' drawable pixels there are.
pub text_shape : (c : LiveView) (glyphs : List (List ℕ)) (text : List ℕ) (raster : Raster) (upper lower from end limit : ℕ) → IsBitmap c.layer.bits → raster ≡ c.layer.raster → ((u : ℕ) → u < c.layer.bits.width → ((int_le raster.cursor_x (pos u) && int_le (pos u +ℤ pos 1) (raster.cursor_x +ℤ pos (8 * length text))) && nat_lt u limit) ≡ is_between from end u) → ((v : ℕ) → v < c.layer.bits.height → within (raster.cursor_y -ℤ pos 6) (pos v) ((raster.cursor_y -ℤ pos 6) +ℤ pos 7) ≡ is_between upper lower v) → stamped raster (text_has glyphs text raster) (λ i j. in_rows c upper lower from end i j) c ≡ with_layer (λ l. text_before glyphs (λ x y. shows c x y) text limit l) c
unfolding in_cells
text_shape c glyphs text raster upper lower from end limit ok same columns rows =
    let r = c.layer.raster in
    let past : Raster → ℤ = λ q. q.cursor_x +ℤ pos (8 * length text) in
    let wide : Raster → ℕ → Bool = λ q u. (int_le q.cursor_x (pos u) && int_le (pos u +ℤ pos 1) (past q)) && nat_lt u limit in
    let high : Raster → ℕ → Bool = λ q v. within (q.cursor_y -ℤ pos 6) (pos v) ((q.cursor_y -ℤ pos 6) +ℤ pos 7) in
    ap (λ q. drawn (λ p x y. in_mask q p && in_rows c upper lower from end x y) (λ p x y old. candidate_bit q (differ (has_inversvid q) (text_has glyphs text q x y)) p old) c) same ∙
    shape_drawn c (λ x y. in_cells r.cursor_x (r.cursor_y -ℤ pos 6) (length text) (pos x) (pos y) && nat_lt x limit) (λ i j. in_rows c upper lower from end i j) (λ p x y old. candidate_bit r (differ (has_inversvid r) (text_has glyphs text r x y)) p old) ok
    (λ x y left low.
    ap (λ t. draws c x y && t) (and_between (int_le r.cursor_x (pos x) && int_le (pos x +ℤ pos 1) (past r)) (high r y) (nat_lt x limit)) ∙
    tests_turned (draws c x y) _ _ (is_between from end x) (is_between upper lower y) (ap (λ q. wide q x) (sym same) ∙ columns x left) (ap (λ q. high q y) (sym same) ∙ rows y low))

-- A text that ends where the layer does is painted whole.
text_whole : (c : LiveView) (glyphs : List (List ℕ)) (text : List ℕ) (width : ℕ) → width ≡ c.layer.bits.width → with_layer (λ l. text_before glyphs (λ x y. shows c x y) text width l) c ≡ with_layer (λ l. paint_where (λ x y. shows c x y) (λ x y. in_cells l.raster.cursor_x (l.raster.cursor_y -ℤ pos 6) (length text) (pos x) (pos y)) (λ x y. differ (has_inversvid l.raster) (text_has glyphs text l.raster x y)) l) c
unfolding with_pens
text_whole c glyphs text width wide =
    let r = c.layer.raster in
    let cells : ℕ → ℕ → Bool = λ x y. in_cells r.cursor_x (r.cursor_y -ℤ pos 6) (length text) (pos x) (pos y) in
    let pen : ℕ → ℕ → Bool → ℕ = λ x y t. if is_drawable (λ i j. shows c i j) c.layer x y && t then through_mask c.layer.bits.depth r.mask (λ k. candidate_bit r (differ (has_inversvid r) (text_has glyphs text r x y)) k (bit_at (pen_at c.layer.bits x y) k)) (pen_at c.layer.bits x y) else pen_at c.layer.bits x y in
    repainted_same c (λ x y. pen x y (cells x y && nat_lt x width)) (λ x y. pen x y (cells x y)) (λ x y left _. ap (pen x y) (before_width (cells x y) x width (omega (arith, left, wide))))
  where
    before_width : (has : Bool) (x n : ℕ) → x < n → (has && nat_lt x n) ≡ has
    before_width true x n left = grind (arith, nat_tests)
    before_width false x n left = refl

-- With its cells painted and the cursor past them the text is drawn.
pub text_done : (v w u : LiveView) (glyphs drawn_glyphs : List (List ℕ)) (text codes : List ℕ) (width : ℕ) (raster after : Raster) → drawn_glyphs ≡ glyphs → codes ≡ text → width ≡ v.layer.bits.width → raster ≡ v.layer.raster → w ≡ with_layer (λ l. text_before drawn_glyphs (λ x y. shows v x y) codes width l) v → u ≡ with_layer (λ l. record l { raster = after }) w → after ≡ record raster { cursor_x = raster.cursor_x +ℤ pos (8 * length codes) } → u ≡ with_layer (λ l. draw_text glyphs (λ x y. shows v x y) text l) v
unfolding with_pens
text_done v w u glyphs drawn_glyphs text codes width raster after same_glyphs same_text wide same was is ends =
    let moved : LiveView → Raster → LiveView = λ c a. with_layer (λ l. record l { raster = a }) c in
    let behind : List ℕ → Raster → Raster = λ t r. record r { cursor_x = r.cursor_x +ℤ pos (8 * length t) } in
    let drawn_as : List (List ℕ) → List ℕ → LiveView = λ g t. with_layer (λ l. draw_text g (λ x y. shows v x y) t l) v in
    is ∙ (ap (λ q. moved q after) was ∙
    (ap (λ c. moved c after) (text_whole v drawn_glyphs codes width wide) ∙
    (ap (λ a. moved (with_layer (λ l. paint_where (λ x y. shows v x y) (λ x y. in_cells l.raster.cursor_x (l.raster.cursor_y -ℤ pos 6) (length codes) (pos x) (pos y)) (λ x y. differ (has_inversvid l.raster) (text_has drawn_glyphs codes l.raster x y)) l) v) a) (ends ∙ ap (behind codes) same) ∙
    (ap (λ g. drawn_as g codes) same_glyphs ∙ ap (λ t. drawn_as glyphs t) same_text))))

-- the cursor has room
pub room : (x : ℤ) (n : ℕ) (fits : Bool) → fits ≡ int_le (x +ℤ pos n) (pos 32767) → fits ≡ true → (x +ℤ pos n) ≤ℤ pos 32767
room x n fits is so = grind (arith, ints)

-- the places of cells that a layer has
pub column_starts : (left past x : ℤ) (from end : ℕ) → left ≡ x → (int_le left (pos from) && not (int_le past (pos from))) ≡ is_between from end from → from < end → x ≤ℤ pos from
column_starts left past x from end is places some = grind (arith, ints, nat_tests)

pub row_starts : (upper past y : ℤ) (from end : ℕ) → upper ≡ y -ℤ pos 6 → (int_le upper (pos from) && not (int_le past (pos from))) ≡ is_between from end from → from < end → y ≤ℤ pos (from + 6)
row_starts upper past y from end is places some = grind (arith, ints, nat_tests)

pub row_ends : (upper past y : ℤ) (from end last : ℕ) → end ≡ last + 1 → past ≡ y +ℤ pos 2 → (int_le upper (pos last) && not (int_le past (pos last))) ≡ is_between from end last → from < end → pos end ≤ℤ (y +ℤ pos 2)
row_ends upper past y from end last is bound places some = grind (arith, ints, nat_tests)

columns_are : (left past x : ℤ) (n from end u : ℕ) → left ≡ x → past ≡ x +ℤ pos n → (int_le left (pos u) && not (int_le past (pos u))) ≡ is_between from end u → (int_le x (pos u) && int_le (pos u +ℤ pos 1) (x +ℤ pos n)) ≡ is_between from end u
columns_are left past x n from end u first last places = grind (arith, ints, nat_tests)

-- a text cut after all columns of a layer has the same columns there
cut_end : (past x : ℤ) (n most width u : ℕ) → negsuc 32767 ≤ℤ x → past ≡ x +ℤ pos (8 * most) → most ≡ min n 8191 → width ≤ 2048 → u < width
    → int_le (x +ℤ pos (8 * n)) (pos u) ≡ int_le past (pos u)
cut_end past x n most width u low last cut narrow there =
    ⊎_elim
    (λ (few : n < 8192). let same : most ≡ n = omega (arith, clamps, few, cut) in ap (λ k. int_le k (pos u)) (ap (λ k. x +ℤ pos (8 * k)) (sym same) ∙ sym last))
    (λ (many : 8192 ≤ n).
    let top : most ≡ 8191 = omega (arith, clamps, many, cut) in
    both_off past x n u low (last ∙ ap (λ k. x +ℤ pos (8 * k)) top) (omega (arith, there, narrow)) many)
    (cases_lt n 8192)
  where
    both_off : (past x : ℤ) (n u : ℕ) → negsuc 32767 ≤ℤ x → past ≡ x +ℤ pos (8 * 8191) → u < 2048 → 8192 ≤ n
        → int_le (x +ℤ pos (8 * n)) (pos u) ≡ int_le past (pos u)
    both_off past x n u low last there many = grind (arith, ints, nat_tests)

pub columns_cut : (left past x : ℤ) (n most from end extent width limit u : ℕ) → negsuc 32767 ≤ℤ x → left ≡ x → past ≡ x +ℤ pos (8 * most) → most ≡ min n 8191 → end ≤ extent → extent ≡ min width limit → width ≤ 2048 → u < width → (u < extent → (int_le left (pos u) && not (int_le past (pos u))) ≡ is_between from end u) → ((int_le x (pos u) && int_le (pos u +ℤ pos 1) (x +ℤ pos (8 * n))) && nat_lt u limit) ≡ is_between from end u
columns_cut left past x n most from end extent width limit u lowest first last cut inside least narrow there places =
    ⊎_elim
    (λ (low : u < limit).
    still (int_le x (pos u) && int_le (pos u +ℤ pos 1) (x +ℤ pos (8 * n))) low
    ∙ columns_are left (x +ℤ pos (8 * n)) x (8 * n) from end u first refl
    (ap (λ t. int_le left (pos u) && not t) (cut_end past x n most width u lowest last cut narrow there)
    ∙ places (omega (arith, clamps, low, there, least))))
    (λ (high : limit ≤ u).
    none (int_le x (pos u) && int_le (pos u +ℤ pos 1) (x +ℤ pos (8 * n))) high (omega (arith, clamps, high, inside, least)))
    (cases_lt u limit)
  where
    still : (has : Bool) → u < limit → (has && nat_lt u limit) ≡ has
    still has low = grind (arith, nat_tests)

    none : (has : Bool) → limit ≤ u → end ≤ u → (has && nat_lt u limit) ≡ is_between from end u
    none has high off = grind (arith, nat_tests)

pub rows_are : (upper past y : ℤ) (from end v : ℕ) → upper ≡ y -ℤ pos 6 → past ≡ y +ℤ pos 2 → (int_le upper (pos v) && not (int_le past (pos v))) ≡ is_between from end v → within (y -ℤ pos 6) (pos v) ((y -ℤ pos 6) +ℤ pos 7) ≡ is_between from end v
unfolding within
rows_are upper past y from end v first last places = grind (arith, ints, nat_tests)

-- one byte more of a glyph is put, below those that were
pub byte_put : (bytes glyph : List ℕ) (at row value : ℕ) → row * 257 + at < length bytes → value ≡ slice_index glyph row → ((k : ℕ) → k < row → slice_index bytes (k * 257 + at) ≡ slice_index glyph k) → (k : ℕ) → k < row + 1 → slice_index (set bytes (row * 257 + at) value) (k * 257 + at) ≡ slice_index glyph k
byte_put bytes glyph at row value inside is before k low =
    ⊎_elim
    (λ (here : k ≡ row).
    let there : k * 257 + at ≡ row * 257 + at = ap (λ r. r * 257 + at) here in
    get_or-set_at bytes (row * 257 + at) (k * 257 + at) value 0 there inside ∙ (is ∙ ap (λ r. slice_index glyph r) (sym here)))
    (λ (other : k ≡ row → ⊥).
    let less : k < row = omega (arith, low, other) in
    let apart : k * 257 + at ≡ row * 257 + at → ⊥ = λ same. absurd (omega (arith, same, less)) in
    get_or-set_other bytes (row * 257 + at) (k * 257 + at) value 0 apart ∙ before k less)
    (cases_eq k row)

-- the bytes to the left of it stay
pub left_stays : (bytes : List ℕ) (at row value k n : ℕ) → at < 257 → n < at → slice_index (set bytes (row * 257 + at) value) (k * 257 + n) ≡ slice_index bytes (k * 257 + n)
left_stays bytes at row value k n inside low =
    let apart : k * 257 + n ≡ row * 257 + at → ⊥ = λ same. absurd (omega (arith, same, low, inside)) in
    get_or-set_other bytes (row * 257 + at) (k * 257 + n) value 0 apart

-- one glyph more is put to the right of those that were
pub glyph_put : (bytes filled glyph : List ℕ) (want : ℕ → ℕ → ℕ) (place : ℕ) → ((k n : ℕ) → k < 8 → n < place → slice_index bytes (k * 257 + n) ≡ want k n) → ((k : ℕ) → k < 8 → slice_index filled (k * 257 + place) ≡ slice_index glyph k) → ((k n : ℕ) → n < place → slice_index filled (k * 257 + n) ≡ slice_index bytes (k * 257 + n)) → ((k : ℕ) → k < 8 → slice_index glyph k ≡ want k place) → (k n : ℕ) → k < 8 → n < place + 1 → slice_index filled (k * 257 + n) ≡ want k n
glyph_put bytes filled glyph want place before here same is k n low inside =
    ⊎_elim
    (λ (there : n ≡ place). ap (λ m. slice_index filled (k * 257 + m)) there ∙ (here k low ∙ (is k low ∙ ap (want k) (sym there))))
    (λ (other : n ≡ place → ⊥). let less : n < place = omega (arith, inside, other) in same k n less ∙ before k n low less)
    (cases_eq n place)

-- what is told of the rows of a layer that characters' cells have
pub record AreCells (y : ℤ) (top bottom row : ℕ) : Type 0 where
  pub upper : top < bottom → y ≤ℤ pos (top + 6)
  pub lower : top < bottom → pos bottom ≤ℤ (y +ℤ pos 2)
  pub first : y ≤ℤ pos (top + 6) → pos top ≤ℤ (y +ℤ pos 1) → pos top -ℤ (y -ℤ pos 6) ≡ pos row

pub cells_of : (z y : ℤ) (top bottom row : ℕ) → z ≡ y → (top < bottom → y ≤ℤ pos (top + 6)) → (top < bottom → pos bottom ≤ℤ (y +ℤ pos 2)) → (z ≤ℤ pos (top + 6) → pos top ≤ℤ (z +ℤ pos 1) → pos top -ℤ (z -ℤ pos 6) ≡ pos row) → AreCells y top bottom row
cells_of z y top bottom row same upper lower first =
    let First : ℤ → Type 0 = λ u. u ≤ℤ pos (top + 6) → pos top ≤ℤ (u +ℤ pos 1) → pos top -ℤ (u -ℤ pos 6) ≡ pos row in
    record { upper = upper; lower = lower; first = subst First same first }

-- the first one's distance from the cells' first row, where there are any
first_row : (y : ℤ) (top bottom row : ℕ) → AreCells y top bottom row → top < bottom → pos top -ℤ (y -ℤ pos 6) ≡ pos row
first_row y top bottom row are some =
    let lower : pos bottom ≤ℤ (y +ℤ pos 2) = are.lower some in
    are.first (are.upper some) (omega (arith, ints))

-- each of them is one of the cells' eight
row_in_cell : (y : ℤ) (top bottom row j : ℕ) → AreCells y top bottom row → top ≤ j → j < bottom → row + (j - top) < 8
row_in_cell y top bottom row j are down up =
    let some : top < bottom = omega (arith, down, up) in
    let gap : pos top -ℤ (y -ℤ pos 6) ≡ pos row = first_row y top bottom row are some in
    let lower : pos bottom ≤ℤ (y +ℤ pos 2) = are.lower some in
    omega (arith, ints)

-- what is told of a pixel in some columns of some rows
record IsAt (top bottom from end i j : ℕ) : Type 0 where
  first : from ≤ i
  last : i < end
  down : top ≤ j
  up : j < bottom

pixel_at : (has drawable : Bool) (top bottom from end i j : ℕ) → (has && (is_between top bottom j && (is_between from end i && drawable))) ≡ true → IsAt top bottom from end i j
pixel_at has drawable top bottom from end i j on = record { first = grind (arith, nat_tests); last = grind (arith, nat_tests); down = grind (arith, nat_tests); up = grind (arith, nat_tests) }

-- the rows of bits lie over the pixels of these rows and columns
is_over_pixel : (top from bit long i j : ℕ) → from ≤ i → bit + (i - from) < 8 * 257 → top ≤ j → (j - top + 1) * 257 ≤ long → ((nat_le from i && nat_lt (bit + (i - from)) (8 * 257)) && (nat_le top j && nat_le ((j - top + 1) * 257) long)) ≡ true
is_over_pixel top from bit long i j first last down up = grind (arith, nat_tests)

pub rows_over : (y : ℤ) (drawable : Bool) (top bottom from end bit row long i j : ℕ) → AreCells y top bottom row → bit < 8 → end ≤ 2048 → long ≡ 2056 → (is_between top bottom j && (is_between from end i && drawable)) ≡ true → ((nat_le from i && nat_lt (bit + (i - from)) (8 * 257)) && (nat_le top j && nat_le ((j - top + 1) * 257) long)) ≡ true
rows_over y drawable top bottom from end bit row long i j are small right all on =
    let at = pixel_at true drawable top bottom from end i j on in
    let first : from ≤ i = at.first in
    let last : i < end = at.last in
    let down : top ≤ j = at.down in
    let up : row + (j - top) < 8 = row_in_cell y top bottom row j are down at.up in
    is_over_pixel top from bit long i j first (omega (arith, small, right, last)) down (omega (arith, all, up))

-- so many rows of cells are some of eight
pub rows_low : (y : ℤ) (top bottom row : ℕ) → AreCells y top bottom row → row < 8 → row + (bottom - top) ≤ 8
rows_low y top bottom row are low =
    ⊎_elim
    (λ (some : top < bottom). let last : row + ((bottom - 1) - top) < 8 = row_in_cell y top bottom row (bottom - 1) are (omega (arith, some)) (omega (arith, some)) in omega (arith, some, last))
    (λ (none : bottom ≤ top). omega (arith, none, low))
    (cases_lt top bottom)

-- rows of bits that were moved to the first ones
pub rows_moved : (old new : List ℕ) (row bit to rows count k n : ℕ) → to + count ≤ 2056 → row_bit new (place_in 257 k (to + n)) ≡ (if is_named 0 rows k && is_named to count (to + n) then minterm_bit 192 (row_bit old (place_in 257 (row + (k - 0)) (bit + ((to + n) - to)))) (row_bit old (place_in 257 k (to + n))) else row_bit old (place_in 257 k (to + n))) → k < rows → n < count → row_bit new (place_in 257 k (to + n)) ≡ row_bit old (place_in 257 (row + k) (bit + n))
rows_moved old new row bit to rows count k n inside is low near =
    let on : (is_named 0 rows k && is_named to count (to + n)) ≡ true = grind (arith, nat_tests) in
    let place : place_in 257 (row + (k - 0)) (bit + ((to + n) - to)) ≡ place_in 257 (row + k) (bit + n) = omega arith in
    let was : ℕ = row_bit old (place_in 257 k (to + n)) in
    let from : ℕ = place_in 257 (row + (k - 0)) (bit + ((to + n) - to)) in
    is ∙ (ap (λ t. if t then minterm_bit 192 (row_bit old from) was else was) on
    ∙ (minterm_copies 192 (row_bit old from) was (row_bit_lt old from) refl ∙ ap (row_bit old) place))

-- a column or a row by the first one's distance
places_on : (left : ℤ) (from before i : ℕ) → pos from -ℤ left ≡ pos before → from ≤ i → unsigned_abs (pos i -ℤ left) ≡ before + (i - from)
places_on left from before i gap late = omega (arith, ints)

-- what is told of eight rows of bits that are to be those of a text
pub record AreGlyphs (raster : Raster) (glyphs : List (List ℕ)) (text bytes : List ℕ) (from end before count : ℕ) : Type 0 where
  pub enough : before % 8 + (end - from) ≤ 8 * count
  pub starts : from < end → raster.cursor_x ≤ℤ pos from
  pub across : raster.cursor_x ≤ℤ pos from → pos from -ℤ raster.cursor_x ≡ pos before
  pub each : (k n : ℕ) → k < 8 → n < count → slice_index bytes (k * 257 + n) ≡ glyph_bits glyphs (slice_index_or text (before / 8 + n) 0) k

-- a pixel's bit of rows of bits, 257 bytes apart, of which the first one's bit lies over this column and row
abbrev pub lies_over : List ℕ → ℕ → ℕ → ℕ → ℕ → ℕ → Bool
lies_over bytes bit from top x y = row_bit bytes (place_in 257 (y - top) (bit + (x - from))) == 1

-- The text is painted once some rows of its glyphs are as a template, from one of them on.
pub rows_are_text : (v w : LiveView) (raster : Raster) (glyphs : List (List ℕ)) (text bytes laid : List ℕ) (top bottom from end before count row bit : ℕ) → ((k n : ℕ) → k < bottom - top → n < end - from → row_bit laid (place_in 257 k (bit + n)) ≡ row_bit bytes (place_in 257 (row + k) (before % 8 + n))) → AreCells raster.cursor_y top bottom row → AreGlyphs raster glyphs text bytes from end before count → w ≡ stamped raster (lies_over laid bit from top) (λ i j. in_rows v top bottom from end i j) v → w ≡ stamped raster (text_has glyphs text raster) (λ i j. in_rows v top bottom from end i j) v
rows_are_text v w raster glyphs text bytes laid top bottom from end before count row bit same cells are is =
    layer_alike v w (λ p i j. in_mask raster p && in_rows v top bottom from end i j) (stamped_bit raster (lies_over laid bit from top)) (stamped_bit raster (text_has glyphs text raster)) is
    (λ p i j old _ _ _ on _.
    let at = pixel_at (in_mask raster p) (draws v i j) top bottom from end i j on in
    let first : from ≤ i = at.first in
    let last : i < end = at.last in
    let down : top ≤ j = at.down in
    let up : j < bottom = at.up in
    let n : ℕ = before % 8 + (i - from) in
    let k : ℕ = row + (j - top) in
    let enough : before % 8 + (end - from) ≤ 8 * count = are.enough in
    let near : n / 8 < count = omega (arith, enough, first, last) in
    let along : before + (i - from) ≡ 8 * (before / 8) + n = omega arith in
    let byte : place_in 257 k n / 8 ≡ k * 257 + n / 8 = omega arith in
    let rest : place_in 257 k n % 8 ≡ n % 8 = omega arith in
    ap (λ b. candidate_bit raster (differ (has_inversvid raster) (b == 1)) p old) (same (j - top) (i - from) (omega (arith, down, up)) (omega (arith, first, last))) ∙
    ap (λ t. candidate_bit raster (differ (has_inversvid raster) t) p old)
    (cell_bit glyphs text bytes raster.cursor_x (raster.cursor_y -ℤ pos 6) (before / 8) n (place_in 257 k n) k i j
    (places_on raster.cursor_x from before i (are.across (are.starts (omega (arith, first, last)))) first ∙ along)
    (places_on (raster.cursor_y -ℤ pos 6) top row j (first_row raster.cursor_y top bottom row cells (omega (arith, down, up))) down)
    rest
    (ap (λ z. slice_index bytes z) byte ∙ are.each k (n / 8) (row_in_cell raster.cursor_y top bottom row j cells down up) near)))
