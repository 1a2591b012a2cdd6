-- What a bitmap has once a row of one of its planes was written back.
use Rattle.std.proofs.Common.{◌≡◌, ◌≢◌, ℕ, ◌+◌, ◌-◌, ◌*◌, ◌<◌, ◌≤◌, ◌==◌, ◌&&◌, if◌then◌else◌, List, length, ◌∙◌, sym, refl, ap, ⊎_elim, arith}
use Rattle.std.specs.Int.{bit_at}
use Rattle.std.proofs.lemmas.Bool.{cases_lt}
use Rattle.std.proofs.lemmas.Bool.Decides.{nat_tests}
use Rattle.std.proofs.lemmas.Nat.{mul-le, same_from_place}
use Rattle.std.proofs.lemmas.Nat.Bits.{bit_at-lt}
use Rattle.lw_planes.specs.Pen.{pen_of}
use Rattle.lw_planes.specs.Row.{row_bit}
use Rattle.lw_planes.specs.Bitmap.{Bitmap, IsBitmap, pen_at, row_bytes}
use Rattle.lw_planes.specs.Sizes.{AreSizes, IsPlanes}
use Rattle.lw_planes.specs.Storage.{bit_place}
use Rattle.lw_planes.specs.Change.{written_bit, written_rows, with_row, with_plane_row}
use Rattle.lw_planes.proofs.PenLaws.{pen_of_lt, pen_of_same, bit_pen_of}
use Rattle.lw_planes.proofs.RowLaws.{row_bit_lt}
use Rattle.lw_planes.proofs.BitmapLaws.{IsBitmap_bitmap, pen_at_bitmap, bitmap_same, row_bytes_wide}
use Rattle.lw_planes.proofs.StorageLaws.{place_row, chosen_at_both}
use Rattle.lw_planes.proofs.ChangeLaws.{chosen_inside, chosen_before, chosen_after}

-- the bit that stands after a write is 0 or 1
written_bit_lt : (b : Bitmap) (k y : ℕ) (row : List ℕ) (i j p : ℕ) → written_bit b k y row i j p < 2
written_bit_lt b k y row i j p =
    let new = row_bit_lt row (bit_place b.width b.height p i j - bit_place b.width b.height k 0 y) in
    let old = bit_at-lt (pen_at b i j) p in
    grind (arith, nat_tests)

-- a row that is written back changes no size
pub width_with_row : (b : Bitmap) (k y : ℕ) (row : List ℕ) → (with_row b k y row).width ≡ b.width
unfolding written_rows
width_with_row b k y row = refl

-- a row that is written back changes no size
pub height_with_row : (b : Bitmap) (k y : ℕ) (row : List ℕ) → (with_row b k y row).height ≡ b.height
unfolding written_rows
height_with_row b k y row = refl

-- a row that is written back changes no size
pub depth_with_row : (b : Bitmap) (k y : ℕ) (row : List ℕ) → (with_row b k y row).depth ≡ b.depth
unfolding written_rows
depth_with_row b k y row = refl

-- with a row that was written back it is a bitmap
pub IsBitmap_with_row : (b : Bitmap) (k y : ℕ) (row : List ℕ) → IsBitmap (with_row b k y row)
unfolding written_rows
IsBitmap_with_row b k y row =
    IsBitmap_bitmap b.width b.height b.depth (λ i j. pen_of b.depth (λ p. written_bit b k y row i j p))
    (λ i j _ _. pen_of_lt b.depth (λ p. written_bit b k y row i j p) (λ p _. written_bit_lt b k y row i j p))

-- with a row that was written back it has sizes for planes
pub IsPlanes_with_row : (b : Bitmap) (k y : ℕ) (row : List ℕ) → AreSizes b.width b.height b.depth → IsPlanes (with_row b k y row)
unfolding written_rows
IsPlanes_with_row b k y row ok = record { bitmap = IsBitmap_with_row b k y row; sizes = ok }

-- each bit of each pen once a row was written back
pub bit_with_row : (b : Bitmap) (k y : ℕ) (row : List ℕ) (p i j : ℕ) → p < b.depth → i < b.width → j < b.height → bit_at (pen_at (with_row b k y row) i j) p ≡ written_bit b k y row i j p
unfolding written_rows
bit_with_row b k y row p i j deep left low =
    ap (λ n. bit_at n p) (pen_at_bitmap b.width b.height b.depth (λ i j. pen_of b.depth (λ p. written_bit b k y row i j p)) i j left low) ∙
    bit_pen_of b.depth (λ p. written_bit b k y row i j p) p (λ p _. written_bit_lt b k y row i j p) deep

-- a pixel of an earlier row stands before a later row
place_earlier : (a b n i : ℕ) → a < b → i < n → a * n + i < b * n + 0
place_earlier a b n i before inside =
    let more : (a + 1) * n ≤ b * n = mul-le (a + 1) n b n (omega arith) (omega arith) in
    omega arith

-- a pixel of a later row stands after an earlier row
place_later : (a b n i : ℕ) → b < a → b * n + 0 + n ≤ a * n + i
place_later a b n i after =
    let more : (b + 1) * n ≤ a * n = mul-le (b + 1) n a n (omega arith) (omega arith) in
    omega arith

-- the pixels of the row that was written have in its plane the bits that were written
pub bit_with_row_written : (b : Bitmap) (k y : ℕ) (row : List ℕ) (x : ℕ) → k < b.depth → y < b.height → x < b.width → length row ≡ row_bytes b.width → bit_at (pen_at (with_row b k y row) x y) k ≡ row_bit row x
bit_with_row_written b k y row x deep low left long =
    let wide : b.width ≤ 8 * row_bytes b.width = row_bytes_wide b.width in
    let n : ℕ = 8 * row_bytes b.width in
    let from : bit_place b.width b.height k 0 y ≡ (k * b.height + y) * n + 0 = place_row b.width b.height k 0 y in
    let place : bit_place b.width b.height k x y ≡ (k * b.height + y) * n + x = place_row b.width b.height k x y in
    let first : bit_place b.width b.height k 0 y ≤ bit_place b.width b.height k x y = rw (from, place) (omega arith) in
    let last : bit_place b.width b.height k x y < bit_place b.width b.height k 0 y + 8 * length row = rw (from, place, long) (omega (arith, wide, left)) in
    let back : bit_place b.width b.height k x y - bit_place b.width b.height k 0 y ≡ x = rw (from, place) (omega arith) in
    chosen_inside (bit_place b.width b.height k 0 y) (8 * length row) (bit_place b.width b.height k x y) (bit_at (pen_at (with_row b k y row) x y) k) (row_bit row (bit_place b.width b.height k x y - bit_place b.width b.height k 0 y)) (bit_at (pen_at b x y) k) (bit_with_row b k y row k x y deep left low) first last ∙
    ap (λ i. row_bit row i) back

-- a row of any plane differs from a row of another plane or with another number
row_differs : (h p j k y : ℕ) → j < h → y < h → (p ≡ k → j ≡ y → ⊥) → p * h + j ≢ k * h + y
row_differs h p j k y low high apart same =
    let both = same_from_place p j k y h low high same in
    apart both.0 both.1

-- every other bit is as it was
pub bit_with_row_other : (b : Bitmap) (k y : ℕ) (row : List ℕ) (p i j : ℕ) → p < b.depth → i < b.width → j < b.height → y < b.height → length row ≡ row_bytes b.width → (p ≡ k → j ≡ y → ⊥) → bit_at (pen_at (with_row b k y row) i j) p ≡ bit_at (pen_at b i j) p
bit_with_row_other b k y row p i j deep left low inside long apart =
    let wide : b.width ≤ 8 * row_bytes b.width = row_bytes_wide b.width in
    let n : ℕ = 8 * row_bytes b.width in
    let from : bit_place b.width b.height k 0 y ≡ (k * b.height + y) * n + 0 = place_row b.width b.height k 0 y in
    let place : bit_place b.width b.height p i j ≡ (p * b.height + j) * n + i = place_row b.width b.height p i j in
    let in_row : i < n = omega (arith, wide, left) in
    let new = bit_with_row b k y row p i j deep left low in
    let differs : p * b.height + j ≢ k * b.height + y = row_differs b.height p j k y low inside apart in
    ⊎_elim
    (λ (before : p * b.height + j < k * b.height + y).
    chosen_before (bit_place b.width b.height k 0 y) (8 * length row) (bit_place b.width b.height p i j) (bit_at (pen_at (with_row b k y row) i j) p) (row_bit row (bit_place b.width b.height p i j - bit_place b.width b.height k 0 y)) (bit_at (pen_at b i j) p) new
    (rw (from, place) (place_earlier (p * b.height + j) (k * b.height + y) n i before in_row)))
    (λ (late : k * b.height + y ≤ p * b.height + j).
    let after : k * b.height + y < p * b.height + j = omega arith in
    chosen_after (bit_place b.width b.height k 0 y) (8 * length row) (bit_place b.width b.height p i j) (bit_at (pen_at (with_row b k y row) i j) p) (row_bit row (bit_place b.width b.height p i j - bit_place b.width b.height k 0 y)) (bit_at (pen_at b i j) p) new
    (rw (from, place, long) (place_later (p * b.height + j) (k * b.height + y) n i after)))
    (cases_lt (p * b.height + j) (k * b.height + y))

-- the bit that stands once a row was written back: that of the row in its place, and the old one elsewhere
written_bit_plane_row : (b : Bitmap) (k y : ℕ) (row : List ℕ) (f : ℕ → ℕ) → k < b.depth → y < b.height → length row ≡ row_bytes b.width → ((x : ℕ) → x < b.width → row_bit row x ≡ f x) → (i j p : ℕ) → i < b.width → j < b.height → p < b.depth → written_bit b k y row i j p ≡ (if p == k && j == y then f i else bit_at (pen_at b i j) p)
written_bit_plane_row b k y row f deep low long bits i j p left inside in_planes =
    let is : written_bit b k y row i j p ≡ bit_at (pen_at (with_row b k y row) i j) p = sym (bit_with_row b k y row p i j in_planes left inside) in
    chosen_at_both p k j y (written_bit b k y row i j p) (f i) (bit_at (pen_at b i j) p)
    (λ same_plane same_row.
    let new : bit_at (pen_at (with_row b k y row) i y) k ≡ row_bit row i = bit_with_row_written b k y row i deep low left long in
    is ∙ (ap (λ n. bit_at (pen_at (with_row b k y row) i j) n) same_plane ∙ (ap (λ n. bit_at (pen_at (with_row b k y row) i n) k) same_row ∙ (new ∙ bits i left))))
    (λ apart. is ∙ bit_with_row_other b k y row p i j in_planes left inside low long apart)

-- Once a row was written back, the bitmap is the old one with these bits in that row of that plane.
pub with_row_plane_row : (b : Bitmap) (k y : ℕ) (row : List ℕ) (f : ℕ → ℕ) → k < b.depth → y < b.height → length row ≡ row_bytes b.width → ((x : ℕ) → x < b.width → row_bit row x ≡ f x) → with_row b k y row ≡ with_plane_row b k y f
unfolding written_rows
with_row_plane_row b k y row f deep low long bits =
    bitmap_same b.width b.height b.depth (λ i j. pen_of b.depth (λ p. written_bit b k y row i j p)) (λ i j. pen_of b.depth (λ p. if p == k && j == y then f i else bit_at (pen_at b i j) p))
    (λ i j left inside. pen_of_same b.depth (λ p. written_bit b k y row i j p) (λ p. if p == k && j == y then f i else bit_at (pen_at b i j) p)
    (λ p in_planes. written_bit_plane_row b k y row f deep low long bits i j p left inside in_planes))
