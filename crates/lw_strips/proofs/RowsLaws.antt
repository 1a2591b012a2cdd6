-- Rows of a bitmap once bytes were written over them.
use Rattle.std.proofs.Common.{◌≡◌, ℕ, ◌+◌, ◌-◌, ◌*◌, ◌==◌, ◌<◌, ◌≤◌, ◌&&◌, nat_le, nat_lt, if◌then◌else◌, List, length, ap, ◌∙◌, sym, ⊎_elim, arith}
use Rattle.std.proofs.lemmas.Bool.{cases_lt, cases_eq}
use Rattle.std.proofs.lemmas.Bool.Decides.{nat_tests}
use Rattle.std.proofs.lemmas.Nat.{mul-le}
use Rattle.lw_planes.specs.Row.{row_bit}
use Rattle.lw_planes.specs.Bitmap.{row_bytes}
use Rattle.lw_planes.specs.Storage.{bit_place}
use Rattle.lw_planes.specs.Change.{overwritten_bit}
use Rattle.lw_planes.proofs.BitmapLaws.{row_bytes_wide}
use Rattle.lw_planes.proofs.StorageLaws.{place_row}
use Rattle.lw_planes.proofs.ChangeLaws.{chosen_within}

-- a place in a row of n isn't before the place with which a row above begins, nor past those of a row below
row_order : (f r n i : ℕ) → f ≤ r → f * n + 0 ≤ r * n + i
row_order f r n i upto = let less = mul-le f n r n upto (omega arith) in omega arith

row_before : (r e n i : ℕ) → i < n → r < e → r * n + i < e * n
row_before r e n i inside before = let less = mul-le (r + 1) n e n (omega arith) (omega arith) in omega arith

row_past : (r e n i : ℕ) → e ≤ r → e * n ≤ r * n + i
row_past r e n i upto = let less = mul-le e n r n upto (omega arith) in omega arith

-- which rows of which plane the places from the beginning of a row on are in, of so many rows that end with the plane at most
rows_of_plane : (h n k line rows p i j : ℕ) → i < n → j < h → line + rows ≤ h → (k * h + line) * n + 0 ≤ (p * h + j) * n + i → (p * h + j) * n + i < (k * h + line) * n + 0 + rows * n → (p ≡ k) × (line ≤ j) × (j < line + rows)
rows_of_plane h n k line rows p i j inside low high from to =
    let after : k * h + line ≤ p * h + j =
    ⊎_elim
    (λ (early : p * h + j < k * h + line). let less = row_before (p * h + j) (k * h + line) n i inside early in absurd (omega arith))
    (λ (late : k * h + line ≤ p * h + j). late)
    (cases_lt (p * h + j) (k * h + line))
    in
    let before : p * h + j < k * h + line + rows =
    ⊎_elim
    (λ (early : p * h + j < k * h + line + rows). early)
    (λ (late : k * h + line + rows ≤ p * h + j). let more = row_past (p * h + j) (k * h + line + rows) n i late in absurd (omega arith))
    (cases_lt (p * h + j) (k * h + line + rows))
    in
    let plane : p ≡ k =
    ⊎_elim
    (λ (less : p < k). let next = mul-le (p + 1) h k h (omega arith) (omega arith) in absurd (omega arith))
    (λ (upto : k ≤ p). ⊎_elim
    (λ (more : k < p). let next = mul-le (k + 1) h p h (omega arith) (omega arith) in absurd (omega arith))
    (λ (least : p ≤ k). omega arith)
    (cases_lt k p))
    (cases_lt p k)
    in
    let same : p * h ≡ k * h = ap (λ q. q * h) plane in
    (plane, omega arith, omega arith)

-- a choice by plane and line, where it is made and where it isn't
chosen_line : (p k line j rows a b : ℕ) → p ≡ k → line ≤ j → j < line + rows → (if p == k && (nat_le line j && nat_lt j (line + rows)) then a else b) ≡ a
chosen_line p k line j rows a b plane from to = grind (arith, nat_tests)

unchosen_line : (p k line j rows a b : ℕ) → (p ≡ k → line ≤ j → j < line + rows → ⊥) → (if p == k && (nat_le line j && nat_lt j (line + rows)) then a else b) ≡ b
unchosen_line p k line j rows a b other =
    ⊎_elim
    (λ (same : p ≡ k). ⊎_elim
    (λ (early : j < line). grind (arith, nat_tests))
    (λ (late : line ≤ j). ⊎_elim
    (λ (inside : j < line + rows). absurd (other same late inside))
    (λ (past : line + rows ≤ j). grind (arith, nat_tests))
    (cases_lt j (line + rows)))
    (cases_lt j line))
    (λ apart. grind (arith, nat_tests))
    (cases_eq p k)

-- where a place is in the bytes of rows
place_back : (h m k line p i j : ℕ) → p ≡ k → line ≤ j → (p * h + j) * (8 * m) + i - ((k * h + line) * (8 * m) + 0) ≡ 8 * ((j - line) * m) + i
place_back h m k line p i j plane from =
    let same : p * h ≡ k * h = ap (λ q. q * h) plane in
    let gap : ℕ = j - line in
    let row : p * h + j ≡ k * h + line + gap = omega arith in
    rw row (omega arith)

-- one bit of a pen in a bitmap, once the bytes of so many rows were written over rows of a plane
pub bit_in_rows : (w h k line rows : ℕ) (bytes : List ℕ) (i j p old : ℕ) → line + rows ≤ h → length bytes ≡ rows * row_bytes w → i < w → j < h → overwritten_bit w h k line bytes i j p old ≡ (if p == k && (nat_le line j && nat_lt j (line + rows)) then row_bit bytes (8 * ((j - line) * row_bytes w) + i) else old)
bit_in_rows w h k line rows bytes i j p old high long left low =
    let m : ℕ = row_bytes w in
    let wide : w ≤ 8 * m = row_bytes_wide w in
    let inside : i < 8 * m = omega (arith, wide, left) in
    let from : bit_place w h k 0 line ≡ (k * h + line) * (8 * m) + 0 = place_row w h k 0 line in
    let place : bit_place w h p i j ≡ (p * h + j) * (8 * m) + i = place_row w h p i j in
    let all : 8 * length bytes ≡ rows * (8 * m) = rw long (omega arith) in
    let back : p ≡ k → line ≤ j → bit_place w h p i j - bit_place w h k 0 line ≡ 8 * ((j - line) * m) + i = λ plane late. rw (from, place) (place_back h m k line p i j plane late) in
    sym (chosen_within (bit_place w h k 0 line) (8 * length bytes) (bit_place w h p i j) _ (row_bit bytes (bit_place w h p i j - bit_place w h k 0 line)) old
    (λ early. unchosen_line p k line j rows _ old
    (λ plane late before.
    let same : p * h ≡ k * h = ap (λ q. q * h) plane in
    let order = row_order (k * h + line) (p * h + j) (8 * m) i (omega arith) in
    absurd (omega (arith, early, from, place, order))))
    (λ late early.
    let first : (k * h + line) * (8 * m) + 0 ≤ (p * h + j) * (8 * m) + i = omega (arith, late, from, place) in
    let last : (p * h + j) * (8 * m) + i < (k * h + line) * (8 * m) + 0 + rows * (8 * m) = omega (arith, early, from, place, all) in
    let at = rows_of_plane h (8 * m) k line rows p i j inside low high first last in
    chosen_line p k line j rows _ old at.0 at.1 at.2 ∙ ap (λ z. row_bit bytes z) (sym (back at.0 at.1)))
    (λ past. unchosen_line p k line j rows _ old
    (λ plane late before.
    let same : p * h ≡ k * h = ap (λ q. q * h) plane in
    let order = row_before (p * h + j) (k * h + line + rows) (8 * m) i inside (omega arith) in
    absurd (omega (arith, past, from, place, all, order)))))
