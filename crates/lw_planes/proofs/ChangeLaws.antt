-- Laws of a row that is written back into a bitmap.
use Rattle.std.proofs.Common.{◌≡◌, ℕ, ◌+◌, ◌-◌, ◌*◌, ◌/◌, ◌%◌, ◌<◌, ◌≤◌, ◌&&◌, nat_lt, nat_le, if◌then◌else◌, List, ◌++◌, length, get_or, take, drop, ◌∙◌, ap, ⊎_elim, add-zero, arith}
use Rattle.std.specs.Int.{bit_at}
use Rattle.std.proofs.lemmas.Bool.{cases_lt}
use Rattle.std.proofs.lemmas.Bool.Decides.{nat_tests}
use Rattle.std.proofs.lemmas.List.{places}
use Rattle.lw_planes.specs.Pen.{pen_of}
use Rattle.lw_planes.specs.Row.{row_bit}
use Rattle.lw_planes.specs.Bitmap.{pen_at, row_bytes}
use Rattle.lw_planes.specs.Storage.{row_start, bit_place, stored}
use Rattle.lw_planes.specs.Change.{written_bit, written_rows, with_row}
use Rattle.lw_planes.proofs.GridLaws.{grid_same}
use Rattle.lw_planes.proofs.PenLaws.{pen_of_same}
use Rattle.lw_planes.proofs.StorageLaws.{bit_stored, place_inside, bitmap_of_rows, row_start_is, row_start_inside}

-- a choice by a range, from its three cases
pub chosen_within : (from n place v a b : ℕ) → (place < from → v ≡ b) → (from ≤ place → place < from + n → v ≡ a) → (from + n ≤ place → v ≡ b) → v ≡ (if nat_le from place && nat_lt place (from + n) then a else b)
chosen_within from n place v a b before inside after =
    ⊎_elim
    (λ (low : place < from). let is : v ≡ b = before low in grind (arith, nat_tests))
    (λ (high : from ≤ place). ⊎_elim
    (λ (low : place < from + n). let is : v ≡ a = inside high low in grind (arith, nat_tests))
    (λ (past : from + n ≤ place). let is : v ≡ b = after past in grind (arith, nat_tests))
    (cases_lt place (from + n)))
    (cases_lt place from)

-- what is chosen within the range
pub chosen_inside : (from n place v a b : ℕ) → v ≡ (if nat_le from place && nat_lt place (from + n) then a else b) → from ≤ place → place < from + n → v ≡ a
chosen_inside from n place v a b chosen low high = grind (arith, nat_tests)

-- what is chosen before the range
pub chosen_before : (from n place v a b : ℕ) → v ≡ (if nat_le from place && nat_lt place (from + n) then a else b) → place < from → v ≡ b
chosen_before from n place v a b chosen low = grind (arith, nat_tests)

-- what is chosen after the range
pub chosen_after : (from n place v a b : ℕ) → v ≡ (if nat_le from place && nat_lt place (from + n) then a else b) → from + n ≤ place → v ≡ b
chosen_after from n place v a b chosen past = grind (arith, nat_tests)

-- bytes once others were written over them from one place on, in as many bytes as they were
pub overwritten : List ℕ → ℕ → List ℕ → List ℕ
overwritten bytes start row =
    let all : List ℕ = take start bytes ++ (row ++ drop (length row) (drop start bytes)) in
    take (length bytes) (all ++ drop (length all) bytes)

-- a byte before those that were written
overwritten_before : (bytes : List ℕ) (start : ℕ) (row : List ℕ) (i : ℕ) → start ≤ length bytes → i < length bytes → i < start → get_or (overwritten bytes start row) i 0 ≡ get_or bytes i 0
unfolding overwritten
overwritten_before bytes start row i inside low before = grind (arith, places)

-- a byte that was written
overwritten_inside : (bytes : List ℕ) (start : ℕ) (row : List ℕ) (i : ℕ) → start ≤ length bytes → i < length bytes → start ≤ i → i < start + length row → get_or (overwritten bytes start row) i 0 ≡ get_or row (i - start) 0
unfolding overwritten
overwritten_inside bytes start row i inside low from to = grind (arith, places)

-- a byte after those that were written
overwritten_after : (bytes : List ℕ) (start : ℕ) (row : List ℕ) (i : ℕ) → start ≤ length bytes → i < length bytes → start + length row ≤ i → get_or (overwritten bytes start row) i 0 ≡ get_or bytes i 0
unfolding overwritten
overwritten_after bytes start row i inside low past = grind (arith, places)

-- a bit once bytes were written over others
overwritten_bit : (bytes : List ℕ) (start : ℕ) (row : List ℕ) (z : ℕ) → start ≤ length bytes → z < 8 * length bytes → row_bit (overwritten bytes start row) z ≡ (if nat_le (8 * start) z && nat_lt z (8 * start + 8 * length row) then row_bit row (z - 8 * start) else row_bit bytes z)
unfolding row_bit
overwritten_bit bytes start row z inside low =
    let i : ℕ = z / 8 in
    let j : ℕ = 7 - z % 8 in
    let byte_low : i < length bytes = omega arith in
    chosen_within (8 * start) (8 * length row) z (bit_at (get_or (overwritten bytes start row) i 0) j) (row_bit row (z - 8 * start)) (bit_at (get_or bytes i 0) j)
    (λ before. let early : i < start = omega arith in ap (λ n. bit_at n j) (overwritten_before bytes start row i inside byte_low early))
    (λ from to.
    let late : start ≤ i = omega arith in
    let early : i < start + length row = omega arith in
    let byte : (z - 8 * start) / 8 ≡ i - start = omega arith in
    let place : (z - 8 * start) % 8 ≡ z % 8 = omega arith in
    ap (λ n. bit_at n j) (overwritten_inside bytes start row i inside byte_low late early) ∙ rw (byte, place))
    (λ past. let late : start + length row ≤ i = omega arith in ap (λ n. bit_at n j) (overwritten_after bytes start row i inside byte_low late))

-- the place with which a row begins
place_of_start : (w h k y start : ℕ) → start ≡ row_start h (row_bytes w) k y → bit_place w h k 0 y ≡ 8 * start
unfolding bit_place
place_of_start w h k y start is = rw is (add-zero _)

-- a place's bit once a row's bytes were written over
written_stored : (w h d : ℕ) (bytes : List ℕ) (k y start : ℕ) (row : List ℕ) (p i j : ℕ) → length bytes ≡ d * h * row_bytes w → start ≤ length bytes → start ≡ row_start h (row_bytes w) k y → p < d → i < w → j < h → row_bit (overwritten bytes start row) (bit_place w h p i j) ≡ written_bit (stored w h d bytes) k y row i j p
written_stored w h d bytes k y start row p i j long inside is deep left low =
    let place : ℕ = bit_place w h p i j in
    let below : place < 8 * (d * h * row_bytes w) = place_inside w h d p i j deep left low in
    let in_bytes : place < 8 * length bytes = rw long below in
    let from : bit_place w h k 0 y ≡ 8 * start = place_of_start w h k y start is in
    let old : bit_at (pen_at (stored w h d bytes) i j) p ≡ row_bit bytes place = bit_stored w h d bytes p i j deep left low in
    rw (from, old) (overwritten_bit bytes start row place inside in_bytes)

-- once a row's bytes were written over, the bytes store the bitmap with this row
pub stored_with_row : (w h d : ℕ) (bytes : List ℕ) (k y start : ℕ) (row : List ℕ) → length bytes ≡ d * h * row_bytes w → start ≤ length bytes → start ≡ row_start h (row_bytes w) k y → stored w h d (overwritten bytes start row) ≡ with_row (stored w h d bytes) k y row
unfolding written_rows bit_place
stored_with_row w h d bytes k y start row long inside is =
    ap (λ rows. bitmap_of_rows w h d rows)
    (grid_same w h (λ i j. pen_of d (λ p. row_bit (overwritten bytes start row) (bit_place w h p i j))) (λ i j. pen_of d (λ p. written_bit (stored w h d bytes) k y row i j p))
    (λ i j left low. pen_of_same d (λ p. row_bit (overwritten bytes start row) (bit_place w h p i j)) (λ p. written_bit (stored w h d bytes) k y row i j p)
    (λ p deep. written_stored w h d bytes k y start row p i j long inside is deep left low)))

-- a row begins in the bytes
begins_inside : (start row n all total : ℕ) → start ≡ row → row + n ≤ all → total ≡ all → start ≤ total
begins_inside start row n all total is whole long = omega arith

-- once what a body lent was written back, the bytes store the bitmap with this row
pub row_written : (w h d : ℕ) (bytes : List ℕ) (k y start n m : ℕ) (row : List ℕ) → m ≡ length bytes → start ≡ (k * h + y) * n → n ≡ row_bytes w → k < d → y < h → length bytes ≡ d * h * row_bytes w → stored w h d (take m (take start bytes ++ (row ++ drop (length row) (drop start bytes)) ++ drop (length (take start bytes ++ (row ++ drop (length row) (drop start bytes)))) bytes)) ≡ with_row (stored w h d bytes) k y row
unfolding overwritten
row_written w h d bytes k y start n m row is_m is is_n deep low long =
    let begins : start ≡ row_start h (row_bytes w) k y = row_start_is w h k y start n is is_n in
    let whole : row_start h (row_bytes w) k y + row_bytes w ≤ d * h * row_bytes w = row_start_inside h (row_bytes w) d k y deep low in
    let inside : start ≤ length bytes = begins_inside start (row_start h (row_bytes w) k y) (row_bytes w) (d * h * row_bytes w) (length bytes) begins whole long in
    ap (λ q. stored w h d (take q (take start bytes ++ (row ++ drop (length row) (drop start bytes)) ++ drop (length (take start bytes ++ (row ++ drop (length row) (drop start bytes)))) bytes))) is_m ∙
    stored_with_row w h d bytes k y start row long inside begins
