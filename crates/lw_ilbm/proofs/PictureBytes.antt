-- The bytes of a picture, row after row, and its planes.
use Rattle.std.proofs.Common.{◌≡◌, ℕ, suc, ◌+◌, ◌-◌, ◌*◌, ◌/◌, ◌%◌, ◌≤◌, ◌<◌, List, ◌++◌, length, take, drop, get_or, refl, ap, sym, ◌∙◌, inl, inr, arith, get_or-drop, get_or-take, get_or-append-add, length-append, length-take, length-take-le, length-drop, true, false}
use Rattle.std.specs.Prelude.{slice_index, nat_lt, Ok, Err, if◌then◌else◌}
use Rattle.std.specs.Int.{bit_at}
use Rattle.std.proofs.lemmas.Bool.{cases_lt, lt-leb}
use Rattle.std.proofs.lemmas.List.{get_or_append_left}
use Rattle.std.proofs.lemmas.Nat.{mul-le, mul-add-lt, mod-mul-add, div-mul-add, div_below, mod_below}
use Rattle.lw_planes.proofs.BitmapLaws.{row_bytes_wide, bitmap_same}
use Rattle.lw_planes.proofs.PenLaws.{pen_of_same}
use Rattle.lw_planes.proofs.RowLaws.{row_bit_at}
use Rattle.lw_planes.specs.Pen.{pen_of}
use Rattle.lw_planes.specs.Row.{row_bit}
use Rattle.lw_planes.specs.Bitmap.{Bitmap, row_bytes}
use Rattle.lw_planes.specs.Storage.{stored, bit_place}
use Rattle.lw_ilbm.specs.declared.header.Header.{Header}
use Rattle.lw_ilbm.specs.Packing.{unpacked}
use Rattle.lw_ilbm.specs.Pictures.{picture, picture_length}
use Rattle.lw_ilbm.specs.Reading.{body_of}
use Rattle.lw_ilbm.specs.Rows.{HaveRows}

-- row k of the d rows that stand for row y ends within the bytes
row_ends : (h d n y k : ℕ) → y < h → k < d → (y * d + k) * n + n ≤ h * (d * n)
row_ends h d n y k low deep =
    let before : y * d + k < d * h = mul-add-lt y d k h low deep in
    let whole = mul-le (y * d + k + 1) n (d * h) n (omega (arith, before)) (omega arith) in
    omega (arith, whole)

pub row_within : (h d n r : ℕ) → 1 ≤ h → r < d * h → (r % h * d + r / h) * n + n ≤ h * (d * n)
row_within h d n r some low = row_ends h d n (r % h) (r / h) (mod_below r h some) (div_below r h d some low)

-- one row more
pub row_longer : (n row from : ℕ) (bytes planes new : List ℕ) → length planes ≡ row * n → from + n ≤ length bytes
    → new ≡ planes ++ take (from + n - from) (drop from bytes) → length new ≡ (row + 1) * n
row_longer n row from bytes planes new long within is =
    let left = length-drop from bytes in
    let piece = length-take-le (from + n - from) (drop from bytes) (omega (arith, left, within)) in
    ap length is ∙ (length-append planes (take (from + n - from) (drop from bytes)) ∙ omega (arith, long, piece))

pub rows_more : (h d n row : ℕ) (bytes planes new : List ℕ) → HaveRows h d n row bytes planes → length planes ≡ row * n
    → (let from = (row % h * d + row / h) * n in new ≡ planes ++ take (from + n - from) (drop from bytes))
    → HaveRows h d n (row + 1) bytes new
rows_more h d n row bytes planes new have long is r i low inside = go ((row % h * d + row / h) * n) refl is
  where
    go : (from : ℕ) → from ≡ (row % h * d + row / h) * n → new ≡ planes ++ take (from + n - from) (drop from bytes)
        → slice_index new (r * n + i) ≡ slice_index bytes ((r % h * d + r / h) * n + i)
    go from start told =
        elim (cases_lt r row) [
          | inl before ↦
              let past = mul-le (r + 1) n row n (omega (arith, before)) (omega arith) in
              ap (λ l. get_or l (r * n + i) 0) told
              ∙ (get_or_append_left planes (take (from + n - from) (drop from bytes)) 0 (r * n + i) (omega (arith, past, inside, long))
              ∙ have r i before inside)
          | inr after ↦
              let here : r ≡ row = omega (arith, after, low) in
              let place : r * n + i ≡ length planes + i = ap (λ q. q * n + i) here ∙ omega (arith, long) in
              ap (λ l. get_or l (r * n + i) 0) told ∙ (ap (λ p. get_or (planes ++ take (from + n - from) (drop from bytes)) p 0) place
              ∙ (get_or-append-add planes (take (from + n - from) (drop from bytes)) i 0
              ∙ (get_or-take (from + n - from) (drop from bytes) i 0 (omega (arith, inside))
              ∙ (get_or-drop from bytes i 0 ∙ (ap (λ f. get_or bytes (f + i) 0) start
              ∙ ap (λ q. get_or bytes ((q % h * d + q / h) * n + i) 0) (sym here))))))
        ]

-- a bit of a row by its byte
bit_of_byte : (xs ys : List ℕ) (from to n w x : ℕ) → w ≤ 8 * n → x < w
    → ((i : ℕ) → i < n → get_or xs (from + i) 0 ≡ get_or ys (to + i) 0) → row_bit xs (8 * from + x) ≡ row_bit ys (8 * to + x)
bit_of_byte xs ys from to n w x room wide same =
    let i : ℕ = x / 8 in
    let j : ℕ = x % 8 in
    let whole : 8 * i + j ≡ x = omega arith in
    let small : j < 8 = omega arith in
    let within : i < n = omega (arith, room, wide) in
    ap (row_bit xs) (omega (arith, whole)) ∙ (row_bit_at xs (from + i) j small
    ∙ (ap (λ c. bit_at c (7 - j)) (same i within) ∙ (sym (row_bit_at ys (to + i) j small) ∙ ap (row_bit ys) (omega (arith, whole)))))

-- all rows of planes
pub planes_have : (head : Header) (bytes planes : List ℕ)
    → HaveRows head.height head.depth (row_bytes head.width) (head.depth * head.height) bytes planes
    → stored head.width head.height head.depth planes ≡ picture head bytes
unfolding bit_place
planes_have head bytes planes have =
    let w : ℕ = head.width in
    let h : ℕ = head.height in
    let d : ℕ = head.depth in
    bitmap_same w h d (λ x y. pen_of d (λ k. row_bit planes (bit_place w h k x y)))
    (λ x y. pen_of d (λ k. row_bit bytes (8 * ((y * d + k) * row_bytes w) + x)))
    (λ x y wide low. pen_of_same d (λ k. row_bit planes (bit_place w h k x y)) (λ k. row_bit bytes (8 * ((y * d + k) * row_bytes w) + x))
    (λ k deep. go (row_bytes w) (row_bytes_wide w) have x y k wide low deep))
  where
    go : (n : ℕ) → head.width ≤ 8 * n → HaveRows head.height head.depth n (head.depth * head.height) bytes planes → (x y k : ℕ)
        → x < head.width → y < head.height → k < head.depth
        → row_bit planes (8 * ((k * head.height + y) * n) + x) ≡ row_bit bytes (8 * ((y * head.depth + k) * n) + x)
    go n room rows x y k wide low deep =
        let r : ℕ = k * head.height + y in
        let inside : r < head.depth * head.height = (let l = mul-add-lt k head.height y head.depth deep low in omega (arith, l)) in
        bit_of_byte planes bytes (r * n) ((y * head.depth + k) * n) n head.width x room wide
        (λ i short. rows r i inside short ∙ (ap (λ q. get_or bytes ((q * head.depth + r / head.height) * n + i) 0) (mod-mul-add k head.height y low)
        ∙ ap (λ q. get_or bytes ((y * head.depth + q) * n + i) 0) (div-mul-add k head.height y low)))

-- bytes after a picture's own are no part of it
pub picture_first : (head : Header) (bytes : List ℕ) → picture head (take (picture_length head) bytes) ≡ picture head bytes
picture_first head bytes =
    let w : ℕ = head.width in
    let h : ℕ = head.height in
    let d : ℕ = head.depth in
    bitmap_same w h d (λ x y. pen_of d (λ k. row_bit (take (picture_length head) bytes) (8 * ((y * d + k) * row_bytes w) + x)))
    (λ x y. pen_of d (λ k. row_bit bytes (8 * ((y * d + k) * row_bytes w) + x)))
    (λ x y wide low. pen_of_same d (λ k. row_bit (take (picture_length head) bytes) (8 * ((y * d + k) * row_bytes w) + x))
    (λ k. row_bit bytes (8 * ((y * d + k) * row_bytes w) + x))
    (λ k deep. go (row_bytes w) (row_bytes_wide w) x y k wide low deep))
  where
    go : (n : ℕ) → head.width ≤ 8 * n → (x y k : ℕ) → x < head.width → y < head.height → k < head.depth
        → row_bit (take (head.height * (head.depth * n)) bytes) (8 * ((y * head.depth + k) * n) + x)
        ≡ row_bit bytes (8 * ((y * head.depth + k) * n) + x)
    go n room x y k wide low deep =
        let ends = row_ends head.height head.depth n y k low deep in
        bit_of_byte (take (head.height * (head.depth * n)) bytes) bytes ((y * head.depth + k) * n) ((y * head.depth + k) * n) n head.width x room wide
        (λ i short. get_or-take (head.height * (head.depth * n)) bytes ((y * head.depth + k) * n + i) 0 (omega (arith, ends, short)))

-- the picture of a packed body
pub packed_body : (head : Header) (end : ℕ) (contents bytes : List ℕ) (planes : Bitmap) → head.is_packed ≡ true
    → bytes ≡ take (picture_length head) (unpacked contents) → picture_length head ≤ length bytes → planes ≡ picture head bytes
    → body_of head end contents ≡ Ok planes
packed_body head end contents bytes planes is told enough gives =
    let all : List ℕ = unpacked contents in
    let part = length-take (picture_length head) all in
    let same : length bytes ≡ length (take (picture_length head) all) = ap length told in
    let whole : nat_lt (length all) (picture_length head) ≡ false =
    lt-leb (suc (length all)) (picture_length head) (omega (arith, part, same, enough)) in
    ap (λ t. let l = if t then all else contents in if nat_lt (length l) (picture_length head) then Err end else Ok (picture head l)) is
    ∙ (ap (λ t. if t then Err end else Ok (picture head all)) whole
    ∙ ap (λ p. Ok p) (sym (gives ∙ (ap (picture head) told ∙ picture_first head all))))
