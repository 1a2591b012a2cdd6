-- Bits that were copied, by whole bytes and as the minterm of a copy says.
use Rattle.std.proofs.Common.{◌≡◌, ℕ, ◌+◌, ◌-◌, ◌*◌, ◌/◌, ◌%◌, ◌<◌, ◌≤◌, List, length, take, drop, ◌++◌, get_or, bit_and, ap, refl, sym, ◌∙◌, arith}
use Rattle.std.specs.Int.{bit_at}
use Rattle.std.proofs.lemmas.List.{get_or-append_right, get_or_append_left, get_or-take, get_or-drop, length-take-le}
use Rattle.lw_planes.specs.Row.{row_bit}
use Rattle.lw_planes.proofs.RowLaws.{row_bit_lt}
use Rattle.lw_kernels.specs.Kernel.{blit_bit}
use Rattle.lw_kernels.proofs.ByteLaws.{minterm_copies}
use Rattle.lw_kernels.proofs.RowWriting.{Done, done_each, done_same}
use borrow.Rule.Slice.PartMut.{put_mid}

-- equal bytes have equal bits
row_bit_same : (row source : List ℕ) (x y : ℕ) → get_or row (x / 8) 0 ≡ get_or source (y / 8) 0 → x % 8 ≡ y % 8 → row_bit row x ≡ row_bit source y
unfolding row_bit
row_bit_same row source x y byte bit = ap (λ n. bit_at n (7 - x % 8)) byte ∙ ap (λ n. bit_at (get_or source (y / 8) 0) (7 - n)) bit

-- bytes of a row that are those of a source, and the other ones its old ones
pub copied_bits : (row was source : List ℕ) (first last start : ℕ) → ((i : ℕ) → first ≤ i → i < last → get_or row i 0 ≡ get_or source (start + (i - first)) 0) → ((i : ℕ) → i < first → get_or row i 0 ≡ get_or was i 0) → ((i : ℕ) → last ≤ i → get_or row i 0 ≡ get_or was i 0) → Done row (λ x. row_bit source (8 * start + (x - 8 * first))) (λ x. row_bit was x) (8 * first) (8 * last)
copied_bits row was source first last start inside below above =
    done_each row (λ x. row_bit source (8 * start + (x - 8 * first))) (λ x. row_bit was x) (8 * first) (8 * last)
    (λ x p q.
    let byte : start + (x / 8 - first) ≡ (8 * start + (x - 8 * first)) / 8 = omega arith in
    let bit : x % 8 ≡ (8 * start + (x - 8 * first)) % 8 = omega arith in
    row_bit_same row source x (8 * start + (x - 8 * first)) (inside (x / 8) (omega arith) (omega arith) ∙ ap (λ n. get_or source n 0) byte) bit)
    (λ x p. row_bit_same row was x x (below (x / 8) (omega arith)) refl)
    (λ x p. row_bit_same row was x x (above (x / 8) (omega arith)) refl)

-- a part of a list that was written anew
pub mid_inside : (xs ys : List ℕ) (a k i : ℕ) → length ys ≡ k → a + k ≤ length xs → a ≤ i → i < a + k → get_or (put_mid a k xs ys) i 0 ≡ get_or ys (i - a) 0
mid_inside xs ys a k i long fits p q =
    let small : a ≤ length xs = omega arith in
    let low : i - a < length ys = omega arith in
    get_or-append_right (take a xs) (ys ++ drop k (drop a xs)) a i 0 (length-take-le a xs small) p ∙ get_or_append_left ys (drop k (drop a xs)) 0 (i - a) low

-- what stands before it
pub mid_below : (xs ys : List ℕ) (a k i : ℕ) → a + k ≤ length xs → i < a → get_or (put_mid a k xs ys) i 0 ≡ get_or xs i 0
mid_below xs ys a k i fits p =
    let small : a ≤ length xs = omega arith in
    let long : length (take a xs) ≡ a = length-take-le a xs small in
    let low : i < length (take a xs) = omega (arith, long) in
    get_or_append_left (take a xs) (ys ++ drop k (drop a xs)) 0 i low ∙ get_or-take a xs i 0 p

-- what stands after it
pub mid_above : (xs ys : List ℕ) (a k i : ℕ) → length ys ≡ k → a + k ≤ length xs → a + k ≤ i → get_or (put_mid a k xs ys) i 0 ≡ get_or xs i 0
mid_above xs ys a k i long fits p =
    let small : a ≤ length xs = omega arith in
    let late : a ≤ i = omega arith in
    let later : k ≤ i - a = omega arith in
    let place : a + (k + (i - a - k)) ≡ i = omega arith in
    get_or-append_right (take a xs) (ys ++ drop k (drop a xs)) a i 0 (length-take-le a xs small) late ∙
    (get_or-append_right ys (drop k (drop a xs)) k (i - a) 0 long later ∙
    (get_or-drop k (drop a xs) (i - a - k) 0 ∙ (get_or-drop a xs (k + (i - a - k)) 0 ∙ ap (λ n. get_or xs n 0) place)))

-- a blit by the minterm of a copy gives the source's bits
pub blit_copies : (source : List ℕ) (old : ℕ → ℕ) (minterm place from x : ℕ) → bit_and minterm 240 ≡ 192 → blit_bit minterm (row_bit source) place old from x ≡ row_bit source (place + (x - from))
blit_copies source old minterm place from x is = minterm_copies minterm (row_bit source (place + (x - from))) (old x) (row_bit_lt source (place + (x - from))) is

-- copied bits are those of a blit by the minterm of a copy
pub done_blit : (row source : List ℕ) (old : ℕ → ℕ) (minterm place from end : ℕ) → bit_and minterm 240 ≡ 192 → Done row (λ x. row_bit source (place + (x - from))) old from end → Done row (blit_bit minterm (row_bit source) place old from) old from end
done_blit row source old minterm place from end is done =
    done_same row (λ x. row_bit source (place + (x - from))) (blit_bit minterm (row_bit source) place old from) old from end done
    (λ x p q. sym (blit_copies source old minterm place from x is))
