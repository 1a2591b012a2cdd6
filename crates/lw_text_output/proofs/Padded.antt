-- Rows of planes with zeros in their padding.
use Rattle.std.proofs.Common.{◌≡◌, ℕ, zero, suc, ◌+◌, ◌-◌, ◌*◌, ◌/◌, ◌^◌, ◌<◌, ◌≤◌, nat_lt, if◌then◌else◌, List, [], ◌∷◌, length, get_or, min, bit_and, ◌∙◌, sym, refl, ap, ⊎_elim, arith}
use Rattle.std.specs.Int.{bit_at}
use Rattle.std.proofs.lemmas.Bool.{cases_lt}
use Rattle.std.proofs.lemmas.Bool.Decides.{nat_tests}
use Rattle.std.proofs.lemmas.List.FromFn.{fill_by_all}
use Rattle.std.proofs.lemmas.Nat.{and_le_l}
use Rattle.std.proofs.lemmas.Nat.Bits.{bit_at-lt, bit_at_and, bit_at_mask_inside, bit_at_mask_below}
use Rattle.lw_planes.specs.Pen.{byte_of}
use Rattle.lw_planes.specs.Row.{row_bit}
use Rattle.lw_planes.specs.Bitmap.{Bitmap, pen_at, row_bytes, plane_bit, plane_row}
use Rattle.lw_planes.proofs.PenLaws.{byte_same, byte_of_same}
use Rattle.lw_planes.proofs.RowLaws.{row_bit_at}
use Rattle.lw_text_output.specs.Padding.{leftmost_bits, without_padding}
use Rattle.lw_planes.proofs.DefinitionLaws.{plane_bit_inside, plane_bit_padding}

-- bit j from the left of a byte of which the leftmost bits are kept
abbrev kept_bit : ℕ → ℕ → ℕ → ℕ
kept_bit kept byte j = if nat_lt j kept then bit_at byte (7 - j) else 0

-- a bit that is kept
kept_bit_kept : (kept byte j : ℕ) → j < kept → kept_bit kept byte j ≡ bit_at byte (7 - j)
kept_bit_kept kept byte j h = let bit : ℕ = bit_at byte (7 - j) in grind (arith, nat_tests)

-- a bit that is not kept
kept_bit_dropped : (kept byte j : ℕ) → kept ≤ j → kept_bit kept byte j ≡ 0
kept_bit_dropped kept byte j h = let bit : ℕ = bit_at byte (7 - j) in grind (arith, nat_tests)

-- a byte of which all bits are kept
pub leftmost_bits_whole : (kept byte : ℕ) → byte < 256 → 8 ≤ kept → byte ≡ leftmost_bits kept byte
unfolding leftmost_bits
leftmost_bits_whole kept byte small all =
    sym (byte_same byte small) ∙ byte_of_same (λ j. bit_at byte (7 - j)) (kept_bit kept byte) (λ j h. sym (kept_bit_kept kept byte j (omega arith)))

-- the mask of the leftmost bits
mask_is : (kept : ℕ) → kept < 8 → 255 - 255 / 2 ^ kept ≡ 2 ^ 8 - 2 ^ (8 - kept)
mask_is zero h = refl
mask_is (suc zero) h = refl
mask_is (suc (suc zero)) h = refl
mask_is (suc (suc (suc zero))) h = refl
mask_is (suc (suc (suc (suc zero)))) h = refl
mask_is (suc (suc (suc (suc (suc zero))))) h = refl
mask_is (suc (suc (suc (suc (suc (suc zero)))))) h = refl
mask_is (suc (suc (suc (suc (suc (suc (suc zero))))))) h = refl
mask_is (suc (suc (suc (suc (suc (suc (suc (suc kept)))))))) h = absurd (omega arith)

-- the lesser of a bit and one
min_one : (a b : ℕ) → a < 2 → b ≡ 1 → min a b ≡ a
min_one a b h e = omega arith

-- the lesser of a bit and zero
min_none : (a b : ℕ) → b ≡ 0 → min a b ≡ 0
min_none a b e = omega arith

-- each bit of a byte under the mask
bit_masked : (kept byte j : ℕ) → j < 8 → bit_at (bit_and byte (2 ^ 8 - 2 ^ (8 - kept))) (7 - j) ≡ kept_bit kept byte j
bit_masked kept byte j h =
    let both : bit_at (bit_and byte (2 ^ 8 - 2 ^ (8 - kept))) (7 - j) ≡ min (bit_at byte (7 - j)) (bit_at (2 ^ 8 - 2 ^ (8 - kept)) (7 - j)) = bit_at_and byte (2 ^ 8 - 2 ^ (8 - kept)) (7 - j) in
    ⊎_elim
    (λ (low : j < kept).
    both ∙ (min_one (bit_at byte (7 - j)) (bit_at (2 ^ 8 - 2 ^ (8 - kept)) (7 - j)) (bit_at-lt byte (7 - j)) (bit_at_mask_inside (8 - kept) 8 (7 - j) (omega arith) (omega arith)) ∙ sym (kept_bit_kept kept byte j low)))
    (λ (high : kept ≤ j).
    both ∙ (min_none (bit_at byte (7 - j)) (bit_at (2 ^ 8 - 2 ^ (8 - kept)) (7 - j)) (bit_at_mask_below (8 - kept) 8 (7 - j) (omega arith)) ∙ sym (kept_bit_dropped kept byte j high)))
    (cases_lt j kept)

-- a byte under the mask of its leftmost bits
pub leftmost_bits_masked : (kept byte : ℕ) → byte < 256 → kept < 8 → bit_and byte (255 - 255 / 2 ^ kept) ≡ leftmost_bits kept byte
unfolding leftmost_bits
leftmost_bits_masked kept byte small low =
    let masked : bit_and byte (255 - 255 / 2 ^ kept) ≡ bit_and byte (2 ^ 8 - 2 ^ (8 - kept)) = ap (bit_and byte) (mask_is kept low) in
    let fits : bit_and byte (2 ^ 8 - 2 ^ (8 - kept)) < 256 = omega (arith, and_le_l byte (2 ^ 8 - 2 ^ (8 - kept))) in
    masked ∙ (sym (byte_same (bit_and byte (2 ^ 8 - 2 ^ (8 - kept))) fits) ∙ byte_of_same (λ j. bit_at (bit_and byte (2 ^ 8 - 2 ^ (8 - kept))) (7 - j)) (kept_bit kept byte) (λ j h. bit_masked kept byte j h))

-- as many bytes as before
length_without_padding : (w : ℕ) (row : List ℕ) → length (without_padding w row) ≡ length row
length_without_padding w [] = refl
length_without_padding w (byte ∷ bytes) = ap suc (length_without_padding (w - 8) bytes)

-- byte i of a row with zeros in its padding
without_padding_at : (w : ℕ) (row : List ℕ) (i : ℕ) → i < length row → get_or (without_padding w row) i 0 ≡ leftmost_bits (w - 8 * i) (get_or row i 0)
without_padding_at w [] i h = absurd (omega arith)
without_padding_at w (byte ∷ bytes) zero h = let whole : w ≡ w - 8 * 0 = omega arith in ap (λ n. leftmost_bits n byte) whole
without_padding_at w (byte ∷ bytes) (suc i) h =
    let left : (w - 8) - 8 * i ≡ w - 8 * suc i = omega arith in
    without_padding_at (w - 8) bytes i (omega arith) ∙ ap (λ n. leftmost_bits n (get_or bytes i 0)) left

-- a bit that is kept of a row's byte is the plane's bit
kept_plane_bit : (b : Bitmap) (k y : ℕ) (row : List ℕ) → ((x : ℕ) → x < b.width → row_bit row x ≡ bit_at (pen_at b x y) k) → (i j : ℕ) → j < 8 → kept_bit (b.width - 8 * i) (get_or row i 0) j ≡ plane_bit b k (8 * i + j) y
kept_plane_bit b k y row bits i j h =
    ⊎_elim
    (λ (inside : 8 * i + j < b.width).
    let is : bit_at (get_or row i 0) (7 - j) ≡ bit_at (pen_at b (8 * i + j) y) k = sym (row_bit_at row i j h) ∙ bits (8 * i + j) inside in
    let low : j < b.width - 8 * i = omega arith in
    kept_bit_kept (b.width - 8 * i) (get_or row i 0) j low ∙ (is ∙ sym (plane_bit_inside b k (8 * i + j) y inside)))
    (λ (past : b.width ≤ 8 * i + j).
    let high : b.width - 8 * i ≤ j = omega arith in
    kept_bit_dropped (b.width - 8 * i) (get_or row i 0) j high ∙ sym (plane_bit_padding b k (8 * i + j) y past))
    (cases_lt (8 * i + j) b.width)

-- bytes with a row's bits are, with zeros in the padding, the row of the plane
pub padded_row : (b : Bitmap) (k y w : ℕ) (row : List ℕ) → w ≡ b.width → length row ≡ row_bytes b.width → ((x : ℕ) → x < b.width → row_bit row x ≡ bit_at (pen_at b x y) k) → without_padding w row ≡ plane_row b k y
unfolding plane_row leftmost_bits byte_of
padded_row b k y w row width long bits =
    ap (λ n. without_padding n row) width ∙
    fill_by_all (λ i. byte_of (λ j. plane_bit b k (8 * i + j) y)) (without_padding b.width row) (row_bytes b.width) 0
    (length_without_padding b.width row ∙ long)
    (λ i low. let inside : i < length row = omega arith in
    without_padding_at b.width row i inside ∙ byte_of_same (kept_bit (b.width - 8 * i) (get_or row i 0)) (λ j. plane_bit b k (8 * i + j) y) (λ j h. kept_plane_bit b k y row bits i j h))
