-- Eight bytes as a word, whose lowest byte is the first of them, and as much of a row as is changed by one.
use Rattle.std.proofs.Common.{◌≡◌, ℕ, zero, suc, ◌+◌, ◌-◌, ◌*◌, ◌/◌, ◌%◌, ◌^◌, ◌<◌, ◌≤◌, ◌==◌, if◌then◌else◌, List, length, get_or, ap, refl, sym, ◌∙◌, ⊎_elim, arith}
use Rattle.std.specs.Int.{bit_at, w64, to_be_bytes, to_le_bytes, from_le_bytes, swap_bytes, rotate_left}
use Rattle.std.proofs.lemmas.Bool.{cases_lt}
use Rattle.std.proofs.lemmas.Nat.{be_bytes_8, le_bytes_8}
use Rattle.std.proofs.lemmas.Nat.Bits.{bit_at_ones}
use Rattle.lw_planes.specs.Row.{bit_of, row_bit}
use Rattle.lw_kernels.specs.Kernel.{is_between}
use Rattle.lw_kernels.specs.Words.{spot}
use Rattle.lw_kernels.proofs.ByteLaws.{bit_at_cut, bit_at_shr, bit_at_moved, bit_at_before_moved, bit_at_after_moved, bit_at_turned, chosen_by_bit}
use Rattle.lw_kernels.proofs.RowWriting.{Done, done_each, done_inside, done_before, done_after, if_true, if_false, between_yes, between_before, between_after}

-- a byte of a word, from its highest on
word_byte : (n k : ℕ) → k < 8 → get_or (to_be_bytes w64 n) k 0 ≡ n / 2 ^ (56 - 8 * k) % 2 ^ 8
word_byte n zero low = refl
word_byte n (suc zero) low = refl
word_byte n (suc (suc zero)) low = refl
word_byte n (suc (suc (suc zero))) low = refl
word_byte n (suc (suc (suc (suc zero)))) low = refl
word_byte n (suc (suc (suc (suc (suc zero))))) low = refl
word_byte n (suc (suc (suc (suc (suc (suc zero)))))) low = refl
word_byte n (suc (suc (suc (suc (suc (suc (suc zero))))))) low = omega arith
word_byte n (suc (suc (suc (suc (suc (suc (suc (suc k)))))))) low = absurd (omega arith)

-- the bytes of a word, the highest first, are a row of its bits
word_bit : (n j : ℕ) → j < 64 → row_bit (to_be_bytes w64 n) j ≡ bit_at n (63 - j)
unfolding row_bit
word_bit n j low =
    let k : ℕ = j / 8 in
    let i : ℕ = 7 - j % 8 in
    let in_byte : i < 8 = omega arith in
    let place : 56 - 8 * k + i ≡ 63 - j = omega arith in
    ap (λ b. bit_at b i) (word_byte n k (omega arith)) ∙ (bit_at_cut 8 (n / 2 ^ (56 - 8 * k)) i in_byte ∙ (bit_at_shr n (56 - 8 * k) i ∙ ap (bit_at n) place))

-- a byte of a word, from its lowest on
low_byte : (n k : ℕ) → k < 8 → get_or (to_le_bytes w64 n) k 0 ≡ n / 2 ^ (8 * k) % 2 ^ 8
low_byte n zero low = omega arith
low_byte n (suc zero) low = refl
low_byte n (suc (suc zero)) low = refl
low_byte n (suc (suc (suc zero))) low = refl
low_byte n (suc (suc (suc (suc zero)))) low = refl
low_byte n (suc (suc (suc (suc (suc zero))))) low = refl
low_byte n (suc (suc (suc (suc (suc (suc zero)))))) low = refl
low_byte n (suc (suc (suc (suc (suc (suc (suc zero))))))) low = refl
low_byte n (suc (suc (suc (suc (suc (suc (suc (suc k)))))))) low = absurd (omega arith)

-- the bytes of a word, the lowest first, have its bits at their spots
pub low_bit : (n j : ℕ) → j < 64 → row_bit (to_le_bytes w64 n) j ≡ bit_at n (spot j)
unfolding row_bit
low_bit n j low =
    let k : ℕ = j / 8 in
    let i : ℕ = 7 - j % 8 in
    let in_byte : i < 8 = omega arith in
    ap (λ b. bit_at b i) (low_byte n k (omega arith)) ∙ (bit_at_cut 8 (n / 2 ^ (8 * k)) i in_byte ∙ bit_at_shr n (8 * k) i)

low_small : (n i : ℕ) → get_or (to_le_bytes w64 n) i 0 < 256
low_small n zero = omega arith
low_small n (suc zero) = omega arith
low_small n (suc (suc zero)) = omega arith
low_small n (suc (suc (suc zero))) = omega arith
low_small n (suc (suc (suc (suc zero)))) = omega arith
low_small n (suc (suc (suc (suc (suc zero))))) = omega arith
low_small n (suc (suc (suc (suc (suc (suc zero)))))) = omega arith
low_small n (suc (suc (suc (suc (suc (suc (suc zero))))))) = omega arith
low_small n (suc (suc (suc (suc (suc (suc (suc (suc i)))))))) = omega arith

-- a word that was made of eight bytes has their bits
pub word_read : (n : ℕ) (bytes : List ℕ) (j : ℕ) → length bytes ≡ 8 → ((i : ℕ) → get_or bytes i 0 < 256) → n ≡ from_le_bytes w64 bytes → j < 64 → bit_at n (spot j) ≡ row_bit bytes j
word_read n bytes j long small is low = sym (low_bit n j low) ∙ ap (λ bs. row_bit bs j) (le_bytes_8 bytes n long small is)

-- a word whose bytes are turned round has the bits of a row from its highest on
swapped : (n m j : ℕ) → m ≡ swap_bytes w64 n → j < 64 → bit_at m (63 - j) ≡ bit_at n (spot j)
swapped n m j is low = sym (word_bit m j low) ∙ (ap (λ bs. row_bit bs j) (be_bytes_8 (to_le_bytes w64 n) m refl (low_small n) is) ∙ low_bit n j low)

-- and one that has them from its highest on has them at their spots then
pub restored : (n m j : ℕ) → m ≡ swap_bytes w64 n → j < 64 → bit_at m (spot j) ≡ bit_at n (63 - j)
restored n m j is low =
    let i : ℕ = 63 - spot j in
    let in_word : i < 64 = omega arith in
    let place : 63 - i ≡ spot j = omega (arith, low) in
    let back : spot i ≡ 63 - j = omega (arith, low) in
    sym (ap (bit_at m) place) ∙ (swapped n m i is in_word ∙ ap (bit_at n) back)

-- the bits of a row that is turned
pub turned_bits : (word one two three by j : ℕ) → one < 2 ^ 64 → by < 64 → j < 64 → one ≡ swap_bytes w64 word → two ≡ rotate_left w64 one by → three ≡ swap_bytes w64 two → bit_at three (spot j) ≡ bit_at word (spot ((j + by) % 64))
turned_bits word one two three by j small few low is_one is_two is_three =
    let k : ℕ = (j + by) % 64 in
    let in_word : k < 64 = omega arith in
    restored two three j is_three low ∙ (ap (λ n. bit_at n (63 - j)) is_two ∙ (bit_at_turned one by j small few low ∙ swapped word one k is_one in_word))

-- the word that has a 1 in some bits, counted from its highest
pub mask_bit : (lead count j : ℕ) → 0 < count → lead + count ≤ 64 → j < 64 → bit_at (((2 ^ 64 - 1) * 2 ^ (64 - count)) % 2 ^ 64 / 2 ^ lead) (63 - j) ≡ bit_of (is_between lead (lead + count) j)
mask_bit lead count j some inside low =
    let ones : ℕ = 2 ^ 64 - 1 in
    let end : ℕ = lead + count in
    let from : ℕ = 64 - count in
    ⊎_elim
    (λ (early : j < lead). bit_at_before_moved ones from lead j early ∙ sym (ap bit_of (between_before lead end j early)))
    (λ (late : lead ≤ j).
    ⊎_elim
    (λ (within : j < end).
    let near : from + (j - lead) < 64 = omega arith in
    bit_at_moved ones from lead j late low near ∙ (bit_at_ones 64 (63 - (from + (j - lead))) (omega arith) ∙ sym (ap bit_of (between_yes lead end j late within))))
    (λ (past : end ≤ j).
    let far : 64 ≤ from + (j - lead) = omega arith in
    bit_at_after_moved ones from lead j late low far ∙ sym (ap bit_of (between_after lead end j past)))
    (cases_lt j end))
    (cases_lt j lead)

-- a row of which one word was written: the bits that the mask names are new ones, and the others are as they were
pub word_written : (one two : List ℕ) (word bits old mask size at lead count : ℕ) (new : ℕ → ℕ) → size ≤ 8 → lead + count ≤ 8 * size
    → ((i : ℕ) → i < 64 → bit_at word i ≡ (if bit_at mask i == 1 then bit_at bits i else bit_at old i))
    → ((j : ℕ) → j < 64 → bit_at mask (spot j) ≡ bit_of (is_between lead (lead + count) j))
    → ((j : ℕ) → j < 8 * size → bit_at old (spot j) ≡ row_bit one (8 * at + j))
    → ((j : ℕ) → lead ≤ j → j < lead + count → bit_at bits (spot j) ≡ new (8 * at + j))
    → Done two (λ x. bit_at word (spot (x - 8 * at))) (λ x. row_bit one x) (8 * at) (8 * (at + size))
    → Done two new (λ x. row_bit one x) (8 * at + lead) (8 * at + lead + count)
word_written one two word bits old mask size at lead count new small fits picks names olds news done =
    done_each two new (λ x. row_bit one x) (8 * at + lead) (8 * at + lead + count)
    (λ x late low.
    let j : ℕ = x - 8 * at in
    let place : 8 * at + j ≡ x = omega arith in
    let in_word : j < 8 * size = omega arith in
    let begins : lead ≤ j = omega arith in
    let ends : j < lead + count = omega arith in
    there x j place in_word ∙ (if_true (is_between lead (lead + count) j) _ (bit_at bits (spot j)) (bit_at old (spot j)) (choice j in_word) (between_yes lead (lead + count) j begins ends) ∙ (news j begins ends ∙ ap new place)))
    (λ x early.
    ⊎_elim
    (λ (outside : x < 8 * at). done_before two _ (λ x. row_bit one x) (8 * at) (8 * (at + size)) x done outside)
    (λ (within : 8 * at ≤ x).
    let j : ℕ = x - 8 * at in
    let place : 8 * at + j ≡ x = omega arith in
    let in_word : j < 8 * size = omega arith in
    let before : j < lead = omega arith in
    there x j place in_word ∙ (if_false (is_between lead (lead + count) j) _ (bit_at bits (spot j)) (bit_at old (spot j)) (choice j in_word) (between_before lead (lead + count) j before) ∙ (olds j in_word ∙ ap (row_bit one) place)))
    (cases_lt x (8 * at)))
    (λ x late.
    ⊎_elim
    (λ (within : x < 8 * (at + size)).
    let j : ℕ = x - 8 * at in
    let place : 8 * at + j ≡ x = omega arith in
    let in_word : j < 8 * size = omega arith in
    let after : lead + count ≤ j = omega arith in
    there x j place in_word ∙ (if_false (is_between lead (lead + count) j) _ (bit_at bits (spot j)) (bit_at old (spot j)) (choice j in_word) (between_after lead (lead + count) j after) ∙ (olds j in_word ∙ ap (row_bit one) place)))
    (λ (outside : 8 * (at + size) ≤ x). done_after two _ (λ x. row_bit one x) (8 * at) (8 * (at + size)) x done outside)
    (cases_lt x (8 * (at + size))))
  where
    there : (x j : ℕ) → 8 * at + j ≡ x → j < 8 * size → row_bit two x ≡ bit_at word (spot j)
    there x j place low =
        let first : 8 * at ≤ x = omega arith in
        let last : x < 8 * (at + size) = omega arith in
        let same : x - 8 * at ≡ j = omega arith in
        done_inside two (λ x. bit_at word (spot (x - 8 * at))) (λ x. row_bit one x) (8 * at) (8 * (at + size)) x done first last ∙ ap (λ n. bit_at word (spot n)) same

    choice : (j : ℕ) → j < 8 * size → bit_at word (spot j) ≡ (if is_between lead (lead + count) j then bit_at bits (spot j) else bit_at old (spot j))
    choice j low =
        let in_word : j < 64 = omega (arith, small, low) in
        chosen_by_bit (is_between lead (lead + count) j) (bit_at word (spot j)) (bit_at mask (spot j)) (bit_at bits (spot j)) (bit_at old (spot j)) (names j in_word) (picks (spot j) (omega (arith, in_word)))
