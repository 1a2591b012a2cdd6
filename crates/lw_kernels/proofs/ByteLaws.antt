-- Laws of single bytes, bit by bit from the left.
use Rattle.std.proofs.Common.{◌≡◌, ℕ, zero, suc, ◌+◌, ◌-◌, ◌*◌, ◌/◌, ◌%◌, ◌^◌, ◌<◌, ◌≤◌, ◌==◌, ◌&&◌, nat_lt, nat_le, min, max, sym, if◌then◌else◌, Bool, true, false, List, get_or, bit_and, bit_or, bit_xor, ap, refl, ◌∙◌, ⊎_elim, arith}
use mir.Val.{bits}
use Rattle.std.specs.Int.{Width, bit_at, bit_not, rotate_left, w8, w64}
use Rattle.std.proofs.lemmas.Bool.{cases_lt}
use Rattle.std.proofs.lemmas.Bool.Decides.{nat_tests}
use Rattle.std.proofs.lemmas.Nat.{shr-shr, pow_pos, div-add-mod'}
use Rattle.std.proofs.lemmas.Nat.Bits.{bit_at-lt, bit_at_ones, bit_at_ones_above, bit_at_not, bit_at_and, bit_at_or, bit_at_xor, bit_at_cat_low, bit_at_cat_high, bit_at-zero, bit_at_above}
use Rattle.lw_planes.specs.Row.{bit_of, row_bit}
use Rattle.lw_planes.specs.Minterm.{minterm_bit}
use Rattle.lw_kernels.specs.Kernel.{is_between}

-- a shifted number has the bits from the shift on
pub bit_at_shr : (n k i : ℕ) → bit_at (n / 2 ^ k) i ≡ bit_at n (k + i)
bit_at_shr n k i = ap (λ m. m % 2) (shr-shr n k i)

-- a choice by an order, from both of its cases
chosen_below : (j n v a b : ℕ) → (j < n → v ≡ a) → (n ≤ j → v ≡ b) → v ≡ (if nat_lt j n then a else b)
chosen_below j n v a b below past =
    ⊎_elim
    (λ (low : j < n). let is : v ≡ a = below low in grind (arith, nat_tests))
    (λ (high : n ≤ j). let is : v ≡ b = past high in grind (arith, nat_tests))
    (cases_lt j n)

-- the choice by an order that holds
lt_choice : (j n v a b : ℕ) → j < n → v ≡ (if nat_lt j n then a else b) → v ≡ a
lt_choice j n v a b low is = grind (arith, nat_tests)

-- the choice by an order that doesn't hold
ge_choice : (j n v a b : ℕ) → n ≤ j → v ≡ (if nat_lt j n then a else b) → v ≡ b
ge_choice j n v a b high is = grind (arith, nat_tests)

-- the ones that are not before a bit
pub bit_at_ones_from : (first j : ℕ) → first ≤ 8 → j < 8 → bit_at (255 / 2 ^ first) (7 - j) ≡ (if nat_lt j first then 0 else 1)
bit_at_ones_from first j most low =
    chosen_below j first (bit_at (255 / 2 ^ first) (7 - j)) 0 1
    (λ before. let high : 8 ≤ first + (7 - j) = omega arith in bit_at_shr 255 first (7 - j) ∙ bit_at_ones_above 8 (first + (7 - j)) high)
    (λ past. let small : first + (7 - j) < 8 = omega arith in bit_at_shr 255 first (7 - j) ∙ bit_at_ones 8 (first + (7 - j)) small)

-- the bits of one number that another one leaves out
bit_at_and_not : (w : Width) (a b i : ℕ) → b < 2 ^ bits w → i < bits w → bit_at (bit_and a (bit_not w b)) i ≡ min (bit_at a i) (1 - bit_at b i)
bit_at_and_not w a b i small low = bit_at_and a (bit_not w b) i ∙ ap (λ n. min (bit_at a i) n) (bit_at_not w b i small low)

-- ones from one bit on without those from another on are the bits between
between_bit : (from end base j first last v a b : ℕ) → j < 8 → first ≡ min (from - base) 8 → last ≡ min (end - base) 8 → a ≡ (if nat_lt j first then 0 else 1) → b ≡ (if nat_lt j last then 0 else 1) → v ≡ min a (1 - b) → v ≡ bit_of (nat_le from (base + j) && nat_lt (base + j) end)
between_bit from end base j first last v a b low is_first is_last is_a is_b is =
    ⊎_elim
    (λ (before : base + j < from). let none : a ≡ 0 = grind (arith, nat_tests) in grind (arith, nat_tests))
    (λ (after : from ≤ base + j).
    let one : a ≡ 1 = grind (arith, nat_tests) in
    ⊎_elim
    (λ (inside : base + j < end). let kept : b ≡ 0 = grind (arith, nat_tests) in grind (arith, nat_tests))
    (λ (past : end ≤ base + j). let gone : b ≡ 1 = grind (arith, nat_tests) in grind (arith, nat_tests))
    (cases_lt (base + j) end))
    (cases_lt (base + j) from)

-- a mask has the bits between two bits of the row
pub bit_at_mask : (from end index first last ones_first ones_last j : ℕ) → ones_last < 256 → j < 8 → first ≡ min (from - 8 * index) 8 → last ≡ min (end - 8 * index) 8 → bit_at ones_first (7 - j) ≡ (if nat_lt j first then 0 else 1) → bit_at ones_last (7 - j) ≡ (if nat_lt j last then 0 else 1) → bit_at (bit_and ones_first (255 - ones_last)) (7 - j) ≡ bit_of (is_between from end (8 * index + j))
bit_at_mask from end index first last ones_first ones_last j small low is_first is_last a b =
    between_bit from end (8 * index) j first last (bit_at (bit_and ones_first (255 - ones_last)) (7 - j)) (bit_at ones_first (7 - j)) (bit_at ones_last (7 - j)) low is_first is_last a b
    (bit_at_and_not w8 ones_first ones_last (7 - j) small (omega arith))

-- one bit of what a mask takes from two bytes
masked_bit : (value old m : ℕ) → value < 2 → old < 2 → m < 2 → max (min value m) (min old (1 - m)) ≡ (if m == 1 then value else old)
masked_bit value old m a b c = grind (arith, nat_tests)

-- a number whose bits under a mask are those of another
pub bit_at_picked : (w : Width) (value old mask i : ℕ) → mask < 2 ^ bits w → i < bits w → bit_at (bit_or (bit_and value mask) (bit_and old (bit_not w mask))) i ≡ (if bit_at mask i == 1 then bit_at value i else bit_at old i)
bit_at_picked w value old mask i small low =
    bit_at_or (bit_and value mask) (bit_and old (bit_not w mask)) i ∙
    (ap (λ n. max n (bit_at (bit_and old (bit_not w mask)) i)) (bit_at_and value mask i) ∙
    (ap (λ n. max (min (bit_at value i) (bit_at mask i)) n) (bit_at_and_not w old mask i small low) ∙
    masked_bit (bit_at value i) (bit_at old i) (bit_at mask i) (bit_at-lt value i) (bit_at-lt old i) (bit_at-lt mask i)))

-- one bit of what a mask takes from two words, by what they differ in
merged_bit : (m v value old : ℕ) → m < 2 → value < 2 → old < 2 → v ≡ (min ((value + old) % 2) m + old) % 2 → v ≡ (if m == 1 then value else old)
merged_bit zero v value old few small low is = let same : (min ((value + old) % 2) 0 + old) % 2 ≡ old = omega arith in is ∙ same
merged_bit (suc zero) v value old few small low is = let same : (min ((value + old) % 2) 1 + old) % 2 ≡ value = omega arith in is ∙ same
merged_bit (suc (suc m)) v value old few small low is = absurd (omega arith)

-- a number whose bits under a mask are those of another, as what they differ in is changed
pub bit_at_merged : (value old mask i : ℕ) → bit_at (bit_xor (bit_and (bit_xor value old) mask) old) i ≡ (if bit_at mask i == 1 then bit_at value i else bit_at old i)
bit_at_merged value old mask i =
    merged_bit (bit_at mask i) (bit_at (bit_xor (bit_and (bit_xor value old) mask) old) i) (bit_at value i) (bit_at old i) (bit_at-lt mask i) (bit_at-lt value i) (bit_at-lt old i)
    (bit_at_xor (bit_and (bit_xor value old) mask) old i ∙
    ap (λ n. (n + bit_at old i) % 2) (bit_at_and (bit_xor value old) mask i ∙ ap (λ n. min n (bit_at mask i)) (bit_at_xor value old i)))

-- a choice by a bit that is a truth value
pub chosen_by_bit : (t : Bool) (v m a b : ℕ) → m ≡ bit_of t → v ≡ (if m == 1 then a else b) → v ≡ (if t then a else b)
chosen_by_bit true v m a b is chosen = chosen ∙ ap (λ n. if n == 1 then a else b) is
chosen_by_bit false v m a b is chosen = chosen ∙ ap (λ n. if n == 1 then a else b) is

-- the low eight bits of a number are its own
pub bit_at_low_byte : (n i : ℕ) → i < 8 → bit_at (bit_and n 255) i ≡ bit_at n i
bit_at_low_byte n i low =
    let one : bit_at 255 i ≡ 1 = bit_at_ones 8 i low in
    let small : bit_at n i < 2 = bit_at-lt n i in
    let both : bit_at (bit_and n 255) i ≡ min (bit_at n i) (bit_at 255 i) = bit_at_and n 255 i in
    omega arith

-- bits of a pair of bytes, moved to the right by `lead`: the second byte counts where a bit lies in it
pub pair_bit : (row : List ℕ) (index shift left right lead j : ℕ) → right < 256 → shift < 8 → lead ≤ j → j < 8 → left ≡ get_or row index 0 → (8 ≤ shift + (j - lead) → right ≡ get_or row (index + 1) 0) → bit_at (bit_and ((left * 256 + right) / 2 ^ (8 - shift + lead)) 255) (7 - j) ≡ row_bit row (8 * index + shift + (j - lead))
unfolding row_bit
pair_bit row index shift left right lead j small few begins low is_left is_right =
    let i : ℕ = 8 - shift + lead + (7 - j) in
    let x : ℕ = 8 * index + shift + (j - lead) in
    let in_byte : 7 - j < 8 = omega arith in
    bit_at_low_byte ((left * 256 + right) / 2 ^ (8 - shift + lead)) (7 - j) in_byte ∙
    (bit_at_shr (left * 256 + right) (8 - shift + lead) (7 - j) ∙
    ⊎_elim
    (λ (first : shift + (j - lead) < 8).
    let high : 8 ≤ i = omega arith in
    let byte : x / 8 ≡ index = omega arith in
    let bit : i - 8 ≡ 7 - x % 8 = omega arith in
    bit_at_cat_high left 8 right i small high ∙ rw (bit, byte, ← is_left))
    (λ (second : 8 ≤ shift + (j - lead)).
    let in_right : i < 8 = omega arith in
    let byte : x / 8 ≡ index + 1 = omega arith in
    let bit : i ≡ 7 - x % 8 = omega arith in
    bit_at_cat_low left 8 right i in_right ∙ rw (bit, byte, ← is_right second))
    (cases_lt (shift + (j - lead)) 8))

-- a number that is cut to so many bits has its own in them
pub bit_at_cut : (k n i : ℕ) → i < k → bit_at (n % 2 ^ k) i ≡ bit_at n i
bit_at_cut k n i low = sym (bit_at_cat_low (n / 2 ^ k) k (n % 2 ^ k) i low) ∙ ap (λ m. bit_at m i) (div-add-mod' n (2 ^ k))

-- a number of so many bits that is shifted to the left has no bits below the shift, and above it those from its lowest on
pub bit_at_shl : (k a n i : ℕ) → i < k → bit_at ((a * 2 ^ n) % 2 ^ k) i ≡ (if nat_lt i n then 0 else bit_at a (i - n))
bit_at_shl k a n i low =
    let whole : ℕ = a * 2 ^ n in
    let same : whole ≡ whole + 0 = omega arith in
    bit_at_cut k whole i low ∙ (ap (λ m. bit_at m i) same ∙
    chosen_below i n (bit_at (whole + 0) i) 0 (bit_at a (i - n))
    (λ below. bit_at_cat_low a n 0 i below ∙ bit_at-zero i)
    (λ past. bit_at_cat_high a n 0 i (pow_pos n) past))

-- a word that is shifted to the left and then to the right: the bits that are moved
pub bit_at_moved : (word from to j : ℕ) → to ≤ j → j < 64 → from + (j - to) < 64 → bit_at ((word * 2 ^ from) % 2 ^ 64 / 2 ^ to) (63 - j) ≡ bit_at word (63 - (from + (j - to)))
bit_at_moved word from to j late low inside =
    let i : ℕ = to + (63 - j) in
    let in_word : i < 64 = omega arith in
    let reached : from ≤ i = omega arith in
    let place : i - from ≡ 63 - (from + (j - to)) = omega arith in
    bit_at_shr ((word * 2 ^ from) % 2 ^ 64) to (63 - j) ∙
    (ge_choice i from (bit_at ((word * 2 ^ from) % 2 ^ 64) i) 0 (bit_at word (i - from)) reached (bit_at_shl 64 word from i in_word) ∙ ap (bit_at word) place)

-- those to the left of them
pub bit_at_before_moved : (word from to j : ℕ) → j < to → bit_at ((word * 2 ^ from) % 2 ^ 64 / 2 ^ to) (63 - j) ≡ 0
bit_at_before_moved word from to j early =
    let small : (word * 2 ^ from) % 2 ^ 64 < 2 ^ 64 = omega arith in
    let above : 64 ≤ to + (63 - j) = omega arith in
    bit_at_shr ((word * 2 ^ from) % 2 ^ 64) to (63 - j) ∙ bit_at_above ((word * 2 ^ from) % 2 ^ 64) 64 (to + (63 - j)) small above

-- and those to the right of them
pub bit_at_after_moved : (word from to j : ℕ) → to ≤ j → j < 64 → 64 ≤ from + (j - to) → bit_at ((word * 2 ^ from) % 2 ^ 64 / 2 ^ to) (63 - j) ≡ 0
bit_at_after_moved word from to j late low past =
    let i : ℕ = to + (63 - j) in
    let in_word : i < 64 = omega arith in
    let below : i < from = omega arith in
    bit_at_shr ((word * 2 ^ from) % 2 ^ 64) to (63 - j) ∙ lt_choice i from (bit_at ((word * 2 ^ from) % 2 ^ 64) i) 0 (bit_at word (i - from)) below (bit_at_shl 64 word from i in_word)

-- the greater of two bits of which the second is 0
max_zero : (a b c : ℕ) → a ≡ c → b ≡ 0 → max a b ≡ c
max_zero a b c p q = omega arith

-- the greater of two bits of which the first is 0
zero_max : (a b c : ℕ) → a ≡ 0 → b ≡ c → max a b ≡ c
zero_max a b c p q = omega arith

-- the greater of two equal bits
max_same : (a b c : ℕ) → a ≡ c → b ≡ c → max a b ≡ c
max_same a b c p q = omega arith

-- a word that is rotated, its bits counted from the highest
pub bit_at_turned : (n by j : ℕ) → n < 2 ^ 64 → by < 64 → j < 64 → bit_at (rotate_left w64 n by) (63 - j) ≡ bit_at n (63 - (j + by) % 64)
bit_at_turned n by j small few low =
    let i : ℕ = 63 - j in
    let turn : ℕ = by % 64 in
    let back : ℕ = (64 - turn) % 64 in
    let first : ℕ = bit_at ((n * 2 ^ turn) % 2 ^ 64) i in
    let second : ℕ = bit_at (n / 2 ^ back) i in
    let wanted : ℕ = bit_at n (63 - (j + by) % 64) in
    let in_word : i < 64 = omega arith in
    let chosen : first ≡ (if nat_lt i turn then 0 else bit_at n (i - turn)) = bit_at_shl 64 n turn i in_word in
    let from_second : second ≡ bit_at n (back + i) = bit_at_shr n back i in
    bit_at_or ((n * 2 ^ turn) % 2 ^ 64) (n / 2 ^ back) i ∙
    ⊎_elim
    (λ (below : i < turn).
    let place : back + i ≡ 63 - (j + by) % 64 = omega (arith, below, few, low) in
    zero_max first second wanted (lt_choice i turn first 0 (bit_at n (i - turn)) below chosen) (from_second ∙ ap (bit_at n) place))
    (λ (past : turn ≤ i).
    let place : i - turn ≡ 63 - (j + by) % 64 = omega (arith, past, few, low) in
    let is_first : first ≡ wanted = ge_choice i turn first 0 (bit_at n (i - turn)) past chosen ∙ ap (bit_at n) place in
    ⊎_elim
    (λ (none : turn < 1).
    let same : back + i ≡ 63 - (j + by) % 64 = omega (arith, none, few, low) in
    max_same first second wanted is_first (from_second ∙ ap (bit_at n) same))
    (λ (some : 1 ≤ turn).
    let high : 64 ≤ back + i = omega (arith, some, past, few) in
    max_zero first second wanted is_first (from_second ∙ bit_at_above n 64 (back + i) small high))
    (cases_lt turn 1))
    (cases_lt i turn)

-- a bit of a pair of bytes that was shifted
pub bit_at_shifted : (left right shift j : ℕ) → right < 256 → 0 < shift → shift < 8 → j < 8 → bit_at (bit_or ((left * 2 ^ shift) % 256) (right / 2 ^ (8 - shift))) (7 - j) ≡ (if nat_lt (shift + j) 8 then bit_at left (7 - (shift + j)) else bit_at right (15 - (shift + j)))
bit_at_shifted left right shift j small some few low =
    let i : ℕ = 7 - j in
    let in_byte : i < 8 = omega arith in
    let first : ℕ = bit_at ((left * 2 ^ shift) % 256) i in
    let second : ℕ = bit_at (right / 2 ^ (8 - shift)) i in
    let from_right : second ≡ bit_at right (8 - shift + i) = bit_at_shr right (8 - shift) i in
    bit_at_or ((left * 2 ^ shift) % 256) (right / 2 ^ (8 - shift)) i ∙
    chosen_below (shift + j) 8 (max first second) (bit_at left (7 - (shift + j))) (bit_at right (15 - (shift + j)))
    (λ inside.
    let high : 8 ≤ 8 - shift + i = omega arith in
    let reached : shift ≤ i = omega arith in
    let place : i - shift ≡ 7 - (shift + j) = omega arith in
    max_zero first second (bit_at left (7 - (shift + j)))
    (ge_choice i shift first 0 (bit_at left (i - shift)) reached (bit_at_shl 8 left shift i in_byte) ∙ ap (λ n. bit_at left n) place)
    (from_right ∙ bit_at_above right 8 (8 - shift + i) small high))
    (λ past.
    let below : i < shift = omega arith in
    let place : 8 - shift + i ≡ 15 - (shift + j) = omega arith in
    zero_max first second (bit_at right (15 - (shift + j)))
    (lt_choice i shift first 0 (bit_at left (i - shift)) below (bit_at_shl 8 left shift i in_byte))
    (from_right ∙ ap (λ n. bit_at right n) place))

-- a shifted pair of neighbouring bytes of a row
pub shifted_row : (row : List ℕ) (at left right shift j v : ℕ) → j < 8 → left ≡ get_or row at 0 → right ≡ get_or row (at + 1) 0 → v ≡ (if nat_lt (shift + j) 8 then bit_at left (7 - (shift + j)) else bit_at right (15 - (shift + j))) → shift < 8 → v ≡ row_bit row (8 * at + shift + j)
unfolding row_bit
shifted_row row at left right shift j v low is_left is_right is few =
    ⊎_elim
    (λ (inside : shift + j < 8).
    let byte : (8 * at + shift + j) / 8 ≡ at = omega arith in
    let bit : 7 - (shift + j) ≡ 7 - (8 * at + shift + j) % 8 = omega arith in
    lt_choice (shift + j) 8 v (bit_at left (7 - (shift + j))) (bit_at right (15 - (shift + j))) inside is ∙ rw (← bit, byte, is_left) refl)
    (λ (past : 8 ≤ shift + j).
    let byte : (8 * at + shift + j) / 8 ≡ at + 1 = omega arith in
    let bit : 15 - (shift + j) ≡ 7 - (8 * at + shift + j) % 8 = omega arith in
    ge_choice (shift + j) 8 v (bit_at left (7 - (shift + j))) (bit_at right (15 - (shift + j))) past is ∙ rw (← bit, byte, is_right) refl)
    (cases_lt (shift + j) 8)

-- a shifted pair of bytes that stand in two rows at the same place
pub shifted_pair : (one two : List ℕ) (index left right shift j v : ℕ) → j < 8 → shift < 8 → left ≡ get_or one index 0 → right ≡ get_or two index 0 → v ≡ (if nat_lt (shift + j) 8 then bit_at left (7 - (shift + j)) else bit_at right (15 - (shift + j))) → v ≡ (if nat_lt ((8 * index + j) % 8 + shift) 8 then row_bit one (8 * index + j + shift) else row_bit two (8 * index + j + shift - 8))
unfolding row_bit
shifted_pair one two index left right shift j v low few is_left is_right is =
    chosen_below ((8 * index + j) % 8 + shift) 8 v (row_bit one (8 * index + j + shift)) (row_bit two (8 * index + j + shift - 8))
    (λ below.
    let inside : shift + j < 8 = omega (arith, below, low) in
    let byte : (8 * index + j + shift) / 8 ≡ index = omega (arith, inside) in
    let bit : 7 - (shift + j) ≡ 7 - (8 * index + j + shift) % 8 = omega (arith, inside) in
    lt_choice (shift + j) 8 v (bit_at left (7 - (shift + j))) (bit_at right (15 - (shift + j))) inside is ∙ rw (← bit, byte, is_left) refl)
    (λ above.
    let past : 8 ≤ shift + j = omega (arith, above, low) in
    let byte : (8 * index + j + shift - 8) / 8 ≡ index = omega (arith, past, low, few) in
    let bit : 15 - (shift + j) ≡ 7 - (8 * index + j + shift - 8) % 8 = omega (arith, past, low, few) in
    ge_choice (shift + j) 8 v (bit_at left (7 - (shift + j))) (bit_at right (15 - (shift + j))) past is ∙ rw (← bit, byte, is_right) refl)

-- a bit of a number of which some bits are tested at once
tested_bit : (minterm mask value i : ℕ) → bit_and minterm mask ≡ value → bit_at mask i ≡ 1 → bit_at minterm i ≡ bit_at value i
tested_bit minterm mask value i is one =
    let both : bit_at (bit_and minterm mask) i ≡ min (bit_at minterm i) (bit_at mask i) = bit_at_and minterm mask i in
    let same : bit_at (bit_and minterm mask) i ≡ bit_at value i = ap (λ n. bit_at n i) is in
    let small : bit_at minterm i < 2 = bit_at-lt minterm i in
    omega arith

-- a choice by two bits that depends on the first alone
chosen_copies : (m7 m6 m5 m4 b c : ℕ) → b < 2 → m7 ≡ 1 → m6 ≡ 1 → m5 ≡ 0 → m4 ≡ 0 → (if b == 1 then (if c == 1 then m7 else m6) else (if c == 1 then m5 else m4)) ≡ b
chosen_copies m7 m6 m5 m4 b c small p q r s = grind (arith, nat_tests)

-- the minterm of a copy has the source bit for its value
pub minterm_copies : (minterm b c : ℕ) → b < 2 → bit_and minterm 240 ≡ 192 → minterm_bit minterm b c ≡ b
minterm_copies minterm b c small is =
    chosen_copies (bit_at minterm 7) (bit_at minterm 6) (bit_at minterm 5) (bit_at minterm 4) b c small
    (tested_bit minterm 240 192 7 is refl) (tested_bit minterm 240 192 6 is refl) (tested_bit minterm 240 192 5 is refl) (tested_bit minterm 240 192 4 is refl)

-- the lower four bits of a minterm are not read
pub minterm_high : (m n b c : ℕ) → m / 16 ≡ n / 16 → minterm_bit m b c ≡ minterm_bit n b c
minterm_high m n b c same =
    let bit : (k : ℕ) → bit_at m (4 + k) ≡ bit_at n (4 + k) = λ k. sym (bit_at_shr m 4 k) ∙ (ap (λ p. bit_at p k) same ∙ bit_at_shr n 4 k) in
    rw (bit 0, bit 1, bit 2, bit 3) refl
