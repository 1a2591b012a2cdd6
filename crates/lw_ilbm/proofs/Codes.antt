-- Codes, one after another.
use Rattle.std.proofs.Common.{◌≡◌, ℕ, zero, suc, ◌+◌, ◌-◌, ◌≤◌, ◌<◌, ◌==◌, min, Bool, true, false, List, [], ◌∷◌, ◌++◌, length, take, drop, refl, ap, sym, subst, ◌∙◌, arith, append_assoc}
use Rattle.std.specs.Prelude.{slice_index, replicate, if◌then◌else◌}
use Rattle.std.proofs.lemmas.Bool.{lt-leb, le-leb, ne_eqb}
use Rattle.std.proofs.Math.Seq.{take-length}
use Rattle.lw_ilbm.specs.Packing.{equal_bytes, has_three_equal, bytes_before_three, packed_after, packed, unpacked_after, unpacked, code_limit}

-- bytes that stand in the code before
packed_skip : (skip : ℕ) (bs : List ℕ) → packed_after skip bs ≡ packed (drop skip bs)
packed_skip zero bs = refl
packed_skip (suc skip) [] = refl
packed_skip (suc skip) (b ∷ bs) = packed_skip skip bs

pub before_more : (count : ℕ) (bytes : List ℕ) → count < length bytes → has_three_equal (drop count bytes) ≡ false
    → bytes_before_three (drop count bytes) ≡ 1 + bytes_before_three (drop (count + 1) bytes)
before_more zero [] low other = absurd (omega (arith, low))
before_more zero (b ∷ bs) low other = rw other refl
before_more (suc count) [] low other = absurd (omega (arith, low))
before_more (suc count) (b ∷ bs) low other =
    let next : suc (count + 1) ≡ suc count + 1 = omega arith in
    before_more count bs (omega (arith, low)) other ∙ ap (λ n. 1 + bytes_before_three (drop n (b ∷ bs))) next

pub equal_is_short : (b : ℕ) (bs : List ℕ) → equal_bytes b bs ≤ length bs
equal_is_short b [] = omega arith
equal_is_short b (c ∷ cs) = go (c == b) (equal_is_short b cs)
  where
    go : (t : Bool) → equal_bytes b cs ≤ length cs → (if t then 1 + equal_bytes b cs else 0) ≤ suc (length cs)
    go true h = omega (arith, h)
    go false h = omega (arith, h)

-- a code, and those after it
repeat_first : (m b : ℕ) (bs : List ℕ) → has_three_equal (b ∷ bs) ≡ true → suc m ≡ min code_limit (equal_bytes b (b ∷ bs))
    → packed (b ∷ bs) ≡ (257 - suc m) ∷ b ∷ packed (drop m bs)
repeat_first m b bs three is =
    ap (λ t. if t then (257 - min code_limit (equal_bytes b (b ∷ bs))) ∷ b ∷ packed_after (min code_limit (equal_bytes b (b ∷ bs)) - 1) bs
    else (min code_limit (bytes_before_three (b ∷ bs)) - 1) ∷ (take (min code_limit (bytes_before_three (b ∷ bs))) (b ∷ bs)
    ++ packed_after (min code_limit (bytes_before_three (b ∷ bs)) - 1) bs)) three
    ∙ (ap (λ n. (257 - n) ∷ b ∷ packed_after (n - 1) bs) (sym is)
    ∙ (ap (λ n. (257 - suc m) ∷ b ∷ packed_after n bs) (omega arith) ∙ ap (λ l. (257 - suc m) ∷ b ∷ l) (packed_skip m bs)))

copy_first : (m b : ℕ) (bs : List ℕ) → has_three_equal (b ∷ bs) ≡ false → suc m ≡ min code_limit (bytes_before_three (b ∷ bs))
    → packed (b ∷ bs) ≡ m ∷ (take (suc m) (b ∷ bs) ++ packed (drop m bs))
copy_first m b bs three is =
    ap (λ t. if t then (257 - min code_limit (equal_bytes b (b ∷ bs))) ∷ b ∷ packed_after (min code_limit (equal_bytes b (b ∷ bs)) - 1) bs
    else (min code_limit (bytes_before_three (b ∷ bs)) - 1) ∷ (take (min code_limit (bytes_before_three (b ∷ bs))) (b ∷ bs)
    ++ packed_after (min code_limit (bytes_before_three (b ∷ bs)) - 1) bs)) three
    ∙ (ap (λ n. (n - 1) ∷ (take n (b ∷ bs) ++ packed_after (n - 1) bs)) (sym is)
    ∙ (ap (λ n. n ∷ (take (suc m) (b ∷ bs) ++ packed_after n bs)) (omega arith) ∙ ap (λ l. m ∷ (take (suc m) (b ∷ bs) ++ l)) (packed_skip m bs)))

pub repeat_packed : (n : ℕ) (bytes : List ℕ) → 0 < length bytes → 0 < n → has_three_equal bytes ≡ true
    → n ≡ min code_limit (equal_bytes (slice_index bytes 0) bytes)
    → packed bytes ≡ (257 - n) ∷ slice_index bytes 0 ∷ packed (drop n bytes)
repeat_packed n [] some more three is = absurd (omega (arith, some))
repeat_packed zero (b ∷ bs) some more three is = absurd (omega (arith, more))
repeat_packed (suc m) (b ∷ bs) some more three is = repeat_first m b bs three is

pub copy_packed : (n : ℕ) (bytes : List ℕ) → 0 < length bytes → 0 < n → has_three_equal bytes ≡ false
    → n ≡ min code_limit (bytes_before_three bytes)
    → packed bytes ≡ (n - 1) ∷ (take n bytes ++ packed (drop n bytes))
copy_packed n [] some more three is = absurd (omega (arith, some))
copy_packed zero (b ∷ bs) some more three is = absurd (omega (arith, more))
copy_packed (suc m) (b ∷ bs) some more three is =
    copy_first m b bs three is ∙ ap (λ n. n ∷ (take (suc m) (b ∷ bs) ++ packed (drop m bs))) (omega arith)

-- what codes stand for, code after code
copied : (n : ℕ) (bytes : List ℕ) → unpacked_after n bytes ≡ take n bytes ++ unpacked (drop n bytes)
copied zero bytes = refl
copied (suc n) [] = refl
copied (suc n) (b ∷ bs) = ap (λ l. b ∷ l) (copied n bs)

none_taken : (n : ℕ) → take {A = ℕ} n [] ≡ []
none_taken zero = refl
none_taken (suc n) = refl

none_left : (n : ℕ) → drop {A = ℕ} n [] ≡ []
none_left zero = refl
none_left (suc n) = refl

-- no more bytes than there are
take_within : (n : ℕ) (xs : List ℕ) → take (min (length xs) n) xs ≡ take n xs
take_within zero [] = refl
take_within zero (x ∷ xs) = ap (λ m. take m (x ∷ xs)) none
  where
    none : min (suc (length xs)) zero ≡ zero
    none = omega arith
take_within (suc n) [] = none_taken (min zero (suc n))
take_within (suc n) (x ∷ xs) = ap (λ m. take m (x ∷ xs)) next ∙ ap (λ l. x ∷ l) (take_within n xs)
  where
    next : min (suc (length xs)) (suc n) ≡ suc (min (length xs) n)
    next = omega arith

drop_within : (n : ℕ) (xs : List ℕ) → drop (min (length xs) n) xs ≡ drop n xs
drop_within zero [] = refl
drop_within zero (x ∷ xs) = ap (λ m. drop m (x ∷ xs)) none
  where
    none : min (suc (length xs)) zero ≡ zero
    none = omega arith
drop_within (suc n) [] = none_left (min zero (suc n))
drop_within (suc n) (x ∷ xs) = ap (λ m. drop m (x ∷ xs)) next ∙ drop_within n xs
  where
    next : min (suc (length xs)) (suc n) ≡ suc (min (length xs) n)
    next = omega arith

copy_all : (c : ℕ) (xs : List ℕ) → c < 128 → unpacked (c ∷ xs) ≡ take (suc c) xs ++ unpacked (drop (suc c) xs)
copy_all c [] low = refl
copy_all c (b ∷ bs) low = rw (le-leb c 127 (omega (arith, low))) (copied (suc c) (b ∷ bs))

copy_unpacked : (codes : List ℕ) (n : ℕ) → 0 < length codes → slice_index codes 0 < 128
    → n ≡ min (length (drop 1 codes)) (slice_index codes 0 + 1)
    → unpacked codes ≡ take n (drop 1 codes) ++ unpacked (drop (n + 1) codes)
copy_unpacked [] n some low is = absurd (omega (arith, some))
copy_unpacked (c ∷ bs) n some low is =
    let count : min (length bs) (suc c) ≡ n = omega (arith, is) in
    let next : suc n ≡ n + 1 = omega arith in
    copy_all c bs low ∙ (ap (λ l. l ++ unpacked (drop (suc c) bs)) (sym (take_within (suc c) bs))
    ∙ (ap (λ l. take (min (length bs) (suc c)) bs ++ unpacked l) (sym (drop_within (suc c) bs))
    ∙ (ap (λ m. take m bs ++ unpacked (drop m bs)) count ∙ ap (λ m. take n bs ++ unpacked (drop m (c ∷ bs))) next)))

pub nothing_unpacked : (codes : List ℕ) → 0 < length codes → slice_index codes 0 ≡ 128 → unpacked codes ≡ unpacked (drop 1 codes)
nothing_unpacked [] some is = absurd (omega (arith, some))
nothing_unpacked (c ∷ []) some is = refl
nothing_unpacked (c ∷ b ∷ bs) some is = rw is refl

pub cut_unpacked : (codes : List ℕ) → 0 < length codes → length (drop 1 codes) ≡ 0 → unpacked codes ≡ unpacked (drop 1 codes)
cut_unpacked [] some is = absurd (omega (arith, some))
cut_unpacked (c ∷ []) some is = refl
cut_unpacked (c ∷ b ∷ bs) some is = absurd (omega (arith, is))

pub repeat_unpacked : (codes : List ℕ) → 1 < length codes → 128 < slice_index codes 0
    → unpacked codes ≡ replicate (257 - slice_index codes 0) (slice_index codes 1) ++ unpacked (drop 2 codes)
repeat_unpacked [] some high = absurd (omega (arith, some))
repeat_unpacked (c ∷ []) some high = absurd (omega (arith, some))
repeat_unpacked (c ∷ b ∷ bs) some high =
    rw (lt-leb c 127 (omega (arith, high)), ne_eqb c 128 (λ e. omega (arith, high, e))) refl

-- all bytes but the first
pub rest_whole : (codes : List ℕ) → take (length codes - 1) (drop 1 codes) ≡ drop 1 codes
rest_whole [] = none_taken (zero - 1)
rest_whole (c ∷ bs) = ap (λ n. take n bs) all ∙ take-length bs
  where
    all : suc (length bs) - 1 ≡ length bs
    all = omega arith

-- a copy that is written
pub copy_written : (codes out new : List ℕ) (n : ℕ) → 0 < length codes → slice_index codes 0 < 128
    → n ≡ min (length (take (length codes - 1) (drop 1 codes))) (slice_index codes 0 + 1)
    → new ≡ out ++ take n (take (length codes - 1) (drop 1 codes))
    → new ++ unpacked (drop (n + 1) codes) ≡ out ++ unpacked codes
copy_written codes out new n some low count is =
    let rest : List ℕ = unpacked (drop (n + 1) codes) in
    let plain : n ≡ min (length (drop 1 codes)) (slice_index codes 0 + 1) =
    subst (λ l. n ≡ min (length l) (slice_index codes 0 + 1)) (rest_whole codes) count in
    ap (λ l. l ++ rest) is ∙ (append_assoc out (take n (take (length codes - 1) (drop 1 codes))) rest
    ∙ ap (λ l. out ++ l) (ap (λ l. take n l ++ rest) (rest_whole codes) ∙ sym (copy_unpacked codes n some low plain)))
