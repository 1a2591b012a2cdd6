-- Packed rows stand for the rows.
use Rattle.std.proofs.Common.{◌≡◌, ℕ, zero, suc, ◌+◌, ◌-◌, ◌*◌, ◌≤◌, ◌==◌, min, Bool, true, false, List, [], ◌∷◌, ◌++◌, length, take, drop, refl, ap, sym, ◌∙◌, subst, arith, append_assoc}
use Rattle.std.specs.Prelude.{replicate, nat_le, if◌then◌else◌}
use Rattle.std.proofs.lemmas.Bool.{eqb-true, lt-leb, false≢true, le-leb, ne_eqb}
use Rattle.std.proofs.lemmas.List.{take-append-drop, length-take, length-take-le, length-append}
use Rattle.std.proofs.lemmas.Grind.{common_steps}
use Rattle.lw_ilbm.specs.Packing.{equal_bytes, has_three_equal, bytes_before_three, packed_after, unpacked_after, code_limit}

-- a copy, and the codes after it
copy_unpacks : (n : ℕ) (xs ys : List ℕ) → length xs ≡ n → unpacked_after n (xs ++ ys) ≡ xs ++ unpacked_after zero ys
copy_unpacks zero [] ys h = refl
copy_unpacks zero (x ∷ xs) ys h = absurd (omega (arith, h))
copy_unpacks (suc n) [] ys h = absurd (omega (arith, h))
copy_unpacks (suc n) (x ∷ xs) ys h = ap (λ l. x ∷ l) (copy_unpacks n xs ys (omega (arith, h)))

-- equal bytes are one byte again and again
equal_again : (n b : ℕ) (bs : List ℕ) → n ≤ equal_bytes b bs → replicate n b ++ drop n bs ≡ bs
equal_again zero b bs h = refl
equal_again (suc n) b [] h = absurd (omega (arith, h))
equal_again (suc n) b (c ∷ cs) h = go (λ k. equal_again n b cs k) (c == b) refl h
  where
    go : (n ≤ equal_bytes b cs → replicate n b ++ drop n cs ≡ cs)
        → (t : Bool) → (c == b) ≡ t → suc n ≤ (if t then 1 + equal_bytes b cs else 0) → b ∷ (replicate n b ++ drop n cs) ≡ c ∷ cs
    go again true e k = ap (λ l. b ∷ l) (again (omega (arith, k))) ∙ ap (λ d. d ∷ cs) (sym (eqb-true c b e))
    go again false e k = absurd (omega (arith, k))

-- three equal bytes are at least three
pub three_are_equal : (b : ℕ) (bs : List ℕ) → has_three_equal (b ∷ bs) ≡ true → 3 ≤ equal_bytes b (b ∷ bs)
three_are_equal b [] h = absurd (false≢true h)
three_are_equal b (c ∷ []) h = absurd (false≢true h)
three_are_equal b (c ∷ d ∷ rest) h = grind (arith, common_steps, h)

-- a row that doesn't begin with three equal bytes has one before the next three
pub some_before_three : (b : ℕ) (bs : List ℕ) → has_three_equal (b ∷ bs) ≡ false → 1 ≤ bytes_before_three (b ∷ bs)
some_before_three b bs h = rw h (omega arith)

pub before_is_short : (bs : List ℕ) → bytes_before_three bs ≤ length bs
before_is_short [] = omega arith
before_is_short (b ∷ bs) = go (has_three_equal (b ∷ bs)) (before_is_short bs)
  where
    go : (t : Bool) → bytes_before_three bs ≤ length bs → (if t then 0 else 1 + bytes_before_three bs) ≤ suc (length bs)
    go true h = omega (arith, h)
    go false h = omega (arith, h)

repeat_unpacks : (r b : ℕ) (ys : List ℕ) → 3 ≤ r → r ≤ 128 → unpacked_after zero ((257 - r) ∷ b ∷ ys) ≡ replicate r b ++ unpacked_after zero ys
repeat_unpacks r b ys more fewer =
    let high : nat_le (257 - r) 127 ≡ false = lt-leb (257 - r) 127 (omega (arith, fewer)) in
    let other : (257 - r == 128) ≡ false = ne_eqb (257 - r) 128 (λ e. omega (arith, fewer, e)) in
    let back : 257 - (257 - r) ≡ r = omega (arith, fewer) in
    rw (high, other, back) refl

copy_code_unpacks : (n b : ℕ) (bs ys : List ℕ) → n ≤ 127 → n ≤ length bs
    → unpacked_after zero (n ∷ b ∷ (take n bs ++ ys)) ≡ b ∷ (take n bs ++ unpacked_after zero ys)
copy_code_unpacks n b bs ys fewer within =
    rw (le-leb n 127 fewer) (ap (λ l. b ∷ l) (copy_unpacks n (take n bs) ys (length-take-le n bs within)))

-- the codes of a row are a copy of its next bytes, and those after them
copy_comes : (m b : ℕ) (bs codes : List ℕ) → m ≤ 127 → m ≤ length bs
    → unpacked_after zero (packed_after m bs ++ codes) ≡ drop m bs ++ unpacked_after zero codes
    → unpacked_after zero ((m ∷ (take (suc m) (b ∷ bs) ++ packed_after m bs)) ++ codes) ≡ b ∷ (bs ++ unpacked_after zero codes)
copy_comes m b bs codes fewer within again =
    let rest = unpacked_after zero codes in
    ap (λ l. unpacked_after zero (m ∷ b ∷ l)) (append_assoc (take m bs) (packed_after m bs) codes)
    ∙ (copy_code_unpacks m b bs (packed_after m bs ++ codes) fewer within
    ∙ ap (λ l. b ∷ l) (ap (λ l. take m bs ++ l) again ∙ (sym (append_assoc (take m bs) (drop m bs) rest)
    ∙ ap (λ l. l ++ rest) (take-append-drop m bs))))

-- the codes of a row are a repeat of its next byte, and those after them
repeat_comes : (m b : ℕ) (bs codes : List ℕ) → 2 ≤ m → m ≤ 127 → suc m ≤ equal_bytes b (b ∷ bs)
    → unpacked_after zero (packed_after m bs ++ codes) ≡ drop m bs ++ unpacked_after zero codes
    → unpacked_after zero (((257 - suc m) ∷ b ∷ packed_after m bs) ++ codes) ≡ b ∷ (bs ++ unpacked_after zero codes)
repeat_comes m b bs codes more fewer within again =
    let rest = unpacked_after zero codes in
    repeat_unpacks (suc m) b (packed_after m bs ++ codes) (omega (arith, more)) (omega (arith, fewer))
    ∙ (ap (λ l. replicate (suc m) b ++ l) again ∙ (sym (append_assoc (replicate (suc m) b) (drop m bs) rest)
    ∙ ap (λ l. l ++ rest) (equal_again (suc m) b (b ∷ bs) within)))

pub row_unpacks : (row codes : List ℕ) (skip : ℕ) → unpacked_after zero (packed_after skip row ++ codes) ≡ drop skip row ++ unpacked_after zero codes
row_unpacks [] codes zero = refl
row_unpacks [] codes (suc skip) = refl
row_unpacks (b ∷ bs) codes (suc skip) = row_unpacks bs codes skip
row_unpacks (b ∷ bs) codes zero = go (λ skip. row_unpacks bs codes skip) (has_three_equal (b ∷ bs)) refl
  where
    same : ℕ
    same = min code_limit (equal_bytes b (b ∷ bs))

    other : ℕ
    other = min code_limit (bytes_before_three (b ∷ bs))

    go : ((skip : ℕ) → unpacked_after zero (packed_after skip bs ++ codes) ≡ drop skip bs ++ unpacked_after zero codes)
        → (t : Bool) → has_three_equal (b ∷ bs) ≡ t
        → unpacked_after zero ((if t then (257 - same) ∷ b ∷ packed_after (same - 1) bs
        else (other - 1) ∷ (take other (b ∷ bs) ++ packed_after (other - 1) bs)) ++ codes) ≡ b ∷ (bs ++ unpacked_after zero codes)
    go again true e =
        let some = three_are_equal b bs e in
        let next : suc (same - 1) ≡ same = omega (arith, some) in
        subst (λ n. unpacked_after zero (((257 - n) ∷ b ∷ packed_after (same - 1) bs) ++ codes) ≡ b ∷ (bs ++ unpacked_after zero codes)) next
        (repeat_comes (same - 1) b bs codes (omega (arith, some)) (omega arith) (omega (arith, some)) (again (same - 1)))
    go again false e =
        let some = some_before_three b bs e in
        let short = before_is_short (b ∷ bs) in
        let next : suc (other - 1) ≡ other = omega (arith, some) in
        subst (λ n. unpacked_after zero (((other - 1) ∷ (take n (b ∷ bs) ++ packed_after (other - 1) bs)) ++ codes)
        ≡ b ∷ (bs ++ unpacked_after zero codes)) next
        (copy_comes (other - 1) b bs codes (omega arith) (omega (arith, short)) (again (other - 1)))

-- codes are at most twice as many as the bytes
pub length_packed : (row : List ℕ) (skip : ℕ) → length (packed_after skip row) ≤ 2 * (length row - skip)
length_packed [] skip = omega arith
length_packed (b ∷ bs) (suc skip) = let rest = length_packed bs skip in omega (arith, rest)
length_packed (b ∷ bs) zero = go (λ skip. length_packed bs skip) (has_three_equal (b ∷ bs)) refl
  where
    same : ℕ
    same = min code_limit (equal_bytes b (b ∷ bs))

    other : ℕ
    other = min code_limit (bytes_before_three (b ∷ bs))

    go : ((skip : ℕ) → length (packed_after skip bs) ≤ 2 * (length bs - skip)) → (t : Bool) → has_three_equal (b ∷ bs) ≡ t
        → length (if t then (257 - same) ∷ b ∷ packed_after (same - 1) bs
        else (other - 1) ∷ (take other (b ∷ bs) ++ packed_after (other - 1) bs)) ≤ 2 * (suc (length bs) - 0)
    go rest true e = let left = rest (same - 1) in omega (arith, left)
    go rest false e =
        let some = some_before_three b bs e in
        let left = rest (other - 1) in
        let front = length-take other (b ∷ bs) in
        let both = length-append (take other (b ∷ bs)) (packed_after (other - 1) bs) in
        omega (arith, some, left, front, both)
