-- The numbers of an order section are read one after another.
use Rattle.std.proofs.Common.{◌≡◌, ◌⊎◌, ℕ, zero, suc, ◌+◌, ◌-◌, ◌/◌, ◌%◌, ◌<◌, ◌≤◌, ◌==◌, Bool, true, false, cond, ◌||◌, ◌&&◌, nat_le, List, [], ◌∷◌, ◌++◌, length, take, drop, replicate, Result, Ok, Err, inl, inr, refl, sym, ap, subst, ◌∙◌, append_assoc, length-append, arith}
use Rattle.std.specs.Fmt.{decimal}
use Rattle.std.specs.List.{AllByRecursion}
use Rattle.std.proofs.lemmas.Bool.{eqb-true, eq-eqb, ne_eqb, leb-true, le-leb, lt-leb, and_parts, and_left, and_from, cond-true, cond-false, cases_lt, cases_eq}
use Rattle.std.proofs.lemmas.Fmt.{decimal_digit, decimal_step}
use Rattle.std.proofs.lemmas.List.{take_at, drop_at}
use Rattle.lw_grammar.specs.Demands.{◌>>=◌}
use Rattle.lw_machine.specs.Report.{is_empty, separator, order_numbers}
use Rattle.lw_report_order.specs.OrderReading.{end_read, after_one, number_read, onto, numbers_read}

-- a number below 16 is a digit, or a 1 and a digit
two_digits : (n : ℕ) → 10 ≤ n → n < 16 → decimal n ≡ 49 ∷ (38 + n) ∷ []
two_digits n up low =
    let one : n / 10 ≡ 1 = omega arith in
    let last : 48 + n % 10 ≡ 38 + n = omega arith in
    decimal_step n up (omega arith) ∙ ap (λ m. decimal m ++ (48 + n % 10) ∷ []) one ∙ ap (λ ds. ds ++ (48 + n % 10) ∷ []) (decimal_digit 1 (omega arith)) ∙ ap (λ d. 49 ∷ d ∷ []) last

-- What the answer to reading a number tells of the bytes: the number is there with its end, or so many bytes begin one.
abbrev pub IsNumber : ℕ → List ℕ → Result (ℕ × ℕ) ℕ → Type 0
IsNumber end bytes (Ok x) = (x.0 < 16) × (rest : List ℕ) × (bytes ≡ decimal x.0 ++ end ∷ rest) × (x.1 ≡ length (decimal x.0) + 1)
IsNumber end bytes (Err n) = (n ≤ length bytes) × (t : ℕ) × (t < 16) × (more : List ℕ) × (take n bytes ++ more ≡ decimal t ++ end ∷ [])

end_is : (end n : ℕ) (ds bs : List ℕ) → n < 16 → decimal n ≡ ds → IsNumber end (ds ++ bs) (end_read end n (length ds) bs)
end_is end n ds [] low is = stopped end n ds [] low is
  where
    stopped : (end n : ℕ) (ds bs : List ℕ) → n < 16 → decimal n ≡ ds → IsNumber end (ds ++ bs) (Err (length ds))
    stopped end n ds bs low is =
        let most = length-append ds bs in
        (omega (arith, most), n, low, end ∷ [], ap (λ xs. xs ++ end ∷ []) (take_at ds bs (length ds) refl ∙ sym is))
end_is end n ds (b ∷ bs) low is = step (b == end) refl
  where
    step : (t : Bool) → (b == end) ≡ t → IsNumber end (ds ++ b ∷ bs) (cond t (Ok (n, length ds + 1)) (Err (length ds)))
    step true e = (low, bs, ap (λ c. ds ++ c ∷ bs) (eqb-true b end e) ∙ ap (λ xs. xs ++ end ∷ bs) (sym is), ap (λ xs. length xs + 1) (sym is))
    step false e =
        let most = length-append ds (b ∷ bs) in
        (omega (arith, most), n, low, end ∷ [], ap (λ xs. xs ++ end ∷ []) (take_at ds (b ∷ bs) (length ds) refl ∙ sym is))

none_read : (end : ℕ) (bytes : List ℕ) → IsNumber end bytes (Err 0)
none_read end bytes = (omega arith, 0, omega arith, decimal 0 ++ end ∷ [], refl)

after_is : (end : ℕ) (bs : List ℕ) → IsNumber end (49 ∷ bs) (after_one end bs)
after_is end [] = (omega arith, 1, omega arith, end ∷ [], ap (λ ds. ds ++ end ∷ []) (sym (decimal_digit 1 (omega arith))))
after_is end (b ∷ bs) = step (nat_le 48 b && nat_le b 53) refl
  where
    step : (t : Bool) → (nat_le 48 b && nat_le b 53) ≡ t → IsNumber end (49 ∷ b ∷ bs) (cond t (end_read end (b - 38) 2 bs) (end_read end 1 1 (b ∷ bs)))
    step true e =
        let parts = and_parts (nat_le 48 b) (nat_le b 53) e in
        let least : 48 ≤ b = leb-true 48 b parts.0 in
        let most : b ≤ 53 = leb-true b 53 parts.1 in
        let back : 38 + (b - 38) ≡ b = omega (arith, least) in
        end_is end (b - 38) (49 ∷ b ∷ []) bs (omega (arith, most)) (two_digits (b - 38) (omega (arith, least)) (omega (arith, most)) ∙ ap (λ d. 49 ∷ d ∷ []) back)
    step false e = end_is end 1 (49 ∷ []) (b ∷ bs) (omega arith) (decimal_digit 1 (omega arith))

pub number_is : (end : ℕ) (bytes : List ℕ) → IsNumber end bytes (number_read end bytes)
number_is end [] = none_read end []
number_is end (b ∷ bs) = step (b == 49) refl
  where
    digit : (t : Bool) → (nat_le 48 b && nat_le b 57) ≡ t → IsNumber end (b ∷ bs) (cond t (end_read end (b - 48) 1 bs) (Err 0))
    digit true e =
        let parts = and_parts (nat_le 48 b) (nat_le b 57) e in
        let least : 48 ≤ b = leb-true 48 b parts.0 in
        let most : b ≤ 57 = leb-true b 57 parts.1 in
        let back : 48 + (b - 48) ≡ b = omega (arith, least) in
        end_is end (b - 48) (b ∷ []) bs (omega (arith, most)) (decimal_digit (b - 48) (omega (arith, most)) ∙ ap (λ d. d ∷ []) back)
    digit false e = none_read end (b ∷ bs)

    step : (t : Bool) → (b == 49) ≡ t → IsNumber end (b ∷ bs) (cond t (after_one end bs) (cond (nat_le 48 b && nat_le b 57) (end_read end (b - 48) 1 bs) (Err 0)))
    step true e = subst (λ c. IsNumber end (c ∷ bs) (after_one end bs)) (sym (eqb-true b 49 e)) (after_is end bs)
    step false e = digit (nat_le 48 b && nat_le b 57) refl

-- the byte that ends a number is no digit
end_found : (end n used : ℕ) (rest : List ℕ) → end_read end n used (end ∷ rest) ≡ Ok (n, used + 1)
end_found end n used rest = cond-true (end == end) (Ok (n, used + 1)) (Err used) (eq-eqb end end refl)

one_found : (end : ℕ) (rest : List ℕ) → end < 48 → after_one end (end ∷ rest) ≡ Ok (1, 2)
one_found end rest low =
    cond-false (nat_le 48 end && nat_le end 53) (end_read end (end - 38) 2 rest) (end_read end 1 1 (end ∷ rest)) (and_left (nat_le 48 end) (nat_le end 53) (lt-leb 48 end low))
    ∙ end_found end 1 1 rest

-- A number that stands in front of its end is read.
number_again : (end t : ℕ) (rest : List ℕ) → end < 48 → t < 16 → number_read end (decimal t ++ end ∷ rest) ≡ Ok (t, length (decimal t) + 1)
number_again end t rest low few = elim (cases_lt t 10) [ inl short ↦ subst (Reads t) (sym (decimal_digit t short)) (one (cases_eq t 1) short) | inr long ↦ subst (Reads t) (sym (two_digits t long few)) (two long) ]
  where
    Reads : ℕ → List ℕ → Type 0
    Reads n ds = number_read end (ds ++ end ∷ rest) ≡ Ok (n, length ds + 1)

    one : (t ≡ 1) ⊎ (t ≡ 1 → ⊥) → t < 10 → Reads t ((48 + t) ∷ [])
    one (inl e) short = subst (λ n. Reads n ((48 + n) ∷ [])) (sym e) (one_found end rest low)
    one (inr other) short =
        let back : (48 + t) - 48 ≡ t = omega arith in
        cond-false ((48 + t) == 49) (after_one end (end ∷ rest)) _ (ne_eqb (48 + t) 49 (λ e. other (omega (arith, e))))
        ∙ cond-true (nat_le 48 (48 + t) && nat_le (48 + t) 57) (end_read end ((48 + t) - 48) 1 (end ∷ rest)) (Err 0) (and_from (nat_le 48 (48 + t)) (nat_le (48 + t) 57) (le-leb 48 (48 + t) (omega arith)) (le-leb (48 + t) 57 (omega (arith, short))))
        ∙ ap (λ n. end_read end n 1 (end ∷ rest)) back ∙ end_found end t 1 rest

    two : 10 ≤ t → Reads t (49 ∷ (38 + t) ∷ [])
    two long =
        let back : (38 + t) - 38 ≡ t = omega arith in
        cond-true (nat_le 48 (38 + t) && nat_le (38 + t) 53) (end_read end ((38 + t) - 38) 2 (end ∷ rest)) _ (and_from (nat_le 48 (38 + t)) (nat_le (38 + t) 53) (le-leb 48 (38 + t) (omega (arith, long))) (le-leb (38 + t) 53 (omega (arith, few))))
        ∙ ap (λ n. end_read end n 2 (end ∷ rest)) back ∙ end_found end t 2 rest

-- Where reading stops at a byte, what stands behind that byte doesn't matter.
end_stays : (end n used m : ℕ) (b : ℕ) (bs more : List ℕ) → end_read end n used (b ∷ bs) ≡ Err m → (m ≡ used) × (end_read end n used (b ∷ more) ≡ Err used)
end_stays end n used m b bs more = step (b == end)
  where
    Ended : Bool → Result (ℕ × ℕ) ℕ
    Ended t = cond t (Ok (n, used + 1)) (Err used)

    step : (t : Bool) → Ended t ≡ Err m → (m ≡ used) × (Ended t ≡ Err used)
    step true e = absurd (cc)
    step false e = (cc, refl)

end_nil : (end n used m : ℕ) → end_read end n used [] ≡ Err m → m ≡ used
end_nil end n used m e = cc

abbrev Stays : (List ℕ → Result (ℕ × ℕ) ℕ) → List ℕ → List ℕ → ℕ → Type 0
Stays read bytes more n = read (take (n + 1) bytes ++ more) ≡ Err n

after_stays : (end n : ℕ) (bs more : List ℕ) → after_one end bs ≡ Err n → n < suc (length bs) → Stays (number_read end) (49 ∷ bs) more n
after_stays end n [] more e low = absurd (let same : n ≡ 1 = cc in omega (arith, same, low))
after_stays end n (b ∷ bs) more e low = step (nat_le 48 b && nat_le b 53) refl e
  where
    second : List ℕ → Result (ℕ × ℕ) ℕ
    second xs = after_one end (b ∷ xs)

    two : (nat_le 48 b && nat_le b 53) ≡ true → (cs : List ℕ) → n < suc (suc (length cs)) → end_read end (b - 38) 2 cs ≡ Err n → Stays (number_read end) (49 ∷ b ∷ cs) more n
    two t [] low e = absurd (let same = end_nil end (b - 38) 2 n e in omega (arith, same, low))
    two t (c ∷ cs) low e =
        let h = end_stays end (b - 38) 2 n c cs more e in
        subst (Stays (number_read end) (49 ∷ b ∷ c ∷ cs) more) (sym h.0) (cond-true (nat_le 48 b && nat_le b 53) (end_read end (b - 38) 2 (c ∷ more)) (end_read end 1 1 (b ∷ c ∷ more)) t ∙ h.1)

    step : (t : Bool) → (nat_le 48 b && nat_le b 53) ≡ t → cond t (end_read end (b - 38) 2 bs) (end_read end 1 1 (b ∷ bs)) ≡ Err n → Stays (number_read end) (49 ∷ b ∷ bs) more n
    step true t e = two t bs low e
    step false t e =
        let h = end_stays end 1 1 n b bs more e in
        subst (Stays (number_read end) (49 ∷ b ∷ bs) more) (sym h.0) (cond-false (nat_le 48 b && nat_le b 53) (end_read end (b - 38) 2 more) (end_read end 1 1 (b ∷ more)) t ∙ h.1)

number_stays : (end n : ℕ) (bytes more : List ℕ) → number_read end bytes ≡ Err n → n < length bytes → Stays (number_read end) bytes more n
number_stays end n [] more e low = absurd (omega (arith, low))
number_stays end n (b ∷ bs) more e low = step (b == 49) refl e
  where
    Digit : Bool → List ℕ → Result (ℕ × ℕ) ℕ
    Digit t xs = cond t (end_read end (b - 48) 1 xs) (Err 0)

    read : (xs : List ℕ) → (b == 49) ≡ false → (t : Bool) → (nat_le 48 b && nat_le b 57) ≡ t → number_read end (b ∷ xs) ≡ Digit t xs
    read xs other t e = cond-false (b == 49) (after_one end xs) (Digit (nat_le 48 b && nat_le b 57) xs) other ∙ ap (λ u. Digit u xs) e

    digit : (b == 49) ≡ false → (t : Bool) → (nat_le 48 b && nat_le b 57) ≡ t → (cs : List ℕ) → n < suc (length cs) → Digit t cs ≡ Err n → Stays (number_read end) (b ∷ cs) more n
    digit other true t [] low e = absurd (let same = end_nil end (b - 48) 1 n e in omega (arith, same, low))
    digit other true t (c ∷ cs) low e =
        let h = end_stays end (b - 48) 1 n c cs more e in
        subst (Stays (number_read end) (b ∷ c ∷ cs) more) (sym h.0) (read (c ∷ more) other true t ∙ h.1)
    digit other false t cs low e =
        let zero_is : n ≡ 0 = cc in
        subst (Stays (number_read end) (b ∷ cs) more) (sym zero_is) (read more other false t)

    step : (t : Bool) → (b == 49) ≡ t → cond t (after_one end bs) (Digit (nat_le 48 b && nat_le b 57) bs) ≡ Err n → Stays (number_read end) (b ∷ bs) more n
    step true t e =
        let same = eqb-true b 49 t in
        subst (λ c. Stays (number_read end) (c ∷ bs) more n) (sym same) (after_stays end n bs more e low)
    step false t e = digit t (nat_le 48 b && nat_le b 57) refl bs low e

-- bytes of the texts that follow one another
regrouped : (ds : List ℕ) (e : ℕ) (xs ys : List ℕ) → (ds ++ e ∷ xs) ++ ys ≡ ds ++ e ∷ (xs ++ ys)
regrouped ds e xs ys = append_assoc ds (e ∷ xs) ys

past_end : (ds : List ℕ) (e n : ℕ) (xs : List ℕ) → n ≡ length ds + 1 → drop n (ds ++ e ∷ xs) ≡ xs
past_end ds e n xs is =
    let many : length (ds ++ e ∷ []) ≡ n = length-append ds (e ∷ []) ∙ sym is in
    ap (drop n) (sym (append_assoc ds (e ∷ []) xs)) ∙ drop_at (ds ++ e ∷ []) xs n many

taken_past : (ds : List ℕ) (e n m : ℕ) (xs : List ℕ) → n ≡ length ds + 1 → take (n + m) (ds ++ e ∷ xs) ≡ ds ++ e ∷ take m xs
taken_past [] e n m xs is =
    let more : n + m ≡ suc m = omega (arith, is) in
    ap (λ k. take k (e ∷ xs)) more
taken_past (d ∷ ds) e n m xs is =
    let more : n + m ≡ suc ((length ds + 1) + m) = omega (arith, is) in
    ap (λ k. take k (d ∷ (ds ++ e ∷ xs))) more ∙ ap (λ l. d ∷ l) (taken_past ds e (length ds + 1) m xs refl)

-- which separator stands after a number depends on how many numbers are still to come
separator_same : (k : ℕ) (ns : List ℕ) → separator k ns ≡ separator k (replicate (length ns) 0)
separator_same k [] = refl
separator_same k (n ∷ ns) = refl

pub separator_low : (k : ℕ) (rest : List ℕ) → separator k rest < 48
separator_low k rest = low (is_empty rest || (k % 64 == 0))
  where
    low : (b : Bool) → cond b 10 32 < 48
    low true = omega arith
    low false = omega arith

-- so many numbers below 16
abbrev pub AreFew : ℕ → List ℕ → Type 0
AreFew m ns = (length ns ≡ m) × AllByRecursion (λ n. n < 16) ns

-- What the answer to reading m numbers tells of the bytes: the numbers are there, or so many bytes begin some.
abbrev pub AreNumbers : ℕ → ℕ → List ℕ → Result (List ℕ) ℕ → Type 0
AreNumbers k m bytes (Ok ns) = AreFew m ns × (rest : List ℕ) × (bytes ≡ order_numbers k ns ++ rest)
AreNumbers k m bytes (Err n) = (n ≤ length bytes) × (ns : List ℕ) × AreFew m ns × (more : List ℕ) × (take n bytes ++ more ≡ order_numbers k ns)

zeros_few : (m : ℕ) → AreFew m (replicate m 0)
zeros_few zero = (refl, tt)
zeros_few (suc m) = let rest = zeros_few m in (ap suc rest.0, (omega arith, rest.1))

-- one number in front of the others
more_numbers : (k m : ℕ) (bytes : List ℕ) (x : ℕ × ℕ) → x.0 < 16 → bytes ≡ decimal x.0 ++ separator (k + 1) (replicate m 0) ∷ drop x.1 bytes → x.1 ≡ length (decimal x.0) + 1
    → (s : Result (List ℕ) ℕ) → AreNumbers (k + 1) m (drop x.1 bytes) s → AreNumbers k (suc m) bytes (onto (x.0 ∷ []) x.1 s)
more_numbers k m bytes x low is used (Ok ns) h =
    let same : separator (k + 1) (replicate m 0) ≡ separator (k + 1) ns = ap (λ l. separator (k + 1) (replicate l 0)) (sym h.0.0) ∙ sym (separator_same (k + 1) ns) in
    ((ap suc h.0.0, (low, h.0.1)), h.1, is ∙ ap (λ e. decimal x.0 ++ e ∷ drop x.1 bytes) same ∙ ap (λ l. decimal x.0 ++ separator (k + 1) ns ∷ l) h.2 ∙ sym (regrouped (decimal x.0) (separator (k + 1) ns) (order_numbers (k + 1) ns) h.1))
more_numbers k m bytes x low is used (Err n) h =
    let rest = drop x.1 bytes in
    let end = separator (k + 1) (replicate m 0) in
    let ns = h.1 in
    let same : end ≡ separator (k + 1) ns = ap (λ l. separator (k + 1) (replicate l 0)) (sym h.2.0) ∙ sym (separator_same (k + 1) ns) in
    let all : length bytes ≡ length (decimal x.0) + suc (length rest) = ap length is ∙ length-append (decimal x.0) (end ∷ rest) in
    let most = h.0 in
    let cut : take (x.1 + n) bytes ≡ decimal x.0 ++ end ∷ take n rest = ap (take (x.1 + n)) is ∙ taken_past (decimal x.0) end x.1 n rest used in
    (omega (arith, all, most, used), x.0 ∷ ns, (ap suc h.2.0, (low, h.2.1)), h.3, ap (λ l. l ++ h.3) cut ∙ regrouped (decimal x.0) end (take n rest) h.3 ∙ ap (λ l. decimal x.0 ++ end ∷ l) h.4 ∙ ap (λ e. decimal x.0 ++ e ∷ order_numbers (k + 1) ns) same)

pub numbers_are : (k m : ℕ) (bytes : List ℕ) → AreNumbers k m bytes (numbers_read k m bytes)
numbers_are k zero bytes = ((refl, tt), bytes, refl)
numbers_are k (suc m) bytes = step (λ l. numbers_are (k + 1) m l) (number_read end bytes) (number_is end bytes)
  where
    end : ℕ
    end = separator (k + 1) (replicate m 0)

    step : ((l : List ℕ) → AreNumbers (k + 1) m l (numbers_read (k + 1) m l)) → (r : Result (ℕ × ℕ) ℕ) → IsNumber end bytes r → AreNumbers k (suc m) bytes (r >>= (λ x. onto (x.0 ∷ []) x.1 (numbers_read (k + 1) m (drop x.1 bytes))))
    step others (Ok x) h =
        let rest : drop x.1 bytes ≡ h.1 = ap (drop x.1) h.2 ∙ past_end (decimal x.0) end x.1 h.1 h.3 in
        more_numbers k m bytes x h.0 (h.2 ∙ ap (λ l. decimal x.0 ++ end ∷ l) (sym rest)) h.3 (numbers_read (k + 1) m (drop x.1 bytes)) (others (drop x.1 bytes))
    step others (Err n) h =
        let zeros = zeros_few m in
        let same : end ≡ separator (k + 1) (replicate m 0) = refl in
        (h.0, h.1 ∷ replicate m 0, (ap suc zeros.0, (h.2, zeros.1)), h.3 ++ order_numbers (k + 1) (replicate m 0), sym (append_assoc (take n bytes) h.3 (order_numbers (k + 1) (replicate m 0))) ∙ ap (λ l. l ++ order_numbers (k + 1) (replicate m 0)) h.4 ∙ append_assoc (decimal h.1) (end ∷ []) (order_numbers (k + 1) (replicate m 0)))

-- Numbers that stand in front of bytes are read.
pub numbers_again : (k m : ℕ) (ns rest : List ℕ) → AreFew m ns → numbers_read k m (order_numbers k ns ++ rest) ≡ Ok ns
numbers_again k zero [] rest h = refl
numbers_again k zero (n ∷ ns) rest h = absurd (let many : suc (length ns) ≡ zero = h.0 in omega (arith, many))
numbers_again k (suc m) [] rest h = absurd (let many : zero ≡ suc m = h.0 in omega (arith, many))
numbers_again k (suc m) (n ∷ ns) rest h =
    let many : length ns ≡ m = (let e : suc (length ns) ≡ suc m = h.0 in omega (arith, e)) in
    let behind : List ℕ = order_numbers (k + 1) ns ++ rest in
    let end = separator (k + 1) ns in
    let used = length (decimal n) + 1 in
    let same : separator (k + 1) (replicate m 0) ≡ end = ap (λ l. separator (k + 1) (replicate l 0)) (sym many) ∙ sym (separator_same (k + 1) ns) in
    let apart : order_numbers k (n ∷ ns) ++ rest ≡ decimal n ++ end ∷ behind = regrouped (decimal n) end (order_numbers (k + 1) ns) rest in
    let next : List ℕ → ℕ × ℕ → Result (List ℕ) ℕ = λ bytes x. onto (x.0 ∷ []) x.1 (numbers_read (k + 1) m (drop x.1 bytes)) in
    ap (λ e. number_read e (order_numbers k (n ∷ ns) ++ rest) >>= next (order_numbers k (n ∷ ns) ++ rest)) same
    ∙ ap (λ l. number_read end l >>= next l) apart
    ∙ ap (λ r. r >>= next (decimal n ++ end ∷ behind)) (number_again end n behind (separator_low (k + 1) ns) h.1.0)
    ∙ ap (λ l. onto (n ∷ []) used (numbers_read (k + 1) m l)) (past_end (decimal n) end used behind refl)
    ∙ ap (onto (n ∷ []) used) (numbers_again (k + 1) m ns rest (many, h.1.1))

-- Where reading stops at a byte, what stands behind that byte doesn't matter.
pub numbers_stay : (k m n : ℕ) (bytes more : List ℕ) → numbers_read k m bytes ≡ Err n → n < length bytes → numbers_read k m (take (n + 1) bytes ++ more) ≡ Err n
numbers_stay k zero n bytes more e low = absurd (let bad : Ok [] ≡ Err n = e in cc)
numbers_stay k (suc m) n bytes more e low = step (λ p l d left. numbers_stay (k + 1) m p l more d left) (number_read end bytes) refl e
  where
    end : ℕ
    end = separator (k + 1) (replicate m 0)

    next : List ℕ → ℕ × ℕ → Result (List ℕ) ℕ
    next l x = onto (x.0 ∷ []) x.1 (numbers_read (k + 1) m (drop x.1 l))

    Others : Type 0
    Others = (p : ℕ) (l : List ℕ) → numbers_read (k + 1) m l ≡ Err p → p < length l → numbers_read (k + 1) m (take (p + 1) l ++ more) ≡ Err p

    behind : Others → (x : ℕ × ℕ) → IsNumber end bytes (Ok x) → (s : Result (List ℕ) ℕ) → numbers_read (k + 1) m (drop x.1 bytes) ≡ s → onto (x.0 ∷ []) x.1 s ≡ Err n → numbers_read k (suc m) (take (n + 1) bytes ++ more) ≡ Err n
    behind others x h (Ok ns) d e = absurd (let bad : Ok (x.0 ∷ ns) ≡ Err n = e in cc)
    behind others x h (Err p) d e =
        let sum : x.1 + p ≡ n = cc in
        let far : n + 1 ≡ x.1 + (p + 1) = omega (arith, sum) in
        let rest : drop x.1 bytes ≡ h.1 = ap (drop x.1) h.2 ∙ past_end (decimal x.0) end x.1 h.1 h.3 in
        let used : x.1 ≡ length (decimal x.0) + 1 = h.3 in
        let all : length bytes ≡ length (decimal x.0) + suc (length h.1) = ap length h.2 ∙ length-append (decimal x.0) (end ∷ h.1) in
        let many : length (drop x.1 bytes) ≡ length h.1 = ap length rest in
        let left : p < length (drop x.1 bytes) = omega (arith, low, sum, used, all, many) in
        let front : take (n + 1) bytes ++ more ≡ decimal x.0 ++ end ∷ (take (p + 1) h.1 ++ more) =
        ap (λ j. take j bytes ++ more) far ∙ ap (λ l. take (x.1 + (p + 1)) l ++ more) h.2 ∙ ap (λ l. l ++ more) (taken_past (decimal x.0) end x.1 (p + 1) h.1 used) ∙ regrouped (decimal x.0) end (take (p + 1) h.1) more
        in
        let again : numbers_read (k + 1) m (take (p + 1) h.1 ++ more) ≡ Err p = subst (λ l. numbers_read (k + 1) m (take (p + 1) l ++ more) ≡ Err p) rest (others p (drop x.1 bytes) d left) in
        ap (λ l. number_read end l >>= next l) front
        ∙ ap (λ r. r >>= next (decimal x.0 ++ end ∷ (take (p + 1) h.1 ++ more))) (number_again end x.0 (take (p + 1) h.1 ++ more) (separator_low (k + 1) (replicate m 0)) h.0)
        ∙ ap (λ u. onto (x.0 ∷ []) u (numbers_read (k + 1) m (drop u (decimal x.0 ++ end ∷ (take (p + 1) h.1 ++ more))))) (sym used)
        ∙ ap (λ l. onto (x.0 ∷ []) x.1 (numbers_read (k + 1) m l)) (past_end (decimal x.0) end x.1 (take (p + 1) h.1 ++ more) used)
        ∙ ap (onto (x.0 ∷ []) x.1) again ∙ ap Err sum

    step : Others → (r : Result (ℕ × ℕ) ℕ) → number_read end bytes ≡ r → (r >>= next bytes) ≡ Err n → numbers_read k (suc m) (take (n + 1) bytes ++ more) ≡ Err n
    step others (Ok x) d e = behind others x (subst (IsNumber end bytes) d (number_is end bytes)) (numbers_read (k + 1) m (drop x.1 bytes)) refl e
    step others (Err p) d e =
        let same : p ≡ n = cc in
        ap (λ r. r >>= next (take (n + 1) bytes ++ more)) (number_stays end n bytes more (d ∙ ap Err same) low)
