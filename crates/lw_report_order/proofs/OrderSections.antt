-- Bytes have the order section of some numbers as a prefix, of one list only, or stop at one place.
use Rattle.std.proofs.Common.{◌≡◌, ◌⊎◌, ℕ, zero, suc, ◌+◌, ◌<◌, ◌≤◌, ◌==◌, Bool, true, false, List, [], ◌∷◌, ◌++◌, length, take, drop, replicate, Some, None, Result, Ok, Err, inl, inr, refl, sym, ap, subst, ◌∙◌, append_assoc, append-nil, length-append, arith}
use Rattle.std.specs.Fmt.{decimal}
use Rattle.std.specs.List.{slice_get}
use Rattle.std.proofs.lemmas.Bool.{eqb-true, eqb-false, cases_lt, cases_order}
use Rattle.std.proofs.lemmas.List.{take_all, take-append-drop, append_cancel_left}
use Rattle.lw_machine.specs.Report.{order_part, order_numbers}
use Rattle.lw_report_order.specs.Differing.{DiffersAt}
use Rattle.lw_report_order.specs.OrderReading.{numbers_read}
use Rattle.lw_report_order.specs.OrderSection.{AreTasks, BeginsSection, HasOrder, StopsAt}
use Rattle.lw_report_order.proofs.OrderNumbers.{AreFew, AreNumbers, numbers_are, numbers_again, numbers_stay}

-- Two lists are the same, or they differ first at some place.
pub same_or_differ : (a b : List ℕ) → (a ≡ b) ⊎ ((n : ℕ) × DiffersAt a b n)
same_or_differ [] [] = inl refl
same_or_differ [] (y ∷ b) = inr (0, record { before = refl; here = λ e. let bad : None ≡ Some y = e in cc })
same_or_differ (x ∷ a) [] = inr (0, record { before = refl; here = λ e. let bad : Some x ≡ None = e in cc })
same_or_differ (x ∷ a) (y ∷ b) = step (x == y) refl (same_or_differ a b)
  where
    step : (t : Bool) → (x == y) ≡ t → (a ≡ b) ⊎ ((n : ℕ) × DiffersAt a b n) → (x ∷ a ≡ y ∷ b) ⊎ ((n : ℕ) × DiffersAt (x ∷ a) (y ∷ b) n)
    step false e rest = inr (0, record { before = refl; here = λ d. eqb-false x y e (let same : Some x ≡ Some y = d in cc) })
    step true e (inl same) = let first = eqb-true x y e in inl (cc)
    step true e (inr d) = let first = eqb-true x y e in inr (suc d.0, record { before = (let rest = d.1.before in cc); here = d.1.here })

-- that place is one only
differ_above : (a b : List ℕ) (n m : ℕ) → DiffersAt a b n → take m a ≡ take m b → n < m → ⊥
differ_above a b n m d same low = d.here (sym (got a) ∙ ap (λ l. slice_get l n) same ∙ got b)
  where
    kept : (xs : List ℕ) (n m : ℕ) → n < m → slice_get (take m xs) n ≡ slice_get xs n
    kept [] n zero low = refl
    kept [] n (suc m) low = refl
    kept (x ∷ xs) n zero low = absurd (omega (arith, low))
    kept (x ∷ xs) zero (suc m) low = refl
    kept (x ∷ xs) (suc n) (suc m) low = kept xs n m (omega (arith, low))

    got : (xs : List ℕ) → slice_get (take m xs) n ≡ slice_get xs n
    got xs = kept xs n m low

pub one_difference : (a b : List ℕ) (n m : ℕ) → DiffersAt a b n → DiffersAt a b m → n ≡ m
one_difference a b n m d e = elim (cases_order n m) [ inl same ↦ same | inr other ↦ elim other [ inl low ↦ absurd (differ_above a b n m d e.before low) | inr high ↦ absurd (differ_above a b m n e d.before high) ] ]

pub same_or_differs : (a : List ℕ) (n : ℕ) → DiffersAt a a n → ⊥
same_or_differs a n d = d.here refl

-- the first line of an order section
abbrev pub head : ℕ → List ℕ
head count = 111 ∷ 114 ∷ 100 ∷ 101 ∷ 114 ∷ 32 ∷ (decimal count ++ 10 ∷ [])

-- the section is that line, and then the numbers
pub section_is : (count : ℕ) (ns : List ℕ) → length ns ≡ count → order_part ns ≡ head count ++ order_numbers 0 ns
unfolding order_part
section_is count ns many = ap (λ n. head n ++ order_numbers 0 ns) many

abbrev Few : ℕ → List ℕ → Type 0
Few = AreFew

few_of : (count : ℕ) (ns : List ℕ) → AreTasks count ns → AreFew count ns
few_of count ns t = (t.many, t.below)

tasks_of : (count : ℕ) (ns : List ℕ) → AreFew count ns → AreTasks count ns
tasks_of count ns f = record { many = f.0; below = f.1 }

-- what stands behind the first line of bytes that have an order
behind_head : (count : ℕ) (bytes ns rest : List ℕ) → AreTasks count ns → bytes ≡ order_part ns ++ rest → bytes ≡ head count ++ (order_numbers 0 ns ++ rest)
behind_head count bytes ns rest t is = is ∙ ap (λ l. l ++ rest) (section_is count ns t.many) ∙ append_assoc (head count) (order_numbers 0 ns) rest

-- Numbers read behind that line are the order's.
read_again : (count : ℕ) (rest ns : List ℕ) → HasOrder count (head count ++ rest) ns → numbers_read 0 count rest ≡ Ok ns
read_again count rest ns h =
    let same : rest ≡ order_numbers 0 ns ++ h.rest = append_cancel_left (head count) rest (order_numbers 0 ns ++ h.rest) (behind_head count (head count ++ rest) ns h.rest h.tasks h.is) in
    ap (numbers_read 0 count) same ∙ numbers_again 0 count ns h.rest (few_of count ns h.tasks)

-- One list only has its section as a prefix of the bytes.
pub one_order : (count : ℕ) (bytes a b : List ℕ) → HasOrder count bytes a → HasOrder count bytes b → a ≡ b
one_order count bytes a b h i =
    let rest : List ℕ = order_numbers 0 a ++ h.rest in
    let front : bytes ≡ head count ++ rest = behind_head count bytes a h.rest h.tasks h.is in
    let first = read_again count rest a (subst (λ l. HasOrder count l a) front h) in
    let second = read_again count rest b (subst (λ l. HasOrder count l b) front i) in
    let same : Ok a ≡ Ok b = sym first ∙ second in
    cc

-- a section that was read
found_is : (count : ℕ) (rest ns : List ℕ) → AreNumbers 0 count rest (Ok ns) → HasOrder count (head count ++ rest) ns
found_is count rest ns h = record {
  tasks = tasks_of count ns h.0;
  rest = h.1;
  is = ap (λ l. head count ++ l) h.2 ∙ sym (append_assoc (head count) (order_numbers 0 ns) h.1) ∙ ap (λ l. l ++ h.1) (sym (section_is count ns h.0.0));
}

taken_behind : (xs : List ℕ) (n : ℕ) (ys : List ℕ) → take (length xs + n) (xs ++ ys) ≡ xs ++ take n ys
taken_behind [] n ys = let none : 0 + n ≡ n = omega arith in ap (λ k. take k ys) none
taken_behind (x ∷ xs) n ys =
    let more : suc (length xs) + n ≡ suc (length xs + n) = omega arith in
    ap (λ k. take k (x ∷ (xs ++ ys))) more ∙ ap (λ l. x ∷ l) (taken_behind xs n ys)

-- numbers that stop
stopped_is : (count n : ℕ) (rest : List ℕ) → numbers_read 0 count rest ≡ Err n → AreNumbers 0 count rest (Err n) → StopsAt count (head count ++ rest) (length (head count) + n)
stopped_is count n rest e h =
    let H = head count in
    let all = length-append H rest in
    let within = h.0 in
    record {
      none = λ ns i. (let same : Ok ns ≡ Err n = sym (read_again count rest ns i) ∙ e in cc);
      within = omega (arith, all, within);
      begins = (h.3, (h.1, tasks_of count h.1 h.2, ap (λ l. l ++ h.3) (taken_behind H n rest) ∙ append_assoc H (take n rest) h.3 ∙ ap (λ l. H ++ l) h.4 ∙ sym (section_is count h.1 h.2.0)));
      ends = at_end (cases_order n (length rest));
    }
  where
    goes_no_on : n < length rest → BeginsSection count (take ((length (head count) + n) + 1) (head count ++ rest)) → ⊥
    goes_no_on low b =
        let H = head count in
        let far : (length H + n) + 1 ≡ length H + (n + 1) = omega arith in
        let cut : take ((length H + n) + 1) (H ++ rest) ≡ H ++ take (n + 1) rest = ap (λ k. take k (H ++ rest)) far ∙ taken_behind H (n + 1) rest in
        let has : HasOrder count (H ++ (take (n + 1) rest ++ b.0)) b.1.0 = record { tasks = b.1.1; rest = []; is = sym (append_assoc H (take (n + 1) rest) b.0) ∙ ap (λ l. l ++ b.0) (sym cut) ∙ b.1.2 ∙ sym (append-nil (order_part b.1.0)) } in
        let same : Ok b.1.0 ≡ Err n = sym (read_again count (take (n + 1) rest ++ b.0) b.1.0 has) ∙ numbers_stay 0 count n rest b.0 e low in
        cc

    at_end : (n ≡ length rest) ⊎ ((n < length rest) ⊎ (length rest < n)) → (length (head count) + n ≡ length (head count ++ rest)) ⊎ (BeginsSection count (take ((length (head count) + n) + 1) (head count ++ rest)) → ⊥)
    at_end (inl same) = let all = length-append (head count) rest in inl (omega (arith, same, all))
    at_end (inr (inl low)) = inr (goes_no_on low)
    at_end (inr (inr high)) = let within = h.0 in absurd (omega (arith, within, high))

-- The first line is read, and then the numbers.
pub order_found : (count : ℕ) (rest ns : List ℕ) → numbers_read 0 count rest ≡ Ok ns → HasOrder count (head count ++ rest) ns
order_found count rest ns e = found_is count rest ns (subst (AreNumbers 0 count rest) e (numbers_are 0 count rest))

pub order_stops : (count n : ℕ) (rest : List ℕ) → numbers_read 0 count rest ≡ Err n → StopsAt count (head count ++ rest) (length (head count) + n)
order_stops count n rest e = stopped_is count n rest e (subst (AreNumbers 0 count rest) e (numbers_are 0 count rest))

-- an element of two joined lists
got_front : (xs ys : List ℕ) (n : ℕ) → n < length xs → slice_get (xs ++ ys) n ≡ slice_get xs n
got_front [] ys n low = absurd (omega (arith, low))
got_front (x ∷ xs) ys zero low = refl
got_front (x ∷ xs) ys (suc n) low = got_front xs ys n (omega (arith, low))

got_taken : (xs ys : List ℕ) (n : ℕ) → n < length xs → slice_get (take (n + 1) xs ++ ys) n ≡ slice_get xs n
got_taken [] ys n low = absurd (omega (arith, low))
got_taken (x ∷ xs) ys zero low = refl
got_taken (x ∷ xs) ys (suc n) low =
    let more : (suc n) + 1 ≡ suc (n + 1) = omega arith in
    ap (λ k. slice_get (take k (x ∷ xs) ++ ys) (suc n)) more ∙ got_taken xs ys n (omega (arith, low))

-- bytes that are like a text up to a place where the text goes on are no shorter
as_long : (a b : List ℕ) (n : ℕ) → take n a ≡ take n b → n ≤ length b → n ≤ length a
as_long a b zero same low = omega arith
as_long [] [] (suc n) same low = low
as_long [] (y ∷ b) (suc n) same low = absurd (let bad : [] ≡ y ∷ take n b = same in cc)
as_long (x ∷ a) [] (suc n) same low = absurd (let few : suc n ≤ zero = low in omega (arith, few))
as_long (x ∷ a) (y ∷ b) (suc n) same low =
    let rest : take n a ≡ take n b = (let both : x ∷ take n a ≡ y ∷ take n b = same in cc) in
    let more = as_long a b n rest (omega (arith, low)) in
    omega (arith, more)

-- Bytes whose first line isn't an order's.
pub head_stops : (count n : ℕ) (bytes : List ℕ) → DiffersAt bytes (head count) n → n < length (head count) → StopsAt count bytes n
head_stops count n bytes d low =
    record {
      none = λ ns h. d.here (ap (λ l. slice_get l n) (behind_head count bytes ns h.rest h.tasks h.is) ∙ got_front H (order_numbers 0 ns ++ h.rest) n low);
      within = long;
      begins = (drop n H ++ order_numbers 0 zeros, (zeros, tasks_of count zeros few, begun));
      ends = at_end (cases_lt n (length bytes));
    }
  where
    H : List ℕ
    H = head count

    zeros : List ℕ
    zeros = replicate count 0

    long : n ≤ length bytes
    long = as_long bytes (head count) n d.before (omega (arith, low))

    few : AreFew count zeros
    few = zeros_are count
      where
        zeros_are : (m : ℕ) → AreFew m (replicate m 0)
        zeros_are zero = (refl, tt)
        zeros_are (suc m) = let rest = zeros_are m in (ap suc rest.0, (omega arith, rest.1))

    begun : take n bytes ++ (drop n H ++ order_numbers 0 zeros) ≡ order_part zeros
    begun =
        sym (append_assoc (take n bytes) (drop n H) (order_numbers 0 zeros)) ∙ ap (λ l. (l ++ drop n H) ++ order_numbers 0 zeros) d.before
        ∙ ap (λ l. l ++ order_numbers 0 zeros) (take-append-drop n H) ∙ sym (section_is count zeros few.0)

    goes_no_on : n < length bytes → BeginsSection count (take (n + 1) bytes) → ⊥
    goes_no_on short b =
        d.here (sym (got_taken bytes b.0 n short) ∙ ap (λ l. slice_get l n) (b.1.2 ∙ section_is count b.1.0 b.1.1.many) ∙ got_front H (order_numbers 0 b.1.0) n low)

    at_end : (n < length bytes) ⊎ (length bytes ≤ n) → (n ≡ length bytes) ⊎ (BeginsSection count (take (n + 1) bytes) → ⊥)
    at_end (inl short) = inr (goes_no_on short)
    at_end (inr past) = let most = long in inl (omega (arith, most, past))

-- the bytes begin with a text that they don't differ from up to its end
front_is : (bytes text : List ℕ) (n : ℕ) → take n bytes ≡ take n text → length text ≤ n → bytes ≡ text ++ drop (length text) bytes
front_is bytes text n same past =
    let all : take n bytes ≡ text = same ∙ take_all n text past in
    go bytes text n all
  where
    go : (bs ts : List ℕ) (n : ℕ) → take n bs ≡ ts → bs ≡ ts ++ drop (length ts) bs
    go bs [] n e = refl
    go [] (t ∷ ts) zero e = absurd (cc)
    go [] (t ∷ ts) (suc n) e = absurd (cc)
    go (b ∷ bs) (t ∷ ts) zero e = absurd (cc)
    go (b ∷ bs) (t ∷ ts) (suc n) e =
        let both : b ∷ take n bs ≡ t ∷ ts = e in
        let first : b ≡ t = cc in
        let rest : take n bs ≡ ts = cc in
        ap (λ l. b ∷ l) (go bs ts n rest) ∙ ap (λ c. c ∷ (ts ++ drop (length ts) bs)) first

pub text_found : (bytes text : List ℕ) (n : ℕ) → DiffersAt bytes text n → length text ≤ n → bytes ≡ text ++ drop (length text) bytes
text_found bytes text n d past = front_is bytes text n d.before past

pub same_found : (bytes text : List ℕ) → bytes ≡ text → bytes ≡ text ++ drop (length text) bytes
same_found bytes text same = front_is bytes text (length text) (ap (take (length text)) same) (omega arith)

-- Bytes have an order, or they stop at a place.
pub order_or_place : (count : ℕ) (bytes : List ℕ) → ((ns : List ℕ) × HasOrder count bytes ns) ⊎ ((n : ℕ) × StopsAt count bytes n)
order_or_place count bytes = first (same_or_differ bytes (head count))
  where
    Answer : List ℕ → Type 0
    Answer l = ((ns : List ℕ) × HasOrder count l ns) ⊎ ((n : ℕ) × StopsAt count l n)

    numbers : (rest : List ℕ) (r : Result (List ℕ) ℕ) → numbers_read 0 count rest ≡ r → Answer (head count ++ rest)
    numbers rest (Ok ns) e = inl (ns, order_found count rest ns e)
    numbers rest (Err n) e = inr (length (head count) + n, order_stops count n rest e)

    behind : (rest : List ℕ) → bytes ≡ head count ++ rest → Answer bytes
    behind rest is = subst Answer (sym is) (numbers rest (numbers_read 0 count rest) refl)

    place : (n : ℕ) → DiffersAt bytes (head count) n → (n < length (head count)) ⊎ (length (head count) ≤ n) → Answer bytes
    place n d (inl low) = inr (n, head_stops count n bytes d low)
    place n d (inr past) = behind (drop (length (head count)) bytes) (text_found bytes (head count) n d past)

    first : (bytes ≡ head count) ⊎ ((n : ℕ) × DiffersAt bytes (head count) n) → Answer bytes
    first (inl same) = behind [] (same ∙ sym (append-nil (head count)))
    first (inr d) = place d.0 d.1 (cases_lt d.0 (length (head count)))

-- a prefix of a longer prefix
pub front_goes_on : (k m : ℕ) (xs : List ℕ) → k ≤ m → (more : List ℕ) × (take m xs ≡ take k xs ++ more)
front_goes_on zero m xs le = (take m xs, refl)
front_goes_on (suc k) zero xs le = absurd (omega (arith, le))
front_goes_on (suc k) (suc m) [] le = ([], refl)
front_goes_on (suc k) (suc m) (x ∷ xs) le =
    let rest = front_goes_on k m xs (omega (arith, le)) in
    (rest.0, ap (λ ys. x ∷ ys) rest.1)

-- They stop at one place only.
none_below : (count : ℕ) (bytes : List ℕ) (n m : ℕ) → StopsAt count bytes n → StopsAt count bytes m → n < m → ⊥
none_below count bytes n m a b low = elim a.ends [ inl e ↦ (let most = b.within in omega (arith, e, most, low)) | inr e ↦ e longer ]
  where
    longer : BeginsSection count (take (n + 1) bytes)
    longer =
        let front = front_goes_on (n + 1) m bytes (omega (arith, low)) in
        let begun = b.begins in
        (front.0 ++ begun.0, (begun.1.0, begun.1.1, sym (append_assoc (take (n + 1) bytes) front.0 begun.0) ∙ ap (λ l. l ++ begun.0) (sym front.1) ∙ begun.1.2))

pub one_stop : (count : ℕ) (bytes : List ℕ) (n m : ℕ) → StopsAt count bytes n → StopsAt count bytes m → n ≡ m
one_stop count bytes n m a b = elim (cases_order n m) [ inl same ↦ same | inr other ↦ elim other [ inl low ↦ absurd (none_below count bytes n m a b low) | inr high ↦ absurd (none_below count bytes m n b a high) ] ]
