-- Where an edge meets a row.
use Rattle.std.proofs.Common.{◌≡◌, ℕ, zero, suc, ◌+◌, ◌-◌, ◌*◌, ◌/◌, ◌<◌, ◌≤◌, ◌⊎◌, inl, inr, Bool, true, false, ◌&&◌, ℤ, pos, negsuc, ◌+ℤ◌, ◌-ℤ◌, ◌*ℤ◌, ◌<ℤ◌, ◌≤ℤ◌, refl, ap, sym, ◌∙◌, ⊎_elim, arith, mul-le-mul}
use Rattle.std.specs.Prelude.{int_lt, int_le}
use Rattle.std.proofs.lemmas.Bool.{cases_lt, false≢true, and_left, and_from}
use Rattle.std.proofs.lemmas.Int.{ints, by_lt_z}
use borrow.Author.Differences.{up, down, same_out, lt_out, le_out, same_in, lt_in, le_in, sum_is_lem, neg_is, product_is}
use Rattle.lw_region.proofs.Numbers.{of_lt, le_of}
use Rattle.lw_region.proofs.Columns.{le_true, le_false, le_lt_false}
use Rattle.lw_area.specs.declared.point.Point.{Point}
use Rattle.lw_area.specs.Polygons.{passes}

pub ruleset signed = (same_out, lt_out, le_out, same_in, lt_in, le_in, sum_is_lem, neg_is, product_is)

-- tests that follow from each other are one
pub one_test : (p q : Bool) → (p ≡ true → q ≡ true) → (q ≡ true → p ≡ true) → p ≡ q
one_test true q f g = sym (f refl)
one_test false true f g = g refl
one_test false false f g = refl

-- a difference of two numbers, times a third
scaled : (t u v : ℕ) → t * (up (pos v -ℤ pos u) + u) ≡ t * (v + down (pos v -ℤ pos u))
scaled t u v = ap (λ w. t * w) (omega (arith, signed))

-- the products of the rule, without the differences
meets : (m t u v k : ℕ) → (pos t *ℤ (pos v -ℤ pos u)) ≤ℤ ((pos k -ℤ pos u) *ℤ pos (m + t)) → m * u + t * v ≤ k * (m + t)
meets m t u v k h =
    let e = scaled t u v in
    let f = scaled m u k in
    let g = scaled t u k in
    omega (arith, signed)

meets_back : (m t u v k : ℕ) → m * u + t * v ≤ k * (m + t) → (pos t *ℤ (pos v -ℤ pos u)) ≤ℤ ((pos k -ℤ pos u) *ℤ pos (m + t))
meets_back m t u v k h =
    let e = scaled t u v in
    let f = scaled m u k in
    let g = scaled t u k in
    omega (arith, signed)

-- a number that isn't one of columns, counted from the first, is left of where the edge meets the row
below_first : (t u j : ℕ) → t * (up (negsuc j -ℤ pos u) + u + suc j) ≡ t * down (negsuc j -ℤ pos u)
below_first t u j = ap (λ w. t * w) (omega (arith, signed))

meets_none : (m t u v j : ℕ) → 0 < m → (pos t *ℤ (pos v -ℤ pos u)) ≤ℤ ((negsuc j -ℤ pos u) *ℤ pos (m + t)) → ⊥
meets_none m t u v j l h =
    let e = scaled t u v in
    let f = below_first m u j in
    let g = below_first t u j in
    omega (arith, signed)

-- a quotient that is rounded up
rounded : (n h k : ℕ) → 0 < h → n ≤ k * h → (n + (h - 1)) / h ≤ k
rounded n h k l f =
    let q = (n + (h - 1)) / h in
    ⊎_elim (λ (s : k < q). let p : suc k * h ≤ q * h = mul-le-mul (omega arith) (omega arith) in
    let r : q * h ≤ n + (h - 1) = omega arith in absurd (omega arith)) (λ s. s) (cases_lt k q)

rounded_back : (n h k : ℕ) → 0 < h → (n + (h - 1)) / h ≤ k → n ≤ k * h
rounded_back n h k l f =
    let p : ((n + (h - 1)) / h) * h ≤ k * h = mul-le-mul f (omega arith) in
    let r : n + (h - 1) < ((n + (h - 1)) / h) * h + h = omega arith in omega arith

-- a column counted from the first one of all
column_test : (m t u v : ℕ) (z : ℤ) → 0 < m
    → int_le (pos t *ℤ (pos v -ℤ pos u)) ((z -ℤ pos u) *ℤ pos (m + t)) ≡ int_le (pos (((m * u + t * v) + ((m + t) - 1)) / (m + t))) z
column_test m t u v (pos k) l =
    let q = ((m * u + t * v) + ((m + t) - 1)) / (m + t) in
    one_test _ _
    (λ h. let r : q ≤ k = rounded (m * u + t * v) (m + t) k (omega arith) (meets m t u v k (le_of _ _ h)) in le_true (pos q) (pos k) (omega (arith, ints)))
    (λ h. let n = le_of (pos q) (pos k) h in let r : q ≤ k = omega (arith, ints) in
    le_true _ _ (meets_back m t u v k (rounded_back (m * u + t * v) (m + t) k (omega arith) r)))
column_test m t u v (negsuc j) l =
    let q = ((m * u + t * v) + ((m + t) - 1)) / (m + t) in
    one_test _ _
    (λ h. absurd (meets_none m t u v j l (le_of _ _ h)))
    (λ h. let n = le_of (pos q) (negsuc j) h in absurd (omega (arith, ints)))

-- a test moved by the first column's number
moved_test : (z x : ℤ) (q : ℕ) → z ≡ x +ℤ pos 2048 → int_le (pos q) z ≡ int_le (pos q -ℤ pos 2048) x
moved_test z x q e =
    one_test _ _
    (λ w. let n = le_of (pos q) z w in le_true (pos q -ℤ pos 2048) x (omega (arith, ints)))
    (λ w. let n = le_of (pos q -ℤ pos 2048) x w in le_true (pos q) z (omega (arith, ints)))

-- the edge is left of a pixel from a column on
pub passes_from : (a b : Point) (x y : ℤ) (m t u v q : ℕ) → a.x ≡ pos u -ℤ pos 2048 → b.x ≡ pos v -ℤ pos 2048 → y ≡ a.y +ℤ pos t → b.y ≡ a.y +ℤ pos (m + t) → 0 < m
    → q ≡ ((m * u + t * v) + ((m + t) - 1)) / (m + t) → passes a b x y ≡ int_le (pos q -ℤ pos 2048) x
unfolding passes
passes_from a b x y m t u v q e f g h l r =
    let z = x +ℤ pos 2048 in
    let above : int_le a.y y ≡ true = le_true a.y y (omega (arith, ints)) in
    let below : int_lt y b.y ≡ true = of_lt y b.y (omega (arith, ints)) in
    let t' : y -ℤ a.y ≡ pos t = omega (arith, ints) in
    let d' : b.x -ℤ a.x ≡ pos v -ℤ pos u = omega (arith, ints) in
    let x' : x -ℤ a.x ≡ z -ℤ pos u = omega (arith, ints) in
    let h' : b.y -ℤ a.y ≡ pos (m + t) = omega (arith, ints) in
    rw (above, below, t', d', x', h', r) (column_test m t u v z l ∙ moved_test z x _ refl)

-- the column is none right of both ends
pub column_most : (m t u v q : ℕ) → 0 < m → u ≤ 6143 → v ≤ 6143 → q ≡ ((m * u + t * v) + ((m + t) - 1)) / (m + t) → q ≤ 6143
column_most m t u v q l h k e =
    let p : m * u ≤ m * 6143 = mul-le-mul (omega arith) h in
    let r : t * v ≤ t * 6143 = mul-le-mul (omega arith) k in
    rw e (rounded (m * u + t * v) (m + t) 6143 (omega arith) (omega arith))
