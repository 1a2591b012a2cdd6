-- Laws of a quotient that is stepped.
use Rattle.std.proofs.Common.{◌≡◌, ℕ, ◌+◌, ◌-◌, ◌*◌, ◌/◌, ◌<◌, ◌≤◌, ◌∙◌, sym, ap, ⊎_elim, arith}
use Rattle.std.proofs.lemmas.Bool.{cases_lt}
use Rattle.std.proofs.Math.Arith.{digits_div}
use Rattle.std.proofs.Math.Nat.{mul-add, mul-sub, mul_comm, mul-le-mul_left}
use Rattle.lw_draw.specs.Quotients.{IsQuotient}
use Rattle.lw_draw.specs.declared.quotients.Quotient.{Quotient}

-- the value is the quotient
pub quotient_value : (total gain divisor : ℕ) (q : Quotient) → IsQuotient total gain divisor q → q.value ≡ total / divisor
quotient_value total gain divisor q is =
    sym (digits_div q.value q.rest_below) ∙
    (ap (λ t. (t + q.rest) / q.divisor) (mul_comm q.value q.divisor) ∙
    (ap (λ t. t / q.divisor) is.total_is ∙ ap (λ d. total / d) is.divisor_is))

-- one step on
pub next_total : (d v r w p : ℕ) → d * (v + w) + (r + p) ≡ (d * v + r) + (d * w + p)
next_total d v r w p = omega (arith, mul-add d v w)

-- and where what is left over is a divisor or more
pub carried_total : (d v r w p : ℕ) → d ≤ r + p → d * (v + w + 1) + (r + p - d) ≡ (d * v + r) + (d * w + p)
carried_total d v r w p over = omega (arith, over, mul-add d (v + w) 1, mul-add d v w)

-- a total that is no less has no smaller quotient
pub whole_small : (d v r w p : ℕ) → r < d → d * w + p ≤ d * v + r → w ≤ v
whole_small d v r w p below least =
    ⊎_elim
    (λ (less : v < w). let grows : d * (v + 1) ≤ d * w = mul-le-mul_left d (omega (arith, less)) in absurd (omega (arith, grows, mul-add d v 1)))
    (λ (is : w ≤ v). is)
    (cases_lt v w)

-- and a greater one where it has less left over
pub whole_less : (d v r w p : ℕ) → r < p → d * w + p ≤ d * v + r → w < v
whole_less d v r w p over least =
    ⊎_elim (λ (is : w < v). is) (λ (more : v ≤ w). let grows : d * v ≤ d * w = mul-le-mul_left d more in absurd (omega (arith, grows))) (cases_lt w v)

-- one step back
pub prior_total : (d v r w p : ℕ) → w ≤ v → p ≤ r → d * (v - w) + (r - p) ≡ (d * v + r) - (d * w + p)
prior_total d v r w p least enough = let grows : d * w ≤ d * v = mul-le-mul_left d least in omega (arith, grows, mul-sub d v w)

-- and where too little is left over
pub borrowed_total : (d v r w p : ℕ) → w < v → r < p → p < d → d * (v - w - 1) + (r + (d - p)) ≡ (d * v + r) - (d * w + p)
borrowed_total d v r w p less over below =
    let grows : d * (w + 1) ≤ d * v = mul-le-mul_left d (omega (arith, less)) in
    let back : v ≡ (v - w - 1) + (w + 1) = omega (arith, less) in
    let parts : d * v ≡ d * (v - w - 1) + d * (w + 1) = ap (λ t. d * t) back ∙ mul-add d (v - w - 1) (w + 1) in
    omega (arith, grows, parts, mul-add d w 1)
