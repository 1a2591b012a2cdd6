-- An order's first bad place is one.
use Rattle.std.proofs.Common.{◌≡◌, ℕ, ◌+◌, ◌<◌, ◌≤◌, inl, inr, Bool, true, false, nat_lt, List, ◌++◌, length, take, refl, sym, ap, subst, ◌∙◌, append_assoc, arith}
use Rattle.std.proofs.lemmas.Bool.{true≢false, ltb-true, ltb-false}
use Rattle.lw_calls.specs.Plan.{Plan}
use Rattle.lw_calls.specs.Orders.{is_legal, Begins, EndsAt, IsBadPlace}
use Rattle.lw_report_order.proofs.OrderSections.{front_goes_on}

-- what begins a legal order has fronts that do
front_begins : (plan : Plan) (k m : ℕ) (order : List ℕ) → k ≤ m → Begins plan (take m order) → Begins plan (take k order)
front_begins plan k m order le begins =
    let front = front_goes_on k m order le in
    let P : List ℕ → Type 0 = λ ns. is_legal plan ns ≡ true in
    (front.0 ++ begins.0, subst P (ap (λ ns. ns ++ begins.0) front.1 ∙ append_assoc (take k order) front.0 begins.0) begins.1)

-- no bad place stands before another
none_below : (plan : Plan) (order : List ℕ) (k m : ℕ) → IsBadPlace plan order k → IsBadPlace plan order m → k < m → ⊥
none_below plan order k m a b below =
    elim a.ends [ inl e ↦ e.1 (front_begins plan (k + 1) m order (omega arith) b.before) | inr e ↦ past e b.ends ]
  where
    past : k ≡ length order → EndsAt plan order m → ⊥
    past e (inl f) = omega (arith, e, f.0, below)
    past e (inr f) = omega (arith, e, f, below)

pub one_bad_place : (plan : Plan) (order : List ℕ) (k m : ℕ) → IsBadPlace plan order k → IsBadPlace plan order m → k ≡ m
one_bad_place plan order k m a b = step (nat_lt k m) refl (nat_lt m k) refl
  where
    step : (s : Bool) → nat_lt k m ≡ s → (t : Bool) → nat_lt m k ≡ t → k ≡ m
    step true e t d = absurd (none_below plan order k m a b (ltb-true k m e))
    step false e true d = absurd (none_below plan order m k b a (ltb-true m k d))
    step false e false d =
        let over : m ≤ k = ltb-false k m e in
        let under : k ≤ m = ltb-false m k d in
        omega (arith, over, under)

-- a legal order has none
pub legal_or_bad : (plan : Plan) (order : List ℕ) (k : ℕ) → is_legal plan order ≡ true → IsBadPlace plan order k → ⊥
legal_or_bad plan order k legal bad = true≢false (sym legal ∙ bad.illegal)
