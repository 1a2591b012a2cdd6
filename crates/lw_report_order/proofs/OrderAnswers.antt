-- What reading an order answers is what the bytes have.
use Rattle.std.proofs.Common.{◌≡◌, ℕ, ◌+◌, List, [], ◌++◌, length, drop, Result, Ok, Err, refl, sym, ap, subst, ◌∙◌}
use Rattle.lw_report_order.specs.OrderAnswers.{GivesOrder, ReadsOrder, OrderIs, PlaceIs}
use Rattle.lw_report_order.specs.OrderReading.{onto, numbers_read}
use Rattle.lw_report_order.specs.OrderSection.{HasOrder, StopsAt}
use Rattle.lw_report_order.specs.declared.order_stop.OrderStop.{OrderStop}
use Rattle.lw_report_order.specs.declared.order_stop.OrderStop.TheVariants.{Place, Memory}
use Rattle.lw_report_order.proofs.OrderSections.{head, order_found, order_stops, one_order, one_stop}

-- what the numbers behind the first line tell
tells : (count : ℕ) (rest : List ℕ) (s : Result (List ℕ) ℕ) → numbers_read 0 count rest ≡ s → (r : Result (List ℕ) OrderStop) → GivesOrder r (onto [] (length (head count)) s) → ReadsOrder count (head count ++ rest) r
tells count rest (Ok ms) is (Ok ns) h = order_found count rest ns (is ∙ h)
tells count rest (Ok ms) is (Err (Place n)) h = absurd (let bad : Ok ms ≡ Err n = h in cc)
tells count rest (Ok ms) is (Err Memory) h = tt
tells count rest (Err p) is (Ok ns) h = absurd (let bad : Err (length (head count) + p) ≡ Ok ns = h in cc)
tells count rest (Err p) is (Err (Place n)) h =
    let same : length (head count) + p ≡ n = cc in
    subst (StopsAt count (head count ++ rest)) same (order_stops count p rest is)
tells count rest (Err p) is (Err Memory) h = tt

pub reads_order : (count : ℕ) (bytes line : List ℕ) (r : Result (List ℕ) OrderStop) → line ≡ head count → bytes ≡ line ++ drop (length line) bytes
    → GivesOrder r (onto [] (length line) (numbers_read 0 count (drop (length line) bytes))) → ReadsOrder count bytes r
reads_order count bytes line r is front h =
    let rest : List ℕ = drop (length line) bytes in
    let G : List ℕ → Type 0 = λ l. GivesOrder r (onto [] (length l) (numbers_read 0 count rest)) in
    subst (λ l. ReadsOrder count l r) (sym (front ∙ ap (λ l. l ++ rest) is)) (tells count rest (numbers_read 0 count rest) refl r (subst G is h))

pub only_order : (count : ℕ) (bytes numbers : List ℕ) (r : Result (List ℕ) OrderStop) → ReadsOrder count bytes r → HasOrder count bytes numbers → OrderIs numbers r
only_order count bytes numbers (Ok ns) h has = one_order count bytes ns numbers h has
only_order count bytes numbers (Err (Place n)) h has = h.none numbers has
only_order count bytes numbers (Err Memory) h has = tt

pub only_place : (count : ℕ) (bytes : List ℕ) (n : ℕ) (r : Result (List ℕ) OrderStop) → ReadsOrder count bytes r → StopsAt count bytes n → PlaceIs n r
only_place count bytes n (Ok ns) h stops = stops.none ns h
only_place count bytes n (Err (Place m)) h stops = one_stop count bytes m n h stops
only_place count bytes n (Err Memory) h stops = tt
