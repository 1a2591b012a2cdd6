-- A report's text tells its order, with which it begins.
use Rattle.std.proofs.Common.{◌≡◌, ℕ, ◌+◌, ◌%◌, ◌<◌, ◌≤◌, true, List, [], ◌∷◌, ◌++◌, length, drop, ◌^◌, refl, sym, ap, ◌∙◌, append_assoc, arith}
use Rattle.std.specs.Fmt.{decimal}
use Rattle.std.proofs.lemmas.Fmt.{decimal_by_steps, decimal_injective}
use Rattle.lw_calls.specs.Final.{Final}
use Rattle.lw_calls.specs.Plan.{Plan, IsPlan}
use Rattle.lw_calls.specs.Orders.{is_legal}
use Rattle.lw_machine.specs.Finals.{run_final}
use Rattle.lw_machine.specs.Hook.{Hook}
use Rattle.lw_machine.specs.Report.{order_numbers, order_part, planes_part, of_slots, visible_text, damage_text, messages_text, replies_part, report, run_report}
use Rattle.lw_report_order.specs.OrderSection.{HasOrder}
use Rattle.lw_report_order.proofs.OrderSections.{section_is, one_order}
use Rattle.lw_top.specs.Audit.{call_count}
use Rattle.lw_top.specs.Run.{ReportsTellTheirOrder}
use Rattle.lw_top.proofs.CallCount.{legal_tasks, order_short}

-- bytes of decimal digits
abbrev AreDigits : List ℕ → Type 0
AreDigits [] = Unit {0}
AreDigits (b ∷ bs) = (48 ≤ b) × (b ≤ 57) × AreDigits bs

digits_more : (xs ys : List ℕ) → AreDigits xs → AreDigits ys → AreDigits (xs ++ ys)
digits_more [] ys h k = k
digits_more (x ∷ xs) ys h k = (h.0, h.1, digits_more xs ys h.2 k)

decimal_digits : (n : ℕ) → n < 2 ^ 64 → AreDigits (decimal n)
decimal_digits n low =
    decimal_by_steps (λ n ds. AreDigits ds) (λ n h. (omega arith, omega arith, tt)) (λ n ds h k. digits_more ds ((48 + n % 10) ∷ []) k (omega arith, omega arith, tt)) n low

-- digits end at the first byte below them
digits_end : (xs ys : List ℕ) (d e : ℕ) (us vs : List ℕ) → AreDigits xs → AreDigits ys → d < 48 → e < 48 → xs ++ d ∷ us ≡ ys ++ e ∷ vs → (xs ≡ ys) × (us ≡ vs)
digits_end [] [] d e us vs h k low high is = (refl, cc is)
digits_end [] (y ∷ ys) d e us vs h k low high is = absurd (let same : d ≡ y = cc is in let digit = k.0 in omega (arith, same, low, digit))
digits_end (x ∷ xs) [] d e us vs h k low high is = absurd (let same : x ≡ e = cc is in let digit = h.0 in omega (arith, same, high, digit))
digits_end (x ∷ xs) (y ∷ ys) d e us vs h k low high is =
    let first : x ≡ y = cc is in
    let rest = digits_end xs ys d e us vs h.2 k.2 low high (cc is) in
    (ap (λ z. z ∷ xs) first ∙ ap (λ zs. y ∷ zs) rest.0, rest.1)

-- a report begins with its order
regrouped : (O P V D M R E : List ℕ) → (((((O ++ P) ++ V) ++ D) ++ M) ++ R) ++ E ≡ O ++ (P ++ (V ++ (D ++ (M ++ (R ++ E)))))
regrouped O P V D M R E = simp append_assoc

begins : (p : Plan) (a : List ℕ) (x : Final) → (rest : List ℕ) × (report p a x ≡ order_part a ++ rest)
unfolding report
begins p a x =
    let V = of_slots visible_text p.slot_names x.slots in
    let D = of_slots damage_text p.slot_names x.slots in
    let M = of_slots messages_text p.slot_names x.slots in
    let R = replies_part p.slot_names p.task_names x.replies in
    let E : List ℕ = 100 ∷ 111 ∷ 110 ∷ 101 ∷ 10 ∷ [] in
    (planes_part x.planes ++ (V ++ (D ++ (M ++ (R ++ E)))), regrouped (order_part a) (planes_part x.planes) V D M R E)

-- The machine's report in a legal order begins with a section for the plan's calls.
pub report_has : (plan : Plan) (hooks : List Hook) (order text : List ℕ) → IsPlan plan → is_legal plan order ≡ true → text ≡ run_report plan hooks order → HasOrder (call_count plan) text order
report_has plan hooks order text ok legal is =
    let front = begins plan order (run_final plan hooks order) in
    record { tasks = legal_tasks plan order ok legal; rest = front.0; is = is ∙ front.1 }

-- the number of numbers on the first line, and what stands behind it
counted : (a rest : List ℕ) → order_part a ++ rest ≡ 111 ∷ 114 ∷ 100 ∷ 101 ∷ 114 ∷ 32 ∷ (decimal (length a) ++ 10 ∷ (order_numbers 0 a ++ rest))
counted a rest = ap (λ l. l ++ rest) (section_is (length a) a refl) ∙ spelled (decimal (length a)) (order_numbers 0 a) rest
  where
    spelled : (n N r : List ℕ) → ((111 ∷ 114 ∷ 100 ∷ 101 ∷ 114 ∷ 32 ∷ (n ++ 10 ∷ [])) ++ N) ++ r ≡ 111 ∷ 114 ∷ 100 ∷ 101 ∷ 114 ∷ 32 ∷ (n ++ 10 ∷ (N ++ r))
    spelled n N r = simp append_assoc

pub reports_tell : ReportsTellTheirOrder
reports_tell p q a b x y ok_p ok_q legal_a legal_b same =
    let f = begins p a x in
    let g = begins q b y in
    let first = legal_tasks p a ok_p legal_a in
    let second = legal_tasks q b ok_q legal_b in
    let short_a = order_short p a ok_p legal_a in
    let short_b = order_short q b ok_q legal_b in
    let rest : decimal (length a) ++ 10 ∷ (order_numbers 0 a ++ f.0) ≡ decimal (length b) ++ 10 ∷ (order_numbers 0 b ++ g.0) = ap (drop 6) (sym (counted a f.0) ∙ (sym f.1 ∙ (same ∙ (g.1 ∙ counted b g.0)))) in
    let parts = digits_end (decimal (length a)) (decimal (length b)) 10 10 (order_numbers 0 a ++ f.0) (order_numbers 0 b ++ g.0) (decimal_digits (length a) short_a) (decimal_digits (length b) short_b) (omega arith) (omega arith) rest in
    let long : length a ≡ length b = decimal_injective (length a) (length b) short_a short_b parts.0 in
    one_order (length b) (report p a x) a b (record { tasks = record { many = long; below = first.below }; rest = f.0; is = f.1 }) (record { tasks = record { many = refl; below = second.below }; rest = g.0; is = same ∙ g.1 })
