-- A command has one outcome on an input.
use Rattle.std.proofs.Common.{◌≡◌, ℕ, zero, suc, ◌+◌, ◌≤◌, ◌⊎◌, inl, inr, Bool, true, false, ◌&&◌, List, [], codes, length, take, refl, sym, ap, subst, ◌∙◌, arith}
use Rattle.std.proofs.lemmas.Bool.{cases_lt}
use Rattle.std.proofs.lemmas.List.{take_all}
use Rattle.lw_grammar.specs.declared.reason.Reason.{Reason}
use Rattle.lw_calls.specs.Plan.{Plan, IsPlan}
use Rattle.lw_calls.specs.Orders.{is_legal, keeps_groups, is_complete, IsBadPlace}
use Rattle.lw_calls.proofs.OrdersComplete.{begins}
use Rattle.lw_calls.proofs.OrderReading.{bad_here, bad_at_end}
use Rattle.lw_calls.specs.Written.{line_of}
use Rattle.lw_machine.specs.Hook.{Hook}
use Rattle.lw_machine.specs.Report.{run_report}
use Rattle.lw_canonical.specs.Canonical.{canonical_text}
use Rattle.lw_grammar.specs.Lines.{lines}
use Rattle.lw_grammar.specs.Script.{ScriptInput, SpellsInput, IsFirstBadIn}
use Rattle.lw_grammar.proofs.ScriptOutcome.{input_decided, bad_or_spelled, one_bad_line, one_spelled}
use Rattle.lw_grammar.proofs.ScriptRunnable.{spelled_runnable}
use Rattle.lw_top.specs.declared.status.Status.{Status}
use Rattle.lw_top.specs.declared.status.Status.TheVariants.{Done, Refused, TooLong, Differs, BadOrder}
use Rattle.lw_top.specs.declared.words.ScriptCommand.{ScriptCommand}
use Rattle.lw_top.specs.declared.words.ScriptCommand.TheVariants.{Run, Check, Replay, Audit}
use Rattle.lw_report_order.specs.Differing.{DiffersAt}
use Rattle.lw_report_order.specs.OrderSection.{HasOrder, StopsAt}
use Rattle.lw_report_order.proofs.OrderSections.{order_or_place, one_order, one_stop, same_or_differ, one_difference, same_or_differs}
use Rattle.lw_top.specs.Audit.{call_count, IsMachineReport, IsBadReportOrder, IsDifference}
use Rattle.lw_top.specs.Commands.{output_of, reads_with, behind_script, IsTextFor, IsBadOrderFor, IsDifferenceFor}
use Rattle.lw_top.specs.Outcome.{IsOutcomeFor, IsOutcome}
use Rattle.lw_top.specs.Laws.{IsDecided}
use Rattle.lw_top.specs.Status.{text_of, input_limit}
use Rattle.lw_top.proofs.BadPlaces.{one_bad_place, legal_or_bad}
use Rattle.lw_top.proofs.PrintedOrder.{report_has}

-- An order that isn't legal has a first bad place: it stands among the last n places, or at the order's end.
bad_from : (plan : Plan) → IsPlan plan → (order : List ℕ) → is_legal plan order ≡ false → (n k : ℕ) → k + n ≡ length order → keeps_groups plan [] (take k order) ≡ true → (place : ℕ) × IsBadPlace plan order place
bad_from plan ok order illegal zero k e keeps =
    let all : take k order ≡ order = take_all k order (omega (arith, e)) in
    let kept : keeps_groups plan [] order ≡ true = subst (λ ns. keeps_groups plan [] ns ≡ true) all keeps in
    (length order, bad_at_end plan ok order kept (subst (λ b. (b && is_complete plan order) ≡ false) kept illegal))
bad_from plan ok order illegal (suc n) k e keeps = step (λ d. bad_from plan ok order illegal n (k + 1) (omega (arith, e)) d) (keeps_groups plan [] (take (k + 1) order)) refl
  where
    step : (keeps_groups plan [] (take (k + 1) order) ≡ true → (place : ℕ) × IsBadPlace plan order place) → (b : Bool) → keeps_groups plan [] (take (k + 1) order) ≡ b → (place : ℕ) × IsBadPlace plan order place
    step on true d = on d
    step on false d = (k, bad_here plan ok order k (omega (arith, e)) keeps d)

-- each script has an outcome
outcome_for : (hooks : List Hook) (command : ScriptCommand) (input : List ℕ) (script : ScriptInput) → IsPlan script.plan → (status : Status) × (text : List ℕ) × IsOutcomeFor hooks command input script status text
outcome_for hooks Run input script ok = let legal = begins script.plan ok [] refl in (Done, run_report script.plan hooks legal.0, (legal.0, legal.1, refl))
outcome_for hooks Check input script ok = (Done, canonical_text script.plan, refl)
outcome_for hooks (Replay output) input script ok = step (is_legal script.plan script.order) refl
  where
    step : (b : Bool) → is_legal script.plan script.order ≡ b → (status : Status) × (text : List ℕ) × IsOutcomeFor hooks (Replay output) input script status text
    step true d = (Done, output_of output script.plan hooks script.order, (d, refl))
    step false d =
        let bad = bad_from script.plan ok script.order d (length script.order) 0 (omega arith) refl in
        (BadOrder bad.0, text_of (BadOrder bad.0), (bad.1, refl))
outcome_for hooks Audit input script ok = first (order_or_place count report)
  where
    report : List ℕ
    report = behind_script input script

    count : ℕ
    count = call_count script.plan

    Answer : Type 0
    Answer = (status : Status) × (text : List ℕ) × IsOutcomeFor hooks Audit input script status text

    compared : (order : List ℕ) → HasOrder count report order → is_legal script.plan order ≡ true → (report ≡ run_report script.plan hooks order) ⊎ ((n : ℕ) × DiffersAt report (run_report script.plan hooks order) n) → Answer
    compared order has legal (inl same) = (Done, line_of (codes "same"), ((order, legal, same), refl))
    compared order has legal (inr d) = (Differs d.0, text_of (Differs d.0), (inr (record { order = order; has = has; legal = legal; differs = d.1 }), refl))

    placed : (order : List ℕ) → HasOrder count report order → (b : Bool) → is_legal script.plan order ≡ b → Answer
    placed order has true legal = compared order has legal (same_or_differ report (run_report script.plan hooks order))
    placed order has false d =
        let bad = bad_from script.plan ok order d (length order) 0 (omega arith) refl in
        (BadOrder bad.0, text_of (BadOrder bad.0), ((order, has, bad.1), refl))

    first : ((order : List ℕ) × HasOrder count report order) ⊎ ((n : ℕ) × StopsAt count report n) → Answer
    first (inl h) = placed h.0 h.1 (is_legal script.plan h.0) refl
    first (inr n) = (Differs n.0, text_of (Differs n.0), (inl n.1, refl))

-- the outcome on a script is that on the input that spells it
pub outcome_of_script : (hooks : List Hook) (command : ScriptCommand) (input : List ℕ) (script : ScriptInput) (s : Status) (text : List ℕ) → length input ≤ input_limit → SpellsInput (reads_with (length hooks) command) input script → IsOutcomeFor hooks command input script s text → IsOutcome hooks command input s text
outcome_of_script hooks command input script Done text short spelled h = (short, script, spelled, h)
outcome_of_script hooks command input script (BadOrder place) text short spelled h = (short, script, spelled, h)
outcome_of_script hooks command input script (Differs place) text short spelled h = (short, script, spelled, h)
outcome_of_script hooks command input script s text short spelled h = absurd h

-- a first bad line is refused with its text
pub refused_outcome : (hooks : List Hook) (command : ScriptCommand) (input : List ℕ) (line l : ℕ) (reason r : Reason) (s : Status) (text : List ℕ) → length input ≤ input_limit → l ≡ line → r ≡ reason → IsFirstBadIn (reads_with (length hooks) command) (lines input) line reason → s ≡ Refused l r → text ≡ text_of (Refused l r) → IsOutcome hooks command input s text
refused_outcome hooks command input line l reason r s text short same_line same_reason bad is said =
    let P : ℕ → Type 0 = λ k. IsFirstBadIn (reads_with (length hooks) command) (lines input) k reason in
    let Q : Reason → Type 0 = λ q. IsFirstBadIn (reads_with (length hooks) command) (lines input) l q in
    subst (λ q. IsOutcome hooks command input q text) (sym is) (short, subst Q (sym same_reason) (subst P (sym same_line) bad), said)

-- each input has one
some_outcome : (hooks : List Hook) (command : ScriptCommand) (input : List ℕ) → (status : Status) × (text : List ℕ) × IsOutcome hooks command input status text
some_outcome hooks command input = elim (cases_lt input_limit (length input)) [ inl long ↦ (TooLong, text_of TooLong, (long, refl)) | inr short ↦ read short (input_decided (reads_with (length hooks) command) input).either ]
  where
    read : length input ≤ input_limit → ((n : ℕ) × (reason : Reason) × IsFirstBadIn (reads_with (length hooks) command) (lines input) n reason) ⊎ ((script : ScriptInput) × SpellsInput (reads_with (length hooks) command) input script) → (status : Status) × (text : List ℕ) × IsOutcome hooks command input status text
    read short (inl bad) = (Refused bad.0 bad.1, text_of (Refused bad.0 bad.1), (short, bad.2, refl))
    read short (inr spelled) =
        let o = outcome_for hooks command input spelled.0 (spelled_runnable (reads_with (length hooks) command) input spelled.0 spelled.1).plan in
        (o.0, o.1, outcome_of_script hooks command input spelled.0 o.0 o.1 short spelled.1 o.2)

-- of the text of a command, that there is one only, or that it is a run's report
abbrev IsOneText : ScriptCommand → Status → List ℕ → List ℕ → Type 0
IsOneText command s a b = (a ≡ b) ⊎ ((command ≡ Run) × (s ≡ Done))

-- The machine's report in a legal order begins with that order, of which there is one only.
machine_has : (hooks : List Hook) (plan : Plan) (text : List ℕ) → IsPlan plan → (m : IsMachineReport hooks plan text) → HasOrder (call_count plan) text m.0
machine_has hooks plan text ok m = report_has plan hooks m.0 text ok m.1 m.2

-- such a report has no other legal order, and differs from the machine's nowhere
machine_or_bad : (hooks : List Hook) (plan : Plan) (text : List ℕ) (place : ℕ) → IsPlan plan → IsMachineReport hooks plan text → IsBadReportOrder plan text place → ⊥
machine_or_bad hooks plan text place ok m bad =
    let same = one_order (call_count plan) text m.0 bad.0 (machine_has hooks plan text ok m) bad.1 in
    legal_or_bad plan bad.0 place (subst (λ order. is_legal plan order ≡ true) same m.1) bad.2

machine_or_differs : (hooks : List Hook) (plan : Plan) (text : List ℕ) (place : ℕ) → IsPlan plan → IsMachineReport hooks plan text → IsDifference hooks plan text place → ⊥
machine_or_differs hooks plan text place ok m (inl stops) = stops.none m.0 (machine_has hooks plan text ok m)
machine_or_differs hooks plan text place ok m (inr d) =
    let same = one_order (call_count plan) text m.0 d.order (machine_has hooks plan text ok m) d.has in
    let is : text ≡ run_report plan hooks d.order = m.2 ∙ ap (run_report plan hooks) same in
    same_or_differs text place (subst (λ l. DiffersAt text l place) (sym is) d.differs)

bad_or_differs : (hooks : List Hook) (plan : Plan) (text : List ℕ) (k m : ℕ) → IsBadReportOrder plan text k → IsDifference hooks plan text m → ⊥
bad_or_differs hooks plan text k m bad (inl stops) = stops.none bad.0 bad.1
bad_or_differs hooks plan text k m bad (inr d) =
    let same = one_order (call_count plan) text d.order bad.0 d.has bad.1 in
    legal_or_bad plan bad.0 k (subst (λ order. is_legal plan order ≡ true) same d.legal) bad.2

one_bad_report : (plan : Plan) (text : List ℕ) (k m : ℕ) → IsBadReportOrder plan text k → IsBadReportOrder plan text m → k ≡ m
one_bad_report plan text k m a b =
    let same = one_order (call_count plan) text a.0 b.0 a.1 b.1 in
    one_bad_place plan b.0 k m (subst (λ order. IsBadPlace plan order k) same a.2) b.2

one_place : (hooks : List Hook) (plan : Plan) (text : List ℕ) (k m : ℕ) → IsDifference hooks plan text k → IsDifference hooks plan text m → k ≡ m
one_place hooks plan text k m (inl a) (inl b) = one_stop (call_count plan) text k m a b
one_place hooks plan text k m (inl a) (inr b) = absurd (a.none b.order b.has)
one_place hooks plan text k m (inr a) (inl b) = absurd (b.none a.order a.has)
one_place hooks plan text k m (inr a) (inr b) =
    let same = one_order (call_count plan) text a.order b.order a.has b.has in
    one_difference text (run_report plan hooks b.order) k m (subst (λ order. DiffersAt text (run_report plan hooks order) k) same a.differs) b.differs

-- a script has one text for a command, but for a run, or one bad place of its order, or one place at which its report differs, and
-- no two of these
one_text : (hooks : List Hook) (command : ScriptCommand) (input : List ℕ) (script : ScriptInput) (a b : List ℕ) → IsTextFor hooks command input script a → IsTextFor hooks command input script b → IsOneText command Done a b
one_text hooks Run input script a b x y = inr (refl, refl)
one_text hooks Check input script a b x y = inl (x ∙ sym y)
one_text hooks (Replay output) input script a b x y = inl (x.1 ∙ sym y.1)
one_text hooks Audit input script a b x y = inl (x.1 ∙ sym y.1)

text_or_bad : (hooks : List Hook) (command : ScriptCommand) (input : List ℕ) (script : ScriptInput) (text : List ℕ) (place : ℕ) → IsPlan script.plan → IsTextFor hooks command input script text → IsBadOrderFor command input script place → ⊥
text_or_bad hooks Run input script text place ok h bad = bad
text_or_bad hooks Check input script text place ok h bad = bad
text_or_bad hooks (Replay output) input script text place ok h bad = legal_or_bad script.plan script.order place h.0 bad
text_or_bad hooks Audit input script text place ok h bad = machine_or_bad hooks script.plan (behind_script input script) place ok h.0 bad

text_or_differs : (hooks : List Hook) (command : ScriptCommand) (input : List ℕ) (script : ScriptInput) (text : List ℕ) (place : ℕ) → IsPlan script.plan → IsTextFor hooks command input script text → IsDifferenceFor hooks command input script place → ⊥
text_or_differs hooks Run input script text place ok h d = d
text_or_differs hooks Check input script text place ok h d = d
text_or_differs hooks (Replay output) input script text place ok h d = d
text_or_differs hooks Audit input script text place ok h d = machine_or_differs hooks script.plan (behind_script input script) place ok h.0 d

order_or_differs : (hooks : List Hook) (command : ScriptCommand) (input : List ℕ) (script : ScriptInput) (k m : ℕ) → IsBadOrderFor command input script k → IsDifferenceFor hooks command input script m → ⊥
order_or_differs hooks Run input script k m bad d = d
order_or_differs hooks Check input script k m bad d = d
order_or_differs hooks (Replay output) input script k m bad d = d
order_or_differs hooks Audit input script k m bad d = bad_or_differs hooks script.plan (behind_script input script) k m bad d

one_bad_order : (command : ScriptCommand) (input : List ℕ) (script : ScriptInput) (k m : ℕ) → IsBadOrderFor command input script k → IsBadOrderFor command input script m → k ≡ m
one_bad_order Run input script k m a b = absurd a
one_bad_order Check input script k m a b = absurd a
one_bad_order (Replay output) input script k m a b = one_bad_place script.plan script.order k m a b
one_bad_order Audit input script k m a b = one_bad_report script.plan (behind_script input script) k m a b

one_differs : (hooks : List Hook) (command : ScriptCommand) (input : List ℕ) (script : ScriptInput) (k m : ℕ) → IsDifferenceFor hooks command input script k → IsDifferenceFor hooks command input script m → k ≡ m
one_differs hooks Run input script k m a b = absurd a
one_differs hooks Check input script k m a b = absurd a
one_differs hooks (Replay output) input script k m a b = absurd a
one_differs hooks Audit input script k m a b = one_place hooks script.plan (behind_script input script) k m a b

one_for : (hooks : List Hook) (command : ScriptCommand) (input : List ℕ) (script : ScriptInput) (s q : Status) (a b : List ℕ) → IsPlan script.plan → IsOutcomeFor hooks command input script s a → IsOutcomeFor hooks command input script q b → (s ≡ q) × IsOneText command s a b
one_for hooks command input script Done Done a b ok x y = (refl, one_text hooks command input script a b x y)
one_for hooks command input script Done (BadOrder m) a b ok x y = absurd (text_or_bad hooks command input script a m ok x y.0)
one_for hooks command input script (BadOrder k) Done a b ok x y = absurd (text_or_bad hooks command input script b k ok y x.0)
one_for hooks command input script Done (Differs m) a b ok x y = absurd (text_or_differs hooks command input script a m ok x y.0)
one_for hooks command input script (Differs k) Done a b ok x y = absurd (text_or_differs hooks command input script b k ok y x.0)
one_for hooks command input script (BadOrder k) (Differs m) a b ok x y = absurd (order_or_differs hooks command input script k m x.0 y.0)
one_for hooks command input script (Differs k) (BadOrder m) a b ok x y = absurd (order_or_differs hooks command input script m k y.0 x.0)
one_for hooks command input script (BadOrder k) (BadOrder m) a b ok x y =
    let same : BadOrder k ≡ BadOrder m = ap BadOrder (one_bad_order command input script k m x.0 y.0) in
    (same, inl (x.1 ∙ ap text_of same ∙ sym y.1))
one_for hooks command input script (Differs k) (Differs m) a b ok x y =
    let same : Differs k ≡ Differs m = ap Differs (one_differs hooks command input script k m x.0 y.0) in
    (same, inl (x.1 ∙ ap text_of same ∙ sym y.1))
one_for hooks command input script Done q a b ok x y = absurd y
one_for hooks command input script (BadOrder k) q a b ok x y = absurd y
one_for hooks command input script (Differs k) q a b ok x y = absurd y
one_for hooks command input script s q a b ok x y = absurd x

-- an input has one outcome only, but for the report of a run
pub one_outcome : (hooks : List Hook) (command : ScriptCommand) (input : List ℕ) (s q : Status) (a b : List ℕ) → IsOutcome hooks command input s a → IsOutcome hooks command input q b → (s ≡ q) × IsOneText command s a b
one_outcome hooks command input TooLong TooLong a b x y = (refl, inl (x.1 ∙ sym y.1))
one_outcome hooks command input TooLong q a b x y = absurd (omega (arith, x.0, y.0))
one_outcome hooks command input s TooLong a b x y = absurd (omega (arith, x.0, y.0))
one_outcome hooks command input (Refused m r) (Refused n e) a b x y =
    let bad = one_bad_line (reads_with (length hooks) command) (lines input) m n r e x.1 y.1 in
    let same : Refused m r ≡ Refused n e = ap (λ (k : ℕ). Refused k r) bad.0 ∙ ap (λ (q : Reason). Refused n q) bad.1 in
    (same, inl (x.2 ∙ ap text_of same ∙ sym y.2))
one_outcome hooks command input (Refused m r) q a b x y = absurd (bad_or_spelled (reads_with (length hooks) command) input m r y.1 x.1 y.2)
one_outcome hooks command input s (Refused n e) a b x y = absurd (bad_or_spelled (reads_with (length hooks) command) input n e x.1 y.1 x.2)
one_outcome hooks command input s q a b x y =
    let same = one_spelled (reads_with (length hooks) command) input y.1 x.1 y.2 x.2 in
    let ok = (spelled_runnable (reads_with (length hooks) command) input x.1 x.2).plan in
    one_for hooks command input x.1 s q a b ok x.3 (subst (λ script. IsOutcomeFor hooks command input script q b) same y.3)

pub outcome_decided : (hooks : List Hook) (command : ScriptCommand) (input : List ℕ) → IsDecided hooks command input
outcome_decided hooks command input = record { some = some_outcome hooks command input; one = one_outcome hooks command input }

-- a command's text for a script is the outcome on the input that spells it
pub done_outcome : (hooks : List Hook) (command : ScriptCommand) (input : List ℕ) (script : ScriptInput) (text shown : List ℕ) (s : Status) → length input ≤ input_limit → SpellsInput (reads_with (length hooks) command) input script → IsTextFor hooks command input script text → s ≡ Done → shown ≡ text → IsOutcome hooks command input s shown
done_outcome hooks command input script text shown s short spelled h is said =
    subst (λ q. IsOutcome hooks command input q shown) (sym is) (outcome_of_script hooks command input script Done shown short spelled (subst (IsTextFor hooks command input script) (sym said) h))

-- the canonical text is the outcome of a check, whichever hooks of the right number are handed in
pub checked_outcome : (hooks : List Hook) (count : ℕ) (input : List ℕ) (script : ScriptInput) (s : Status) (text : List ℕ) → length hooks ≡ count → length input ≤ input_limit → SpellsInput (reads_with count Check) input script → s ≡ Done → text ≡ canonical_text script.plan → IsOutcome hooks Check input s text
checked_outcome hooks count input script s text same short spelled is said =
    let P : ℕ → Type 0 = λ n. SpellsInput (reads_with n Check) input script in
    done_outcome hooks Check input script (canonical_text script.plan) text s short (subst P (sym same) spelled) refl is said
