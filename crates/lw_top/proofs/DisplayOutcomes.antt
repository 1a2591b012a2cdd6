-- What is due where a display is shown: an input has one outcome.
use Rattle.std.proofs.Common.{◌≡◌, ℕ, ◌<◌, ◌≤◌, ◌⊎◌, List, length, Result, Ok, Err, false, refl, sym, ap, subst, ◌∙◌, inl, inr, arith}
use Rattle.std.proofs.lemmas.Bool.{cases_lt}
use Rattle.lw_display.specs.declared.reason.ShowReason.{ShowReason}
use Rattle.lw_display.specs.declared.reason.ShowReason.TheVariants.{Line, BadOrder}
use Rattle.lw_display.specs.Shows.{ShowInput}
use Rattle.lw_display.specs.ShowRule.{show_of, IsShow, IsBadShow}
use Rattle.lw_display.specs.ShowTexts.{show_text}
use Rattle.lw_display_run.specs.Shown.{IsShownAs, IsNoShow}
use Rattle.lw_top.specs.declared.status.Status.{Status}
use Rattle.lw_top.specs.declared.status.Status.TheVariants.{Done, Refused, RefusedOrder, TooLong}
use Rattle.lw_top.specs.Displays.{refusal_of, IsDisplayOutcome}
use Rattle.lw_top.specs.Laws.{is_stop, DisplaysAreDecided}
use Rattle.lw_top.specs.Status.{text_of, input_limit}
use Rattle.lw_top.proofs.OutcomeLaws.{AreOutcomes}

-- what is due by what the input is as a show, and what is due of one that is too long
abbrev Due : Status → List ℕ → Result ShowInput (ℕ × ShowReason) → Type 0
Due s text (Ok show) = (s ≡ Done) × (text ≡ show_text show)
Due s text (Err (n, reason)) = (s ≡ refusal_of n reason) × (text ≡ text_of (refusal_of n reason))

due : (input : List ℕ) (s : Status) (text : List ℕ) → length input ≤ input_limit → IsDisplayOutcome input s text → Due s text (show_of input)
due input TooLong text short h = let long = h.0 in absurd (omega (arith, long, short))
due input Done text short h = subst (Due Done text) (sym h.2) (refl, h.3)
due input (Refused n r) text short h = subst (Due (Refused n r) text) (sym h.1) (refl, h.2)
due input (RefusedOrder n) text short h = subst (Due (RefusedOrder n) text) (sym h.1) (refl, h.2)
due input s text short h = absurd h

too_long : (input : List ℕ) (s : Status) (text : List ℕ) → input_limit < length input → IsDisplayOutcome input s text → (s ≡ TooLong) × (text ≡ text_of TooLong)
too_long input TooLong text long h = (refl, h.1)
too_long input Done text long h = let short = h.0 in absurd (omega (arith, long, short))
too_long input (Refused n r) text long h = let short = h.0 in absurd (omega (arith, long, short))
too_long input (RefusedOrder n) text long h = let short = h.0 in absurd (omega (arith, long, short))
too_long input s text long h = absurd h

same_due : (r : Result ShowInput (ℕ × ShowReason)) (s q : Status) (a b : List ℕ) → Due s a r → Due q b r → (s ≡ q) × (a ≡ b)
same_due (Ok show) s q a b x y = (x.0 ∙ sym y.0, x.1 ∙ sym y.1)
same_due (Err (n, reason)) s q a b x y = (x.0 ∙ sym y.0, x.1 ∙ sym y.1)

one : (input : List ℕ) (s q : Status) (a b : List ℕ) → IsDisplayOutcome input s a → IsDisplayOutcome input q b → (s ≡ q) × (a ≡ b)
one input s q a b x y = elim (cases_lt input_limit (length input)) [ inl long ↦ at_length long | inr short ↦ same_due (show_of input) s q a b (due input s a short x) (due input q b short y) ]
  where
    at_length : input_limit < length input → (s ≡ q) × (a ≡ b)
    at_length long =
        let h = too_long input s a long x in
        let k = too_long input q b long y in
        (h.0 ∙ sym k.0, h.1 ∙ sym k.1)

-- the outcome by its answer and its text, as the code makes them
shown : (input : List ℕ) (show : ShowInput) (s : Status) (text : List ℕ) → length input ≤ input_limit → IsShow input show → s ≡ Done → text ≡ show_text show → IsDisplayOutcome input s text
shown input show s text short is done said = subst (λ q. IsDisplayOutcome input q text) (sym done) (short, show, is, said)

bad_shown : (input : List ℕ) (n : ℕ) (reason : ShowReason) (s : Status) (text : List ℕ) → length input ≤ input_limit → IsBadShow input n reason → s ≡ refusal_of n reason → text ≡ text_of (refusal_of n reason) → IsDisplayOutcome input s text
bad_shown input n (Line reason) s text short bad is said = subst (λ q. IsDisplayOutcome input q text) (sym is) (short, bad, said)
bad_shown input n BadOrder s text short bad is said = subst (λ q. IsDisplayOutcome input q text) (sym is) (short, bad, said)

pub text_shown : (input : List ℕ) (s : Status) (text made : List ℕ) → length input ≤ input_limit → IsShownAs input text → s ≡ Done → made ≡ text → IsDisplayOutcome input s made
text_shown input s text made short h done same = shown input h.show s made short h.is done (same ∙ h.said)

pub no_show : (input : List ℕ) (n : ℕ) (reason : ShowReason) (s : Status) (text : List ℕ) → length input ≤ input_limit → IsNoShow input n reason → s ≡ refusal_of n reason → text ≡ text_of (refusal_of n reason) → IsDisplayOutcome input s text
no_show input n reason s text short h is said = bad_shown input n reason s text short h.bad is said

some : (input : List ℕ) → (status : Status) × (text : List ℕ) × IsDisplayOutcome input status text
some input = elim (cases_lt input_limit (length input)) [ inl long ↦ (TooLong, text_of TooLong, (long, refl)) | inr short ↦ read short (show_of input) refl ]
  where
    read : length input ≤ input_limit → (r : Result ShowInput (ℕ × ShowReason)) → show_of input ≡ r → (status : Status) × (text : List ℕ) × IsDisplayOutcome input status text
    read short (Ok show) is = (Done, show_text show, shown input show Done (show_text show) short is refl refl)
    read short (Err (n, reason)) is = (refusal_of n reason, text_of (refusal_of n reason), bad_shown input n reason (refusal_of n reason) (text_of (refusal_of n reason)) short is refl refl)

pub displays_decided : DisplaysAreDecided
displays_decided input = record { some = some input; one = one input }

no_stop : (input : List ℕ) (s : Status) (text : List ℕ) → IsDisplayOutcome input s text → is_stop s ≡ false
no_stop input TooLong text h = refl
no_stop input Done text h = refl
no_stop input (Refused n r) text h = refl
no_stop input (RefusedOrder n) text h = refl
no_stop input s text h = absurd h

own : (input : List ℕ) (s : Status) (text : List ℕ) → IsDisplayOutcome input s text → (s ≡ Done) ⊎ (text ≡ text_of s)
own input TooLong text h = inr h.1
own input Done text h = inl refl
own input (Refused n r) text h = inr h.2
own input (RefusedOrder n) text h = inr h.2
own input s text h = absurd h

longer : (input left : List ℕ) (s : Status) (text : List ℕ) → input_limit < length input → length input ≤ length left → IsDisplayOutcome input s text → IsDisplayOutcome left s text
longer input left s text long more h =
    let k = too_long input s text long h in
    subst (λ q. IsDisplayOutcome left q text) (sym k.0) (omega (arith, long, more), k.1)

pub display_outcomes : AreOutcomes IsDisplayOutcome
display_outcomes = record {
  one = λ input s q a b x y. (one input s q a b x y).0;
  no_stop = no_stop;
  own = own;
  longer = longer;
}
