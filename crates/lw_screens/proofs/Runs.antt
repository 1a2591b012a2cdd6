-- Runs of rows with one owner.
use Rattle.std.proofs.Common.{◌≡◌, ◌≢◌, ℕ, zero, suc, ◌+◌, ◌-◌, ◌<◌, ◌≤◌, Bool, true, false, if◌then◌else◌, List, [], ◌∷◌, ◌++◌, append_assoc, Option, Some, None, refl, sym, ap, ◌∙◌, subst, ⊎_elim, arith}
use Rattle.std.proofs.lemmas.Bool.{eq-eqb, ne_eqb, eqb-true, cases_eq}
use Rattle.lw_screens.specs.Bands.{is_same, row_above, bands_from}
use Rattle.lw_screens.specs.Laws.{IsLongestRun, AreLongestRuns}
use Rattle.lw_screens.specs.declared.bands.Band.{Band}

pub same_itself : (o : Option ℕ) → is_same o o ≡ true
same_itself None = refl
same_itself (Some k) = eq-eqb k k refl

pub same_is : (o p : Option ℕ) → is_same o p ≡ true → o ≡ p
same_is None None is = refl
same_is None (Some k) is = cc
same_is (Some j) None is = cc
same_is (Some j) (Some k) is = ap (λ (n : ℕ). Some n) (eqb-true j k is)

pub other_is : (o p : Option ℕ) → is_same o p ≡ false → o ≢ p
other_is o p is e = let one : is_same o p ≡ true = subst (λ q. is_same o q ≡ true) e (same_itself o) in cc

pub not_same : (o p : Option ℕ) → o ≢ p → is_same o p ≡ false
not_same None None differ = absurd (differ refl)
not_same None (Some k) differ = refl
not_same (Some j) None differ = refl
not_same (Some j) (Some k) differ = ne_eqb j k (λ e. differ (ap (λ (n : ℕ). Some n) e))

-- a band of these rows
abbrev pub band : ℕ → ℕ → Option ℕ → Band
band first last owner = record { first = first; last = last; screen = owner }

-- a row above bands of rows with another owner
above_other : (y : ℕ) (o p : Option ℕ) (z : ℕ) (bs : List Band) → is_same o p ≡ false → row_above y o (row_above z p bs) ≡ band y y o ∷ row_above z p bs
above_other y o p z [] is = ap (λ t. if t then band y z p ∷ [] else band y y o ∷ band z z p ∷ []) is
above_other y o p z (b ∷ bs) is = above_first y o p z b bs (is_same p b.screen) refl is
  where
    above_first : (y : ℕ) (o p : Option ℕ) (z : ℕ) (b : Band) (bs : List Band) (t : Bool) → is_same p b.screen ≡ t → is_same o p ≡ false → row_above y o (row_above z p (b ∷ bs)) ≡ band y y o ∷ row_above z p (b ∷ bs)
    above_first y o p z b bs true one is =
        let here : is_same o b.screen ≡ false = subst (λ q. is_same o q ≡ false) (same_is p b.screen one) is in
        rw one (ap (λ t. if t then band y b.last b.screen ∷ bs else band y y o ∷ band z b.last b.screen ∷ bs) here)
    above_first y o p z b bs false one is = rw one (ap (λ t. if t then band y z p ∷ b ∷ bs else band y y o ∷ band z z p ∷ b ∷ bs) is)

-- a row whose owner isn't that of the row below it
alone : (owner : ℕ → Option ℕ) (n y : ℕ) (o : Option ℕ) → owner y ≡ o → (0 < n → owner (suc y) ≢ o) → bands_from owner y (suc n) ≡ band y y o ∷ bands_from owner (suc y) n
alone owner zero y o own other = ap (λ q. band y y q ∷ []) own
alone owner (suc n) y o own other =
    ap (λ q. row_above y q (bands_from owner (suc y) (suc n))) own
    ∙ above_other y o (owner (suc y)) (suc y) (bands_from owner (suc (suc y)) n) (not_same o (owner (suc y)) (λ e. other (omega arith) (sym e)))

-- A longest run is the first of the bands from its first row on.
pub run_first : (owner : ℕ → Option ℕ) (m n y count last next : ℕ) (o : Option ℕ) → count ≡ suc (m + n) → last ≡ y + m → next ≡ suc last
    → ((z : ℕ) → y ≤ z → z ≤ last → owner z ≡ o) → (0 < n → owner next ≢ o) → bands_from owner y count ≡ band y last o ∷ bands_from owner next n
run_first owner zero n y count last next o all end on own other =
    let rows : count ≡ suc n = omega arith in
    let here : y ≡ last = omega arith in
    let below : suc y ≡ next = omega arith in
    let differs : 0 < n → owner (suc y) ≢ o = λ some e. other some (ap owner (sym below) ∙ e) in
    ap (λ c. bands_from owner y c) rows ∙ (alone owner n y o (own y (omega arith) (omega arith)) differs
    ∙ (ap (λ l. band y l o ∷ bands_from owner (suc y) n) here ∙ ap (λ b. band y last o ∷ bands_from owner b n) below))
run_first owner (suc m) n y count last next o all end on own other =
    let rows : count ≡ suc (suc (m + n)) = omega arith in
    let rest = run_first owner m n (suc y) (suc (m + n)) last next o refl (omega arith) on (λ z low high. own z (omega arith) high) other in
    let one = own y (omega arith) (omega arith) in
    let same = same_itself o in
    ap (λ c. bands_from owner y c) rows ∙ (ap (row_above y (owner y)) rest
    ∙ (ap (λ q. row_above y q (band (suc y) last o ∷ bands_from owner next n)) one
    ∙ ap (λ t. if t then band y last o ∷ bands_from owner next n else band y y o ∷ band (suc y) last o ∷ bands_from owner next n) same))

-- the bands that were made and those that are left, one step on
pub bands_more : (owner : ℕ → Option ℕ) (y height : ℕ) (b : Band) (made more all : List Band) → IsLongestRun owner y height b
    → made ++ bands_from owner y (height - y) ≡ all → more ≡ made ++ b ∷ [] → more ++ bands_from owner (b.last + 1) (height - (b.last + 1)) ≡ all
bands_more owner y height b made more all run so_far push =
    let first = run.first in
    let order = run.order in
    let inside = run.inside in
    let next : b.last + 1 ≡ suc b.last = omega arith in
    let n : ℕ = height - (b.last + 1) in
    let step : bands_from owner y (height - y) ≡ band y b.last b.screen ∷ bands_from owner (suc b.last) n =
    run_first owner (b.last - y) n y (height - y) b.last (suc b.last) b.screen (omega arith) (omega arith) refl
    (λ z low high. run.owned z (omega arith) high) (λ some e. run.longest (omega arith) (ap owner next ∙ e)) in
    let same : band y b.last b.screen ≡ b = ap (λ f. band f b.last b.screen) (sym first) in
    let rest : bands_from owner (b.last + 1) n ≡ bands_from owner (suc b.last) n = ap (λ r. bands_from owner r n) next in
    ap (λ bs. bs ++ bands_from owner (b.last + 1) n) push
    ∙ (append_assoc made (b ∷ []) (bands_from owner (b.last + 1) n)
    ∙ (ap (λ r. made ++ b ∷ r) rest ∙ (ap (λ c. made ++ c ∷ bands_from owner (suc b.last) n) (sym same) ∙ (ap (λ bs. made ++ bs) (sym step) ∙ so_far))))

-- a row above longest runs
runs_above : (owner : ℕ → Option ℕ) (y end : ℕ) (bs : List Band) → y < end → AreLongestRuns owner (suc y) end bs → AreLongestRuns owner y end (row_above y (owner y) bs)
runs_above owner y end [] low runs = (
  record {
    first = refl;
    order = omega arith;
    inside = low;
    owned = λ z from to. let here : z ≡ y = omega arith in ap owner here;
    longest = λ more. absurd (omega arith);
  },
  omega arith,
)
runs_above owner y end (b ∷ bs) low runs = above_run owner y end b bs (is_same (owner y) b.screen) refl low runs
  where
    above_run : (owner : ℕ → Option ℕ) (y end : ℕ) (b : Band) (bs : List Band) (t : Bool) → is_same (owner y) b.screen ≡ t → y < end
        → AreLongestRuns owner (suc y) end (b ∷ bs)
        → AreLongestRuns owner y end (if t then band y b.last b.screen ∷ bs else band y y (owner y) ∷ b ∷ bs)
    above_run owner y end b bs true one low runs =
        let first = runs.0.first in
        let order = runs.0.order in
        let own : owner y ≡ b.screen = same_is (owner y) b.screen one in (
          record {
            first = refl;
            order = omega arith;
            inside = runs.0.inside;
            owned = λ z from to. ⊎_elim
                (λ (here : z ≡ y). ap owner here ∙ own)
                (λ (off : z ≡ y → ⊥). runs.0.owned z (omega arith) to)
                (cases_eq z y);
            longest = runs.0.longest;
          },
          runs.1,
        )
    above_run owner y end b bs false one low runs =
        let first = runs.0.first in
        let order = runs.0.order in
        let next : y + 1 ≡ suc y = omega arith in
        let below : owner (y + 1) ≡ b.screen = ap owner next ∙ runs.0.owned (suc y) (omega arith) (omega arith) in (
          record {
            first = refl;
            order = omega arith;
            inside = low;
            owned = λ z from to. let here : z ≡ y = omega arith in ap owner here;
            longest = λ more e. other_is (owner y) b.screen one (sym e ∙ below);
          },
          subst (λ n. AreLongestRuns owner n end (b ∷ bs)) (sym next) runs,
        )

-- the bands of n rows are longest runs
pub bands_are_runs : (owner : ℕ → Option ℕ) (n y end : ℕ) → y + n ≡ end → AreLongestRuns owner y end (bands_from owner y n)
bands_are_runs owner zero y end all = omega arith
bands_are_runs owner (suc n) y end all =
    runs_above owner y end (bands_from owner (suc y) n) (omega arith) (bands_are_runs owner n (suc y) end (omega arith))
