-- Bands of rows: one set of pixels has one list of bands.
use Rattle.std.proofs.Common.{◌≡◌, Bool, true, false, cond, ◌&&◌, ◌||◌, List, [], ◌∷◌, ℤ, pos, ◌+ℤ◌, ◌≤ℤ◌, ◌<ℤ◌, refl, ap, sym, ◌∙◌, arith}
use Rattle.std.specs.Prelude.{int_lt}
use Rattle.std.specs.List.{list_any}
use Rattle.std.specs.Ordering.{int_eq}
use Rattle.std.proofs.lemmas.Int.{ints, by_lt_z}
use Rattle.std.proofs.lemmas.Bool.{false≢true, or_from, and_parts, and_from, and_left}
use Rattle.std.proofs.Math.Bool.{or-false}
use Rattle.lw_region.specs.Rectangle.{within}
use Rattle.lw_region.specs.Order.{ComesBefore, IsInOrder}
use Rattle.lw_region.specs.Bands.{Run, Band, put_row, tallest_bands, same_runs}
use Rattle.lw_region.specs.Banded.{in_runs, AreRuns, in_bands, IsAbove, AreBands}
use Rattle.lw_region.proofs.Within.{within_true, within_below, within_above}
use Rattle.lw_region.proofs.Numbers.{eq_true, eq_of, eq_is_within, within_cons, lt_of}
use Rattle.lw_region.proofs.Order.{absorbed}
use Rattle.lw_region.proofs.Runs.{one_run_list, some_column, same_runs_true, same_runs_itself}

-- in_bands, band by band
pub in_bands_nil : (x y : ℤ) → in_bands [] x y ≡ false
unfolding in_bands
in_bands_nil x y = refl

-- a pixel of the first band or of the others
pub in_bands_cons : (b : Band) (bs : List Band) (x y : ℤ) → in_bands (b ∷ bs) x y ≡ ((within b.top y b.bottom && in_runs b.runs x) || in_bands bs x y)
unfolding in_bands
in_bands_cons b bs x y = refl

-- the first of these bands, if there is one, begins below row y
abbrev pub StartsBelow : ℤ → List Band → Type 0
StartsBelow y [] = Unit {0}
StartsBelow y (b ∷ bs) = y <ℤ b.top

-- bands that begin below a row begin below those above it
pub starts_below_less : (x y : ℤ) (bs : List Band) → x ≤ℤ y → StartsBelow y bs → StartsBelow x bs
starts_below_less x y [] h k = tt
starts_below_less x y (b ∷ bs) h k = omega (arith, ints)

-- what is above other bands ends above them
pub above_starts : (b : Band) (bs : List Band) → IsAbove b bs → StartsBelow b.bottom bs
above_starts b [] h = tt
above_starts b (c ∷ cs) h = h.0

-- no band has a row above the first band
pub none_over : (bs : List Band) (x y : ℤ) → AreBands bs → StartsBelow y bs → in_bands bs x y ≡ false
none_over [] x y h k = in_bands_nil x y
none_over (b ∷ bs) x y h k =
    let p = h.0.rows in
    in_bands_cons b bs x y ∙
    or_from _ _ (and_left _ _ (within_below b.top y b.bottom k))
    (none_over bs x y h.2 (starts_below_less y b.bottom bs (omega (arith, ints)) (above_starts b bs h.1)))

-- the rows of the first band have its runs
pub in_top : (b : Band) (bs : List Band) (x y : ℤ) → AreBands (b ∷ bs) → b.top ≤ℤ y → y ≤ℤ b.bottom → in_bands (b ∷ bs) x y ≡ in_runs b.runs x
in_top b bs x y h k l =
    in_bands_cons b bs x y ∙
    (ap (λ w. (w && in_runs b.runs x) || in_bands bs x y) (within_true b.top y b.bottom k l)
    ∙ (ap (λ w. in_runs b.runs x || w) (none_over bs x y h.2 (starts_below_less y b.bottom bs l (above_starts b bs h.1)))
    ∙ or-false (in_runs b.runs x)))

-- a row below the first band is in the others or in none
pub in_below : (b : Band) (bs : List Band) (x y : ℤ) → b.bottom <ℤ y → in_bands (b ∷ bs) x y ≡ in_bands bs x y
in_below b bs x y h =
    in_bands_cons b bs x y ∙ ap (λ w. (w && in_runs b.runs x) || in_bands bs x y) (within_above b.top y b.bottom h)

-- a pixel of the first band
some_pixel : (b : Band) (bs : List Band) → AreBands (b ∷ bs) → (x : ℤ) × (in_bands (b ∷ bs) x b.top ≡ true)
some_pixel b bs h =
    let p = some_column b.runs h.0.runs h.0.some in
    let q = h.0.rows in
    (p.0, in_top b bs p.0 b.top h (omega (arith, ints)) q ∙ p.1)

-- the first bands begin together
top_le : (b c : Band) (bs cs : List Band) → AreBands (b ∷ bs) → AreBands (c ∷ cs)
    → ((x y : ℤ) → in_bands (b ∷ bs) x y ≡ in_bands (c ∷ cs) x y) → b.top ≤ℤ c.top
top_le b c bs cs h k e =
    let p = some_pixel c cs k in
    by_lt_z c.top b.top
    (λ a. absurd (false≢true (sym (none_over (b ∷ bs) p.0 c.top h a) ∙ (e p.0 c.top ∙ p.1))))
    (λ a. a)

-- a first band that ended earlier would leave a row out
bottom_le_at : (b c : Band) (bs cs : List Band) → AreBands (b ∷ bs) → AreBands (c ∷ cs) → b.top ≡ c.top → b.runs ≡ c.runs
    → ((x y : ℤ) → in_bands (b ∷ bs) x y ≡ in_bands (c ∷ cs) x y) → b.bottom <ℤ c.bottom → ⊥
bottom_le_at b c [] cs h k f g e l =
    let p = some_column c.runs k.0.runs k.0.some in
    let y = b.bottom +ℤ pos 1 in
    let q = h.0.rows in
    false≢true (sym (in_bands_nil p.0 y) ∙ (sym (in_below b [] p.0 y (omega (arith, ints))) ∙ (e p.0 y ∙ (in_top c cs p.0 y k (omega (arith, ints)) (omega (arith, ints)) ∙ p.1))))
bottom_le_at b c (d ∷ ds) cs h k f g e l =
    let y = b.bottom +ℤ pos 1 in
    let q = h.0.rows in
    let m = h.1.0 in
    let n = h.2.0.rows in
    let same : (x : ℤ) → in_bands (d ∷ ds) x y ≡ in_runs c.runs x = λ x.
    sym (in_below b (d ∷ ds) x y (omega (arith, ints))) ∙ (e x y ∙ in_top c cs x y k (omega (arith, ints)) (omega (arith, ints))) in
    by_lt_z y d.top
    (λ a.
    let p = some_column c.runs k.0.runs k.0.some in
    false≢true (sym (none_over (d ∷ ds) p.0 y h.2 a) ∙ (same p.0 ∙ p.1)))
    (λ a.
    let u : (x : ℤ) → in_runs c.runs x ≡ in_runs d.runs x = λ x. sym (same x) ∙ in_top d ds x y h.2 (omega (arith, ints)) (omega (arith, ints)) in
    h.1.1 (omega (arith, ints)) (g ∙ one_run_list c.runs d.runs k.0.runs h.2.0.runs u))

-- the first bands end together
bottom_le : (b c : Band) (bs cs : List Band) → AreBands (b ∷ bs) → AreBands (c ∷ cs) → b.top ≡ c.top → b.runs ≡ c.runs
    → ((x y : ℤ) → in_bands (b ∷ bs) x y ≡ in_bands (c ∷ cs) x y) → c.bottom ≤ℤ b.bottom
bottom_le b c bs cs h k f g e = by_lt_z b.bottom c.bottom (λ l. absurd (bottom_le_at b c bs cs h k f g e l)) (λ a. a)

-- two bands with the same rows and runs are one
pub same_band : (b c : Band) → b.top ≡ c.top → b.bottom ≡ c.bottom → b.runs ≡ c.runs → b ≡ c
same_band b c e f g =
    let P : ℤ → ℤ → List Run → Band = λ t u rs. record { top = t; bottom = u; runs = rs } in
    ap (λ t. P t b.bottom b.runs) e ∙ (ap (λ u. P c.top u b.runs) f ∙ ap (λ rs. P c.top c.bottom rs) g)

-- lists of bands with the same pixels are one
pub one_band_list : (bs cs : List Band) → AreBands bs → AreBands cs → ((x y : ℤ) → in_bands bs x y ≡ in_bands cs x y) → bs ≡ cs
one_band_list [] [] h k e = refl
one_band_list [] (c ∷ cs) h k e =
    let p = some_pixel c cs k in absurd (false≢true (sym (in_bands_nil p.0 c.top) ∙ (e p.0 c.top ∙ p.1)))
one_band_list (b ∷ bs) [] h k e =
    let p = some_pixel b bs h in absurd (false≢true (sym (in_bands_nil p.0 b.top) ∙ (sym (e p.0 b.top) ∙ p.1)))
one_band_list (b ∷ bs) (c ∷ cs) h k e =
    let i : (x y : ℤ) → in_bands (c ∷ cs) x y ≡ in_bands (b ∷ bs) x y = λ x y. sym (e x y) in
    let t₀ = top_le b c bs cs h k e in
    let t₁ = top_le c b cs bs k h i in
    let t : b.top ≡ c.top = omega (arith, ints) in
    let p = h.0.rows in
    let q = k.0.rows in
    let r : b.runs ≡ c.runs = one_run_list b.runs c.runs h.0.runs k.0.runs (λ x.
    sym (in_top b bs x b.top h (omega (arith, ints)) p) ∙ (e x b.top ∙ in_top c cs x b.top k (omega (arith, ints)) (omega (arith, ints)))) in
    let u₀ = bottom_le b c bs cs h k t r e in
    let u₁ = bottom_le c b cs bs k h (sym t) (sym r) i in
    let u : b.bottom ≡ c.bottom = omega (arith, ints) in
    let v : (x y : ℤ) → in_bands bs x y ≡ in_bands cs x y = λ x y.
    by_lt_z b.bottom y
    (λ l. sym (in_below b bs x y l) ∙ (e x y ∙ in_below c cs x y (omega (arith, ints))))
    (λ l. none_over bs x y h.2 (starts_below_less y b.bottom bs l (above_starts b bs h.1))
    ∙ sym (none_over cs x y k.2 (starts_below_less y c.bottom cs (omega (arith, ints)) (above_starts c cs k.1)))) in
    ap (λ z. z ∷ bs) (same_band b c t u r) ∙ ap (λ z. c ∷ z) (one_band_list bs cs h.2 k.2 v)

-- a test on either of two, and a further one
or_part : (p q r s : Bool) → (((p || q) && r) || s) ≡ ((p && r) || ((q && r) || s))
or_part true true true s = refl
or_part true true false s = refl
or_part true false true s = refl
or_part true false false s = refl
or_part false q r s = refl

-- a row joined to the first band or apart from it
put_row_has : (y : ℤ) (rs : List Run) (b : Band) (bs : List Band) (x z : ℤ) → b.top ≤ℤ b.bottom
    → (t : Bool) → (int_eq (y +ℤ pos 1) b.top && same_runs rs b.runs) ≡ t
    → in_bands (cond t (record { top = y; bottom = b.bottom; runs = rs } ∷ bs) (record { top = y; bottom = y; runs = rs } ∷ b ∷ bs)) x z
    ≡ ((int_eq y z && in_runs rs x) || in_bands (b ∷ bs) x z)
put_row_has y rs b bs x z h true e =
    let p = and_parts (int_eq (y +ℤ pos 1) b.top) (same_runs rs b.runs) e in
    let f : y +ℤ pos 1 ≡ b.top = eq_of _ _ p.0 in
    let g : rs ≡ b.runs = same_runs_true _ _ p.1 in
    in_bands_cons (record { top = y; bottom = b.bottom; runs = rs }) bs x z
    ∙ (ap (λ w. (w && in_runs rs x) || in_bands bs x z) (sym (within_cons y z b.bottom (omega (arith, ints))))
    ∙ (or_part (int_eq y z) (within (y +ℤ pos 1) z b.bottom) (in_runs rs x) (in_bands bs x z)
    ∙ ap (λ w. (int_eq y z && in_runs rs x) || w)
    (ap (λ w. (within w z b.bottom && in_runs rs x) || in_bands bs x z) f
    ∙ (ap (λ w. (within b.top z b.bottom && in_runs w x) || in_bands bs x z) g ∙ sym (in_bands_cons b bs x z)))))
put_row_has y rs b bs x z h false e =
    in_bands_cons (record { top = y; bottom = y; runs = rs }) (b ∷ bs) x z
    ∙ ap (λ w. (w && in_runs rs x) || in_bands (b ∷ bs) x z) (sym (eq_is_within y z))

-- a row put on top is a further row
in_put_row : (y : ℤ) (rs : List Run) (bs : List Band) (x z : ℤ) → AreBands bs
    → in_bands (put_row y rs bs) x z ≡ ((int_eq y z && in_runs rs x) || in_bands bs x z)
in_put_row y rs [] x z h =
    in_bands_cons (record { top = y; bottom = y; runs = rs }) [] x z
    ∙ ap (λ w. (w && in_runs rs x) || in_bands [] x z) (sym (eq_is_within y z))
in_put_row y rs (b ∷ bs) x z h =
    put_row_has y rs b bs x z h.0.rows (int_eq (y +ℤ pos 1) b.top && same_runs rs b.runs) refl

-- a band that begins higher up
above_taller : (y : ℤ) (rs : List Run) (b : Band) (bs : List Band) → rs ≡ b.runs → IsAbove b bs
    → IsAbove (record { top = y; bottom = b.bottom; runs = rs }) bs
above_taller y rs b [] e h = tt
above_taller y rs b (c ∷ cs) e h = (h.0, λ a f. h.1 a (sym e ∙ f))

-- a row on top leaves bands
put_row_bands : (y : ℤ) (rs : List Run) (b : Band) (bs : List Band) → AreBands (b ∷ bs) → y <ℤ b.top → AreRuns rs → (rs ≡ [] → ⊥)
    → (t : Bool) → (int_eq (y +ℤ pos 1) b.top && same_runs rs b.runs) ≡ t
    → AreBands (cond t (record { top = y; bottom = b.bottom; runs = rs } ∷ bs) (record { top = y; bottom = y; runs = rs } ∷ b ∷ bs))
put_row_bands y rs b bs h l m n true e =
    let p = and_parts (int_eq (y +ℤ pos 1) b.top) (same_runs rs b.runs) e in
    let q = h.0.rows in
    (record { rows = omega (arith, ints); some = n; runs = m }, above_taller y rs b bs (same_runs_true _ _ p.1) h.1, h.2)
put_row_bands y rs b bs h l m n false e = (
  record { rows = omega (arith, ints); some = n; runs = m },
  (l, λ a f. false≢true (sym e ∙ and_from _ _ (eq_true _ _ a) (ap (λ w. same_runs rs w) (sym f) ∙ same_runs_itself rs))),
  h,
)

-- the same of any bands
are_put_row : (y : ℤ) (rs : List Run) (bs : List Band) → AreBands bs → StartsBelow y bs → AreRuns rs → (rs ≡ [] → ⊥) → AreBands (put_row y rs bs)
are_put_row y rs [] h l m n = (record { rows = omega (arith, ints); some = n; runs = m }, tt, tt)
are_put_row y rs (b ∷ bs) h l m n = put_row_bands y rs b bs h l m n (int_eq (y +ℤ pos 1) b.top && same_runs rs b.runs) refl

-- a row on top is the first one
put_row_starts : (w y : ℤ) (rs : List Run) (b : Band) (bs : List Band) → w <ℤ y → (t : Bool)
    → StartsBelow w (cond t (record { top = y; bottom = b.bottom; runs = rs } ∷ bs) (record { top = y; bottom = y; runs = rs } ∷ b ∷ bs))
put_row_starts w y rs b bs l true = l
put_row_starts w y rs b bs l false = l

-- the same of any bands
starts_put_row : (w y : ℤ) (rs : List Run) (bs : List Band) → w <ℤ y → StartsBelow w (put_row y rs bs)
starts_put_row w y rs [] l = l
starts_put_row w y rs (b ∷ bs) l = put_row_starts w y rs b bs l (int_eq (y +ℤ pos 1) b.top && same_runs rs b.runs)

-- the bands of rows below a row begin below it
starts_tallest : (f : ℤ → List Run) (w : ℤ) (ys : List ℤ) → ComesBefore int_lt w ys → StartsBelow w (tallest_bands f ys)
starts_tallest f w [] h = tt
starts_tallest f w (y ∷ ys) h = starts_put_row w y (f y) (tallest_bands f ys) (lt_of w y h.0)

-- each of these rows has runs
abbrev pub HaveRuns : (ℤ → List Run) → List ℤ → Type 0
HaveRuns f [] = Unit {0}
HaveRuns f (y ∷ ys) = AreRuns (f y) × (f y ≡ [] → ⊥) × HaveRuns f ys

-- rows that have runs make bands
pub are_tallest : (f : ℤ → List Run) (ys : List ℤ) → IsInOrder int_lt ys → HaveRuns f ys → AreBands (tallest_bands f ys)
are_tallest f [] h k = tt
are_tallest f (y ∷ ys) h k =
    are_put_row y (f y) (tallest_bands f ys) (are_tallest f ys h.1 k.2) (starts_tallest f y ys h.0) k.0 k.1

-- a row at its own number or at another
row_step : (f : ℤ → List Run) (y z x : ℤ) (t q : Bool) → int_eq y z ≡ t
    → ((t && in_runs (f y) x) || (q && in_runs (f z) x)) ≡ ((t || q) && in_runs (f z) x)
row_step f y z x true q e =
    let g : y ≡ z = eq_of y z e in
    ap (λ w. in_runs (f w) x || (q && in_runs (f z) x)) g ∙ absorbed (in_runs (f z) x) q
row_step f y z x false q e = refl

-- the bands have in each row the runs of that row
pub in_tallest : (f : ℤ → List Run) (ys : List ℤ) (x z : ℤ) → IsInOrder int_lt ys → HaveRuns f ys
    → in_bands (tallest_bands f ys) x z ≡ (list_any (λ w. int_eq w z) ys && in_runs (f z) x)
in_tallest f [] x z h k = in_bands_nil x z
in_tallest f (y ∷ ys) x z h k =
    in_put_row y (f y) (tallest_bands f ys) x z (are_tallest f ys h.1 k.2)
    ∙ (ap (λ w. (int_eq y z && in_runs (f y) x) || w) (in_tallest f ys x z h.1 k.2)
    ∙ row_step f y z x (int_eq y z) (list_any (λ w. int_eq w z) ys) refl)
