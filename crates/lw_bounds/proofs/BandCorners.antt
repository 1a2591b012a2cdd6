-- Where the bands and the runs of a canonical list begin, its pixels change.
use Rattle.std.proofs.Common.{◌≡◌, zero, suc, true, false, List, [], ◌∷◌, ℤ, pos, ◌+ℤ◌, ◌-ℤ◌, ◌≤ℤ◌, ◌<ℤ◌, sym, ap, ◌∙◌, arith}
use Rattle.std.specs.Prelude.{get_or}
use Rattle.std.specs.List.{All}
use Rattle.std.proofs.lemmas.Int.{ints, by_lt_z}
use Rattle.std.proofs.lemmas.Bool.{false≢true}
use Rattle.std.proofs.lemmas.List.Elements.{All-cons}
use Rattle.lw_region.specs.Bands.{Run, Band}
use Rattle.lw_region.specs.Banded.{in_runs, StartsAfter, AreRuns, in_bands, IsBand, AreBands}
use Rattle.lw_region.proofs.Runs.{starts_after_less, none_before, in_first, in_rest, one_run_list, some_column}
use Rattle.lw_region.proofs.Stacks.{StartsBelow, starts_below_less, above_starts, none_over, in_top, in_below}

-- A run of these: it has some column, and the one before its first isn't in any run.
pub record Begins (rs : List Run) (r : Run) : Type 0 where
  pub some : r.first ≤ℤ r.last
  pub first : in_runs rs r.first ≡ true
  pub before : in_runs rs (r.first -ℤ pos 1) ≡ false

-- each of these runs begins after column x
runs_after : (x : ℤ) (rs : List Run) → AreRuns rs → StartsAfter x rs → All (λ r. x <ℤ r.first) rs
runs_after x [] are h = λ i d low. absurd (omega arith)
runs_after x (r ∷ rs) are h =
    let p = are.0 in
    All-cons (λ q. x <ℤ q.first) r rs h
    (runs_after x rs are.2 (starts_after_less x (r.last +ℤ pos 1) rs (omega (arith, ints)) are.1))

pub runs_begin : (rs : List Run) → AreRuns rs → All (Begins rs) rs
runs_begin [] are = λ i d low. absurd (omega arith)
runs_begin (r ∷ rs) are =
    All-cons (Begins (r ∷ rs)) r rs
    (record {
      some =
          are.0;
      first = in_first r rs r.first (let p = are.0 in omega (arith, ints)) are.0;
      before =
          none_before (r ∷ rs) (r.first -ℤ pos 1) are (omega (arith, ints));
    })
    (λ i d low.
    let b = runs_begin rs are.2 i d low in
    let later = runs_after (r.last +ℤ pos 1) rs are.2 are.1 i d low in
    record {
      some = b.some;
      first = in_rest r rs _ (omega (arith, ints)) ∙ b.first;
      before = in_rest r rs _ (omega (arith, ints)) ∙ b.before;
    })

-- A band of these: the pixels of its first row are those of its runs, and the row above has other ones.
pub record IsTopRow (bs : List Band) (b : Band) : Type 0 where
  pub band : IsBand b
  pub row : (x : ℤ) → in_bands bs x b.top ≡ in_runs b.runs x
  pub differs : ((x : ℤ) → in_bands bs x b.top ≡ in_bands bs x (b.top -ℤ pos 1)) → ⊥

-- each of these bands begins below row y
bands_below : (y : ℤ) (bs : List Band) → AreBands bs → StartsBelow y bs → All (λ b. y <ℤ b.top) bs
bands_below y [] are h = λ i d low. absurd (omega arith)
bands_below y (b ∷ bs) are h =
    let p = are.0.rows in
    All-cons (λ q. y <ℤ q.top) b bs h
    (bands_below y bs are.2 (starts_below_less y b.bottom bs (omega (arith, ints)) (above_starts b bs are.1)))

-- the first band
first_row : (b : Band) (bs : List Band) → AreBands (b ∷ bs) → IsTopRow (b ∷ bs) b
first_row b bs are = record {
  band = are.0;
  row = λ x. in_top b bs x b.top are (omega (arith, ints)) are.0.rows;
  differs = λ same.
      let some = some_column b.runs are.0.runs are.0.some in
      let none : in_bands (b ∷ bs) some.0 (b.top -ℤ pos 1) ≡ false =
      none_over (b ∷ bs) some.0 (b.top -ℤ pos 1) are (omega (arith, ints)) in
      false≢true (sym none ∙ (sym (same some.0) ∙ (in_top b bs some.0 b.top are (omega (arith, ints)) are.0.rows ∙ some.1)));
}

-- a band that isn't right below the first one
far_row : (b : Band) (bs : List Band) (c : Band) → (b.bottom +ℤ pos 1) <ℤ c.top → IsTopRow bs c → IsTopRow (b ∷ bs) c
far_row b bs c far is = record {
  band = is.band;
  row = λ x. in_below b bs x c.top (omega (arith, ints)) ∙ is.row x;
  differs = λ same. is.differs
      (λ x. sym (in_below b bs x c.top (omega (arith, ints))) ∙
      (same x ∙ in_below b bs x (c.top -ℤ pos 1) (omega (arith, ints))));
}

-- the band after the first one, right below it
near_row : (b c : Band) (bs : List Band) → AreBands (b ∷ c ∷ bs) → b.bottom +ℤ pos 1 ≡ c.top → IsTopRow (c ∷ bs) c
    → IsTopRow (b ∷ c ∷ bs) c
near_row b c bs are near is = record {
  band = is.band;
  row = λ x. in_below b (c ∷ bs) x c.top (omega (arith, ints, near)) ∙ is.row x;
  differs = λ same.
      let P = (λ (x z : ℤ). in_bands (b ∷ c ∷ bs) x z) in
      let above : c.top -ℤ pos 1 ≡ b.bottom = omega (arith, ints, near) in
      are.1.1 near
      (one_run_list b.runs c.runs are.0.runs are.2.0.runs
      (λ x.
      sym (in_top b (c ∷ bs) x b.bottom are are.0.rows (omega (arith, ints))) ∙
      (sym (ap (P x) above) ∙ (sym (same x) ∙ (in_below b (c ∷ bs) x c.top (omega (arith, ints, near)) ∙ is.row x)))));
}

-- the bands after the first one
later_rows : (b : Band) (bs : List Band) → AreBands (b ∷ bs) → All (IsTopRow bs) bs → All (IsTopRow (b ∷ bs)) bs
later_rows b [] are rows = λ i d low. absurd (omega arith)
later_rows b (c ∷ bs) are rows =
    All-cons (IsTopRow (b ∷ c ∷ bs)) c bs
    (by_lt_z (b.bottom +ℤ pos 1) c.top (λ far. far_row b (c ∷ bs) c far (rows zero c (omega arith)))
    (λ near. let p = are.1.0 in near_row b c bs are (omega (arith, ints)) (rows zero c (omega arith))))
    (λ i d low.
    let under = bands_below c.bottom bs are.2.2 (above_starts c bs are.2.1) i d low in
    let p = are.1.0 in
    let q = are.2.0.rows in
    far_row b (c ∷ bs) (get_or bs i d) (omega (arith, ints)) (rows (suc i) d (omega arith)))

pub top_rows : (bs : List Band) → AreBands bs → All (IsTopRow bs) bs
top_rows [] are = λ i d low. absurd (omega arith)
top_rows (b ∷ bs) are = All-cons (IsTopRow (b ∷ bs)) b bs (first_row b bs are) (later_rows b bs are (top_rows bs are.2))
