-- Laws of the runs of a row, at coordinates that are signed in the layer's calls.
use Rattle.std.proofs.Common.{◌≡◌, ℕ, ◌<◌, min, Bool, Some, ℤ, pos, ◌-ℤ◌, subst, arith}
use Rattle.lw_layer.specs.View.{LiveView}
use Rattle.lw_layer.specs.Runs.{IsRun, IsRunAt, IsFirst}
use Rattle.lw_layer.specs.declared.run.Run.{Run}

-- a run's first pixels are a run
pub run_cut : (c : LiveView) (test : ℕ → ℕ → Bool) (x y : ℕ) (across down : ℤ) (r : Run) (most : ℕ) → across ≡ pos x → down ≡ pos y → 0 < most → IsRunAt c test across down (Some r) → IsRun c test x y (record r { len = min r.len most })
run_cut c test x y across down r most column row some is =
    let P : ℤ → Type 0 = λ z. IsRunAt c test z down (Some r) in
    let Q : ℤ → Type 0 = λ z. IsRunAt c test (pos x) z (Some r) in
    let run : IsRun c test x y r = subst Q row (subst P column is) in
    record {
      some = omega (arith, run.some);
      there = run.there;
      holds = λ u late low. run.holds u late (omega arith);
      inside = λ u late low. run.inside u late (omega arith);
      fits = omega (arith, run.fits);
      bits = λ u late low. run.bits u late (omega arith);
    }

-- the first column of a row, by numbers
pub first_by_numbers : (test : ℕ → ℕ → Bool) (x y end n : ℕ) (across down last column : ℤ) → across ≡ pos x → down ≡ pos y → last ≡ pos end -ℤ pos 1 → column ≡ pos n → IsFirst test across down last column → IsFirst test (pos x) (pos y) (pos end -ℤ pos 1) (pos n)
first_by_numbers test x y end n across down last column left row right same first =
    let A : ℤ → Type 0 = λ z. IsFirst test z down last column in
    let D : ℤ → Type 0 = λ z. IsFirst test (pos x) z last column in
    let L : ℤ → Type 0 = λ z. IsFirst test (pos x) (pos y) z column in
    let C : ℤ → Type 0 = λ z. IsFirst test (pos x) (pos y) (pos end -ℤ pos 1) z in
    subst C same (subst L right (subst D row (subst A left first)))
