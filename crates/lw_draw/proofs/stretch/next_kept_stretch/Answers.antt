use Rattle.std.proofs.Common.{◌≤ℤ◌, to_z, w32, FitsSigned, refl, arith, rules}
use Rattle.std.proofs.lemmas.Int.{ints}
use Rattle.lw_layer.specs.View.{keeps}
use Rattle.lw_draw.proofs.StretchLaws.{first_by_numbers}
use Rattle.lw_draw.proofs.stretch.next_kept_stretch.Goals as goal

pub returns : goal.returns
returns c =
    let reaches : to_z w32 c.args.x ≤ℤ c.in-Some.column = c.in-Some.ensures.reaches in
    let fits : FitsSigned w32 c.in-Some.column = search rules in
    record {
      row = refl;
      column = first_by_numbers (λ i j. keeps c.args.layer.now i j) c.args.x c.args.y c.args.end _ _ _ _ c.in-Some.column (omega (arith, ints)) (omega (arith, ints)) (omega (arith, ints)) (omega (arith, ints)) c.in-Some.ensures;
      ends = c.kept_run_before-run.ensures.ends;
      run = c.kept_run_before-run.ensures.run;
    }
