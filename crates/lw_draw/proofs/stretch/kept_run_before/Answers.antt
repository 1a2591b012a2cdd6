use Rattle.std.proofs.Common.{sym, subst, arith}
use Rattle.std.proofs.lemmas.Int.{ints}
use Rattle.lw_layer.specs.View.{keeps}
use Rattle.lw_layer.specs.Runs.{IsRun}
use Rattle.lw_layer.specs.declared.run.Run.{Run}
use Rattle.lw_draw.proofs.StretchLaws.{run_cut}
use Rattle.lw_draw.proofs.stretch.kept_run_before.Goals as goal

pub returns-clause-run : goal.returns-clause-run
returns-clause-run c =
    let v = c.args.layer.now in
    let P : Run → Type 0 = λ r. IsRun v (λ i j. keeps v i j) c.args.x c.args.y r in
    subst P (sym c.cut.ensures) (run_cut v (λ i j. keeps v i j) c.args.x c.args.y _ _ c.in-Some.found _ (omega (arith, ints)) (omega (arith, ints)) (omega arith) c.in-Some.ensures)
