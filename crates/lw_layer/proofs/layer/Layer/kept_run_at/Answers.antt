use Rattle.std.proofs.Common.{ℤ, to_z, of_z, w32, subst}
use Rattle.std.proofs.lemmas.Int.{to_z-of_z}
use Rattle.lw_layer.specs.View.{LiveView, keeps}
use Rattle.lw_layer.specs.Drafts.{live_view}
use Rattle.lw_layer.specs.Runs.{IsRunAt}
use Rattle.lw_layer.proofs.layer.Layer.kept_run_at.Goals as goal

pub returns : goal.returns
returns c =
    let P : LiveView → ℤ → ℤ → Type 0 = λ v a b. IsRunAt v (λ i j. keeps v i j) a b c.kept_run_from.result in
    let told : P (live_view c.self.inside.draft) (to_z w32 (of_z w32 c.args.x)) (to_z w32 (of_z w32 c.args.y)) = c.kept_run_from.ensures in
    let column = subst (λ a. P (live_view c.self.inside.draft) a (to_z w32 (of_z w32 c.args.y))) (to_z-of_z w32 c.args.x c.ranges.x) told in
    let row = subst (λ b. P (live_view c.self.inside.draft) c.args.x b) (to_z-of_z w32 c.args.y c.ranges.y) column in
    subst (λ v. P v c.args.x c.args.y) c.self.view_is row
