use Rattle.std.proofs.Common.{ℤ, to_z, of_z, w32, subst}
use Rattle.std.proofs.lemmas.Int.{to_z-of_z}
use Rattle.lw_layer.specs.View.{LiveView, keeps}
use Rattle.lw_layer.specs.Drafts.{live_view}
use Rattle.lw_layer.specs.Runs.{IsNext}
use Rattle.lw_layer.proofs.layer.Layer.next_kept.Goals as goal

pub returns : goal.returns
returns c =
    let P : LiveView → ℤ → ℤ → ℤ → Type 0 = λ v a b e. IsNext (λ i j. keeps v i j) a b e c.next_kept_from.result in
    let d = live_view c.self.inside.draft in
    let told : P d (to_z w32 (of_z w32 c.args.x)) (to_z w32 (of_z w32 c.args.y)) (to_z w32 (of_z w32 c.args.last)) = c.next_kept_from.ensures in
    let column = subst (λ a. P d a (to_z w32 (of_z w32 c.args.y)) (to_z w32 (of_z w32 c.args.last))) (to_z-of_z w32 c.args.x c.ranges.x) told in
    let row = subst (λ b. P d c.args.x b (to_z w32 (of_z w32 c.args.last))) (to_z-of_z w32 c.args.y c.ranges.y) column in
    let all = subst (λ e. P d c.args.x c.args.y e) (to_z-of_z w32 c.args.last c.ranges.last) row in
    subst (λ v. P v c.args.x c.args.y c.args.last) c.self.view_is all
