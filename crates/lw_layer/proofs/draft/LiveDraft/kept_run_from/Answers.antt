use Rattle.std.proofs.Common.{◌≡◌, ◌≤◌, ℕ, pos, w32, sym, ◌∙◌}
use Rattle.std.proofs.lemmas.Int.{to_z-of_z}
use Rattle.lw_layer.specs.Drafts.{layout}
use Rattle.lw_layer.proofs.KeptLaws.{columns_off, rows_off}
use Rattle.lw_layer.proofs.draft.LiveDraft.kept_run_from.Goals as goal

pub returns-in_default : goal.returns-in_default
returns-in_default c =
    let off : (u : ℕ) → c.args.x ≡ pos u → (layout c.args.self.now).width ≤ u = λ u is. rw (sym c.width.ensures) (c.in_default.ensures u (to_z-of_z w32 c.args.x c.ranges.x ∙ is)) in
    columns_off c.args.self.now c.args.x c.args.y off

pub returns-in_default-place_in : goal.returns-in_default-place_in
returns-in_default-place_in c =
    let off : (v : ℕ) → c.args.y ≡ pos v → (layout c.args.self.now).height ≤ v = λ v is. rw (sym c.height.ensures) (c.in_default-place_in.ensures v (to_z-of_z w32 c.args.y c.ranges.y ∙ is)) in
    rows_off c.args.self.now c.args.x c.args.y off
