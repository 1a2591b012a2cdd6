use Rattle.std.proofs.Common.{◌≡◌, pos, ◌-ℤ◌, to_z, of_z, w32, FitsSigned, ◌∙◌, ap, arith, rules}
use Rattle.std.proofs.lemmas.Int.{to_z-of_z}
use Rattle.lw_layer.specs.Drafts.{layout}
use Rattle.lw_layer.proofs.StartLaws.{shown_start_none, shown_start_some}
use Rattle.lw_layer.proofs.draft.LiveDraft.shown_start.Goals as goal

pub returns-in-None : goal.returns-in-None
returns-in-None c =
    let l = layout c.args.self.now in
    let fits_place : FitsSigned w32 c.across-place.result = search rules in
    let fits_row : FitsSigned w32 c.down.result = search rules in
    shown_start_none l c.args.x c.args.y _ _ _ (to_z-of_z w32 c.across-place.result fits_place ∙ c.across-place.ensures) (to_z-of_z w32 c.down.result fits_row ∙ c.down.ensures) c.visible_region.ensures c.in-None.ensures (omega (arith, c.requires.column, c.requires.sound.place.sizes.columns.1))

pub returns-in-Some : goal.returns-in-Some
returns-in-Some c =
    let l = layout c.args.self.now in
    let fits_place : FitsSigned w32 c.across-place.result = search rules in
    let fits_row : FitsSigned w32 c.down.result = search rules in
    let fits_next : FitsSigned w32 c.in-Some.next = search rules in
    let gap : pos c.gap.result ≡ c.in-Some.next -ℤ to_z w32 (of_z w32 c.across-place.result) = c.gap.ensures ∙ ap (λ z. z -ℤ to_z w32 (of_z w32 c.across-place.result)) (to_z-of_z w32 c.in-Some.next fits_next) in
    rw c.min.ensures (shown_start_some l c.args.x c.args.y c.gap.result _ _ c.in-Some.next _ (to_z-of_z w32 c.across-place.result fits_place ∙ c.across-place.ensures) (to_z-of_z w32 c.down.result fits_row ∙ c.down.ensures) c.visible_region.ensures c.in-Some.ensures gap)
