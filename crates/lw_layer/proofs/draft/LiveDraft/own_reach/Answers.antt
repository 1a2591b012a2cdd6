use Rattle.std.proofs.Common.{◌≡◌, pos, ◌-ℤ◌, to_z, of_z, w32, FitsSigned, ◌∙◌, ap, rules}
use Rattle.std.proofs.lemmas.Int.{to_z-of_z}
use Rattle.lw_layer.specs.Drafts.{layout}
use Rattle.lw_layer.proofs.ReachLaws.{own_none, own_some}
use Rattle.lw_layer.proofs.draft.LiveDraft.own_reach.Goals as goal

pub returns-in-None : goal.returns-in-None
returns-in-None c =
    let l = layout c.args.self.now in
    let fits_place : FitsSigned w32 c.across-place.result = search rules in
    let fits_row : FitsSigned w32 c.down-row.result = search rules in
    own_none l c.args.x c.args.y c.width.result _ _ _ (to_z-of_z w32 c.across-place.result fits_place ∙ c.across-place.ensures) (to_z-of_z w32 c.down-row.result fits_row ∙ c.down-row.ensures) c.visible_region.ensures (c.in-None.ensures) c.width.ensures c.requires.own c.requires.column c.requires.row

pub returns-in-Some : goal.returns-in-Some
returns-in-Some c =
    let l = layout c.args.self.now in
    let fits_place : FitsSigned w32 c.across-place.result = search rules in
    let fits_row : FitsSigned w32 c.down-row.result = search rules in
    let fits_next : FitsSigned w32 c.in-Some.next = search rules in
    let place = to_z-of_z w32 c.across-place.result fits_place in
    let gap : pos c.gap.result ≡ c.in-Some.next -ℤ to_z w32 (of_z w32 c.across-place.result) = c.gap.ensures ∙ ap (λ z. z -ℤ to_z w32 (of_z w32 c.across-place.result)) (to_z-of_z w32 c.in-Some.next fits_next) in
    rw c.min.ensures (own_some l c.args.x c.args.y c.width.result c.gap.result _ _ c.in-Some.next _ (place ∙ c.across-place.ensures) (to_z-of_z w32 c.down-row.result fits_row ∙ c.down-row.ensures) c.visible_region.ensures (c.in-Some.ensures) c.requires.free gap c.width.ensures c.requires.own c.requires.column c.requires.row)
