use Rattle.std.proofs.Common.{◌≤ℤ◌, w32, FitsSigned, sym, ◌∙◌, rules}
use Rattle.std.proofs.lemmas.Int.{to_z-of_z}
use Rattle.lw_cliprects.specs.Parts.{hidden_of, AreDivided}
use Rattle.lw_layer.specs.Drafts.{layout}
use Rattle.lw_layer.specs.Pieces.{across, buffer_rectangle}
use Rattle.lw_layer.proofs.ReachLaws.{rectangle_reach_some, up_to_edge}
use Rattle.lw_layer.proofs.draft.LiveDraft.rectangle_reach.Goals as goal

pub gap-requires : goal.gap-requires
gap-requires c =
    let l = layout c.args.self.now in
    let edge : across l c.args.x ≤ℤ (buffer_rectangle l c.args.number).max_x = up_to_edge l c.args.x c.args.y c.args.number c.requires.found in
    let fits_place : FitsSigned w32 c.across-place.result = search rules in
    let fits_right : FitsSigned w32 c.buffer_edges-right.result.right = search rules in
    rw (to_z-of_z w32 c.across-place.result fits_place, to_z-of_z w32 c.buffer_edges-right.result.right fits_right, c.across-place.ensures, c.buffer_edges-right.ensures.right) edge

pub returns : goal.returns
returns c =
    let d = c.args.self.now in
    let l = layout d in
    let fits_place : FitsSigned w32 c.across-place.result = search rules in
    let fits_right : FitsSigned w32 c.buffer_edges-right.result.right = search rules in
    let divided : AreDivided d.bounds d.parts.visible (hidden_of d.bounds d.parts.visible) = rw (sym c.requires.sound.place.bounds) (rw c.hidden.ensures.value at c.hidden.ensures.divided) in
    rw c.min.ensures (rectangle_reach_some l c.args.x c.args.y c.args.number c.width.result c.gap.result _ _ (to_z-of_z w32 c.across-place.result fits_place ∙ c.across-place.ensures) (to_z-of_z w32 c.buffer_edges-right.result.right fits_right ∙ c.buffer_edges-right.ensures.right) c.requires.found c.requires.shown divided c.gap.ensures c.width.ensures c.requires.pixel.left)
