use Rattle.std.proofs.Common.{◌≤ℤ◌, w32, FitsSigned, rules}
use Rattle.std.proofs.lemmas.Int.{to_z-of_z}
use Rattle.lw_layer.specs.Drafts.{layout}
use Rattle.lw_layer.specs.Pieces.{across, buffer_rectangle}
use Rattle.lw_layer.proofs.KeptLaws.{left_of_pixel}
use Rattle.lw_layer.proofs.draft.LiveDraft.column_in.Goals as goal

pub gap-requires : goal.gap-requires
gap-requires c =
    let l = layout c.args.self.now in
    let edge : (buffer_rectangle l c.args.number).min_x ≤ℤ across l c.args.x = left_of_pixel l c.args.x c.args.y c.args.number c.requires.pixel in
    let fits_place : FitsSigned w32 c.across.result = search rules in
    let fits_left : FitsSigned w32 c.buffer_edges.result.left = search rules in
    rw (to_z-of_z w32 c.across.result fits_place, to_z-of_z w32 c.buffer_edges.result.left fits_left, c.across.ensures, c.buffer_edges.ensures.left) edge
