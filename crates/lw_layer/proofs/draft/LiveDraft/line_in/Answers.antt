use Rattle.std.proofs.Common.{◌≤ℤ◌, w32, FitsSigned, rules}
use Rattle.std.proofs.lemmas.Int.{to_z-of_z}
use Rattle.lw_layer.specs.Drafts.{layout}
use Rattle.lw_layer.specs.Pieces.{down, buffer_rectangle}
use Rattle.lw_layer.proofs.KeptLaws.{above_pixel}
use Rattle.lw_layer.proofs.draft.LiveDraft.line_in.Goals as goal

pub gap-requires : goal.gap-requires
gap-requires c =
    let l = layout c.args.self.now in
    let edge : (buffer_rectangle l c.args.number).min_y ≤ℤ down l c.args.y = above_pixel l c.args.x c.args.y c.args.number c.requires.pixel in
    let fits_place : FitsSigned w32 c.down.result = search rules in
    let fits_top : FitsSigned w32 c.buffer_edges.result.top = search rules in
    rw (to_z-of_z w32 c.down.result fits_place, to_z-of_z w32 c.buffer_edges.result.top fits_top, c.down.ensures, c.buffer_edges.ensures.top) edge
