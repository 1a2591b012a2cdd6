use Rattle.std.proofs.Common.{subst, sym, ◌∙◌}
use Rattle.lw_arrange.specs.AskedBounds.{IsRect}
use Rattle.lw_arrange.proofs.AskedBoundsLaws.{read_bounds}
use Rattle.lw_arrange.proofs.after.new_bounds.Goals as goal

pub rect_of-requires : goal.rect_of-requires
rect_of-requires c = subst IsRect (sym (c.edges_of_box.ensures ∙ read_bounds c.args.make.now c.requires.spans)) c.requires.placed
