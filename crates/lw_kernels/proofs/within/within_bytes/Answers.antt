use Rattle.std.proofs.Common.{◌+◌, ◌*◌}
use Rattle.lw_planes.specs.Row.{row_bit}
use Rattle.lw_kernels.proofs.CopiedBytes.{done_blit}
use Rattle.lw_kernels.proofs.within.within_bytes.Goals as goal

pub returns-then-copies : goal.returns-then-copies
returns-then-copies c =
    done_blit c.move_bytes.new.row c.args.row.now (row_bit c.args.row.now) c.args.minterm (8 * c.args.start + c.args.shift) (8 * c.args.first) (8 * c.args.last) (c.requires.copies c.if-copies.true) c.move_bytes.ensures
