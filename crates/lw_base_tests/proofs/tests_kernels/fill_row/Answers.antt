use Rattle.std.proofs.Common.{if◌then◌else◌, ap, ◌∙◌}
use Rattle.lw_planes.specs.Row.{bit_of}
use Rattle.lw_kernels.specs.Kernel.{is_named}
use Rattle.lw_planes.proofs.WriteLaws.{with_row_plane_row}
use Rattle.lw_base_tests.proofs.tests_kernels.fill_row.Goals as goal

pub returns : goal.returns
returns c =
    with_row_plane_row c.args.planes.now c.args.plane c.args.y c.fill.new.row _ c.requires.plane c.requires.row (c.fill.auto.row ∙ c.row_mut.ensures.long)
    (λ x left. c.fill.ensures.each x ∙ ap (λ old. if is_named c.args.from c.args.count x then bit_of c.args.bit else old) (c.row_mut.ensures.bits x left))
