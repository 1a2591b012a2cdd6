use Rattle.std.proofs.Common.{arith}
use Rattle.std.proofs.lemmas.Grind.{common_steps}
use Rattle.lw_ilbm.proofs.Codes.{copy_written, nothing_unpacked, cut_unpacked, repeat_unpacked}
use Rattle.lw_ilbm.proofs.packing.push_unpacked.Goals as goal

pub returns-in_ok-extend_from_slice-clause-bytes :
    goal.returns-in_ok-extend_from_slice-clause-bytes
returns-in_ok-extend_from_slice-clause-bytes c =
    copy_written c.args.codes.now c.args.out.now.items _ c.min-count.result c.requires (omega (arith, c.if-code-lt128.true)) c.min-count.ensures
    c.in_ok-extend_from_slice.ensures.items

pub returns-then-is_empty-clause-bytes : goal.returns-then-is_empty-clause-bytes
returns-then-is_empty-clause-bytes c = grind (arith, common_steps, nothing_unpacked, cut_unpacked)

pub returns-in_ok-resize-clause-bytes : goal.returns-in_ok-resize-clause-bytes
returns-in_ok-resize-clause-bytes c = grind (arith, common_steps, repeat_unpacked)
