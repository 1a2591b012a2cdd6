use Rattle.std.proofs.Common.{slice_index, arith}
use Rattle.std.proofs.lemmas.Grind.{common_steps}
use Rattle.lw_ilbm.proofs.Unpacking.{before_is_short}
use Rattle.lw_ilbm.proofs.Codes.{repeat_packed, copy_packed, equal_is_short}
use Rattle.lw_ilbm.proofs.packing.push_code.Goals as goal

pub slice_bounds-extend_from_slice-end : goal.slice_bounds-extend_from_slice-end
slice_bounds-extend_from_slice-end c = let short = before_is_short c.args.bytes.now in grind (arith, common_steps, short)

pub returns-in_ok-push-2-clause-inside : goal.returns-in_ok-push-2-clause-inside
returns-in_ok-push-2-clause-inside c = let short = equal_is_short (slice_index c.args.bytes.now 0) c.args.bytes.now in grind (arith, common_steps, short)

pub returns-in_ok-push-2-clause-code : goal.returns-in_ok-push-2-clause-code
returns-in_ok-push-2-clause-code c = grind (arith, common_steps, repeat_packed)

pub returns-in_ok-extend_from_slice-clause-inside :
    goal.returns-in_ok-extend_from_slice-clause-inside
returns-in_ok-extend_from_slice-clause-inside c = let short = before_is_short c.args.bytes.now in grind (arith, common_steps, short)

pub returns-in_ok-extend_from_slice-clause-code : goal.returns-in_ok-extend_from_slice-clause-code
returns-in_ok-extend_from_slice-clause-code c = grind (arith, common_steps, copy_packed)
