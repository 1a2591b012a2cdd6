use Rattle.lw_c_calls.specs.Told.{message_number}
use Rattle.lw_c_rectangles.proofs.Written.{one_more_written}
use Rattle.lw_c_desk.proofs.writing.copy_messages.Goals as goal

pub loop-place-preserved : goal.loop-place-preserved
loop-place-preserved c =
    one_more_written message_number c.args.list.now c.args.out.now c.loop-place.out c.loop-place.place _ 0 c.message_number.result
    c.loop-place-test.true c.requires c.loop-place.invariant c.message_number.ensures
