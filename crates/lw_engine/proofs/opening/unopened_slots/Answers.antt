use Rattle.lw_engine.proofs.OpenedLaws.{unopened_more}
use Rattle.lw_engine.proofs.opening.unopened_slots.Goals as goal

pub loop-slot-preserved : goal.loop-slot-preserved
loop-slot-preserved g c =
    unopened_more c.loop-slot.slots.items c.push.new.self.items c.in_ok-unopened.field-0 c.loop-slot.slot c.loop-slot.invariant (c.in_ok-unopened.ensures {u = tt}) (c.in_ok-push.ensures {u = tt}).items
