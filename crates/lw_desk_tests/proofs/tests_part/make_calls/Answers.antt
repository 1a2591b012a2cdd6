use Rattle.lw_machine.specs.Step.{after}
use Rattle.lw_desk_tests.proofs.tests_part.make_calls.Goals as goal

pub loop-call-preserved : goal.loop-call-preserved
loop-call-preserved g c =
    let before = c.loop-call.invariant in
    let made = c.in_ok-step.ensures.step before.0 before.1 in
    (after before.0 0 c.call-item.result, made.1)
