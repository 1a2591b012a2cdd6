use Rattle.std.proofs.Common.{◌≡◌, length, ◌∙◌, rules}
use Rattle.lw_engine.proofs.FinishedLast.{screen_stands, slots_stand, replies_stand}
use Rattle.lw_engine.proofs.finishing.finish.Goals as goal

pub returns-clause-final_state : goal.returns-clause-final_state
returns-clause-final_state g c = λ d rs stands each.
    let v = c.args.info.now in
    let cells = c.args.slots.now in
    let long : length c.args.replies.items ≡ v.sizes.tasks = search rules in
    let planes = screen_stands v cells d c.in_ok-planes.planes c.requires.cells.many stands c.in_ok-planes.ensures in
    let slots = c.in_ok-slots.ensures ∙ slots_stand v cells d c.requires.cells stands in
    let replies = replies_stand v cells d rs c.args.replies.items long each stands in
    cc
