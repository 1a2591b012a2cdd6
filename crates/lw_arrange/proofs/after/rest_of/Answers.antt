use Rattle.std.proofs.Common.{◌<◌, List, ℕ, subst, sym}
use Rattle.std.specs.List.{All}
use Rattle.lw_machine.specs.Arrangement.{without}
use Rattle.lw_arrange.proofs.StackLaws.{rest_are_slots, made_with}
use Rattle.lw_arrange.proofs.after.rest_of.Goals as goal

pub returns-clause-slots : goal.returns-clause-slots
returns-clause-slots c =
    let v = c.args.info.now in
    let all =
    subst (λ (l : List ℕ). All (λ s. s < v.sizes.slots) (without c.args.slot l)) (sym c.order.ensures.value)
    (rest_are_slots v c.args.slot c.order.ensures.stack) in
    made_with (λ s. s < v.sizes.slots) (λ o. o.items) c.without.result
    (without c.args.slot c.order.result.now) all c.without.ensures
