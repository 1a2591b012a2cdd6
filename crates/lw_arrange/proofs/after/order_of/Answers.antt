use Rattle.std.proofs.Common.{◌<◌, List, ℕ, subst, sym}
use Rattle.std.specs.List.{All}
use Rattle.lw_stack.proofs.ListLaws.{entries_are_slots}
use Rattle.lw_arrange.proofs.StackLaws.{made_with}
use Rattle.lw_arrange.proofs.after.order_of.Goals as goal

pub returns-clause-slots : goal.returns-clause-slots
returns-clause-slots c =
    let v = c.args.info.now in
    let all =
    subst (λ (l : List ℕ). All (λ s. s < v.sizes.slots) l) (sym c.order.ensures.value)
    (entries_are_slots v c.order.ensures.stack) in
    made_with (λ s. s < v.sizes.slots) (λ o. o.items) c.from_slice.result c.order.result.now all c.from_slice.ensures.items
