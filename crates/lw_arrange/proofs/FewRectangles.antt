-- What an arrangement makes of a slot has few rectangles.
use Rattle.std.proofs.Common.{◌≡◌, sym, ap, ◌∙◌, arith}
use Rattle.std.specs.Prelude.{if◌then◌else◌}
use Rattle.lw_calls.specs.Orders.{occurrences}
use Rattle.lw_machine.specs.Reveal.{has_bounds}
use Rattle.lw_bounds.proofs.Fronts.{lists_few}
use Rattle.lw_stack.specs.Stack.{bounds_at, top_in}
use Rattle.lw_stack.proofs.ListedLaws.{shown_places, shown_list_law}
use Rattle.lw_arrange.specs.Prepared.{shown_at}
use Rattle.lw_arrange.specs.Counted.{ArrangedSlotsHaveFewRectangles}

pub arranged_few : ArrangedSlotsHaveFewRectangles
unfolding top_in
arranged_few a s own is has =
    let once : occurrences s a.stack.front_to_back ≡ 1 = is.stack.listed s ∙ ap (λ o. if has_bounds o then 1 else 0) has in
    lists_few a.stack.sizes (bounds_at a.stack.bounds) a.stack.front_to_back s own (shown_at a s) (omega (arith, once)) has
    (shown_list_law a.stack s).1 (λ x y. sym (shown_places a.stack s x y))
