-- The cells of a desk have few rectangles.
use Rattle.std.proofs.Common.{◌≡◌, ℕ, ◌≤◌, List, ap, subst, ◌∙◌, arith}
use Rattle.std.specs.Prelude.{if◌then◌else◌}
use Rattle.lw_calls.specs.declared.sizes.Sizes.{Sizes}
use Rattle.lw_calls.specs.Orders.{occurrences}
use Rattle.lw_machine.specs.Layer.{Slot, is_live}
use Rattle.lw_machine.specs.Screen.{top}
use Rattle.lw_machine.specs.Arrangement.{is_on_screen}
use Rattle.lw_machine.specs.Parts.{slot_part}
use Rattle.lw_bounds.specs.Cuts.{rectangle_count}
use Rattle.lw_bounds.specs.Fronts.{front_count, rectangle_limit}
use Rattle.lw_bounds.proofs.Fronts.{lists_few}
use Rattle.lw_layer.specs.View.{State}
use Rattle.lw_layer.specs.StandsFor.{IsLivePart, IsPartOf}
use Rattle.lw_engine.specs.Desks.{cell_at}
use Rattle.lw_engine.specs.Counted.{CellsHaveFewRectangles}

pub cells_few : CellsHaveFewRectangles
unfolding top
cells_few v cells d s are low live canonical =
    let c = (cell_at cells s).live in
    let part : IsLivePart c (slot_part d s) = subst (λ (q : State). IsPartOf q c (slot_part d s)) live (are.slots s low) in
    let once : occurrences s d.front_to_back ≡ 1 = are.sound.listed s ∙ ap (λ (x : Slot). if is_live x then 1 else 0) part.slot in
    let Few : Sizes → List ℕ → Type 0 =
    λ z ts. rectangle_count c.bounds c.visible ≤ rectangle_limit (is_on_screen z c.bounds) (front_count s ts)
    in
    subst (λ z. Few z v.front_to_back) are.sizes
    (subst (λ ts. Few d.sizes ts) are.info.front_to_back
    (lists_few d.sizes d.bounds d.front_to_back s c.bounds c.visible (omega (arith, once)) part.bounds canonical part.shown))
