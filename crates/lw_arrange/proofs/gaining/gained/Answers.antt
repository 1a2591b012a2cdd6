use Rattle.std.proofs.Common.{◌∙◌, sym, ap, subst, List}
use Rattle.lw_region.specs.Rectangle.{Rectangle}
use Rattle.lw_stack.specs.Stack.{bounds_at}
use Rattle.lw_arrange.specs.Prepared.{cell_after}
use Rattle.lw_arrange.specs.Filled.{AreGained}
use Rattle.lw_arrange.proofs.GainedRegions.{unbounded_gained}
use Rattle.lw_arrange.proofs.gaining.gained.Goals as goal

pub returns-in-None : goal.returns-in-None
returns-in-None c =
    let a = c.args.arrangement.now in
    let cell = c.args.cell.now in
    let P : List Rectangle → Type 0 = λ rects. AreGained cell (cell_after a cell) rects in
    subst P (sym c.new.ensures)
    (unbounded_gained a cell (ap (bounds_at a.stack.bounds) (sym c.slot-slot.ensures) ∙ (sym c.bounds.ensures ∙ c.in-None.is)))
