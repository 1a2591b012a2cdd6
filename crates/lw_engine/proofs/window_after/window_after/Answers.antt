use Rattle.std.proofs.Common.{◌≡◌, Some, ◌∙◌, refl, sym, ap}
use Rattle.lw_machine.specs.Desk.{is_the}
use Rattle.lw_stack.specs.Stack.{bounds_at}
use Rattle.lw_engine.proofs.WindowLaws.{window_read}
use Rattle.lw_engine.proofs.window_after.window_after.Goals as goal

pub returns : goal.returns
returns c =
    λ live h r place.
    let a = c.args.arrangement.now in
    let v = c.args.cell.now in
    let bounds : bounds_at a.stack.bounds v.number ≡ Some c.in-Some-bounds.bounds =
    ap (bounds_at a.stack.bounds) (sym c.slot.ensures) ∙ (sym c.bounds.ensures ∙ c.in-Some-bounds.is) in
    window_read a v c.in-Some.look c.in-Some-bounds.bounds c.args.gained.now c.is_slot-active.result c.gains_frame-on_frame.result _ h r live
    (c.look.ensures.sound live) place (λ has. c.requires.gained live has)
    (record {
      look_is = c.in-Some.ensures.look;
      bounds_are = bounds;
      active_is = c.is_slot-active.ensures ∙ (ap (λ o. is_the o c.slot-2.result) c.active.ensures ∙ ap (is_the a.stack.active) c.slot-2.ensures);
      sized = c.change_of-change.ensures.sized;
      changed = c.change_of-change.ensures.changed;
      deactivated = c.change_of-change.ensures.deactivated;
      activated = c.change_of-change.ensures.activated;
      due = c.is_due.ensures;
      then_active = refl;
      frame = c.gains_frame-on_frame.ensures;
    })
