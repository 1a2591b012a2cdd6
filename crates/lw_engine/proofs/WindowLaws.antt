-- What is known beforehand of the window of a layer that stays live is what the machine asks.
use Rattle.std.proofs.Common.{◌≡◌, Bool, true, false, not, ◌&&◌, ◌||◌, List, Option, Some, ◌∙◌, sym, refl, ap, subst}
use Rattle.lw_region.specs.Rectangle.{Rectangle}
use Rattle.lw_machine.specs.Hook.{Hook}
use Rattle.lw_machine.specs.Layer.{Layer, is_framed}
use Rattle.lw_machine.specs.Desk.{is_the}
use Rattle.lw_machine.specs.Shapes.{differ}
use Rattle.lw_machine.specs.Reveal.{Across, same_bounds, some_now, fills, is_inner, revealed}
use Rattle.lw_layer.specs.View.{State, CellView, hooked}
use Rattle.lw_layer.specs.View as view
use Rattle.lw_layer.specs.Looks.{IsLook, IsLookAt}
use Rattle.lw_layer.specs.StandsFor.{IsSound}
use Rattle.lw_layer.specs.declared.look.Look.{Look}
use Rattle.lw_stack.specs.Stack.{bounds_at}
use Rattle.lw_arrange.specs.Arrangements.{ArrangementView}
use Rattle.lw_arrange.specs.Prepared.{created_by, becomes, with_bounds, shown_at, cell_after}
use Rattle.lw_arrange.specs.Filled.{AreGained}
use Rattle.lw_arrange.specs.Framed.{IsFrameGained}
use Rattle.lw_arrange.proofs.FilledLaws.{with_hook}
use Rattle.lw_arrange.proofs.FrameLaws.{frame_gained}
use Rattle.lw_arrange.proofs.GainsLaws.{stayed}
use Rattle.lw_engine.specs.declared.window_after.WindowAfter.{WindowAfter}
use Rattle.lw_engine.specs.Slots.{is_sized, across_live, IsWindowAfter}

pub look_of : (c : CellView) (look : Look) → c.state ≡ view.Live → IsLookAt c.state c.live (Some look) → IsLook c.live look
look_of c look live is = let P : State → Type 0 = λ s. IsLookAt s c.live (Some look) in subst P live is

-- it becomes the layer with these
stays_live : (a : ArrangementView) (c : CellView) (r : Rectangle) → c.state ≡ view.Live → bounds_at a.stack.bounds c.number ≡ Some r
    → cell_after a c ≡ stayed r (shown_at a c.number) c
stays_live a c r live bounds =
    ap (becomes (created_by a.task a.call) a.stack.sizes.depth (shown_at a c.number) c) bounds
    ∙ ap (with_bounds (created_by a.task a.call) a.stack.sizes.depth r (shown_at a c.number) c) live

-- the activity changed
turned : (was is : Bool) → ((was && not is) || (is && not was)) ≡ differ was is
turned true true = refl
turned true false = refl
turned false true = refl
turned false false = refl

-- What the code reads of a window.
pub record IsReadOf (a : ArrangementView) (c : CellView) (look : Look) (bounds : Rectangle) (gained : List Rectangle) (active on_frame : Bool) (w : WindowAfter) :
    Type 0 where
  pub look_is : IsLookAt c.state c.live (Some look)
  pub bounds_are : bounds_at a.stack.bounds c.number ≡ Some bounds
  pub active_is : active ≡ is_the a.stack.active c.number
  pub sized : w.change.sized ≡ is_sized look.bounds bounds
  pub changed : w.change.changed ≡ not (same_bounds (Some look.bounds) (Some bounds))
  pub deactivated : w.change.deactivated ≡ (look.active && not active)
  pub activated : w.change.activated ≡ (active && not look.active)
  pub due : w.frame ≡ (w.change.sized || ((w.change.deactivated || w.change.activated) || on_frame))
  pub then_active : w.active ≡ active
  pub frame : IsFrameGained gained look.framed bounds on_frame

-- So it is what the machine asks, whatever hook the layer has.
pub window_read : (a : ArrangementView) (c : CellView) (look : Look) (bounds : Rectangle) (gained : List Rectangle) (active on_frame : Bool) (w : WindowAfter)
    (h : Option Hook) (r : Rectangle) → c.state ≡ view.Live → IsSound c.live → bounds_at a.stack.bounds c.number ≡ Some r
    → (is_framed c.live.layer.window ≡ true → AreGained c (cell_after a c) gained) → IsReadOf a c look bounds gained active on_frame w
    → IsWindowAfter a (hooked h c) r w
window_read a c look bounds gained active on_frame w h r live sound place are read =
    record {
      active = read.then_active ∙ read.active_is;
      done = record {
        sized = sized;
        changed = read.changed ∙ (ap (λ b. not (same_bounds (Some b) (Some bounds))) k.bounds ∙ ap (λ b. not (same_bounds (Some c.live.bounds) (Some b))) same);
        deactivated = ceased;
        activated = began;
      };
      frame =
          λ has.
          let Told : Bool → Rectangle → Type 0 = λ f b. IsFrameGained gained f b on_frame in
          let P : Bool → Type 0 = λ f. Told f bounds in
          let R : Rectangle → Type 0 = λ b. Told true b in
          let Q : CellView → Type 0 = λ e. AreGained c e gained in
          let on : some_now q (λ x y. fills q l (revealed q l) x y && not (is_inner q l x y)) ≡ on_frame =
          frame_gained c r (shown_at a c.number) h c.live.active new gained on_frame live sound has (subst Q (stays_live a c r live place) (are has))
          (subst R same (subst P (k.framed ∙ has) read.frame))
          in
          read.due
          ∙ (ap (λ t. t || ((w.change.deactivated || w.change.activated) || on_frame)) sized
          ∙ (ap (λ t. is_sized c.live.bounds r || ((t || w.change.activated) || on_frame)) ceased
          ∙ (ap (λ t. is_sized c.live.bounds r || (((c.live.active && not new) || t) || on_frame)) began
          ∙ (ap (λ t. is_sized c.live.bounds r || (t || on_frame)) (turned c.live.active new)
          ∙ ap (λ t. is_sized c.live.bounds r || (differ c.live.active new || t)) (sym on)))));
    }
  where
    k : IsLook c.live look
    k = look_of c look live read.look_is

    q : Across
    q = across_live a (hooked h c) r

    l : Layer
    l = with_hook h c.live.layer

    new : Bool
    new = is_the a.stack.active c.number

    same : bounds ≡ r
    same = let both : Some bounds ≡ Some r = sym read.bounds_are ∙ place in cc both

    sized : w.change.sized ≡ is_sized c.live.bounds r
    sized = read.sized ∙ (ap (λ b. is_sized b bounds) k.bounds ∙ ap (is_sized c.live.bounds) same)

    ceased : w.change.deactivated ≡ (c.live.active && not new)
    ceased = read.deactivated ∙ (ap (λ t. t && not active) k.active ∙ ap (λ t. c.live.active && not t) read.active_is)

    began : w.change.activated ≡ (new && not c.live.active)
    began = read.activated ∙ (ap (λ t. active && not t) k.active ∙ ap (λ t. t && not c.live.active) read.active_is)
