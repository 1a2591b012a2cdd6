-- Neither frames nor messages take notice of the hook that lies beside a cell.
use Rattle.std.proofs.Common.{◌≡◌, ℕ, ◌-◌, ◌≤◌, Bool, true, false, List, Option, Some, None, ◌∙◌, sym, refl, ap, subst}
use Rattle.lw_region.specs.Rectangle.{Rectangle}
use Rattle.lw_machine.specs.Hook.{Hook}
use Rattle.lw_machine.specs.Layer.{Layer, Window, is_window, changed_window}
use Rattle.lw_machine.specs.Kept.{is_kept}
use Rattle.lw_machine.specs.Reveal.{Across, is_damaged, window_with_messages}
use Rattle.lw_layer.specs.View.{State, LiveView, CellView, keeps, with_layer, with_live, hooked}
use Rattle.lw_layer.specs.View as view
use Rattle.lw_layer.specs.Windows.{due_count, RoomWhere, HasRoom}
use Rattle.lw_frames.specs.Framing.{with_own_frame}
use Rattle.lw_frames.specs.Telling.{with_window_told}
use Rattle.lw_engine.specs.declared.window_after.WindowAfter.{WindowAfter}
use Rattle.lw_engine.specs.Slots.{filled_as, with_activity, with_frame_if, followed, IsStill}
use Rattle.lw_engine.proofs.HookLaws.{with_hook, framed_alike}

-- a frame
pub own_hooked : (h : Option Hook) (glyphs : List (List ℕ)) (active : Bool) (c : LiveView)
    → with_own_frame glyphs active (with_layer (with_hook h) c) ≡ with_layer (with_hook h) (with_own_frame glyphs active c)
unfolding keeps is_kept
own_hooked h glyphs active c =
    ap (λ (l : Layer). record c { layer = l }) (framed_alike h glyphs (λ x y. keeps c x y) active c.layer.window c.layer)

frame_hooked : (h : Option Hook) (t : Bool) (glyphs : List (List ℕ)) (active : Bool) (c : LiveView)
    → with_frame_if t glyphs active (with_layer (with_hook h) c) ≡ with_layer (with_hook h) (with_frame_if t glyphs active c)
frame_hooked h true glyphs active c = own_hooked h glyphs active c
frame_hooked h false glyphs active c = refl

-- messages
told_hooked : (h : Option Hook) (q : Across) (c : LiveView) → with_window_told q (with_layer (with_hook h) c) ≡ with_layer (with_hook h) (with_window_told q c)
unfolding is_damaged
told_hooked h q c = by_window c.layer.window
  where
    l : Layer
    l = c.layer

    Told : Layer → Option Window → LiveView
    Told m o = record c {
      room = c.room - due_count q m o;
      layer = record l { hook = h; window = changed_window (window_with_messages q m) o };
    }

    by_window : (o : Option Window) → Told (with_hook h l) o ≡ Told l o
    by_window None = refl
    by_window (Some w) = refl

pub followed_hooked : (h : Option Hook) (glyphs : List (List ℕ)) (w : WindowAfter) (q : Across) (c : LiveView)
    → followed glyphs w q (with_layer (with_hook h) c) ≡ with_layer (with_hook h) (followed glyphs w q c)
followed_hooked h glyphs w q c =
    ap (with_window_told q) (frame_hooked h w.frame glyphs w.active (with_activity w.active c))
    ∙ told_hooked h q (with_frame_if w.frame glyphs w.active (with_activity w.active c))

-- a slot whose layer was changed in a way that takes no notice of its hook
pub slot_changed : (f : LiveView → LiveView) (h : Option Hook) (c : CellView) (from to : LiveView)
    → ((k : LiveView) → f (with_layer (with_hook h) k) ≡ with_layer (with_hook h) (f k)) → from ≡ c.live → to ≡ f from
    → hooked h (with_live (λ k. to) c) ≡ with_live f (hooked h c)
slot_changed f h c from to blind lent is =
    ap (λ (k : LiveView). record c { live = k }) (ap (with_layer (with_hook h)) is ∙ (sym (blind from) ∙ ap (λ k. f (with_layer (with_hook h) k)) lent))

-- and of which some pixels were filled before, by the hook that it then had
pub slot_filled : (f : LiveView → LiveView) (h held : Option Hook) (gained : List Rectangle) (c : CellView) (from filled to : LiveView)
    → ((k : LiveView) → f (with_layer (with_hook held) k) ≡ with_layer (with_hook held) (f k)) → from ≡ c.live
    → with_layer (with_hook held) filled ≡ filled_as h gained from → to ≡ f filled
    → hooked held (with_live (λ k. to) c) ≡ with_live (λ k. f (filled_as h gained k)) c
slot_filled f h held gained c from filled to blind lent fills is =
    ap (λ (k : LiveView). record c { live = k })
    (ap (with_layer (with_hook held)) is ∙ (sym (blind filled) ∙ ap f (fills ∙ ap (filled_as h gained) lent)))

-- a slot without a layer stays
pub idle_stays : (glyphs : List (List ℕ)) (from to : CellView) (w : WindowAfter) (s : State) → (s ≡ view.Live → ⊥) → IsStill glyphs from to w s → to ≡ from
idle_stays glyphs from to w view.Unopened idle is = is
idle_stays glyphs from to w view.Live idle is = absurd (idle refl)
idle_stays glyphs from to w view.Closed idle is = is

-- a layer's port has the room that its slot's has
pub room_same : (n : ℕ) (c : CellView) (k : LiveView) → c.state ≡ view.Live → k.room ≡ c.live.room → k.layer.window ≡ c.live.layer.window → HasRoom n c
    → is_window k.layer.window ≡ true → n ≤ k.room
room_same n c k live room window has is =
    let P : State → Type 0 = λ s. RoomWhere s n c.live in
    let R : ℕ → Type 0 = λ m. n ≤ m in
    subst R (sym room) (subst P live has (ap is_window (sym window) ∙ is))
