-- A slot with the hook of its layer, and what an arrangement makes of it.
use Rattle.std.specs.Prelude.{◌≡◌, ℕ, Bool, true, false, ◌==◌, not, ◌&&◌, if◌then◌else◌, pos, List, [], length, slice_set}
use Rattle.std.specs.Prelude.{Option, Some, None}
use Rattle.lw_region.specs.Rectangle.{Rectangle}
use Rattle.lw_region.specs.Bands.{covers}
use Rattle.lw_calls.specs.declared.call.Call.{Call}
use Rattle.lw_calls.specs.declared.call.Call.TheVariants.{Create, OpenWindow}
use Rattle.lw_machine.specs.Hook.{Hook}
use Rattle.lw_machine.specs.Layer.{is_framed}
use Rattle.lw_machine.specs.Desk.{is_the}
use Rattle.lw_machine.specs.Arrangement.{hook_from}
use Rattle.lw_machine.specs.Reveal.{Across, width_in, height_in, frame_is_due, revealed}
use Rattle.lw_layer.specs.View.{State, LiveView, CellView, keeps, with_layer, with_live, hooked}
use Rattle.lw_layer.specs.View as view
use Rattle.lw_layer.specs.Drafts.{IsLiveDraft, live_view, no_layer}
use Rattle.lw_strips.specs.Strips.{StripView}
use Rattle.lw_layer.specs.Windows.{HasRoom}
use Rattle.lw_frames.specs.Framing.{with_own_frame}
use Rattle.lw_frames.specs.Telling.{IsDone, with_window_told}
use Rattle.lw_reveal.specs.Changed.{carried_to}
use Rattle.lw_reveal.specs.Changes.{IsChange}
use Rattle.lw_arrange.specs.declared.preparing.Becomes.{Becomes}
use Rattle.lw_arrange.specs.declared.preparing.Becomes.TheVariants.{Stays, Closes, Opens, Changes}
use Rattle.lw_arrange.specs.Arrangements.{ArrangementView}
use Rattle.lw_arrange.specs.Prepared.{MayPrepare}
use Rattle.lw_arrange.specs.Areas.{IsShownElsewhere, IsShownUnlessExchanged}
use Rattle.lw_arrange.specs.Pieces.{exchanges}
use Rattle.lw_arrange.specs.Filled.{gains, gains_some, filled_layer, filled_by}
use Rattle.lw_arrange.specs.Exchanged.{HasPieces}
use Rattle.lw_arrange.specs.Settled.{across_arrangement, slot_settled}
use Rattle.lw_engine.specs.declared.window_after.WindowAfter.{WindowAfter}
use Rattle.lw_engine.specs.Desks.{hook_at}

-- the hook of a slot's layer, if it has one, and the slot's cell without it
abbrev pub hook_in : CellView → Option Hook
hook_in c = c.live.layer.hook

abbrev pub bare : CellView → CellView
bare c = hooked None c

-- the hook that a call asks for the layer in a slot, where it is on the shelf
abbrev pub asked_hook : List (Option Hook) → Call → ℕ → Option Hook
asked_hook shelf (Create slot make) n = if n == slot then hook_from (hook_at shelf) make.hook else None
asked_hook shelf (OpenWindow slot make framed nocare asks title) n =
    if n == slot then hook_from (hook_at shelf) make.hook else None
asked_hook shelf call n = None

-- the shelf without a hook that is asked for, and after an arrangement that is done
abbrev pub shelf_without : Option ℕ → List (Option Hook) → List (Option Hook)
shelf_without None shelf = shelf
shelf_without (Some n) shelf = slice_set shelf n None

abbrev pub shelf_after : Call → List (Option Hook) → List (Option Hook)
shelf_after (Create slot make) shelf = shelf_without make.hook shelf
shelf_after (OpenWindow slot make framed nocare asks title) shelf = shelf_without make.hook shelf
shelf_after call shelf = shelf

-- The slot after a planned arrangement, to which these glyphs were handed in, and before which these hooks are on the shelf.
abbrev pub slot_after : List (List ℕ) → ArrangementView → List (Option Hook) → CellView → CellView
slot_after glyphs a shelf c = slot_settled glyphs a (asked_hook shelf a.call c.number) c

-- Words of this crate's private contracts.

-- a slot may be made ready for the arrangement: its cell may be prepared; it shows what the plan says outside the area, and at every
-- place if it neither loses nor gains a piece; it isn't to be the active window unless it is live, and a window's port has room for
-- all messages that it may be due
pub record MayBeReady (a : ArrangementView) (c : CellView) : Type 0 where
  pub prepare : MayPrepare a (bare c)
  pub elsewhere : IsShownElsewhere a (bare c)
  pub unexchanged : IsShownUnlessExchanged a (bare c)
  pub idle : (c.state ≡ view.Live → ⊥) → is_the a.stack.active c.number ≡ false
  pub room : HasRoom 5 c

-- After the arrangement the slot is as it was, whatever glyphs and hooks there are, and it neither loses nor gains a piece.
pub record IsLeft (a : ArrangementView) (c : CellView) : Type 0 where
  pub still : (glyphs : List (List ℕ)) (shelf : List (Option Hook)) → slot_after glyphs a shelf c ≡ c
  pub unexchanged : exchanges c.number a.pieces ≡ false

-- the hook that a slot's layer fills with, by what the slot holds before
abbrev pub due_hook : ArrangementView → List (Option Hook) → CellView → State → Option Hook
due_hook a shelf c view.Live = hook_in c
due_hook a shelf c idle = asked_hook shelf a.call c.number

-- a slot whose cell was made from this one, and whose layer has this hook: what its layer gained was filled
abbrev pub filled_from : CellView → Option Hook → CellView → CellView
filled_from c h e = filled_by h (λ x y. gains c e x y) (gains_some c e) e

-- the layer, which has this hook if any, once the pixels of these rectangles that it keeps were filled, with the hook or with pen
-- 0
abbrev pub filled_as : Option Hook → List Rectangle → LiveView → LiveView
filled_as h gained c =
    with_layer (λ l. filled_layer h (λ x y. keeps c x y && covers gained (pos x) (pos y)) (not (length gained == 0)) l) c

-- the one rectangle has another number of columns or lines than the other
abbrev pub is_sized : Rectangle → Rectangle → Bool
is_sized r s = not ((width_in (Some r) == width_in (Some s)) && (height_in (Some r) == height_in (Some s)))

-- a layer that is live, across the arrangement after which it has these bounds
abbrev pub across_live : ArrangementView → CellView → Rectangle → Across
across_live a c r = across_arrangement a c.number (Some c.live.bounds) c.live r

-- What is known beforehand of a layer that stays live, which then has these bounds: whether it is the active window, and what its
-- window is told; and of a framed window whether its frame is due.
pub record IsWindowAfter (a : ArrangementView) (c : CellView) (r : Rectangle) (w : WindowAfter) : Type 0 where
  pub active : w.active ≡ is_the a.stack.active c.number
  pub done : IsDone (across_live a c r) w.change
  pub frame : is_framed c.live.layer.window ≡ true
      → w.frame ≡ frame_is_due (across_live a c r) c.live.layer (revealed (across_live a c r) c.live.layer)

-- the layer that is the active window or not, with its frame where it is due, and its window told
abbrev pub with_activity : Bool → LiveView → LiveView
with_activity active c = record c { active = active }

abbrev pub with_frame_if : Bool → List (List ℕ) → Bool → LiveView → LiveView
with_frame_if due glyphs active c = if due then with_own_frame glyphs active c else c

abbrev pub followed : List (List ℕ) → WindowAfter → Across → LiveView → LiveView
followed glyphs w q c = with_window_told q (with_frame_if w.frame glyphs w.active (with_activity w.active c))

-- What is ready to be made of a slot: its number, what was prepared for its cell, the strips that it gives up, the rectangles of
-- those that it claims, the pixels that are then filled, the hook of a new layer, and what becomes of the window of one that
-- stays live.
pub record ReadyView : Type 0 where
  pub slot : ℕ
  pub prepared : Becomes
  pub lost : List StripView
  pub claims : List Rectangle
  pub gained : List Rectangle
  pub taken : Option Hook
  pub window : WindowAfter

-- the one slot becomes the other, whose layer stays as it is if there is one: its window is told
abbrev pub IsStill : List (List ℕ) → CellView → CellView → WindowAfter → State → Type 0
IsStill glyphs from to w view.Unopened = to ≡ from
IsStill glyphs from to w view.Live =
    HasRoom 5 from × (q : Across) × IsDone q w.change × (to ≡ with_live (followed glyphs w q) from)
IsStill glyphs from to w view.Closed = to ≡ from

-- the one slot becomes the other by what is ready for it
abbrev pub IsSettledBy : List (List ℕ) → CellView → CellView → List Rectangle → Option Hook → WindowAfter → Becomes → Type 0
IsSettledBy glyphs from to gained taken w Stays = IsStill glyphs from to w from.state
IsSettledBy glyphs from to gained taken w Closes =
    (from.state ≡ view.Live) × (to ≡ record { number = from.number; state = view.Closed; live = no_layer })
IsSettledBy glyphs from to gained taken w (Opens d) =
    (from.state ≡ view.Live → ⊥) × IsLiveDraft d.value
    × (to ≡ record {
      number = from.number;
      state = view.Live;
      live = with_own_frame glyphs false (filled_as taken gained (live_view d.value));
    })
IsSettledBy glyphs from to gained taken w (Changes k) =
    (from.state ≡ view.Live) × HasRoom 5 from × IsChange (bare from).live k.value × (q : Across) × IsDone q w.change
    × (to ≡ with_live
    (λ c. followed glyphs w q (filled_as (hook_in from) gained (carried_to k.value.bounds k.value.parts.visible c)))
    (bare from))

abbrev pub IsSettled : List (List ℕ) → CellView → CellView → ReadyView → Type 0
IsSettled glyphs from to r = IsSettledBy glyphs from to r.gained r.taken r.window r.prepared

-- What is ready for a slot, once a new layer has its hook, makes of it what the arrangement says; the hook isn't taken so far.
pub record IsReadyFor (a : ArrangementView) (shelf : List (Option Hook)) (c : CellView) (r : ReadyView) : Type 0 where
  pub settled : (glyphs : List (List ℕ))
      → IsSettledBy glyphs c (slot_after glyphs a shelf c) r.gained (asked_hook shelf a.call c.number) r.window r.prepared
  pub slot : r.slot ≡ c.number
  pub untaken : r.taken ≡ None
  pub pieces : HasPieces c.number a.stack.sizes.depth a.pieces r.lost r.claims

-- nothing is told of a window
abbrev pub no_window_after : WindowAfter
no_window_after = record {
  frame = false;
  active = false;
  change = record { sized = false; changed = false; deactivated = false; activated = false; damaged = false };
}

-- nothing is ready
abbrev pub nothing_ready : ReadyView
nothing_ready = record { slot = 0; prepared = Stays; lost = []; claims = []; gained = []; taken = None; window = no_window_after }
