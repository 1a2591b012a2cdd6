-- The damage of a simple layer by the history: what is hurt after each entry, from what was hurt before
-- it. Of the desks before and after an entry it reads which pixels a layer keeps and which are drawable, and what an arrangement
-- reveals.
use Rattle.std.specs.Prelude.{ℕ, ◌==◌, Bool, true, false, not, ◌&&◌, ◌||◌, if◌then◌else◌, List, [], ◌∷◌, Option, Some, None}
use Rattle.lw_calls.specs.declared.call.Call.{Call}
use Rattle.lw_calls.specs.declared.call.Call.TheVariants.{ScrollRaster, EndRefresh}
use Rattle.lw_calls.specs.declared.reply.Reply.{Reply}
use Rattle.lw_calls.specs.declared.entry.Entry.{Entry}
use Rattle.lw_machine.specs.Layer.{Layer, Slot, Unopened, Live, Closed, layer_is}
use Rattle.lw_machine.specs.Desk.{Desk}
use Rattle.lw_machine.specs.Kept.{is_visible, is_kept, is_inside}
use Rattle.lw_machine.specs.Blits.{scrolled_mark}
use Rattle.lw_machine.specs.Reveal.{across, counts_as_kept}
use Rattle.lw_calls.specs.Touches.{is_arrangement}
use Rattle.lw_machine.specs.Step.{refusal, after}

-- which pixels of which slot's layer are hurt
abbrev pub Hurts : Type 0
Hurts = ℕ → ℕ → ℕ → Bool

-- the call isn't refused
abbrev pub is_not_refused : Option Reply → Bool
is_not_refused None = true
is_not_refused (Some r) = false

-- What a call that was done, between the desks d and e, leaves hurt at a pixel of the layer in slot s, which keeps it in its
-- inner rectangle afterwards: after an arrangement what didn't count as kept before, and what was hurt. After a ScrollRaster of
-- this layer what is brought to a pixel, if anything is: hurt where it wasn't kept or was hurt. After a full EndRefresh of it
-- nothing; and after any other call what was hurt.
abbrev pub hurt_by_call : Desk → Desk → ℕ → Layer → Call → (ℕ → ℕ → Bool) → ℕ → ℕ → Bool
hurt_by_call d e s l (ScrollRaster slot dx dy rect) hurt x y =
    if slot == s then scrolled_mark (is_visible d s l) dx dy rect l hurt x y else hurt x y
hurt_by_call d e s l (EndRefresh slot full) hurt x y = if (slot == s) && full then false else hurt x y
hurt_by_call d e s l call hurt x y =
    if is_arrangement call then not (counts_as_kept (across d e s) l x y) || hurt x y else hurt x y

-- What is hurt after a call that was done, by what the slot had before: of a layer that the call created nothing is.
abbrev pub hurt_in_slot : Desk → Desk → ℕ → Slot → Call → (ℕ → ℕ → Bool) → ℕ → ℕ → Bool
hurt_in_slot d e s Unopened call hurt x y = false
hurt_in_slot d e s (Live l) call hurt x y = hurt_by_call d e s l call hurt x y
hurt_in_slot d e s Closed call hurt x y = false

-- What is hurt after the call of a task, on the desk d, before which this was hurt: only pixels that the layer then keeps in its
-- inner rectangle.
abbrev pub hurt_after_step : Desk → ℕ → Call → Hurts → Hurts
hurt_after_step d task call hurt s x y =
    let e = after d task call in
    layer_is (λ l. is_kept (is_visible e s l) l x y && is_inside l x y) (e.slot s)
    && (if is_not_refused (refusal d task call) then hurt_in_slot d e s (d.slot s) call (hurt s) x y else hurt s x y)

-- what is hurt after a history from the desk d on, before which this was hurt
abbrev pub hurt_after_history : Desk → List Entry → Hurts → Hurts
hurt_after_history d [] hurt = hurt
hurt_after_history d (e ∷ es) hurt = hurt_after_history (after d e.task e.call) es (hurt_after_step d e.task e.call hurt)

-- What is hurt after a history from the desk d on, on which nothing was hurt: pixel (x, y) of the layer in slot s.
abbrev pub is_hurt : Desk → List Entry → Hurts
is_hurt d es = hurt_after_history d es (λ s x y. false)
