-- What a run leaves of a desk: what a report shows besides the order.
use Rattle.std.specs.Prelude.{ℕ, Bool, false, if◌then◌else◌, List, [], ◌∷◌, map, pos, Option, Some, None}
use Rattle.std.specs.List.{flat_map, range_with_len}
use Rattle.lw_region.specs.Pixels.{Pixel}
use Rattle.lw_region.specs.Bands.{bands}
use Rattle.lw_planes.specs.Grid.{at}
use Rattle.lw_calls.specs.declared.message.Message.{Message}
use Rattle.lw_calls.specs.declared.reply.Reply.{Reply}
use Rattle.lw_calls.specs.declared.last.Seen.{Seen}
use Rattle.lw_calls.specs.Entries.{entries}
use Rattle.lw_calls.specs.Final.{Final}
use Rattle.lw_calls.specs.Plan.{Plan}
use Rattle.lw_machine.specs.Hook.{Hook}
use Rattle.lw_machine.specs.Layer.{Layer, Window, Slot, Unopened, Live, Closed}
use Rattle.lw_machine.specs.Desk.{Desk, empty_desk, shelf_of}
use Rattle.lw_machine.specs.Screen.{is_shown, screen}
use Rattle.lw_machine.specs.History.{machine, replies_of}

-- the pixels of a table of this width and height for which the test holds, in reading order
abbrev pub pixels_where : ℕ → ℕ → (ℕ → ℕ → Bool) → List Pixel
pixels_where w h test =
    flat_map (λ y. flat_map (λ x. if test x y then record { x = pos x; y = pos y } ∷ [] else []) (range_with_len 0 w))
    (range_with_len 0 h)

-- the places of the screen on which a slot's layer is shown
unfoldable pub shown_set : Desk → ℕ → List Pixel
shown_set d s = pixels_where d.sizes.width d.sizes.height (λ x y. is_shown d s (pos x) (pos y))

-- the damaged pixels of a layer
unfoldable pub damage_set : Layer → List Pixel
damage_set l = pixels_where l.bits.width l.bits.height (λ x y. at false l.damage x y)

-- the messages of a window's port, and none of a layer that isn't a window
abbrev pub port_of : Option Window → Option (List Message)
port_of None = None
port_of (Some w) = Some w.port

-- What is seen of a slot: of a live layer where it is shown, its damage, and its port's messages.
abbrev pub seen_of : Desk → ℕ → Slot → Option Seen
seen_of d s Unopened = None
seen_of d s (Live l) =
    Some (record { visible = bands (shown_set d s); damage = bands (damage_set l); messages = port_of l.window })
seen_of d s Closed = None

-- The final state of a desk whose tasks had these replies: the screen, what is seen of each slot, and each task's replies.
abbrev pub final_of : Desk → (ℕ → List Reply) → Final
final_of d replies = record {
  planes = screen d;
  slots = map (λ s. seen_of d s (d.slot s)) (range_with_len 0 d.sizes.slots);
  replies = map replies (range_with_len 0 d.sizes.tasks);
}

-- The desk of a plan before its first call, with these hooks on the shelf.
abbrev pub opening_desk : Plan → List Hook → Desk
opening_desk plan hooks = empty_desk plan.sizes plan.assets (shelf_of hooks)

-- What the machine's run of a plan in an order leaves, with these hooks.
abbrev pub run_final : Plan → List Hook → List ℕ → Final
run_final plan hooks order =
    let d = opening_desk plan hooks in
    let es = entries plan [] order in
    final_of (machine d es) (λ task. replies_of d task es)
