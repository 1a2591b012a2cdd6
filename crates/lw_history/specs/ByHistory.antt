-- The final state of a run, with the damage of simple layers told by the history.
use Rattle.std.specs.Prelude.{ℕ, List, [], map, Option, Some, None}
use Rattle.std.specs.List.{range_with_len}
use Rattle.lw_region.specs.Pixels.{Pixel}
use Rattle.lw_region.specs.Bands.{bands}
use Rattle.lw_calls.specs.declared.make.Kind.{Kind}
use Rattle.lw_calls.specs.declared.make.Kind.TheVariants.{Simple, Smart, SuperBitmap}
use Rattle.lw_calls.specs.declared.last.Seen.{Seen}
use Rattle.lw_calls.specs.Entries.{entries}
use Rattle.lw_calls.specs.Final.{Final}
use Rattle.lw_calls.specs.Plan.{Plan}
use Rattle.lw_machine.specs.Hook.{Hook}
use Rattle.lw_machine.specs.Layer.{Layer, Slot, Unopened, Live, Closed}
use Rattle.lw_machine.specs.Desk.{Desk}
use Rattle.lw_machine.specs.History.{machine}
use Rattle.lw_machine.specs.Finals.{pixels_where, shown_set, damage_set, port_of, opening_desk, run_final}
use Rattle.lw_machine.specs.Hurt.{Hurts, is_hurt}

-- the damage of a layer of this kind: of a simple one what is told by the history, of any other what the layer has
abbrev pub damage_as : Kind → List Pixel → List Pixel → List Pixel
damage_as Simple told had = told
damage_as Smart told had = had
damage_as SuperBitmap told had = had

-- the pixels of the layer in slot s that are hurt
abbrev pub hurt_set : Hurts → ℕ → Layer → List Pixel
hurt_set hurt s l = pixels_where l.bits.width l.bits.height (hurt s)

-- what is seen of a slot, where these pixels are hurt
abbrev pub seen_by_history : Desk → Hurts → ℕ → Slot → Option Seen
seen_by_history d hurt s Unopened = None
seen_by_history d hurt s (Live l) =
    Some (record {
      visible = bands (shown_set d s);
      damage = bands (damage_as l.kind (hurt_set hurt s l) (damage_set l));
      messages = port_of l.window;
    })
seen_by_history d hurt s Closed = None

-- What the machine's run of a plan in an order leaves, with these hooks, and with the damage of simple layers told by the history
-- of that order.
abbrev pub final_by_history : Plan → List Hook → List ℕ → Final
final_by_history plan hooks order =
    let d = opening_desk plan hooks in
    let es = entries plan [] order in
    let last = machine d es in
    let seen = λ (s : ℕ). seen_by_history last (is_hurt d es) s (last.slot s) in
    record (run_final plan hooks order) { slots = map seen (range_with_len 0 last.sizes.slots) }
