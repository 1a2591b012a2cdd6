-- What an arrangement makes of a slot: the machine's settled layer, with its frame and its messages.
use Rattle.std.specs.Prelude.{ℕ, ◌-◌, Option, Some, None, List}
use Rattle.lw_region.specs.Rectangle.{Rectangle}
use Rattle.lw_region.specs.Bands.{covers}
use Rattle.lw_machine.specs.Hook.{Hook}
use Rattle.lw_machine.specs.Layer.{Layer}
use Rattle.lw_machine.specs.Desk.{is_the}
use Rattle.lw_machine.specs.Arrangement.{new_layer}
use Rattle.lw_machine.specs.Reveal.{Across, revealed, with_due_frame, settled_layer}
use Rattle.lw_layer.specs.View.{State, LiveView, CellView}
use Rattle.lw_layer.specs.View as view
use Rattle.lw_layer.specs.Drafts.{no_layer}
use Rattle.lw_layer.specs.Windows.{due_count}
use Rattle.lw_stack.specs.Stack.{bounds_at}
use Rattle.lw_arrange.specs.Arrangements.{ArrangementView}
use Rattle.lw_arrange.specs.Prepared.{Created, created_by, shown_at, without_layer}

-- The layer of the slot s across a planned arrangement, after which it has the bounds r: its bounds before, if it was live, and
-- what was visible of it then.
abbrev pub across_arrangement : ArrangementView → ℕ → Option Rectangle → LiveView → Rectangle → Across
across_arrangement a s bounds c r = record {
  bounds = bounds;
  new_bounds = Some r;
  shown = λ x y. covers c.visible x y;
  new_shown = λ x y. covers (shown_at a s) x y;
  active = c.active;
  new_active = is_the a.stack.active s;
}

-- the live slot after it, across which its layer goes so, of a layer as it was before or as it is created
abbrev pub settled_across : List (List ℕ) → ArrangementView → ℕ → Across → Rectangle → ℕ → Layer → LiveView
settled_across glyphs a s q r room before =
    let framed = with_due_frame glyphs q before (revealed q before) in
    record {
      bounds = r;
      visible = shown_at a s;
      active = q.new_active;
      room = room - due_count q framed framed.window;
      layer = settled_layer glyphs q before;
    }

-- of a layer that was live, and of a new one
abbrev pub settled_live : List (List ℕ) → ArrangementView → ℕ → LiveView → Rectangle → LiveView
settled_live glyphs a s c r = settled_across glyphs a s (across_arrangement a s (Some c.bounds) c r) r c.room c.layer

abbrev pub settled_new : List (List ℕ) → ArrangementView → ℕ → Rectangle → Layer → LiveView
settled_new glyphs a s r new = settled_across glyphs a s (across_arrangement a s None no_layer r) r 0 new

-- the layer that is created, with this hook; there is none in a slot that isn't opened by the call
abbrev pub new_of : Option Created → ℕ → Option Hook → Layer
new_of None depth h = no_layer.layer
new_of (Some n) depth h = new_layer depth n.make h n.window

-- the slot after it, by what it holds before and its bounds afterwards; a new layer takes this hook, and any other keeps its own
abbrev pub settled_with : List (List ℕ) → ArrangementView → Option Hook → CellView → Rectangle → State → CellView
settled_with glyphs a h c r view.Live =
    record { number = c.number; state = view.Live; live = settled_live glyphs a c.number c.live r }
settled_with glyphs a h c r idle = record {
  number = c.number;
  state = view.Live;
  live = settled_new glyphs a c.number r (new_of (created_by a.task a.call) a.stack.sizes.depth h);
}

abbrev pub settled_by : List (List ℕ) → ArrangementView → Option Hook → CellView → Option Rectangle → CellView
settled_by glyphs a h c None = without_layer c c.state
settled_by glyphs a h c (Some r) = settled_with glyphs a h c r c.state

-- The slot after a planned arrangement, to which these glyphs were handed in.
abbrev pub slot_settled : List (List ℕ) → ArrangementView → Option Hook → CellView → CellView
slot_settled glyphs a h c = settled_by glyphs a h c (bounds_at a.stack.bounds c.number)
