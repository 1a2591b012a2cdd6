-- What a window is told after an arrangement, put into its port (the manual's Intuition Windows chapter: IDCMP ports).
use Rattle.std.specs.Prelude.{◌≡◌, ◌-◌, Bool, not, ◌&&◌, ◌||◌, List, ◌++◌, length, Option, Some, None}
use Rattle.lw_calls.specs.declared.message.Message.{Message}
use Rattle.lw_machine.specs.Layer.{Layer, Window, change_window}
use Rattle.lw_machine.specs.Reveal.{Across, was_live, is_resized, same_bounds, messages_due, refresh_is_put, with_messages}
use Rattle.lw_layer.specs.View.{LiveView}
use Rattle.lw_layer.specs.Windows.{due_count}
use Rattle.lw_windows.specs.Messages.{listed}
use Rattle.lw_windows.specs.declared.messages.Change.{Change as Told}
use Rattle.lw_windows.specs.declared.messages.Classes.{Classes}

-- What is told of an arrangement is so: whether it changed the layer's size and bounds, and made it the active window or no
-- longer. Whether the layer has some damage isn't asked.
pub record IsDone (c : Across) (t : Told) : Type 0 where
  pub sized : t.sized ≡ is_resized c
  pub changed : t.changed ≡ (was_live c && not (same_bounds c.bounds c.new_bounds))
  pub deactivated : t.deactivated ≡ (c.active && not c.new_active)
  pub activated : t.activated ≡ (c.new_active && not c.active)

-- the live layer once its window was told what it is due
abbrev pub with_window_told : Across → LiveView → LiveView
with_window_told c k = record k { room = k.room - due_count c k.layer k.layer.window; layer = with_messages c k.layer }

-- Words of this crate's private contracts.

-- the messages that a layer's window is due, and whether refresh is one of them
abbrev pub IsDueOf : Across → Layer → Option Window → Classes → Type 0
IsDueOf c after None due = ⊥
IsDueOf c after (Some w) due = (listed due ≡ messages_due c after w) × (due.refresh ≡ refresh_is_put after w)

-- the live layer with these messages at the end of its window's port
abbrev pub with_put : List Message → LiveView → LiveView
with_put messages k =
    record k { room = k.room - length messages; layer = change_window (λ w. record w { port = w.port ++ messages }) k.layer }

-- and once its window is noted as asked to refresh, where it was
abbrev pub as_asked : Bool → LiveView → LiveView
as_asked is k = record k { layer = change_window (λ w. record w { asked = w.asked || is }) k.layer }

-- the live layer with the messages of a set put
abbrev pub told_all : Classes → LiveView → LiveView
told_all due k = as_asked due.refresh (with_put (listed due) k)
