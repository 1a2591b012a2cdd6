-- Sets of messages, and what a window's part in an arrangement says of the messages that are due.
use Rattle.std.specs.Prelude.{◌≡◌, Bool, not, ◌&&◌, if◌then◌else◌, List, [], ◌∷◌, ◌++◌}
use Rattle.lw_calls.specs.declared.message.Message.{Message}
use Rattle.lw_calls.specs.declared.message.Message.TheVariants.{Refresh, NewSize, Change, Active, Inactive}
use Rattle.lw_machine.specs.Layer.{Layer, Window, wants}
use Rattle.lw_machine.specs.Reveal.{Across, was_live, is_resized, same_bounds, is_damaged}
use Rattle.lw_windows.specs.declared.messages.Change.{Change as Told}
use Rattle.lw_windows.specs.declared.messages.Classes.{Classes}

-- the message, if it is in
abbrev pub one_if : Bool → Message → List Message
one_if is m = if is then m ∷ [] else []

-- the messages of a set in the order in which they are put
abbrev pub listed : Classes → List Message
listed s =
    one_if s.newsize NewSize
    ++ one_if s.change Change
    ++ one_if s.inactive Inactive
    ++ one_if s.active Active
    ++ one_if s.refresh Refresh

-- What `due` is told is so of the window w, of its layer as it is after the arrangement, and of the layer's part in it: the
-- set has the classes for which the window asks, and no others.
pub record Tells (c : Across) (after : Layer) (w : Window) (asks : Classes) (nocare asked : Bool) (t : Told) : Type 0 where
  pub newsize : asks.newsize ≡ wants w NewSize
  pub change : asks.change ≡ wants w Change
  pub inactive : asks.inactive ≡ wants w Inactive
  pub active : asks.active ≡ wants w Active
  pub refresh : asks.refresh ≡ wants w Refresh
  pub cares : nocare ≡ w.nocare
  pub was_asked : asked ≡ w.asked
  pub sized : t.sized ≡ is_resized c
  pub changed : t.changed ≡ (was_live c && not (same_bounds c.bounds c.new_bounds))
  pub deactivated : t.deactivated ≡ (c.active && not c.new_active)
  pub activated : t.activated ≡ (c.new_active && not c.active)
  pub damaged : t.damaged ≡ is_damaged after
