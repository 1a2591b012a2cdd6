-- What a program's desk tells of a slot, in the words of a report: of each desk of the machine for which it stands.
use Rattle.std.specs.Prelude.{ℕ, List, Option, Some, None, option_map}
use Rattle.lw_region.specs.Rectangle.{Rectangle}
use Rattle.lw_calls.specs.declared.last.Seen.{Seen}
use Rattle.lw_calls.specs.declared.message.Message.{Message}
use Rattle.lw_machine.specs.Desk.{Desk}
use Rattle.lw_machine.specs.Finals.{seen_of}

-- what is seen of a slot's layer, if it has one
abbrev pub seen_at : Desk → ℕ → Option Seen
seen_at d slot = seen_of d slot (d.slot slot)

-- where on the screen it is shown, and its damage in layer coordinates, both as canonical lists
abbrev pub visible_in : Desk → ℕ → Option (List Rectangle)
visible_in d slot = option_map (λ it. it.visible) (seen_at d slot)

abbrev pub damage_in : Desk → ℕ → Option (List Rectangle)
damage_in d slot = option_map (λ it. it.damage) (seen_at d slot)

-- the messages in its port from the oldest, if it is a window
abbrev pub port_in : Option Seen → Option (List Message)
port_in None = None
port_in (Some it) = it.messages

abbrev pub messages_in : Desk → ℕ → Option (List Message)
messages_in d slot = port_in (seen_at d slot)
