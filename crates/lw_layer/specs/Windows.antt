-- Words on the window that a layer is (the manual's Intuition Windows chapter).
use Rattle.std.specs.Prelude.{◌≡◌, ℕ, ◌≤◌, true, List, [], length, Option, Some, None}
use Rattle.lw_calls.specs.declared.message.Message.{Message}
use Rattle.lw_machine.specs.Layer.{Layer, Window, is_window}
use Rattle.lw_machine.specs.Reveal.{Across, messages_due}
use Rattle.lw_ports.specs.Ports.{oldest}
use Rattle.lw_layer.specs.View.{State, LiveView, CellView, with_live}
use Rattle.lw_layer.specs.View as view

-- the window's title
abbrev pub title_of : Option Window → List ℕ
title_of None = []
title_of (Some w) = w.title

-- the oldest message in its port
abbrev pub oldest_of : Option Window → Option Message
oldest_of None = None
oldest_of (Some w) = oldest w.port

-- the layer, whatever room its port has
abbrev pub roomless : LiveView → LiveView
roomless c = record c { room = 0 }

-- the cell, whatever room its port has
abbrev pub without_room : CellView → CellView
without_room c = with_live (λ k. record k { room = 0 }) c

-- the port of a window has room for so many messages
abbrev pub RoomWhere : State → ℕ → LiveView → Type 0
RoomWhere view.Unopened n k = Unit {0}
RoomWhere view.Live n k = is_window k.layer.window ≡ true → n ≤ k.room
RoomWhere view.Closed n k = Unit {0}

abbrev pub HasRoom : ℕ → CellView → Type 0
HasRoom n c = RoomWhere c.state n c.live

-- how many messages a layer's window is due after an arrangement, if it is one
abbrev pub due_count : Across → Layer → Option Window → ℕ
due_count c after None = 0
due_count c after (Some w) = length (messages_due c after w)
