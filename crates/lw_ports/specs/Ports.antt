-- A window's port (the manual's Intuition Windows chapter: IDCMP ports; that room is reserved before a message is put is
-- this project's own).
use Rattle.std.specs.Prelude.{ℕ, List, [], ◌∷◌, Option, Some, None}
use Rattle.lw_calls.specs.declared.message.Message.{Message}

-- A port: its messages from the oldest, and how many more may be put before room has to be reserved again.
pub record PortView : Type 0 where
  pub messages : List Message
  pub spare : ℕ

-- the oldest message, if there is one
abbrev pub oldest : List Message → Option Message
oldest [] = None
oldest (m ∷ ms) = Some m
