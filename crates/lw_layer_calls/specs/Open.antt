-- For private contracts.
-- What a call makes of a layer that is open, and what it answers, in every desk whose slot has this layer.
use Rattle.std.specs.Prelude.{◌≡◌, ℕ, Bool, true, false, List}
use Rattle.lw_region.specs.Rectangle.{Rectangle}
use Rattle.lw_calls.specs.Assets.{Assets}
use Rattle.lw_calls.specs.declared.call.Call.{Call}
use Rattle.lw_calls.specs.declared.call.Call.TheVariants.{SetA, SetB, SetMode, SetMask, At, Scroll}
use Rattle.lw_calls.specs.declared.reply.Reply.{Reply}
use Rattle.lw_machine.specs.Layer.{Raster}
use Rattle.lw_machine.specs.Desk.{Desk}
use Rattle.lw_machine.specs.Parts.{slot_part}
use Rattle.lw_machine.specs.Step.{after, reply}
use Rattle.lw_layer.specs.View.{LiveView}
use Rattle.lw_layer.specs.StandsFor.{IsLivePart}
use Rattle.lw_layer_calls.specs.Registers.{StandForRegisters}

-- what a call on a slot answers and leaves of its layer in one desk
abbrev pub IsLiveStep : Desk → ℕ → ℕ → Call → Reply → LiveView → Type 0
IsLiveStep d task slot call r new = (r ≡ reply d task call) × IsLivePart new (slot_part (after d task call) slot)

-- a call of any task on a layer that reads nothing else
abbrev pub IsOpenStep : ℕ → LiveView → Call → Reply → LiveView → Type 0
IsOpenStep slot old call r new = (d : Desk) (task : ℕ) → IsLivePart old (slot_part d slot) → IsLiveStep d task slot call r new

-- a call of this task on a layer that reads nothing else
abbrev pub IsTaskStep : ℕ → ℕ → LiveView → Call → Reply → LiveView → Type 0
IsTaskStep task slot old call r new = (d : Desk) → IsLivePart old (slot_part d slot) → IsLiveStep d task slot call r new

-- a call of this task on a layer that may read the task's registers and what a script hands in
abbrev pub IsLentStep : ℕ → ℕ → LiveView → List (List Rectangle) → Assets → Call → Reply → LiveView → Type 0
IsLentStep task slot old regs assets call r new =
    (d : Desk)
    → IsLivePart old (slot_part d slot) → StandForRegisters regs (d.registers task) → d.assets ≡ assets
    → IsLiveStep d task slot call r new

-- the call sets how a layer paints
abbrev pub sets_raster : Call → Bool
sets_raster (SetA slot pen) = true
sets_raster (SetB slot pen) = true
sets_raster (SetMode slot mode) = true
sets_raster (SetMask slot mask) = true
sets_raster (At slot x y) = true
sets_raster call = false

-- how a layer paints after it
abbrev pub raster_after : Call → Raster → Raster
raster_after (SetA slot pen) old = record old { pen_a = pen }
raster_after (SetB slot pen) old = record old { pen_b = pen }
raster_after (SetMode slot mode) old = record old { mode = mode }
raster_after (SetMask slot mask) old = record old { mask = mask }
raster_after (At slot x y) old = record old { cursor_x = x; cursor_y = y }
raster_after call old = old

-- the call scrolls a super-bitmap layer
abbrev pub is_scroll : Call → Bool
is_scroll (Scroll slot dx dy) = true
is_scroll call = false
