-- What a call makes of the parts that it touches, and what it answers, in every desk with these parts.
use Rattle.std.specs.Prelude.{◌≡◌, ℕ, List}
use Rattle.lw_region.specs.Rectangle.{Rectangle}
use Rattle.lw_calls.specs.Assets.{Assets}
use Rattle.lw_calls.specs.declared.call.Call.{Call}
use Rattle.lw_calls.specs.declared.reply.Reply.{Reply}
use Rattle.lw_machine.specs.Desk.{Desk}
use Rattle.lw_machine.specs.Parts.{slot_part}
use Rattle.lw_machine.specs.Step.{after, reply}
use Rattle.lw_layer.specs.View.{CellView}
use Rattle.lw_layer.specs.StandsFor.{StandsFor}
use Rattle.lw_layer_calls.specs.Registers.{StandForRegisters}

-- a call on the registers of its task
abbrev pub IsRegistersStep : List (List Rectangle) → Call → Reply → List (List Rectangle) → Type 0
IsRegistersStep old call r new =
    (d : Desk) (task : ℕ) → StandForRegisters old (d.registers task)
    → (r ≡ reply d task call) × StandForRegisters new ((after d task call).registers task)

-- what a call on a slot answers and leaves in one desk
abbrev pub IsSlotStep : Desk → ℕ → ℕ → Call → Reply → CellView → Type 0
IsSlotStep d task slot call r new = (r ≡ reply d task call) × StandsFor new (slot_part (after d task call) slot)

-- a call of this task on a layer that may read the task's registers and what a script hands in
abbrev pub IsLayerStep : ℕ → CellView → List (List Rectangle) → Assets → Call → Reply → CellView → Type 0
IsLayerStep task old regs assets call r new =
    (d : Desk)
    → StandsFor old (slot_part d old.number) → StandForRegisters regs (d.registers task) → d.assets ≡ assets
    → IsSlotStep d task old.number call r new

-- a call on two layers, of which it reads the first alone and leaves it as it is
abbrev pub IsPairStep : CellView → CellView → Call → Reply → CellView → Type 0
IsPairStep source old call r new =
    (d : Desk) (task : ℕ)
    → StandsFor source (slot_part d source.number) → StandsFor old (slot_part d old.number)
    → StandsFor source (slot_part (after d task call) source.number) × IsSlotStep d task old.number call r new
