-- What a call on the registers of its task answers and leaves, in every desk with these registers.
use Rattle.std.proofs.Common.{◌≡◌, ℕ, ◌<◌, Bool, true, false, if◌then◌else◌, List, [], length, set, None, Result, Ok, Err, IfOk, OnOk, ◌∙◌, sym, refl, ap, subst, arith}
use Rattle.std.proofs.lemmas.Bool.{eq-eqb}
use Rattle.lw_region.specs.Rectangle.{Rectangle}
use Rattle.lw_region.specs.Order.{IsInOrder}
use Rattle.lw_region.specs.Pixels.{Pixel, precedes, pixels_of}
use Rattle.lw_region.specs.Bands.{bands}
use Rattle.lw_region.proofs.SetOps.{set_of_bands}
use Rattle.lw_calls.specs.declared.operation.RectOp.{RectOp}
use Rattle.lw_calls.specs.declared.operation.PairOp.{PairOp}
use Rattle.lw_calls.specs.declared.call.Call.{Call}
use Rattle.lw_calls.specs.declared.call.Call.TheVariants.{RegRect, RegPair, RegClear}
use Rattle.lw_calls.specs.declared.reply.Reply.{Reply}
use Rattle.lw_calls.specs.declared.reply.Reply.TheVariants.{Done, TooManyRects}
use Rattle.lw_machine.specs.Desk.{Desk, with_value}
use Rattle.lw_machine.specs.Registers.{rect_result, pair_result, has_too_many}
use Rattle.lw_machine.specs.Step.{refuse, changed_unless, reply_or, with_register, reply, after}
use Rattle.lw_layer_calls.specs.Registers.{set_in, with_set, set_reply, StandForRegisters}
use Rattle.lw_layer_calls.specs.Parts.{IsRegistersStep}
use Rattle.lw_layer_calls.proofs.RegisterLaws.{value_after_set, ordered_rect_result, ordered_pair_result, few_nil, refuse_or_done, cleared}

-- the registers have the set in the one that it was put into, and each other one as before
stand_set : (old : List (List Rectangle)) (part : ℕ → List Pixel) (reg : ℕ) (s : List Pixel) → reg < length old → IsInOrder precedes s → StandForRegisters old part → StandForRegisters (set old reg (bands s)) (with_value reg s part)
stand_set old part reg s low ordered stands = record {
  sets = λ r few. value_after_set pixels_of reg r s part old (bands s) [] low (sym (set_of_bands s ordered)) (stands.sets r few);
}

-- and so they stand for those of the task in the desk, by whether the set has too many rectangles
stand_put : (old : List (List Rectangle)) (d : Desk) (task reg : ℕ) (s : List Pixel) (many : Bool) → reg < length old → IsInOrder precedes s → StandForRegisters old (d.registers task) → StandForRegisters (if many then old else set old reg (bands s)) ((changed_unless (refuse many TooManyRects None) d (with_register d task reg s)).registers task)
stand_put old d task reg s true low ordered stands = stands
stand_put old d task reg s false low ordered stands =
    let P : (ℕ → List Pixel) → Type 0 = StandForRegisters (set old reg (bands s)) in
    subst P (sym (ap (λ t. if t then with_value reg s (d.registers task) else d.registers task) (eq-eqb task task refl))) (stand_set old (d.registers task) reg s low ordered stands)

-- a call that puts a set into a register of its task, where the desk's set is this one
put_step : (old : List (List Rectangle)) (d : Desk) (task reg : ℕ) (s told : List Pixel) → told ≡ s → reg < length old → IsInOrder precedes s → StandForRegisters old (d.registers task) → (set_reply s ≡ reply_or (refuse (has_too_many told) TooManyRects None) Done) × StandForRegisters (with_set old reg s) ((changed_unless (refuse (has_too_many told) TooManyRects None) d (with_register d task reg told)).registers task)
put_step old d task reg s told same low ordered stands =
    let P : List Pixel → Type 0 = λ q. (set_reply s ≡ reply_or (refuse (has_too_many q) TooManyRects None) Done) × StandForRegisters (with_set old reg s) ((changed_unless (refuse (has_too_many q) TooManyRects None) d (with_register d task reg q)).registers task) in
    subst P (sym same) (refuse_or_done (has_too_many s), stand_put old d task reg s (has_too_many s) low ordered stands)

-- a rectangle joined to a register
pub rect_step : (old : List (List Rectangle)) (op : RectOp) (reg : ℕ) (rect : Rectangle) → length old ≡ 8 → reg < 8 → IsRegistersStep old (RegRect op reg rect) (set_reply (rect_result op (set_in old reg) rect)) (with_set old reg (rect_result op (set_in old reg) rect))
unfolding after reply
rect_step old op reg rect eight small =
    λ d task stands.
    put_step old d task reg (rect_result op (set_in old reg) rect) (rect_result op (d.registers task reg) rect) (ap (λ q. rect_result op q rect) (stands.sets reg small)) (omega (arith, eight)) (ordered_rect_result op _ rect) stands

-- a register joined to another
pub pair_step : (old : List (List Rectangle)) (op : PairOp) (source into : ℕ) → length old ≡ 8 → source < 8 → into < 8 → IsRegistersStep old (RegPair op source into) (set_reply (pair_result op (set_in old source) (set_in old into))) (with_set old into (pair_result op (set_in old source) (set_in old into)))
unfolding after reply
pair_step old op source into eight small few =
    λ d task stands.
    put_step old d task into (pair_result op (set_in old source) (set_in old into)) (pair_result op (d.registers task source) (d.registers task into))
    (ap (λ q. pair_result op q (d.registers task into)) (stands.sets source small) ∙ ap (λ q. pair_result op (set_in old source) q) (stands.sets into few))
    (omega (arith, eight)) (ordered_pair_result op _ _) stands

-- an emptied register
pub clear_step : (old : List (List Rectangle)) (reg : ℕ) → length old ≡ 8 → reg < 8 → IsRegistersStep old (RegClear reg) Done (set old reg [])
unfolding after reply
clear_step old reg eight small =
    λ d task stands.
    let P : Bool → Type 0 = λ many. StandForRegisters (set old reg []) ((changed_unless (refuse many TooManyRects None) d (with_register d task reg [])).registers task) in
    let Q : List (List Rectangle) → Type 0 = λ new. StandForRegisters new ((changed_unless (refuse (has_too_many []) TooManyRects None) d (with_register d task reg [])).registers task) in
    (refl, subst P few_nil (subst Q (sym (cleared old reg)) (stand_put old d task reg [] (has_too_many []) (omega (arith, eight)) tt stands)))

-- a call that answers and leaves this, told by what its function gives
step_of : (old new left : List (List Rectangle)) (call : Call) (r a : Reply) → r ≡ a → new ≡ left → IsRegistersStep old call a left → IsRegistersStep old call r new
step_of old new left call r a is leaves step =
    λ d task stands.
    let P : List (List Rectangle) → Type 0 = λ regs. StandForRegisters regs ((after d task call).registers task) in
    let done = step d task stands in
    (is ∙ done.0, subst P (sym leaves) done.1)

pub steps_of : {E : Type 0} (old new left : List (List Rectangle)) (call : Call) (result : Result Reply E) (a : Reply) → IfOk result (λ r. r ≡ a) → OnOk result (new ≡ left) → IsRegistersStep old call a left → IfOk result (λ r. IsRegistersStep old call r new)
steps_of old new left call (Ok r) a is leaves step = step_of old new left call r a is leaves step
steps_of old new left call (Err e) a is leaves step = tt
