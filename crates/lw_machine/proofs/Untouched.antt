-- A step leaves each part of the desk that its call doesn't touch.
use Rattle.std.proofs.Common.{◌≡◌, ℕ, ◌==◌, Bool, true, false, if◌then◌else◌, List, Option, Some, None, refl, arith, true≢false}
use Rattle.std.proofs.lemmas.Bool.Decides.{nat_tests}
use Rattle.lw_calls.specs.declared.call.Call.{Call}
use Rattle.lw_calls.specs.declared.call.Call.TheVariants.{RegRect, RegPair, RegClear, Create, OpenWindow, Close, ToFront, ToBack}
use Rattle.lw_calls.specs.declared.call.Call.TheVariants.{InFrontOf, MoveBy, SizeBy, SetBox, Activate, SetHook, Which, ReadPixel}
use Rattle.lw_calls.specs.declared.call.Call.TheVariants.{Blit}
use Rattle.lw_calls.specs.declared.reply.Reply.{Reply}
use Rattle.lw_calls.specs.declared.touch.Role.{Role}
use Rattle.lw_calls.specs.declared.touch.Role.TheVariants.{Task, Slot as SlotRole, Info}
use Rattle.lw_machine.specs.Layer.{Slot}
use Rattle.lw_machine.specs.Desk.{Desk, with_value}
use Rattle.lw_machine.specs.Screen.{top}
use Rattle.lw_machine.specs.Reveal.{settled}
use Rattle.lw_machine.specs.Step.{refusal, effect, changed_unless, after}
use Rattle.lw_calls.specs.Touches.{has_slot, slots_of, touches_info, touch_of, touches_role}
use Rattle.lw_calls.proofs.BlitClass.{not_blitted}
use Rattle.lw_machine.specs.Parts.{slot_part, info_part, HaveSame}

-- two numbers differ in either order
pub differ_back : (a b : ℕ) → (a == b) ≡ false → (b == a) ≡ false
differ_back a b h = grind (arith, nat_tests)

-- a changed value leaves the others
elsewhere : {A : Type 0} (n k : ℕ) (v : A) (f : ℕ → A) → (n == k) ≡ false → f k ≡ with_value n v f k
elsewhere n k v f h = rw (differ_back n k h) refl

-- what holds of a settled desk where a slot may be put in front of itself, or not
pub if_in_front : (P : Desk → Type 0) (d : Desk) (order : List ℕ) (same : Bool) → P (settled d d)
    → P (settled d (record d { front_to_back = order })) → P (settled d (if same then d else record d { front_to_back = order }))
if_in_front P d order true h k = h
if_in_front P d order false h k = k

-- a call leaves the registers of other tasks
registers_left : (d : Desk) (task : ℕ) (call : Call) (t : ℕ) → (task == t) ≡ false
    → d.registers t ≡ (effect d task call).registers t
registers_left d task (RegRect op register rect) t h = elsewhere task t _ d.registers h
registers_left d task (RegPair op source into) t h = elsewhere task t _ d.registers h
registers_left d task (RegClear register) t h = elsewhere task t _ d.registers h
registers_left d task (InFrontOf slot other) t h =
    if_in_front (λ a. d.registers t ≡ a.registers t) d _ (slot == other) refl refl
registers_left d task call t h = refl

-- a change of one slot leaves the others
beside : (d : Desk) (slot s : ℕ) (v : Slot) → (slot == s) ≡ false
    → slot_part d s ≡ slot_part (record d { slot = with_value slot v d.slot }) s
unfolding top
beside d slot s v h = rw (differ_back slot s h) refl

-- a call leaves the slots that it doesn't touch
slot_left : (d : Desk) (task : ℕ) (call : Call) (s : ℕ) → has_slot (slots_of call) s ≡ false
    → slot_part d s ≡ slot_part (effect d task call) s
unfolding top
slot_left d task (RegRect op register rect) s h = refl
slot_left d task (RegPair op source into) s h = refl
slot_left d task (RegClear register) s h = refl
slot_left d task (Create slot make) s h = absurd (true≢false h)
slot_left d task (OpenWindow slot make framed nocare asks title) s h = absurd (true≢false h)
slot_left d task (Close slot) s h = absurd (true≢false h)
slot_left d task (ToFront slot) s h = absurd (true≢false h)
slot_left d task (ToBack slot) s h = absurd (true≢false h)
slot_left d task (InFrontOf slot other) s h = absurd (true≢false h)
slot_left d task (MoveBy slot dx dy) s h = absurd (true≢false h)
slot_left d task (SizeBy slot dw dh) s h = absurd (true≢false h)
slot_left d task (SetBox slot x y w z) s h = absurd (true≢false h)
slot_left d task (Activate slot) s h = absurd (true≢false h)
slot_left d task (SetHook slot hook) s h = absurd (true≢false h)
slot_left d task (Which x y) s h = refl
slot_left d task (ReadPixel slot x y) s h = refl
slot_left d task (Blit source slot area) s h = beside d slot s _ (not_blitted source slot s (source == slot) h)
slot_left d task call s h = beside d _ s _ h

-- a call leaves what LayerInfo keeps, unless it touches that
info_left : (d : Desk) (task : ℕ) (call : Call) → touches_info call ≡ false → info_part d ≡ info_part (effect d task call)
info_left d task (Create slot make) h = absurd (true≢false h)
info_left d task (OpenWindow slot make framed nocare asks title) h = absurd (true≢false h)
info_left d task (Close slot) h = absurd (true≢false h)
info_left d task (ToFront slot) h = absurd (true≢false h)
info_left d task (ToBack slot) h = absurd (true≢false h)
info_left d task (InFrontOf slot other) h = absurd (true≢false h)
info_left d task (MoveBy slot dx dy) h = absurd (true≢false h)
info_left d task (SizeBy slot dw dh) h = absurd (true≢false h)
info_left d task (SetBox slot x y w z) h = absurd (true≢false h)
info_left d task (Activate slot) h = absurd (true≢false h)
info_left d task (SetHook slot hook) h = absurd (true≢false h)
info_left d task call h = refl

-- a call leaves each part that it doesn't touch
effect_leaves : (d : Desk) (task : ℕ) (call : Call) (r : Role) → touches_role (touch_of task call) r ≡ false
    → HaveSame r d (effect d task call)
effect_leaves d task call (Task t) h = registers_left d task call t h
effect_leaves d task call (SlotRole s) h = slot_left d task call s h
effect_leaves d task call Info h = info_left d task call h

-- each part of a desk is the same as itself
same_part : (r : Role) (d : Desk) → HaveSame r d d
same_part (Task t) d = refl
same_part (SlotRole s) d = refl
same_part Info d = refl

-- a refused call leaves each part
unless_same : (refused : Option Reply) (r : Role) (d e : Desk) → HaveSame r d e → HaveSame r d (changed_unless refused d e)
unless_same None r d e h = h
unless_same (Some reply) r d e h = same_part r d

-- A step leaves each part of the desk that its call doesn't touch.
pub leaves_the_rest : (d : Desk) (task : ℕ) (call : Call) (r : Role) → touches_role (touch_of task call) r ≡ false
    → HaveSame r d (after d task call)
unfolding after
leaves_the_rest d task call r h =
    unless_same (refusal d task call) r d (effect d task call) (effect_leaves d task call r h)
