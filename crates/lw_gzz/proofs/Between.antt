-- Calls that come between those of a group that holds all layers, and calls of such a group on a desk with other registers.
use Rattle.std.proofs.Common.{◌≡◌, ℕ, ◌==◌, Bool, true, false, List, [], ◌∷◌, Option, Some, None, refl, ap, ◌∙◌, true≢false}
use Rattle.std.specs.Prelude.{◌||◌, if◌then◌else◌}
use Rattle.std.specs.List.{list_all}
use Rattle.std.proofs.lemmas.Bool.{and_parts, both_ways, false≢true}
use Rattle.lw_region.specs.Pixels.{Pixel}
use Rattle.lw_calls.specs.declared.call.Call.{Call}
use Rattle.lw_calls.specs.declared.call.Call.TheVariants.{RegRect, RegPair, RegClear, Create, OpenWindow, Close, ToFront, ToBack}
use Rattle.lw_calls.specs.declared.call.Call.TheVariants.{InFrontOf, MoveBy, SizeBy, SetBox, Activate, Blit}
use Rattle.lw_calls.specs.declared.reply.Reply.{Reply}
use Rattle.lw_calls.specs.declared.touch.CallClass.TheVariants.{OnLayer, OnLayers}
use Rattle.lw_calls.specs.Touches.{class_of, is_on_info, slots_in, slots_of, is_arrangement}
use Rattle.lw_calls.specs.Orders.{has_some}
use Rattle.lw_machine.specs.Desk.{Desk}
use Rattle.lw_machine.specs.Arrangement.{without, put_before}
use Rattle.lw_machine.specs.Screen.{top}
use Rattle.lw_machine.specs.Reveal.{settled}
use Rattle.lw_machine.specs.Step.{refusal, effect, changed_unless, after}
use Rattle.lw_gzz.specs.Together.{CallsBetweenLeaveTheLayers, after_all}
use Rattle.lw_gzz.proofs.Order.{unless}

-- two desks differ in registers alone
abbrev pub DiffersInRegisters : Desk → Desk → Type 0
DiffersInRegisters d e = (registers : ℕ → ℕ → List Pixel) × (e ≡ record d { registers = registers })

-- a blit touches a layer
blit_meets : (b : Bool) (source slot : ℕ)
    → (is_on_info (if b then OnLayer slot else OnLayers source slot)
    || has_some (slots_in (if b then OnLayer slot else OnLayers source slot))) ≡ true
blit_meets true source slot = refl
blit_meets false source slot = refl

pub between : CallsBetweenLeaveTheLayers
unfolding after
between d task call apart =
    unless (DiffersInRegisters d) (refusal d task call) d (effect d task call) (d.registers, refl) (leaves call apart)
  where
    leaves : (c : Call) → (is_on_info (class_of c) || has_some (slots_of c)) ≡ false → DiffersInRegisters d (effect d task c)
    leaves (RegRect op register rect) h = (_, refl)
    leaves (RegPair op source into) h = (_, refl)
    leaves (RegClear register) h = (_, refl)
    leaves (Blit source slot area) h = absurd (both_ways _ h (blit_meets (source == slot) source slot))
    leaves c h = absurd (true≢false h)

-- what a call leaves of a desk with other registers
swapped : (o : Option Reply) (d e : Desk) (registers : ℕ → ℕ → List Pixel)
    → changed_unless o (record d { registers = registers }) (record e { registers = registers })
    ≡ record (changed_unless o d e) { registers = registers }
swapped None d e registers = refl
swapped (Some r) d e registers = refl

in_front_swapped : (b : Bool) (d : Desk) (order : List ℕ) (registers : ℕ → ℕ → List Pixel)
    → settled (record d { registers = registers })
    (if b then record d { registers = registers } else record d { front_to_back = order; registers = registers })
    ≡ record (settled d (if b then d else record d { front_to_back = order })) { registers = registers }
unfolding top
in_front_swapped true d order registers = refl
in_front_swapped false d order registers = refl

call_by : (d : Desk) (task : ℕ) (registers : ℕ → ℕ → List Pixel) (c : Call)
    → refusal (record d { registers = registers }) task c ≡ refusal d task c
    → effect (record d { registers = registers }) task c ≡ record (effect d task c) { registers = registers }
    → after (record d { registers = registers }) task c ≡ record (after d task c) { registers = registers }
unfolding after
call_by d task registers c refused done =
    (λ i. changed_unless (refused i) (record d { registers = registers }) (done i)) ∙
    swapped (refusal d task c) d (effect d task c) registers

call_swapped : (d : Desk) (task : ℕ) (registers : ℕ → ℕ → List Pixel) (c : Call) → is_arrangement c ≡ true
    → after (record d { registers = registers }) task c ≡ record (after d task c) { registers = registers }
unfolding top
call_swapped d task registers (Create slot make) is = call_by d task registers (Create slot make) refl refl
call_swapped d task registers (OpenWindow slot make framed nocare asks title) is =
    call_by d task registers (OpenWindow slot make framed nocare asks title) refl refl
call_swapped d task registers (Close slot) is = call_by d task registers (Close slot) refl refl
call_swapped d task registers (ToFront slot) is = call_by d task registers (ToFront slot) refl refl
call_swapped d task registers (ToBack slot) is = call_by d task registers (ToBack slot) refl refl
call_swapped d task registers (InFrontOf slot other) is =
    call_by d task registers (InFrontOf slot other) refl
    (in_front_swapped (slot == other) d (put_before (λ t. t == other) slot (without slot d.front_to_back)) registers)
call_swapped d task registers (MoveBy slot dx dy) is = call_by d task registers (MoveBy slot dx dy) refl refl
call_swapped d task registers (SizeBy slot dw dh) is = call_by d task registers (SizeBy slot dw dh) refl refl
call_swapped d task registers (SetBox slot x y w h) is = call_by d task registers (SetBox slot x y w h) refl refl
call_swapped d task registers (Activate slot) is = call_by d task registers (Activate slot) refl refl
call_swapped d task registers c is = absurd (false≢true is)

-- The calls of an arrangement each do on a desk with other registers what they do on the desk.
pub calls_swapped : (d : Desk) (task : ℕ) (registers : ℕ → ℕ → List Pixel) (cs : List Call) → list_all is_arrangement cs ≡ true
    → after_all (record d { registers = registers }) task cs ≡ record (after_all d task cs) { registers = registers }
calls_swapped d task registers [] all = refl
calls_swapped d task registers (c ∷ cs) all =
    let parts = and_parts (is_arrangement c) (list_all is_arrangement cs) all in
    ap (λ e. after_all e task cs) (call_swapped d task registers c parts.0) ∙
    calls_swapped (after d task c) task registers cs parts.1
