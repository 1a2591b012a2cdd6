-- What the class of a call says of it, and of a step.
use Rattle.std.proofs.Common.{◌≡◌, ℕ, ◌<◌, ◌==◌, Bool, true, false, nat_lt, if◌then◌else◌, Option, Some, None, IsTrue, ◌∙◌, sym, refl, ap, subst, arith}
use Rattle.std.proofs.lemmas.Bool.{eqb-true, false≢true, and_parts}
use Rattle.std.proofs.lemmas.Bool.Decides.{nat_tests}
use Rattle.lw_calls.specs.declared.sizes.Sizes.{Sizes}
use Rattle.lw_calls.specs.declared.area.Area.{Area}
use Rattle.lw_calls.specs.declared.call.Call.{Call}
use Rattle.lw_calls.specs.declared.call.Call.TheVariants.{RegRect, RegPair, RegClear, InFrontOf, Which, SetA, SetB, SetMode, SetMask, At, WritePixel, ReadPixel, Fill, DrawTo, Letters, SetRast, ScrollRaster, Put, Blit, Clip, Unclip, BeginRefresh, EndRefresh, Scroll, SetTitle, TakeMessage}
use Rattle.lw_calls.specs.declared.reply.Reply.{Reply}
use Rattle.lw_calls.specs.Limits.{call_fits}
use Rattle.lw_calls.specs.declared.touch.CallClass.{CallClass}
use Rattle.lw_calls.specs.declared.touch.CallClass.TheVariants.{OnRegisters, OnInfo, OnLayer, OnLayers, OnAll}
use Rattle.lw_calls.specs.Touches.{class_of, is_on_info}
use Rattle.lw_calls.proofs.LimitLaws.{first_low}
use Rattle.lw_machine.specs.Desk.{Desk}
use Rattle.lw_machine.specs.Step.{refusal, effect, changed_unless, after}
use Rattle.lw_machine.proofs.Untouched.{if_in_front}

-- a blit is no look
blit_no_look : (same : Bool) (source slot : ℕ) → is_on_info (if same then OnLayer slot else OnLayers source slot) ≡ false
blit_no_look true source slot = refl
blit_no_look false source slot = refl

look_apart : (source slot : ℕ) (a : Area) → class_of (Blit source slot a) ≡ OnInfo → ⊥
look_apart source slot a is = false≢true (sym (blit_no_look (source == slot) source slot) ∙ ap is_on_info is)

-- the two layers of a blit that is on two
pub record ArePair (m n source slot : ℕ) : Type 0 where
  pub from : m ≡ source
  pub to : n ≡ slot
  pub apart : (m == n) ≡ false

pair_by : (t : Bool) (m n source slot : ℕ) → (m == n) ≡ t → (if t then OnLayer n else OnLayers m n) ≡ OnLayers source slot → ArePair m n source slot
pair_by true m n source slot same is = absurd (cc is)
pair_by false m n source slot apart is = record { from = cc is; to = cc is; apart = apart }

pub pair_told : (m n source slot : ℕ) (a : Area) → class_of (Blit m n a) ≡ OnLayers source slot → ArePair m n source slot
pair_told m n source slot a is = pair_by (m == n) m n source slot refl is

-- no call on two layers is on one twice
pub pair_apart : (call : Call) (source slot : ℕ) → class_of call ≡ OnLayers source slot → (source == slot) ≡ false
pair_apart (Blit m n a) source slot is =
    let told : ArePair m n source slot = pair_told m n source slot a is in
    sym (ap (λ k. k == n) told.from ∙ ap (λ k. source == k) told.to) ∙ told.apart
pair_apart call source slot is = absurd (cc is)

-- the one layer of a blit that is on one
alone_by : (t : Bool) (m n slot : ℕ) → (m == n) ≡ t → (if t then OnLayer n else OnLayers m n) ≡ OnLayer slot → (m ≡ slot) × (n ≡ slot)
alone_by true m n slot same is = let there : n ≡ slot = cc is in (eqb-true m n same ∙ there, there)
alone_by false m n slot apart is = absurd (cc is)

alone_told : (m n slot : ℕ) (a : Area) → class_of (Blit m n a) ≡ OnLayer slot → (m ≡ slot) × (n ≡ slot)
alone_told m n slot a is = alone_by (m == n) m n slot refl is

-- a call that isn't on registers leaves them all
effect_registers : (d : Desk) (task : ℕ) (call : Call) → (class_of call ≡ OnRegisters → ⊥) → (effect d task call).registers ≡ d.registers
effect_registers d task (RegRect op register rect) other = absurd (other refl)
effect_registers d task (RegPair op source into) other = absurd (other refl)
effect_registers d task (RegClear register) other = absurd (other refl)
effect_registers d task (InFrontOf slot front) other = if_in_front (λ a. a.registers ≡ d.registers) d _ (slot == front) refl refl
effect_registers d task call other = refl

unless_registers : (refused : Option Reply) (d e : Desk) → e.registers ≡ d.registers → (changed_unless refused d e).registers ≡ d.registers
unless_registers None d e same = same
unless_registers (Some r) d e same = refl

pub after_registers : (d : Desk) (task : ℕ) (call : Call) → (class_of call ≡ OnRegisters → ⊥) → (after d task call).registers ≡ d.registers
unfolding after
after_registers d task call other = unless_registers (refusal d task call) d (effect d task call) (effect_registers d task call other)

-- a look leaves all
pub after_look : (d : Desk) (task : ℕ) (call : Call) → class_of call ≡ OnInfo → after d task call ≡ d
unfolding after
after_look d task (Which x y) is = refl
after_look d task (Blit source slot area) is = absurd (look_apart source slot area is)
after_look d task call is = absurd (cc is)

-- the slot of a call on a layer is one that there is
abbrev named : CallClass → ℕ
named OnRegisters = 0
named OnInfo = 0
named (OnLayer slot) = slot
named (OnLayers source slot) = slot
named OnAll = 0

named_fits : (s : Sizes) (call : Call) (slot n : ℕ) → class_of call ≡ OnLayer slot → class_of call ≡ OnLayer n → n < s.slots → slot < s.slots
named_fits s call slot n class is low = let P : ℕ → Type 0 = λ k. k < s.slots in subst P (ap named (sym is ∙ class)) low

pub slot_fits : (s : Sizes) (call : Call) (slot : ℕ) → class_of call ≡ OnLayer slot → IsTrue (call_fits s call) → slot < s.slots
slot_fits s (SetA n pen) slot class fits = named_fits s (SetA n pen) slot n class refl (first_low n s.slots _ fits)
slot_fits s (SetB n pen) slot class fits = named_fits s (SetB n pen) slot n class refl (first_low n s.slots _ fits)
slot_fits s (SetMode n mode) slot class fits = named_fits s (SetMode n mode) slot n class refl (first_low n s.slots _ fits)
slot_fits s (SetMask n mask) slot class fits = named_fits s (SetMask n mask) slot n class refl (first_low n s.slots _ fits)
slot_fits s (At n x y) slot class fits = named_fits s (At n x y) slot n class refl (first_low n s.slots _ fits)
slot_fits s (WritePixel n x y) slot class fits = named_fits s (WritePixel n x y) slot n class refl (first_low n s.slots _ fits)
slot_fits s (ReadPixel n x y) slot class fits = named_fits s (ReadPixel n x y) slot n class refl (first_low n s.slots _ fits)
slot_fits s (Fill n rect) slot class fits = named_fits s (Fill n rect) slot n class refl (first_low n s.slots _ fits)
slot_fits s (DrawTo n x y) slot class fits = named_fits s (DrawTo n x y) slot n class refl (first_low n s.slots _ fits)
slot_fits s (Letters n text) slot class fits = named_fits s (Letters n text) slot n class refl (grind (arith, nat_tests))
slot_fits s (SetRast n pen) slot class fits = named_fits s (SetRast n pen) slot n class refl (first_low n s.slots _ fits)
slot_fits s (ScrollRaster n dx dy rect) slot class fits = named_fits s (ScrollRaster n dx dy rect) slot n class refl (first_low n s.slots _ fits)
slot_fits s (Put bitmap n area) slot class fits = named_fits s (Put bitmap n area) slot n class refl (first_low n s.slots _ (and_parts (nat_lt bitmap s.bitmaps) _ fits).1)
slot_fits s (Blit source n area) slot class fits =
    let P : ℕ → Type 0 = λ k. k < s.slots in
    subst P (alone_told source n slot area class).1 (first_low n s.slots _ (and_parts (nat_lt source s.slots) _ fits).1)
slot_fits s (Clip n reg) slot class fits = named_fits s (Clip n reg) slot n class refl (first_low n s.slots _ fits)
slot_fits s (Unclip n) slot class fits = named_fits s (Unclip n) slot n class refl (grind (arith, nat_tests))
slot_fits s (BeginRefresh n) slot class fits = named_fits s (BeginRefresh n) slot n class refl (grind (arith, nat_tests))
slot_fits s (EndRefresh n full) slot class fits = named_fits s (EndRefresh n full) slot n class refl (grind (arith, nat_tests))
slot_fits s (Scroll n dx dy) slot class fits = named_fits s (Scroll n dx dy) slot n class refl (first_low n s.slots _ fits)
slot_fits s (SetTitle n title) slot class fits = named_fits s (SetTitle n title) slot n class refl (grind (arith, nat_tests))
slot_fits s (TakeMessage n) slot class fits = named_fits s (TakeMessage n) slot n class refl (grind (arith, nat_tests))
slot_fits s call slot class fits = absurd (cc class)

-- and so are the slots of a call on two layers
pub pair_fits : (s : Sizes) (call : Call) (source slot : ℕ) → class_of call ≡ OnLayers source slot → IsTrue (call_fits s call) → (source < s.slots) × (slot < s.slots)
pair_fits s (Blit m n area) source slot class fits =
    let told = pair_told m n source slot area class in
    let parts = and_parts (nat_lt m s.slots) _ fits in
    let P : ℕ → Type 0 = λ k. k < s.slots in
    (subst P told.from (first_low m s.slots _ fits), subst P told.to (first_low n s.slots _ parts.1))
pair_fits s call source slot class fits = absurd (cc class)
