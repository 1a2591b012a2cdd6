-- What setting a hook makes of the shelf and the slots, in every desk for whose parts they stand.
use Rattle.std.proofs.Common.{◌≡◌, ◌≢◌, ℕ, ◌<◌, ◌==◌, Bool, true, false, not, List, length, set, Option, Some, None, IsTrue, refl, sym, ap, subst, ◌∙◌, ⊎_elim}
use Rattle.std.specs.Prelude.{if◌then◌else◌}
use Rattle.std.proofs.lemmas.Bool.{and_parts, cases_eq, ltb-true, eq-eqb, eqb-true, false≢true}
use Rattle.std.proofs.lemmas.List.{get_or-set_same, get_or-set_other, length-set}
use Rattle.lw_calls.specs.declared.sizes.Sizes.{Sizes}
use Rattle.lw_calls.specs.declared.call.Call.{Call}
use Rattle.lw_calls.specs.declared.call.Call.TheVariants.{SetHook}
use Rattle.lw_calls.specs.declared.reply.Reply.{Reply}
use Rattle.lw_calls.specs.declared.reply.Reply.TheVariants.{Done, NotOpen}
use Rattle.lw_calls.specs.Limits.{call_fits}
use Rattle.lw_machine.specs.Hook.{Hook}
use Rattle.lw_machine.specs.Layer.{is_live}
use Rattle.lw_machine.specs.Desk.{Desk}
use Rattle.lw_machine.specs.Screen.{top}
use Rattle.lw_machine.specs.Parts.{SlotPart, slot_part}
use Rattle.lw_machine.specs.Sound.{IsDesk}
use Rattle.lw_machine.specs.Step.{refuse, refusal, changed_unless, reply_or, install_layer_hook, effect, after, reply}
use Rattle.lw_machine.proofs.ReachedSound.{step_sound}
use Rattle.lw_layer.specs.View.{State, CellView, hooked}
use Rattle.lw_layer.specs.View as view
use Rattle.lw_layer.specs.StandsFor.{StandsFor}
use Rattle.lw_layer.proofs.SoundLaws.{live_part}
use Rattle.lw_stack.specs.Stack.{Stack}
use Rattle.lw_engine.specs.Desks.{no_cell, cell_at, hook_at, AreNumbered, AreOfDesk, AreOnShelf}
use Rattle.lw_engine.specs.Slots.{shelf_without}
use Rattle.lw_engine.specs.Arranging.{IsHookSet, DropHooks}
use Rattle.lw_engine.proofs.HookLaws.{hooked_slot, hooked_part, rehooked_part}
use Rattle.lw_engine.proofs.ArrangingDesks.{idle_part, refused_step, taken_stands}

-- the slot of such a call is one that there is
pub set_low : (sizes : Sizes) (call : Call) (slot n : ℕ) → call ≡ SetHook slot n → IsTrue (call_fits sizes call) → slot < sizes.slots
set_low sizes call slot n is fits =
    let here : IsTrue (call_fits sizes (SetHook slot n)) = subst (λ q. IsTrue (call_fits sizes q)) is fits in
    ltb-true slot sizes.slots (and_parts _ _ (and_parts _ _ here).1).0

-- the cells with this hook in one of them
abbrev with_hook_in : Option Hook → ℕ → List CellView → List CellView
with_hook_in h slot cells = set cells slot (hooked h (cell_at cells slot))

-- what doesn't depend on a cell's hook is as before
unhooked_same : {A : Type 0} (f : CellView → A) (h : Option Hook) (cells : List CellView) (slot s : ℕ) → slot < length cells
    → f (hooked h (cell_at cells slot)) ≡ f (cell_at cells slot) → f (cell_at (with_hook_in h slot cells) s) ≡ f (cell_at cells s)
unhooked_same f h cells slot s inside same =
    let c = cell_at cells slot in
    ⊎_elim
    (λ (is : s ≡ slot).
    ap (λ k. f (cell_at (with_hook_in h slot cells) k)) is
    ∙ (ap f (get_or-set_same cells slot (hooked h c) no_cell inside) ∙ (same ∙ ap (λ k. f (cell_at cells k)) (sym is))))
    (λ (other : s ≢ slot). ap f (get_or-set_other cells slot s (hooked h c) no_cell other))
    (cases_eq s slot)

pub numbered_set : (q : State) (shelf left : List (Option Hook)) (cells new : List CellView) (slot n many : ℕ) (r : Reply) → slot < length cells
    → IsHookSet q shelf cells slot n r left new → AreNumbered many cells → AreNumbered many new
numbered_set view.Unopened shelf left cells new slot n many r inside is numbered = subst (AreNumbered many) (sym is.2) numbered
numbered_set view.Live shelf left cells new slot n many r inside is numbered =
    let h = hook_at shelf n in
    subst (AreNumbered many) (sym is.2)
    (record {
      many = length-set cells slot (hooked h (cell_at cells slot)) ∙ numbered.many;
      numbers = λ s low. unhooked_same (λ (c : CellView). c.number) h cells slot s inside refl ∙ numbered.numbers s low;
    })
numbered_set view.Closed shelf left cells new slot n many r inside is numbered = subst (AreNumbered many) (sym is.2) numbered

-- no layer is deleted
states_set : (q : State) (shelf left : List (Option Hook)) (cells new : List CellView) (slot n s : ℕ) (r : Reply) → slot < length cells
    → IsHookSet q shelf cells slot n r left new → (cell_at new s).state ≡ (cell_at cells s).state
states_set view.Unopened shelf left cells new slot n s r inside is = ap (λ l. (cell_at l s).state) is.2
states_set view.Live shelf left cells new slot n s r inside is =
    ap (λ l. (cell_at l s).state) is.2 ∙ unhooked_same (λ (c : CellView). c.state) (hook_at shelf n) cells slot s inside refl
states_set view.Closed shelf left cells new slot n s r inside is = ap (λ l. (cell_at l s).state) is.2

pub dropped_set : (q : State) (shelf left : List (Option Hook)) (cells new : List CellView) (slot n : ℕ) (r : Reply) → slot < length cells
    → IsHookSet q shelf cells slot n r left new → DropHooks cells new
dropped_set q shelf left cells new slot n r inside is =
    λ s below live closed. absurd (cc (states_set q shelf left cells new slot n s r inside is, live, closed))

-- What a call leaves of a desk for whose parts these stand.
abbrev Leaves : Desk → Stack → ℕ → Call → Reply → List (Option Hook) → List CellView → Type 0
Leaves d v task call r left new = (r ≡ reply d task call) × AreOfDesk v new (after d task call) × AreOnShelf left (after d task call)

-- a slot without a layer
set_nowhere : (d : Desk) (v : Stack) (shelf left : List (Option Hook)) (cells new : List CellView) (task slot n : ℕ) (r : Reply) → AreOfDesk v cells d
    → AreOnShelf shelf d → slot < v.sizes.slots → ((cell_at cells slot).state ≡ view.Live → ⊥) → r ≡ NotOpen → left ≡ shelf → new ≡ cells
    → Leaves d v task (SetHook slot n) r left new
set_nowhere d v shelf left cells new task slot n r are hooks low idle answer still same =
    let call = SetHook slot n in
    let dead : is_live (d.slot slot) ≡ false = (idle_part (cell_at cells slot) (slot_part d slot) idle (are.slots slot low)).0 in
    let refused : refusal d task call ≡ Some NotOpen = ap (λ live. refuse (not live) NotOpen None) dead in
    let P : Reply → Type 0 = λ q. Leaves d v task call q left new in
    let Q : List (Option Hook) → Type 0 = λ l. Leaves d v task call NotOpen l new in
    let R : List CellView → Type 0 = λ l. Leaves d v task call NotOpen shelf l in
    subst P (sym answer) (subst Q (sym still) (subst R (sym same) (refused_step d v shelf cells task call NotOpen are hooks refused)))

-- a live layer
set_there : (d : Desk) (v : Stack) (shelf left : List (Option Hook)) (cells new : List CellView) (task slot n : ℕ) (r : Reply) → AreOfDesk v cells d
    → AreOnShelf shelf d → IsTrue (call_fits v.sizes (SetHook slot n)) → slot < v.sizes.slots → slot < length cells → (cell_at cells slot).state ≡ view.Live
    → r ≡ Done → left ≡ shelf_without (Some n) shelf → new ≡ with_hook_in (hook_at shelf n) slot cells → Leaves d v task (SetHook slot n) r left new
unfolding after reply top
set_there d v shelf left cells new task slot n r are hooks fits low inside live answer taken made =
    let is : after d task call ≡ e = ap (λ o. changed_unless o d (effect d task call)) unrefused in
    let P : Desk → Type 0 = λ q. AreOfDesk v new q in
    let Q : Desk → Type 0 = λ q. AreOnShelf left q in (
      answer ∙ sym (ap (λ o. reply_or o Done) unrefused),
      subst P (sym is)
          (record {
            sound = subst IsDesk is (step_sound d task call are.sound (ap (λ z. call_fits z call) are.sizes ∙ fits));
            sizes = are.sizes;
            info = record { front_to_back = are.info.front_to_back; bounds = are.info.bounds; active = are.info.active };
            slots = λ s below. slot_then s below (s == slot) refl;
          }),
      subst Q (sym is) (λ k. taken_stands d shelf (Some n) hooks k ∙ ap (λ l. hook_at l k) (sym taken)),
    )
  where
    call : Call
    call = SetHook slot n

    c : CellView
    c = cell_at cells slot

    h : Option Hook
    h = hook_at shelf n

    e : Desk
    e = install_layer_hook d slot n

    unrefused : refusal d task call ≡ None
    unrefused = ap (λ s. refuse (not (is_live s)) NotOpen None) (live_part c (slot_part d slot) live (are.slots slot low)).slot

    slot_then : (s : ℕ) → s < v.sizes.slots → (t : Bool) → (s == slot) ≡ t → StandsFor (cell_at new s) (slot_part e s)
    slot_then s below true is =
        let same : s ≡ slot = eqb-true s slot is in
        let cell : cell_at new s ≡ hooked h c =
        ap (λ l. cell_at l s) made
        ∙ (ap (λ k. cell_at (with_hook_in h slot cells) k) same ∙ get_or-set_same cells slot (hooked h c) no_cell inside)
        in
        let part : hooked_part h (slot_part d slot) ≡ slot_part e s =
        ap (λ k. record (slot_part d k) { slot = hooked_slot h (d.slot slot) }) (sym same)
        ∙ (ap (λ k. record (slot_part d s) { slot = hooked_slot k (d.slot slot) }) (sym (hooks n))
        ∙ ap (λ t. record (slot_part d s) { slot = if t then hooked_slot (d.shelf n) (d.slot slot) else d.slot s }) (sym is))
        in
        let P : CellView → Type 0 = λ u. StandsFor u (slot_part e s) in
        let Q : SlotPart → Type 0 = λ p. StandsFor (hooked h c) p in
        subst P (sym cell) (subst Q part (rehooked_part h c.state c.live (slot_part d slot) (are.slots slot low)))
    slot_then s below false is =
        let cell : cell_at new s ≡ cell_at cells s =
        ap (λ l. cell_at l s) made
        ∙ get_or-set_other cells slot s (hooked h c) no_cell (λ same. false≢true (sym is ∙ eq-eqb s slot same))
        in
        let part : slot_part d s ≡ slot_part e s =
        ap (λ t. record (slot_part d s) { slot = if t then hooked_slot (d.shelf n) (d.slot slot) else d.slot s }) (sym is)
        in
        let P : CellView → Type 0 = λ u. StandsFor u (slot_part e s) in
        let Q : SlotPart → Type 0 = λ p. StandsFor (cell_at cells s) p in
        subst P (sym cell) (subst Q part (are.slots s below))

-- So it is with every slot.
pub set_step : (d : Desk) (v : Stack) (shelf left : List (Option Hook)) (cells new : List CellView) (task : ℕ) (call : Call) (slot n : ℕ) (r : Reply)
    → call ≡ SetHook slot n → AreOfDesk v cells d → AreOnShelf shelf d → IsTrue (call_fits v.sizes call) → slot < length cells
    → IsHookSet (cell_at cells slot).state shelf cells slot n r left new → Leaves d v task call r left new
set_step d v shelf left cells new task call slot n r same are hooks fits inside is =
    subst (λ q. Leaves d v task q r left new) (sym same) (by_state (cell_at cells slot).state refl is)
  where
    here : IsTrue (call_fits v.sizes (SetHook slot n))
    here = subst (λ q. IsTrue (call_fits v.sizes q)) same fits

    low : slot < v.sizes.slots
    low = set_low v.sizes call slot n same fits

    by_state : (q : State) → (cell_at cells slot).state ≡ q → IsHookSet q shelf cells slot n r left new → Leaves d v task (SetHook slot n) r left new
    by_state view.Unopened state is = set_nowhere d v shelf left cells new task slot n r are hooks low (λ live. cc (state, live)) is.0 is.1 is.2
    by_state view.Live state is = set_there d v shelf left cells new task slot n r are hooks here low inside state is.0 is.1 is.2
    by_state view.Closed state is = set_nowhere d v shelf left cells new task slot n r are hooks low (λ live. cc (state, live)) is.0 is.1 is.2
