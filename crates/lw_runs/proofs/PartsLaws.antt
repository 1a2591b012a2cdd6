-- What a call leaves of all parts of a desk, from what an engine says of those that the call touches.
use Rattle.std.proofs.Common.{◌≡◌, ◌≢◌, ℕ, ◌==◌, false, ◌||◌, List, length, set, Some, Result, Ok, Err, IfOk, OnErr, IsTrue, ◌∙◌, sym, refl, ap, subst, ⊎_elim}
use Rattle.std.specs.List.{slice_get}
use Rattle.std.proofs.lemmas.Bool.{cases_eq, ne_eqb, or_from}
use Rattle.std.proofs.lemmas.List.{length-set}
use Rattle.std.proofs.lemmas.Option.{slice_get_within}
use Rattle.lw_region.specs.Pixels.{Pixel}
use Rattle.lw_calls.specs.Assets.{Assets}
use Rattle.lw_calls.specs.declared.sizes.Sizes.{Sizes}
use Rattle.lw_calls.specs.declared.call.Call.{Call}
use Rattle.lw_calls.specs.declared.reply.Reply.{Reply}
use Rattle.lw_calls.specs.declared.touch.Role.TheVariants.{Task, Slot, Info}
use Rattle.lw_calls.specs.Limits.{call_fits}
use Rattle.lw_calls.specs.declared.touch.CallClass.{CallClass}
use Rattle.lw_calls.specs.declared.touch.CallClass.TheVariants.{OnRegisters, OnInfo, OnLayer, OnLayers, OnAll}
use Rattle.lw_calls.specs.Touches.{class_of, slots_in, slots_of, is_on_info, touches_info, has_slot}
use Rattle.lw_machine.specs.Desk.{Desk}
use Rattle.lw_machine.specs.Parts.{SlotPart, InfoPart, slot_part}
use Rattle.lw_machine.specs.Step.{after}
use Rattle.lw_machine.proofs.Untouched.{leaves_the_rest}
use Rattle.lw_machine.proofs.ReachedSound.{step_sound, after_sizes}
use Rattle.lw_machine.proofs.Locality.{after_assets}
use Rattle.lw_engine_trait.specs.Steps.{Relations, IsDeskOf, IsRegsStep, IsLookStep, IsOneStep, IsTwoStep, AreParts, IsAllStep, AreStill}
use Rattle.lw_engine_trait.proofs.ClassLaws.{after_look, after_registers}
use Rattle.lw_runs.specs.Standing.{StandForDesk, IsStep, StandStill, IsTwoDone}
use Rattle.lw_runs.proofs.ListLaws.{each_set, set_back}

-- a sound desk with these sizes and assets is one after a call, too
desk_after : (sizes : Sizes) (assets : Assets) (d : Desk) (task : ℕ) (call : Call) → IsTrue (call_fits sizes call) → IsDeskOf sizes assets d → IsDeskOf sizes assets (after d task call)
desk_after sizes assets d task call fits desk = record {
  sound = (let P : Sizes → Type 0 = λ s. IsTrue (call_fits s call) in step_sound d task call desk.sound (subst P (sym desk.sizes) fits));
  sizes = after_sizes d task call ∙ desk.sizes;
  assets = after_assets d task call ∙ desk.assets;
}

-- which slots a call of a class touches
touch_one : (call : Call) (slot s : ℕ) → class_of call ≡ OnLayer slot → has_slot (slots_of call) s ≡ (slot == s)
touch_one call slot s class = ap (λ (k : CallClass). has_slot (slots_in k) s) class

touch_two : (call : Call) (source slot s : ℕ) → class_of call ≡ OnLayers source slot → has_slot (slots_of call) s ≡ ((source == s) || (slot == s))
touch_two call source slot s class = ap (λ (k : CallClass). has_slot (slots_in k) s) class

module _ {I C R : Type 0} (relations : Relations I C R) (sizes : Sizes) (assets : Assets) where
  -- LayerInfo and the cells after a call that leaves LayerInfo, and these cells where it leaves the slot
  layers_after : (info : I) (cells new : List C) (d : Desk) (task : ℕ) (call : Call) → IsTrue (call_fits sizes call) → touches_info call ≡ false
      → AreParts relations sizes assets info cells d → length new ≡ length cells
      → ((s : ℕ) (c : C) → slice_get new s ≡ Some c → (relations.number c ≡ s) × relations.cell_is c (slot_part (after d task call) s))
      → AreParts relations sizes assets info new (after d task call)
  layers_after info cells new d task call fits apart parts long each = record {
    desk = desk_after sizes assets d task call fits parts.desk;
    many = long ∙ parts.many;
    info = (let P : InfoPart → Type 0 = relations.info_is sizes info in subst P (leaves_the_rest d task call Info apart) parts.info);
    cells = each;
  }

  -- a cell of a slot that the call doesn't touch
  cell_left : (cells : List C) (d : Desk) (task : ℕ) (call : Call) (s : ℕ) (c : C) → has_slot (slots_of call) s ≡ false → (relations.number c ≡ s) × relations.cell_is c (slot_part d s)
      → (relations.number c ≡ s) × relations.cell_is c (slot_part (after d task call) s)
  cell_left cells d task call s c left was = (let P : SlotPart → Type 0 = relations.cell_is c in (was.0, subst P (leaves_the_rest d task call (Slot s) left) was.1))

  -- the registers of all tasks after a call that isn't on registers
  registers_left : (regs : List R) (d : Desk) (task : ℕ) (call : Call) → (class_of call ≡ OnRegisters → ⊥) → ((t : ℕ) (r : R) → slice_get regs t ≡ Some r → relations.regs_is r (d.registers t))
      → (t : ℕ) (r : R) → slice_get regs t ≡ Some r → relations.regs_is r ((after d task call).registers t)
  registers_left regs d task call other all t r got =
      let P : (ℕ → ℕ → List Pixel) → Type 0 = λ f. relations.regs_is r (f t) in
      subst P (sym (after_registers d task call other)) (all t r got)

  -- a call on the registers of its task
  pub regs_step : {E : Type 0} (result : Result Reply E) (info : I) (cells : List C) (regs : List R) (task : ℕ) (call : Call) (old new : R)
      → IsTrue (call_fits sizes call) → class_of call ≡ OnRegisters → slice_get regs task ≡ Some old
      → IfOk result (λ r. IsRegsStep relations sizes assets old call r new)
      → IfOk result (λ r. IsStep relations sizes assets info cells regs task call r info cells (set regs task new))
  regs_step (Ok r) info cells regs task call old new fits class got step =
      λ d stands.
      let made = step d task stands.layers.desk (stands.registers task old got) in (
        made.0,
        record {
          layers = layers_after info cells cells d task call fits (ap is_on_info class) stands.layers refl
              (λ s c there. cell_left cells d task call s c (ap (λ (k : CallClass). has_slot (slots_in k) s) class) (stands.layers.cells s c there));
          tasks = length-set regs task new ∙ stands.tasks;
          registers = each_set (λ t q. relations.regs_is q ((after d task call).registers t)) regs task new (slice_get_within regs task old got) made.1
              (λ t q other there.
              let P : (ℕ → List Pixel) → Type 0 = relations.regs_is q in
              subst P (leaves_the_rest d task call (Task t) (ne_eqb task t (λ back. other (sym back)))) (stands.registers t q there));
        },
      )
  regs_step (Err x) info cells regs task call old new fits class got step = tt

  pub regs_still : {E : Type 0} (result : Result Reply E) (info : I) (cells : List C) (regs : List R) (task : ℕ) (old new : R)
      → slice_get regs task ≡ Some old → OnErr result (new ≡ old)
      → OnErr result (StandStill relations sizes assets info cells regs info cells (set regs task new))
  regs_still (Ok r) info cells regs task old new got same = tt
  regs_still (Err x) info cells regs task old new got same =
      λ d stands.
      let P : List R → Type 0 = λ q. StandForDesk relations sizes assets info cells q d in
      subst P (sym (set_back regs task old new got same)) stands

  -- a look at LayerInfo
  pub look_step : (info : I) (cells : List C) (regs : List R) (task : ℕ) (call : Call) (r : Reply) → class_of call ≡ OnInfo
      → IsLookStep relations sizes assets info call r → IsStep relations sizes assets info cells regs task call r info cells regs
  look_step info cells regs task call r class step =
      λ d stands.
      let P : Desk → Type 0 = StandForDesk relations sizes assets info cells regs in
      (step d task stands.layers.desk stands.layers.info, subst P (sym (after_look d task call class)) stands)

  -- a call on one layer
  pub one_step : {E : Type 0} (result : Result Reply E) (info : I) (cells : List C) (regs : List R) (task slot : ℕ) (call : Call) (old new : C) (held : R)
      → IsTrue (call_fits sizes call) → class_of call ≡ OnLayer slot → slice_get cells slot ≡ Some old → relations.number old ≡ slot → relations.number new ≡ relations.number old → slice_get regs task ≡ Some held
      → IfOk result (λ r. IsOneStep relations sizes assets old held task call r new)
      → IfOk result (λ r. IsStep relations sizes assets info cells regs task call r info (set cells slot new) regs)
  one_step (Ok r) info cells regs task slot call old new held fits class got here same read step =
      λ d stands.
      let P : ℕ → Type 0 = λ n. relations.cell_is old (slot_part d n) in
      let Q : ℕ → Type 0 = λ n. relations.cell_is new (slot_part (after d task call) n) in
      let made = step d stands.layers.desk (subst P (sym here) (stands.layers.cells slot old got).1) (stands.registers task held read) in (
        made.0,
        record {
          layers = layers_after info cells (set cells slot new) d task call fits (ap is_on_info class) stands.layers (length-set cells slot new)
              (each_set (λ s c. (relations.number c ≡ s) × relations.cell_is c (slot_part (after d task call) s)) cells slot new (slice_get_within cells slot old got)
              (same ∙ here, subst Q here made.1)
              (λ s c other there. cell_left cells d task call s c (touch_one call slot s class ∙ ne_eqb slot s (λ back. other (sym back))) (stands.layers.cells s c there)));
          tasks = stands.tasks;
          registers = registers_left regs d task call (λ is. absurd (cc (class, is))) stands.registers;
        },
      )
  one_step (Err x) info cells regs task slot call old new held fits class got here same read step = tt

  pub one_still : {E : Type 0} (result : Result Reply E) (info : I) (cells : List C) (regs : List R) (slot : ℕ) (old new : C)
      → slice_get cells slot ≡ Some old → OnErr result (new ≡ old)
      → OnErr result (StandStill relations sizes assets info cells regs info (set cells slot new) regs)
  one_still (Ok r) info cells regs slot old new got same = tt
  one_still (Err x) info cells regs slot old new got same =
      λ d stands.
      let P : List C → Type 0 = λ q. StandForDesk relations sizes assets info q regs d in
      subst P (sym (set_back cells slot old new got same)) stands

  -- a call on two layers
  pub two_step : (r : Reply) (info : I) (cells : List C) (regs : List R) (task from slot : ℕ) (call : Call) (source old new : C)
      → IsTrue (call_fits sizes call) → class_of call ≡ OnLayers from slot → slice_get cells from ≡ Some source → relations.number source ≡ from
      → slice_get cells slot ≡ Some old → relations.number old ≡ slot → relations.number new ≡ relations.number old
      → IsTwoStep relations sizes assets source old call r new
      → IsStep relations sizes assets info cells regs task call r info (set cells slot new) regs
  two_step r info cells regs task from slot call source old new fits class first begins got here same step =
      λ d stands.
      let F : ℕ → Type 0 = λ n. relations.cell_is source (slot_part d n) in
      let P : ℕ → Type 0 = λ n. relations.cell_is old (slot_part d n) in
      let G : ℕ → Type 0 = λ n. relations.cell_is source (slot_part (after d task call) n) in
      let Q : ℕ → Type 0 = λ n. relations.cell_is new (slot_part (after d task call) n) in
      let made = step d task stands.layers.desk (subst F (sym begins) (stands.layers.cells from source first).1) (subst P (sym here) (stands.layers.cells slot old got).1) in (
        made.0,
        record {
          layers = layers_after info cells (set cells slot new) d task call fits (ap is_on_info class) stands.layers (length-set cells slot new)
              (each_set (λ s c. (relations.number c ≡ s) × relations.cell_is c (slot_part (after d task call) s)) cells slot new (slice_get_within cells slot old got)
              (same ∙ here, subst Q here made.2)
              (λ s c other there. two_left d task call from slot s c source class other there first (stands.layers.cells s c there) (subst G begins made.1)));
          tasks = stands.tasks;
          registers = registers_left regs d task call (λ is. absurd (cc (class, is))) stands.registers;
        },
      )
    where
      two_left : (d : Desk) (task : ℕ) (call : Call) (from slot s : ℕ) (c source : C) → class_of call ≡ OnLayers from slot → s ≢ slot → slice_get cells s ≡ Some c → slice_get cells from ≡ Some source
          → (relations.number c ≡ s) × relations.cell_is c (slot_part d s) → relations.cell_is source (slot_part (after d task call) from) → (relations.number c ≡ s) × relations.cell_is c (slot_part (after d task call) s)
      two_left d task call from slot s c source class other there first was made =
          ⊎_elim
          (λ (same : s ≡ from).
          let is : source ≡ c = cc (first, there, same) in
          let P : ℕ → Type 0 = λ n. relations.cell_is c (slot_part (after d task call) n) in
          let Q : C → Type 0 = λ k. relations.cell_is k (slot_part (after d task call) from) in
          (was.0, subst P (sym same) (subst Q is made)))
          (λ (apart : s ≢ from).
          cell_left cells d task call s c
          (touch_two call from slot s class ∙ or_from (from == s) (slot == s) (ne_eqb from s (λ back. apart (sym back))) (ne_eqb slot s (λ back. other (sym back)))) was)
          (cases_eq s from)

  -- a call on all layers
  pub all_step : {E : Type 0} (result : Result Reply E) (info new_info : I) (cells new : List C) (regs : List R) (task : ℕ) (call : Call) → class_of call ≡ OnAll
      → IfOk result (λ r. IsAllStep relations sizes assets info cells task call r new_info new)
      → IfOk result (λ r. IsStep relations sizes assets info cells regs task call r new_info new regs)
  all_step (Ok r) info new_info cells new regs task call class step =
      λ d stands.
      let made = step d stands.layers in
      (made.0, record { layers = made.1; tasks = stands.tasks; registers = registers_left regs d task call (λ is. absurd (cc (class, is))) stands.registers })
  all_step (Err x) info new_info cells new regs task call class step = tt

  pub all_still : {E : Type 0} (result : Result Reply E) (info new_info : I) (cells new : List C) (regs : List R)
      → OnErr result (AreStill relations sizes assets info cells new_info new)
      → OnErr result (StandStill relations sizes assets info cells regs new_info new regs)
  all_still (Ok r) info new_info cells new regs kept = tt
  all_still (Err x) info new_info cells new regs kept = λ d stands. record { layers = kept d stands.layers; tasks = stands.tasks; registers = stands.registers }

-- what a call on two cells leaves, where these cells were lent
pub two_done : {I C R : Type 0} (relations : Relations I C R) (sizes : Sizes) (assets : Assets) (source old x y new : C) (call : Call) (r : Reply)
    → source ≡ x → old ≡ y → relations.number new ≡ relations.number old → IsTwoStep relations sizes assets source old call r new
    → IsTwoDone relations sizes assets x y call r new
two_done {C = C} relations sizes assets source old x y new call r first second same step =
    let P : C → Type 0 = λ k. IsTwoDone relations sizes assets k y call r new in
    let Q : C → Type 0 = λ k. IsTwoDone relations sizes assets source k call r new in
    subst P first (subst Q second (record { number = same; step = step }))
