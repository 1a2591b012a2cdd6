-- Before the first call: each part with a seat of its role, what is left of the roles, and the passes.
use Rattle.std.proofs.Common.{◌≡◌, ℕ, ◌+◌, ◌<◌, zero, suc, Some, length, List, [], ◌∷◌, ◌++◌, map, refl, sym, ap, subst, ◌∙◌, arith, append_assoc}
use Rattle.std.specs.Prelude.{Contains, IsTrue}
use Rattle.std.specs.List.{range_with_len, slice_get}
use Rattle.std.proofs.lemmas.Bool.{ne_eqb}
use Rattle.std.proofs.lemmas.List.Elements.{All-nil, Contains-push}
use Rattle.std.proofs.lemmas.List.FromFn.{map-range_with_len_more}
use Rattle.atomic_table.specs.Seated.{TableId}
use Rattle.lw_calls.specs.declared.entry.Entry.{Entry}
use Rattle.lw_calls.specs.declared.touch.Role.{Role}
use Rattle.lw_calls.specs.declared.touch.Role.TheVariants.{Task, Slot, Info}
use Rattle.lw_calls.specs.Entries.{count_of}
use Rattle.lw_calls.specs.Limits.{call_fits}
use Rattle.lw_machine.specs.Desk.{Desk}
use Rattle.lw_machine.specs.History.{machine}
use Rattle.lw_machine.specs.Parts.{slot_part, info_part}
use Rattle.lw_order.specs.Roles.{all_roles, without}
use Rattle.lw_order.specs.Seen.{SeenSeat}
use Rattle.lw_order.proofs.RoleLaws.{still_there, all_roles_has_slot, all_roles_has_task}
use Rattle.lw_engine_trait.specs.Steps.{Relations, AreCells}
use Rattle.lw_locks.specs.Joins.{IsHistory}
use Rattle.lw_locks.specs.Held.{IsSeat, AreTasksRegs, IsHolding, IsLayer, IsLayerInfo}
use Rattle.lw_locks.specs.Seen.{SeenPass, opening_pass}

-- a seat that knows no step
seat_at_start : (name : TableId) (desk : Desk) (own : SeenSeat) → own.word ≡ name → own.history ≡ [] → IsSeat name desk own
seat_at_start name desk own word empty =
    record {
      word = word;
      known = subst (IsHistory desk.sizes) (sym empty) (record { numbered = tt; tasks = All-nil (λ (e : Entry). e.task < desk.sizes.tasks); fits = All-nil (λ (e : Entry). IsTrue (call_fits desk.sizes e.call)) });
    }

only : (r : Role) (roles : List Role) → roles ≡ r ∷ [] → Contains roles r
only r roles is = subst (λ rs. Contains rs r) (sym is) (Contains-push [] r)

-- A slot, LayerInfo and a task, each with a seat of its role that knows no step.
pub layer_at_start : {I C R : Type 0} (relations : Relations I C R) (name : TableId) (desk : Desk) (slot : ℕ) (own : SeenSeat) (kept : C) → own.word ≡ name → own.history ≡ [] → own.roles ≡ Slot slot ∷ []
    → (relations.number kept ≡ slot) × relations.cell_is kept (slot_part desk slot) → IsLayer relations name desk slot own kept
layer_at_start relations name desk slot own kept word empty roles is =
    record {
      seat = seat_at_start name desk own word empty;
      roles = roles;
      number = is.0;
      cell = record {
        has = subst (λ s. Contains own.roles (Slot s)) (sym is.0) (only (Slot slot) own.roles roles);
        stands = subst (λ h. relations.cell_is kept (slot_part (machine desk h) (relations.number kept))) (sym empty) (subst (λ s. relations.cell_is kept (slot_part desk s)) (sym is.0) is.1);
      };
    }

pub info_at_start : {I C R : Type 0} (relations : Relations I C R) (name : TableId) (desk : Desk) (own : SeenSeat) (kept : I) → own.word ≡ name → own.history ≡ [] → own.roles ≡ Info ∷ [] → relations.info_is desk.sizes kept (info_part desk) → IsLayerInfo relations name desk own kept
info_at_start relations name desk own kept word empty roles is =
    record {
      seat = seat_at_start name desk own word empty;
      roles = roles;
      info = record { has = only Info own.roles roles; stands = subst (λ h. relations.info_is desk.sizes kept (info_part (machine desk h))) (sym empty) is };
    }

pub holding_at_start : {I C R : Type 0} (relations : Relations I C R) (name : TableId) (desk : Desk) (task : ℕ) (own : SeenSeat) (mine : R) → own.word ≡ name → own.history ≡ [] → own.roles ≡ Task task ∷ [] → relations.regs_is mine (desk.registers task) → IsHolding relations name desk task 0 own mine
holding_at_start relations name desk task own mine word empty roles is =
    record {
      seat = seat_at_start name desk own word empty;
      regs = record { has = only (Task task) own.roles roles; stand = subst (λ h. relations.regs_is mine ((machine desk h).registers task)) (sym empty) is };
      counted = ap (count_of task) (sym empty);
    }

-- what stands in front of a last element, and that element
pub get_front : {X : Type 0} (front : List X) (last x : X) (k : ℕ) → slice_get front k ≡ Some x → slice_get (front ++ last ∷ []) k ≡ Some x
get_front [] last x k h = absurd (cc h)
get_front (y ∷ front) last x zero h = h
get_front (y ∷ front) last x (suc k) h = get_front front last x k h

pub get_last : {X : Type 0} (front : List X) (last : X) → slice_get (front ++ last ∷ []) (length front) ≡ Some last
get_last [] last = refl
get_last (y ∷ front) last = get_last front last

-- Cells and registers of which the last are taken off.
module _ {I C R : Type 0} (relations : Relations I C R) (desk : Desk) (whole front : List C) (last : C) (is : whole ≡ front ++ last ∷ []) (are : AreCells relations whole desk) where
  pub cells_front : AreCells relations front desk
  cells_front s c h = are s c (subst (λ cs. slice_get cs s ≡ Some c) (sym is) (get_front front last c s h))

  pub cell_last : (slot : ℕ) → slot ≡ length front → (relations.number last ≡ slot) × relations.cell_is last (slot_part desk slot)
  cell_last slot place = are slot last (subst (λ cs. slice_get cs slot ≡ Some last) (sym is) (subst (λ n. slice_get (front ++ last ∷ []) n ≡ Some last) (sym place) (get_last front last)))

module _ {I C R : Type 0} (relations : Relations I C R) (desk : Desk) (whole front : List R) (last : R) (is : whole ≡ front ++ last ∷ []) (are : AreTasksRegs relations whole desk) where
  pub regs_front : AreTasksRegs relations front desk
  regs_front t r h = are t r (subst (λ rs. slice_get rs t ≡ Some r) (sym is) (get_front front last r t h))

  pub regs_last : (task : ℕ) → task ≡ length front → relations.regs_is last (desk.registers task)
  regs_last task place = are task last (subst (λ rs. slice_get rs task ≡ Some last) (sym is) (subst (λ n. slice_get (front ++ last ∷ []) n ≡ Some last) (sym place) (get_last front last)))

-- The roles that are left after the last slot's or task's was split off.
pub slots_left : (slot few many : ℕ) (old new : List Role) → slot ≡ few → few + 1 ≡ many → new ≡ without (Slot slot) old → ((s : ℕ) → s < many → Contains old (Slot s)) → (s : ℕ) → s < few → Contains new (Slot s)
slots_left slot few many old new place more left had s below =
    subst (λ rs. Contains rs (Slot s)) (sym left) (still_there (Slot slot) (Slot s) old (ne_eqb slot s (λ same. omega (arith, same, place, below))) (had s (omega arith)))

pub tasks_left : (task few many : ℕ) (old new : List Role) → task ≡ few → few + 1 ≡ many → new ≡ without (Task task) old → ((t : ℕ) → t < many → Contains old (Task t)) → (t : ℕ) → t < few → Contains new (Task t)
tasks_left task few many old new place more left had t below =
    subst (λ rs. Contains rs (Task t)) (sym left) (still_there (Task task) (Task t) old (ne_eqb task t (λ same. omega (arith, same, place, below))) (had t (omega arith)))

pub tasks_stay : (slot : ℕ) (old mid new : List Role) → mid ≡ without (Slot slot) old → ((t : ℕ) → Contains mid (Task t) → Contains new (Task t)) → (t : ℕ) → Contains old (Task t) → Contains new (Task t)
tasks_stay slot old mid new left stay t had = stay t (subst (λ rs. Contains rs (Task t)) (sym left) (still_there (Slot slot) (Task t) old refl had))

-- The roles of the first seat, and what is left of them after LayerInfo's was split off.
module _ (slots tasks : ℕ) (first : List Role) (is : first ≡ all_roles slots tasks) where
  pub has_slots : (many : ℕ) (left : List Role) → many ≡ slots → left ≡ without Info first → (s : ℕ) → s < many → Contains left (Slot s)
  has_slots many left same off s below =
      subst (λ rs. Contains rs (Slot s)) (sym (off ∙ ap (without Info) is)) (still_there Info (Slot s) (all_roles slots tasks) refl (all_roles_has_slot slots tasks s (omega arith)))

  pub has_tasks : (many : ℕ) (left : List Role) → many ≡ tasks → left ≡ without Info first → (t : ℕ) → t < many → Contains left (Task t)
  has_tasks many left same off t below =
      subst (λ rs. Contains rs (Task t)) (sym (off ∙ ap (without Info) is)) (still_there Info (Task t) (all_roles slots tasks) refl (all_roles_has_task slots tasks t (omega arith)))

-- one pass more
pub passes_more : (had most all : List SeenPass) (task few many : ℕ) (history : List Entry) → task ≡ few → few + 1 ≡ many → history ≡ [] → most ≡ had ++ map opening_pass (range_with_len 0 few) → all ≡ most ++ record { task = task; history = history } ∷ [] → all ≡ had ++ map opening_pass (range_with_len 0 many)
passes_more had most all task few many history place more empty are pushed =
    let front = map opening_pass (range_with_len 0 few) in
    let same : all ≡ most ++ opening_pass few ∷ [] = subst (λ t. all ≡ most ++ opening_pass t ∷ []) place (subst (λ h. all ≡ most ++ record { task = task; history = h } ∷ []) empty pushed) in
    let last : all ≡ (had ++ front) ++ opening_pass few ∷ [] = subst (λ ps. all ≡ ps ++ opening_pass few ∷ []) are same in
    let zeroth : 0 + few ≡ few = omega arith in
    let row : map opening_pass (range_with_len 0 (few + 1)) ≡ front ++ opening_pass few ∷ [] = map-range_with_len_more opening_pass 0 few few zeroth in
    let whole : all ≡ had ++ map opening_pass (range_with_len 0 (few + 1)) = last ∙ (append_assoc had front (opening_pass few ∷ []) ∙ ap (λ ps. had ++ ps) (sym row)) in
    subst (λ k. all ≡ had ++ map opening_pass (range_with_len 0 k)) more whole
