-- What a step on parts and its stamp leave: the parts stand for the machine after the longer history, and the call was answered as the
-- machine answers at its ticket.
use Rattle.std.proofs.Common.{◌≡◌, ◌≢◌, ◌⊎◌, ℕ, ◌+◌, ◌<◌, ◌≤◌, length, List, [], ◌∷◌, ◌++◌, refl, sym, ap, subst, ◌∙◌, get_or, inl, inr, arith}
use Rattle.std.specs.Prelude.{Contains, Some, None, Ok}
use Rattle.std.specs.List.{slice_get}
use Rattle.std.proofs.lemmas.Option.{slice_get_cases, slice_get_within}
use Rattle.lw_calls.specs.declared.call.Call.{Call}
use Rattle.atomic_table.specs.Seated.{TableId}
use Rattle.lw_calls.specs.declared.entry.Entry.{Entry}
use Rattle.lw_calls.specs.declared.reply.Reply.{Reply}
use Rattle.lw_calls.specs.declared.touch.Role.{Role}
use Rattle.lw_calls.specs.declared.touch.Role.TheVariants.{Task, Slot, Info}
use Rattle.lw_calls.specs.Entries.{count_of}
use Rattle.lw_calls.specs.declared.touch.CallClass.TheVariants.{OnRegisters, OnInfo, OnAll}
use Rattle.lw_calls.specs.Touches.{class_of, touch_of, slots_in}
use Rattle.lw_machine.specs.Desk.{Desk}
use Rattle.lw_machine.specs.History.{machine}
use Rattle.lw_machine.specs.Parts.{slot_part, info_part}
use Rattle.lw_machine.specs.Step.{after, reply}
use Rattle.lw_order.specs.Numbered.{CallsFit}
use Rattle.lw_order.specs.Owned.{HasSlots, Owns}
use Rattle.lw_order.specs.Promised.{Follows}
use Rattle.lw_order.proofs.HistoryLaws.{calls_prefix}
use Rattle.lw_engine_trait.specs.Steps.{Relations, IsDeskOf, IsRegsStep, IsLookStep, IsOneStep, IsTwoStep, AreParts, IsAllStep}
use Rattle.lw_engine_trait.proofs.ClassLaws.{after_registers, after_look}
use Rattle.lw_engine_trait.proofs.Histories.{machine_push, reached}
use Rattle.lw_calls.specs.declared.sizes.Sizes.{Sizes}
use Rattle.lw_calls.specs.Assets.{Assets}
use Rattle.lw_order.specs.Seen.{SeenSeat}
use Rattle.lw_locks.specs.declared.answer.Answer.{Answer}
use Rattle.lw_locks.specs.Called.{Stepped}
use Rattle.lw_locks.specs.Seen.{SeenHolder}
use Rattle.lw_locks.specs.Joins.{WasStamped}
use Rattle.lw_locks.specs.Promised.{Done}
use Rattle.lw_locks.specs.Held.{IsBegun, AreRegs, IsCell, IsInfo, AreHeld, IsHolding}
use Rattle.lw_locks.proofs.Later.{later}

-- the role of each slot whose cell is held
pub held_slot : {I C R : Type 0} (relations : Relations I C R) (desk : Desk) (seat : SeenSeat) (info : I) (cells : List C) → AreHeld relations desk seat info cells → (k : ℕ) → k < length cells → Contains seat.roles (Slot k)
held_slot {C = C} relations desk seat info cells held k below = from ((slice_get_cases cells k).1)
  where
    from : ((c : C) × (k < length cells) × (slice_get cells k ≡ Some c) × (get_or cells k c ≡ c)) ⊎ ((length cells ≤ k) × (slice_get cells k ≡ None)) → Contains seat.roles (Slot k)
    from (inl there) = let is = held.cells k there.0 there.2 in subst (λ n. Contains seat.roles (Slot n)) is.0 is.1.has
    from (inr past) = let none = past.0 in absurd (omega (arith, below, none))

-- LayerInfo and all cells that are held, as parts of the machine's desk.
module _ {I C R : Type 0} (relations : Relations I C R) (desk : Desk) (s : Sizes) (a : Assets) (begun : IsBegun desk s a) (seat : SeenSeat) (fits : CallsFit desk.sizes seat.history) (info : I) (cells : List C) (many : length cells ≡ desk.sizes.slots) (held : AreHeld relations desk seat info cells) where
  has_each : (k : ℕ) → k < desk.sizes.slots → Contains seat.roles (Slot k)
  has_each k below = held_slot relations desk seat info cells held k (subst (λ n. k < n) (sym many) below)

  -- whoever has them may stamp a call on all layers
  pub owns_all : (task : ℕ) (call : Call) → Contains seat.roles (Task task) → class_of call ≡ OnAll → Owns desk.sizes.slots seat.roles (touch_of task call)
  owns_all task call has class =
      record {
        has_task = has;
        has_info = λ touched. held.info.has;
        has_slots = subst (λ k. HasSlots desk.sizes.slots seat.roles (slots_in k)) (sym class) has_each;
      }

  pub parts_held : AreParts relations s a info cells (machine desk seat.history)
  parts_held =
      let it = reached desk seat.history begun.empty begun.limits fits in
      record {
        desk = record { sound = it.sound; sizes = it.sizes ∙ sym begun.sizes; assets = it.assets ∙ sym begun.assets };
        many = many ∙ ap (λ z. z.slots) (sym begun.sizes);
        info = subst (λ z. relations.info_is z info (info_part (machine desk seat.history))) (sym begun.sizes) held.info.stands;
        cells = λ k c at_k. let is = held.cells k c at_k in (is.0, subst (λ n. relations.cell_is c (slot_part (machine desk seat.history) n)) is.0 is.1.stands);
      }

  -- and after they were changed without a step
  pub held_still : (info_new : I) (cells_new : List C) → AreParts relations s a info_new cells_new (machine desk seat.history) → AreHeld relations desk seat info_new cells_new
  held_still info_new cells_new parts =
      let many_new = parts.many ∙ ap (λ z. z.slots) begun.sizes in
      record {
        info = record { has = held.info.has; stands = subst (λ z. relations.info_is z info_new (info_part (machine desk seat.history))) begun.sizes parts.info };
        cells = λ k c at_k.
            let is = parts.cells k c at_k in
            let below = slice_get_within cells_new k c at_k in (
              is.0,
              record {
                has = subst (λ n. Contains seat.roles (Slot n)) (sym is.0) (has_each k (omega (arith, below, many_new)));
                stands = subst (λ n. relations.cell_is c (slot_part (machine desk seat.history) n)) (sym is.0) is.1;
              },
            );
      }

module _ (desk : Desk) (s : Sizes) (a : Assets) (begun : IsBegun desk s a) (old new : SeenSeat) (task : ℕ) (call : Call) (ticket : ℕ) (was : WasStamped desk old new task call ticket) where
  abbrev before : List Entry
  before = old.history ++ was.added.between

  goes_on : Follows old.roles old.history before
  goes_on = record { rest = was.added.between; prefix = refl; quiet = was.added.quiet }

  ends : Follows [] before new.history
  ends = record {
    rest = record { task = task; seq = count_of task (old.history ++ was.added.between); call = call } ∷ [];
    prefix = was.added.history;
    quiet = λ k d below j e none. absurd (omega arith);
  }

  -- a sound desk, with the engine's sizes and assets
  desk_before : IsDeskOf s a (machine desk before)
  desk_before =
      let it = reached desk before begun.empty begun.limits (calls_prefix desk.sizes [] before new.history ends was.known.fits) in
      record { sound = it.sound; sizes = it.sizes ∙ sym begun.sizes; assets = it.assets ∙ sym begun.assets }

  desk_after : machine desk new.history ≡ after (machine desk before) task call
  desk_after =
      ap (machine desk) was.added.history
      ∙ machine_push desk before (record { task = task; seq = count_of task (old.history ++ was.added.between); call = call })

  still_has : (r : Role) → Contains old.roles r → Contains new.roles r
  still_has r h = subst (λ rs. Contains rs r) (sym was.roles) h

  done : (r : Reply) → r ≡ reply (machine desk before) task call → Done desk old.roles task old.history new.history call r ticket
  done r says = record { added = was.added; says = says }

  -- registers before the call, and after one that isn't on them
  regs_before : {I C R : Type 0} (relations : Relations I C R) (regs : R) → AreRegs relations desk task old regs → relations.regs_is regs ((machine desk before).registers task)
  regs_before relations regs are = subst (relations.regs_is regs) (later desk old.roles (Task task) old.history before are.has goes_on) are.stand

  pub regs_stay : {I C R : Type 0} (relations : Relations I C R) (regs : R) → class_of call ≢ OnRegisters → AreRegs relations desk task old regs → AreRegs relations desk task new regs
  regs_stay relations regs other are =
      let stay : (machine desk new.history).registers task ≡ (machine desk before).registers task = ap (λ d. d.registers task) desk_after ∙ ap (λ f. f task) (after_registers (machine desk before) task call other) in
      record { has = still_has (Task task) are.has; stand = subst (relations.regs_is regs) (sym stay) (regs_before relations regs are) }

  -- a task's part, with other registers, and after a call that isn't on them
  pub holding_with : {I C R : Type 0} (relations : Relations I C R) (name : TableId) (made : ℕ) (regs regs_new : R) → IsHolding relations name desk task made old regs → AreRegs relations desk task new regs_new → IsHolding relations name desk task (made + 1) new regs_new
  holding_with relations name made regs regs_new had are =
      record { seat = record { word = was.word ∙ had.seat.word; known = was.known }; regs = are; counted = ap (λ n. n + 1) had.counted ∙ sym was.counted }

  pub holding_stepped : {I C R : Type 0} (relations : Relations I C R) (name : TableId) (made : ℕ) (regs : R) → class_of call ≢ OnRegisters → IsHolding relations name desk task made old regs → IsHolding relations name desk task (made + 1) new regs
  holding_stepped relations name made regs other had = holding_with relations name made regs regs had (regs_stay relations regs other had.regs)

  cell_before : {I C R : Type 0} (relations : Relations I C R) (cell : C) → IsCell relations desk old cell → relations.cell_is cell (slot_part (machine desk before) (relations.number cell))
  cell_before relations cell is = subst (relations.cell_is cell) (later desk old.roles (Slot (relations.number cell)) old.history before is.has goes_on) is.stands

  cell_after : {I C R : Type 0} (relations : Relations I C R) (cell cell_new : C) → relations.number cell_new ≡ relations.number cell → Contains old.roles (Slot (relations.number cell)) → relations.cell_is cell_new (slot_part (after (machine desk before) task call) (relations.number cell)) → IsCell relations desk new cell_new
  cell_after relations cell cell_new same has stands =
      let P : ℕ → Type 0 = λ n. Contains new.roles (Slot n) in
      let Q : ℕ → Type 0 = λ n. relations.cell_is cell_new (slot_part (machine desk new.history) n) in
      record {
        has = subst P (sym same) (still_has (Slot (relations.number cell)) has);
        stands = subst Q (sym same) (subst (λ d. relations.cell_is cell_new (slot_part d (relations.number cell))) (sym desk_after) stands);
      }

  pub registers_made : {I C R : Type 0} (relations : Relations I C R) (regs regs_new : R) (r : Reply) → AreRegs relations desk task old regs → IsRegsStep relations s a regs call r regs_new
      → Done desk old.roles task old.history new.history call r ticket × AreRegs relations desk task new regs_new
  registers_made relations regs regs_new r are made =
      let now = made (machine desk before) task desk_before (regs_before relations regs are) in
      (done r now.0, record { has = still_has (Task task) are.has; stand = subst (λ d. relations.regs_is regs_new (d.registers task)) (sym desk_after) now.1 })

  pub look_made : {I C R : Type 0} (relations : Relations I C R) (info : I) (r : Reply) → IsInfo relations desk old info → class_of call ≡ OnInfo → IsLookStep relations s a info call r
      → Done desk old.roles task old.history new.history call r ticket × IsInfo relations desk new info
  look_made relations info r is class made =
      let then_ = subst (relations.info_is desk.sizes info) (later desk old.roles Info old.history before is.has goes_on) is.stands in
      (done r (made (machine desk before) task desk_before (subst (λ z. relations.info_is z info (info_part (machine desk before))) (sym begun.sizes) then_)), record { has = still_has Info is.has; stands = subst (λ d. relations.info_is desk.sizes info (info_part d)) (sym desk_after) (subst (λ d. relations.info_is desk.sizes info (info_part d)) (sym (after_look (machine desk before) task call class)) then_) })

  pub one_made : {I C R : Type 0} (relations : Relations I C R) (cell cell_new : C) (regs : R) (r : Reply) → IsCell relations desk old cell → AreRegs relations desk task old regs → relations.number cell_new ≡ relations.number cell
      → IsOneStep relations s a cell regs task call r cell_new → Done desk old.roles task old.history new.history call r ticket × IsCell relations desk new cell_new
  one_made relations cell cell_new regs r is are same made =
      let now = made (machine desk before) desk_before (cell_before relations cell is) (regs_before relations regs are) in
      (done r now.0, cell_after relations cell cell_new same is.has now.1)

  pub two_made : {I C R : Type 0} (relations : Relations I C R) (source cell cell_new : C) (r : Reply) → IsCell relations desk old source → IsCell relations desk old cell → relations.number cell_new ≡ relations.number cell
      → IsTwoStep relations s a source cell call r cell_new → Done desk old.roles task old.history new.history call r ticket × IsCell relations desk new source × IsCell relations desk new cell_new
  two_made relations source cell cell_new r from is same made =
      let now = made (machine desk before) task desk_before (cell_before relations source from) (cell_before relations cell is) in
      (done r now.0, cell_after relations source source refl from.has now.1, cell_after relations cell cell_new same is.has now.2)

  pub all_made : {I C R : Type 0} (relations : Relations I C R) (info info_new : I) (cells cells_new : List C) (r : Reply) → length cells ≡ s.slots → AreHeld relations desk old info cells
      → IsAllStep relations s a info cells task call r info_new cells_new → Done desk old.roles task old.history new.history call r ticket × AreHeld relations desk new info_new cells_new
  all_made relations info info_new cells cells_new r many held made =
      let then_ : AreParts relations s a info cells (machine desk before) =
      record {
        desk = desk_before;
        many = many;
        info = subst (λ z. relations.info_is z info (info_part (machine desk before))) (sym begun.sizes) (subst (relations.info_is desk.sizes info) (later desk old.roles Info old.history before held.info.has goes_on) held.info.stands);
        cells = λ k c at_k. let is = held.cells k c at_k in (is.0, subst (λ n. relations.cell_is c (slot_part (machine desk before) n)) is.0 (cell_before relations c is.1));
      } in
      let now = made (machine desk before) then_ in
      let parts = now.1 in (
        done r now.0,
        record {
          info = record { has = still_has Info held.info.has; stands = subst (λ z. relations.info_is z info_new (info_part (machine desk new.history))) begun.sizes (subst (λ d. relations.info_is s info_new (info_part d)) (sym desk_after) parts.info) };
          cells = λ k c at_k.
              let is = parts.cells k c at_k in
              let has : Contains old.roles (Slot k) = held_slot relations desk old info cells held k (let below = slice_get_within cells_new k c at_k in let p = parts.many in omega (arith, below, p, many)) in (
                is.0,
                record {
                  has = subst (λ n. Contains new.roles (Slot n)) (sym is.0) (still_has (Slot k) has);
                  stands = subst (λ n. relations.cell_is c (slot_part (machine desk new.history) n)) (sym is.0) (subst (λ d. relations.cell_is c (slot_part d k)) (sym desk_after) is.1);
                },
              );
        },
      )

-- A call that a task made, from its step and its stamp.
pub stepped_ok : {E : Type 0} (desk : Desk) (old new : SeenHolder) (call : Call) (answer : Answer) → new.task ≡ old.task → WasStamped desk old.seat new.seat old.task call answer.ticket → Done desk old.seat.roles old.task old.seat.history new.seat.history call answer.reply answer.ticket
    → Stepped {E = E} desk old new call (Ok answer)
stepped_ok desk old new call answer task was done = record { task = task; roles = was.roles; counted = was.counted; done = done; same = tt }
