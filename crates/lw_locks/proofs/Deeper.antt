-- One slot's lock more: what is held with it, and what is left when it is given back.
use Rattle.std.proofs.Common.{◌≡◌, ℕ, zero, suc, ◌+◌, ◌≤◌, ◌⊎◌, false, length, map, List, [], ◌∷◌, ◌++◌, ⊎_elim, inl, inr, refl, sym, ap, subst, ◌∙◌, arith}
use Rattle.std.specs.Prelude.{All, Contains, Some}
use Rattle.std.specs.List.{slice_get, range_with_len}
use Rattle.std.proofs.lemmas.List.Elements.{All-nil, All-cons, All-append, Contains-push, Contains-append_left}
use Rattle.std.proofs.lemmas.Bool.{ne_eqb}
use Rattle.std.proofs.lemmas.List.FromFn.{map-range_with_len_more}
use Rattle.std.proofs.lemmas.Option.{slice_get_within}
use Rattle.atomic_table.specs.Seated.{TableId}
use Rattle.lw_calls.specs.declared.touch.Role.{Role}
use Rattle.lw_calls.specs.declared.touch.Role.TheVariants.{Task, Slot, Info}
use Rattle.lw_machine.specs.Desk.{Desk}
use Rattle.lw_order.specs.Roles.{same_role}
use Rattle.lw_order.specs.Seen.{SeenSeat}
use Rattle.lw_order.proofs.RoleLaws.{still_there}
use Rattle.lw_engine_trait.specs.Steps.{Relations}
use Rattle.lw_locks.specs.Joins.{WasJoined, Took, Gave}
use Rattle.lw_locks.specs.Seen.{SeenHolder}
use Rattle.lw_locks.specs.Held.{IsCell, IsInfo, AreCellsHeld, AreHeld, IsLayer, roles_below}
use Rattle.lw_locks.proofs.Seats.{longer_by, info_longer, cell_longer, cell_at, info_at, their_longer}
use Rattle.lw_locks.proofs.Passes.{layer_back}
use Rattle.lw_locks.proofs.Starting.{get_front, get_last}

roles_more : (task k : ℕ) → roles_below task (k + 1) ≡ roles_below task k ++ Slot k ∷ []
roles_more task k = ap (λ rs. Task task ∷ Info ∷ rs) (map-range_with_len_more (λ s. Slot s) 0 k k (omega arith))

-- a slot is none of those below it
apart_few : (n k : ℕ) → n ≤ k → All (λ r. same_role (Slot k) r ≡ false) (map (λ s. Slot s) (range_with_len 0 n))
apart_few zero k below = All-nil (λ r. same_role (Slot k) r ≡ false)
apart_few (suc n) k below =
    let P : Role → Type 0 = λ r. same_role (Slot k) r ≡ false in
    let last : All P (Slot n ∷ []) = All-cons P (Slot n) [] (ne_eqb k n (λ same. omega (arith, same, below))) (All-nil P) in
    let more : n + 1 ≡ suc n = omega arith in
    let all : All P (map (λ s. Slot s) (range_with_len 0 (n + 1))) = subst (All P) (sym (map-range_with_len_more (λ s. Slot s) 0 n n (omega arith))) (All-append P (map (λ s. Slot s) (range_with_len 0 n)) (Slot n ∷ []) (apart_few n k (omega (arith, below))) last) in
    subst (λ m. All P (map (λ s. Slot s) (range_with_len 0 m))) more all

apart_below : (task k : ℕ) → All (λ r. same_role (Slot k) r ≡ false) (roles_below task k)
apart_below task k =
    let P : Role → Type 0 = λ r. same_role (Slot k) r ≡ false in
    All-cons P (Task task) (Info ∷ map (λ s. Slot s) (range_with_len 0 k)) refl (All-cons P Info (map (λ s. Slot s) (range_with_len 0 k)) refl (apart_few k k (omega arith)))

-- an element of a list with one more at its end
pub get_either : {X : Type 0} (front : List X) (last x : X) (s : ℕ) → slice_get (front ++ last ∷ []) s ≡ Some x → ((slice_get front s ≡ Some x) ⊎ ((s ≡ length front) × (x ≡ last)))
get_either [] last x zero h = inr (refl, cc h)
get_either [] last x (suc s) h = absurd (cc h)
get_either (y ∷ front) last x zero h = inl h
get_either (y ∷ front) last x (suc s) h = ⊎_elim (λ a. inl a) (λ b. inr (ap suc b.0, b.1)) (get_either front last x s h)

-- one cell more
pub cells_more : {I C R : Type 0} (relations : Relations I C R) (desk : Desk) (mine theirs both : SeenSeat) (cells : List C) (cell : C) → WasJoined desk mine theirs both → AreCellsHeld relations desk mine cells → relations.number cell ≡ length cells → IsCell relations desk theirs cell → AreCellsHeld relations desk both (cells ++ cell ∷ [])
cells_more {C = C} relations desk mine theirs both cells cell was had numbered is s c at_s =
    ⊎_elim
    (λ (front : slice_get cells s ≡ Some c). let old = had s c front in (old.0, cell_longer desk mine both (longer_by desk mine theirs both was) relations c old.1))
    (λ (last : (s ≡ length cells) × (c ≡ cell)).
    (ap relations.number last.1 ∙ (numbered ∙ sym last.0), subst (λ (x : C). IsCell relations desk both x) (sym last.1) (cell_longer desk theirs both (their_longer desk mine theirs both was) relations cell is)))
    (get_either cells cell c s at_s)

-- LayerInfo alone, with no slot yet
pub info_held : {I C R : Type 0} (relations : Relations I C R) (desk : Desk) (mine theirs both : SeenSeat) (info : I) (cells : List C) → WasJoined desk mine theirs both → length cells ≡ 0 → IsInfo relations desk theirs info → AreHeld relations desk both info cells
info_held relations desk mine theirs both info cells was none is =
    record {
      info = info_longer desk theirs both (their_longer desk mine theirs both was) relations info is;
      cells = λ s c at_s. let below = slice_get_within cells s c at_s in absurd (omega (arith, below, none));
    }

-- A task that holds LayerInfo and the slots below a number, and then that slot too.
module _ (name : TableId) (desk : Desk) (slot k : ℕ) (mine both : SeenHolder) (theirs : SeenSeat) (took : Took desk mine theirs both) (place : slot ≡ k) (roles : mine.seat.roles ≡ roles_below mine.task k) (their_roles : theirs.roles ≡ Slot slot ∷ []) where
  pub roles_deeper : both.seat.roles ≡ roles_below both.task (k + 1)
  roles_deeper =
      took.joined.roles
      ∙ (ap (λ rs. rs ++ theirs.roles) roles ∙ (ap (λ rs. roles_below mine.task k ++ rs) (their_roles ∙ ap (λ s. Slot s ∷ []) place) ∙ (sym (roles_more mine.task k) ∙ ap (λ t. roles_below t (k + 1)) (sym took.task))))

  pub has_task : Contains mine.seat.roles (Task mine.task)
  has_task = subst (λ rs. Contains rs (Task mine.task)) (sym roles) (Contains-append_left (Task mine.task ∷ []) (Info ∷ map (λ s. Slot s) (range_with_len 0 k)) (Task mine.task) (Contains-push [] (Task mine.task)))

  pub held_deeper : {I C R : Type 0} (relations : Relations I C R) (info : I) (cells : List C) (cell : C) → length cells ≡ k → AreHeld relations desk mine.seat info cells → relations.number cell ≡ slot → IsCell relations desk theirs cell → AreHeld relations desk both.seat info (cells ++ cell ∷ [])
  held_deeper relations info cells cell many had numbered is =
      record {
        info = info_longer desk mine.seat both.seat (longer_by desk mine.seat theirs both.seat took.joined) relations info had.info;
        cells = cells_more relations desk mine.seat theirs both.seat cells cell took.joined had.cells (numbered ∙ (place ∙ sym many)) is;
      }

  pub apart_mine : All (λ r. same_role (Slot slot) r ≡ false) mine.seat.roles
  apart_mine = subst (λ rs. All (λ r. same_role (Slot slot) r ≡ false) rs) (sym roles) (subst (λ n. All (λ r. same_role (Slot n) r ≡ false) (roles_below mine.task k)) (sym place) (apart_below mine.task k))

  -- the cells after the calls, of which the last is given back
  module _ (stepped left : SeenHolder) (given : SeenSeat) (gave : Gave name desk (Slot slot) stepped left given) where
    pub held_back : {I C R : Type 0} (relations : Relations I C R) (info : I) (all front : List C) (cell : C) → all ≡ front ++ cell ∷ [] → length front ≡ k → AreHeld relations desk stepped.seat info all → AreHeld relations desk left.seat info front
    held_back relations info all front cell parts many had =
        let stays : (r : Role) → same_role (Slot slot) r ≡ false → Contains stepped.seat.roles r → Contains left.seat.roles r = λ r apart h. subst (λ rs. Contains rs r) (sym gave.roles) (still_there (Slot slot) r stepped.seat.roles apart h) in
        record {
          info = info_at desk stepped.seat left.seat gave.history relations info (stays Info refl had.info.has) had.info;
          cells = λ s c at_s.
              let old = had.cells s c (subst (λ cs. slice_get cs s ≡ Some c) (sym parts) (get_front front cell c s at_s)) in
              let below = slice_get_within front s c at_s in
              let numbered = old.0 in
              (old.0, cell_at desk stepped.seat left.seat gave.history relations c (stays (Slot (relations.number c)) (ne_eqb slot (relations.number c) (λ same. omega (arith, same, place, numbered, below, many))) old.1.has) old.1);
        }

    pub last_back : {I C R : Type 0} (relations : Relations I C R) (info : I) (all front : List C) (cell : C) → all ≡ front ++ cell ∷ [] → length front ≡ k → AreHeld relations desk stepped.seat info all → IsLayer relations name desk slot given cell
    last_back relations info all front cell parts many had =
        let last = had.cells k cell (subst (λ cs. slice_get cs k ≡ Some cell) (sym parts) (subst (λ n. slice_get (front ++ cell ∷ []) n ≡ Some cell) many (get_last front cell))) in
        layer_back relations name desk slot stepped left given cell gave (last.0 ∙ sym place) last.1
