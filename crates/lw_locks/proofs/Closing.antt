-- The seats of all layers and passes, joined to LayerInfo's.
use Rattle.std.proofs.Common.{◌≡◌, ◌⊎◌, ℕ, zero, suc, ◌+◌, ◌-◌, ◌<◌, length, map, take, drop, get_or, List, [], ◌∷◌, ◌++◌, ⊎_elim, inl, inr, sym, ap, subst, ◌∙◌, append_assoc, arith}
use Rattle.std.proofs.lemmas.List.{map-append}
use Rattle.std.proofs.Math.Seq.{split_at}
use Rattle.std.specs.Prelude.{Contains, Some}
use Rattle.std.specs.List.{slice_get}
use Rattle.std.proofs.lemmas.List.Elements.{All-nil, All-cons, All-contains, Contains-append_left, Contains-append_right, Contains-append_cases, Contains-push_cases}
use Rattle.atomic_table.specs.Seated.{TableId}
use Rattle.lw_calls.specs.declared.touch.Role.{Role}
use Rattle.lw_calls.specs.declared.touch.Role.TheVariants.{Task, Slot}
use Rattle.lw_calls.specs.Limits.{IsWithinLimits}
use Rattle.lw_machine.specs.Desk.{Desk, empty_desk}
use Rattle.lw_machine.specs.History.{machine}
use Rattle.lw_machine.specs.Parts.{slot_part}
use Rattle.lw_order.specs.Promised.{Follows}
use Rattle.lw_order.specs.Seen.{SeenSeat}
use Rattle.lw_order.proofs.HistoryLaws.{follows_on, fewer_follow}
use Rattle.lw_order.proofs.RoleLaws.{contains_first, contains_more}
use Rattle.lw_engine_trait.specs.Steps.{Relations}
use Rattle.lw_engine_trait.proofs.Histories.{reached}
use Rattle.lw_locks.specs.Closing.{task_of, IsClosed, AreRegsHeld, AreFollowed, slots_of, AreTaken, ArePlaced}
use Rattle.lw_locks.specs.Held.{IsSeat, AreRegs, IsCell, IsInfo, AreCellsHeld}
use Rattle.lw_locks.specs.Joins.{WasJoined, IsLonger}
use Rattle.lw_locks.specs.Seen.{SeenPass, SeenHolder, shown}
use Rattle.lw_locks.proofs.Passes.{has_own}
use Rattle.lw_locks.proofs.Deeper.{get_either}
use Rattle.lw_locks.proofs.Seats.{longer_by, their_longer, regs_longer, cell_longer, info_longer}

-- an element of a list out of which one is taken
either_of : {X : Type 0} (front back : List X) (off x : X) → Contains (front ++ off ∷ back) x → (x ≡ off) ⊎ Contains (front ++ back) x
either_of {X = X} front back off x has =
    ⊎_elim
    (λ (early : Contains front x). inr (Contains-append_left front back x early))
    (λ (late : Contains (off ∷ back) x). ⊎_elim (λ (same : x ≡ off). inl same) (λ (later : Contains back x). inr (Contains-append_right front back x later)) (first_or late))
    (Contains-append_cases front (off ∷ back) x has)
  where
    first_or : Contains (off ∷ back) x → (x ≡ off) ⊎ Contains back x
    first_or (zero, below, is) = inl (sym is)
    first_or (suc k, below, is) = inr (k, omega (arith, below), is)

put_back : {X : Type 0} (front back : List X) (off x : X) → Contains (front ++ back) x → Contains (front ++ off ∷ back) x
put_back front back off x has =
    ⊎_elim
    (λ early. Contains-append_left front (off ∷ back) x early)
    (λ late. Contains-append_right front (off ∷ back) x (contains_more off x back late))
    (Contains-append_cases front back x has)

-- One was taken out of all, which has this number.
pub record WasTakenOut {X : Type 0} (number : X → ℕ) (whole rest : List X) (off : X) (n : ℕ) : Type 0 where
  pub front : List X
  pub back : List X
  pub parts : whole ≡ front ++ off ∷ back
  pub left : rest ≡ front ++ back
  pub is : number off ≡ n

-- the last number's was found in a slice, and taken out at its place
pub taken_out : {X : Type 0} (number : X → ℕ) (slice whole rest : List X) (off : X) (place last n many : ℕ) → slice ≡ whole → place < length slice → number (get_or slice place off) ≡ last - 1 → last ≡ many → n + 1 ≡ many
    → off ≡ get_or whole place off → rest ≡ take place whole ++ drop (place + 1) whole → WasTakenOut number whole rest off n
taken_out {X = X} number slice whole rest off place last n many same in_slice told all more at_place parts =
    let below : place < length whole = subst (λ xs. place < length xs) same in_slice in
    let next : suc place ≡ place + 1 = omega arith in
    let split : whole ≡ take place whole ++ get_or whole place off ∷ drop (place + 1) whole = subst (λ k. whole ≡ take place whole ++ get_or whole place off ∷ drop k whole) next (split_at whole place off below) in
    let found : number off ≡ last - 1 = ap number at_place ∙ subst (λ xs. number (get_or xs place off) ≡ last - 1) same told in
    record {
      front = take place whole;
      back = drop (place + 1) whole;
      parts = subst (λ (p : X). whole ≡ take place whole ++ p ∷ drop (place + 1) whole) (sym at_place) split;
      left = parts;
      is = omega (arith, found, all, more);
    }

-- of things with each number below a count, those that are left when the last number's was taken out
pub each_left : {X : Type 0} (number : X → ℕ) (whole rest : List X) (off : X) (n many : ℕ) → WasTakenOut number whole rest off n → n + 1 ≡ many → ((k : ℕ) → k < many → Contains (map number whole) k) → (k : ℕ) → k < n → Contains (map number rest) k
each_left number whole rest off n many out more has k below =
    let was : Contains (map number out.front ++ number off ∷ map number out.back) k = subst (λ ks. Contains ks k) (ap (map number) out.parts ∙ map-append number out.front (off ∷ out.back)) (has k (omega (arith, below, more))) in
    let last = out.is in
    ⊎_elim
    (λ (same : k ≡ number off). absurd (omega (arith, same, last, below)))
    (λ (there : Contains (map number out.front ++ map number out.back) k). subst (λ ks. Contains ks k) (sym (ap (map number) out.left ∙ map-append number out.front out.back)) there)
    (either_of (map number out.front) (map number out.back) (number off) k was)

-- the last cell is put after the others
pub placed_more : {C : Type 0} (whole rest : List (ℕ × C)) (off : ℕ × C) (n : ℕ) (cells all : List C) → WasTakenOut (λ (one : ℕ × C). one.0) whole rest off n → n ≡ length cells → ArePlaced rest cells → all ≡ cells ++ off.1 ∷ [] → ArePlaced whole all
placed_more {C = C} whole rest off n cells all out many had pushed place cell at_place =
    subst (λ xs. Contains xs (place, cell)) (sym out.parts)
    (⊎_elim
    (λ (early : slice_get cells place ≡ Some cell). put_back out.front out.back off (place, cell) (subst (λ xs. Contains xs (place, cell)) out.left (had place cell early)))
    (λ (this : (place ≡ length cells) × (cell ≡ off.1)).
    let number : off.0 ≡ place = out.is ∙ (many ∙ sym this.0) in
    let same : off ≡ (place, cell) = λ i. (number i, sym this.1 i) in
    Contains-append_right out.front (off ∷ out.back) (place, cell) (contains_first off (place, cell) out.back same))
    (get_either cells off.1 cell place (subst (λ xs. slice_get xs place ≡ Some cell) pushed at_place)))

pub taken_longer : {I C R : Type 0} (relations : Relations I C R) (desk : Desk) (mine both : SeenSeat) (taken : List (ℕ × C)) → IsLonger mine both → AreTaken relations desk mine taken → AreTaken relations desk both taken
taken_longer relations desk mine both taken longer had slot cell there = let is = had slot cell there in (is.0, cell_longer desk mine both longer relations cell is.1)

-- one cell more was taken
pub taken_more : {I C R : Type 0} (relations : Relations I C R) (desk : Desk) (mine theirs both : SeenSeat) (taken all : List (ℕ × C)) (slot : ℕ) (cell : C) → WasJoined desk mine theirs both → AreTaken relations desk mine taken → relations.number cell ≡ slot → IsCell relations desk theirs cell → all ≡ taken ++ (slot, cell) ∷ [] → AreTaken relations desk both all
taken_more {C = C} relations desk mine theirs both taken all slot cell was had numbered is pushed s c there =
    ⊎_elim
    (λ (early : Contains taken (s, c)). taken_longer relations desk mine both taken (longer_by desk mine theirs both was) had s c early)
    (λ (this : (slot, cell) ≡ (s, c)). subst (λ (one : ℕ × C). (relations.number one.1 ≡ one.0) × IsCell relations desk both one.1) this (numbered, cell_longer desk theirs both (their_longer desk mine theirs both was) relations cell is))
    (Contains-push_cases taken (slot, cell) (s, c) (subst (λ xs. Contains xs (s, c)) pushed there))

pub roles_more : {C : Type 0} (desk : Desk) (mine theirs both : SeenSeat) (first : List Role) (taken all : List (ℕ × C)) (slot : ℕ) (cell : C) → WasJoined desk mine theirs both → mine.roles ≡ first ++ map (λ s. Slot s) (slots_of taken) → theirs.roles ≡ Slot slot ∷ [] → all ≡ taken ++ (slot, cell) ∷ [] → both.roles ≡ first ++ map (λ s. Slot s) (slots_of all)
roles_more {C = C} desk mine theirs both first taken all slot cell was had own pushed =
    let had_roles = map (λ s. Slot s) (slots_of taken) in
    let more : map (λ s. Slot s) (slots_of all) ≡ had_roles ++ Slot slot ∷ [] =
    ap (λ xs. map (λ s. Slot s) (slots_of xs)) pushed ∙ ap (map (λ s. Slot s)) (map-append (λ (one : ℕ × C). one.0) taken ((slot, cell) ∷ [])) ∙ map-append (λ s. Slot s) (slots_of taken) (slot ∷ []) in
    was.roles ∙ (ap (λ rs. mine.roles ++ rs) own ∙ (ap (λ rs. rs ++ Slot slot ∷ []) had ∙ (append_assoc first had_roles (Slot slot ∷ []) ∙ ap (λ rs. first ++ rs) (sym more))))

pub cells_longer : {I C R : Type 0} (relations : Relations I C R) (desk : Desk) (mine both : SeenSeat) (cells : List C) → IsLonger mine both → AreCellsHeld relations desk mine cells → AreCellsHeld relations desk both cells
cells_longer relations desk mine both cells longer had s c at_s = let is = had s c at_s in (is.0, cell_longer desk mine both longer relations c is.1)

-- one task's registers more
pub regs_more : {I C R : Type 0} (relations : Relations I C R) (desk : Desk) (task : ℕ) (mine theirs both : SeenSeat) (all : List R) (regs : R) → WasJoined desk mine theirs both → AreRegsHeld relations desk mine all → task ≡ length all → AreRegs relations desk task theirs regs → AreRegsHeld relations desk both (all ++ regs ∷ [])
regs_more {R = R} relations desk task mine theirs both all regs was had place are t r at_t =
    ⊎_elim
    (λ (front : slice_get all t ≡ Some r). regs_longer desk mine both (longer_by desk mine theirs both was) relations t r (had t r front))
    (λ (last : (t ≡ length all) × (r ≡ regs)).
    subst (λ (x : R). AreRegs relations desk t both x) (sym last.1) (subst (λ n. AreRegs relations desk n both regs) (place ∙ sym last.0) (regs_longer desk theirs both (their_longer desk mine theirs both was) relations task regs are)))
    (get_either all regs r t at_t)

one_of : (r : Role) (roles : List Role) → Contains roles r → (role : Role) → Contains (r ∷ []) role → Contains roles role
one_of r roles has role there = All-contains (λ x. Contains roles x) (r ∷ []) role (All-cons (λ x. Contains roles x) r [] has (All-nil (λ x. Contains roles x))) there

-- one pass more, whose seat was joined
pub followed_more : (desk : Desk) (mine both : SeenSeat) (own : SeenHolder) (whole rest : List SeenPass) (off : SeenPass) (n : ℕ) → WasJoined desk mine own.seat both → WasTakenOut task_of whole rest off n → AreFollowed rest mine → shown own ≡ off → own.seat.roles ≡ Task own.task ∷ [] → AreFollowed whole both
followed_more desk mine both own whole rest off n was out had is alone p there =
    let longer = longer_by desk mine own.seat both was in
    ⊎_elim
    (λ (this : p ≡ off).
    let here : Contains both.roles (Task own.task) × Follows (Task own.task ∷ []) own.seat.history both.history =
    ((their_longer desk mine own.seat both was).among (Task own.task) (has_own own alone), subst (λ rs. Follows rs own.seat.history both.history) alone was.other_follows) in
    subst (λ (v : SeenPass). Contains both.roles (Task v.task) × Follows (Task v.task ∷ []) v.history both.history) (is ∙ sym this) here)
    (λ (other : Contains (out.front ++ out.back) p).
    let old = had p (subst (λ ps. Contains ps p) (sym out.left) other) in
    (longer.among (Task p.task) old.0, follows_on (Task p.task ∷ []) p.history mine.history both.history old.1 (fewer_follow (Task p.task ∷ []) mine.roles mine.history both.history (one_of (Task p.task) mine.roles old.0) longer.follows)))
    (either_of out.front out.back off p (subst (λ ps. Contains ps p) out.parts there))

-- all parts of a desk at the end
pub closed : {I C R : Type 0} (relations : Relations I C R) (name : TableId) (desk : Desk) (passes : List SeenPass) (info : I) (cells : List C) (regs : List R) (first mid whole : SeenSeat)
    → desk ≡ empty_desk desk.sizes desk.assets desk.shelf → IsWithinLimits desk.sizes → IsLonger first mid → IsLonger mid whole → IsInfo relations desk first info → AreCellsHeld relations desk mid cells → length cells ≡ desk.sizes.slots
    → IsSeat name desk whole → AreRegsHeld relations desk whole regs → length regs ≡ desk.sizes.tasks → AreFollowed passes whole → IsClosed relations name desk passes info cells regs whole
closed relations name desk passes info cells regs first mid whole empty limits early late layers held slots seat mine many followed =
    let it = reached desk whole.history empty limits seat.known.fits in
    let info_now = info_longer desk mid whole late relations info (info_longer desk first mid early relations info layers) in
    record {
      seat = seat;
      parts = record {
        desk = record { sound = it.sound; sizes = it.sizes; assets = it.assets };
        many = slots;
        info = info_now.stands;
        cells = λ s c at_s.
            let is = cells_longer relations desk mid whole cells late held s c at_s in
            (is.0, subst (λ n. relations.cell_is c (slot_part (machine desk whole.history) n)) is.0 is.1.stands);
      };
      tasks = many;
      regs = λ t r at_t. (mine t r at_t).stand;
      followed = followed;
    }
