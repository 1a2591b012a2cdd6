-- The room that ports have makes no difference to what cells stand for.
use Rattle.std.proofs.Common.{◌≡◌, ◌≢◌, ℕ, zero, suc, ◌<◌, ◌≤◌, List, [], ◌∷◌, ◌++◌, map, length, get_or, set, Some, ◌⊎◌, inl, inr, ◌∙◌, sym, refl, ap, subst, ⊎_elim, arith}
use Rattle.std.proofs.lemmas.Bool.{cases_eq, cases_lt}
use Rattle.std.proofs.lemmas.List.{length-map, get_or-map, get_or-set_same, get_or-set_other}
use Rattle.lw_calls.specs.Orders.{occurrences}
use Rattle.lw_machine.specs.Desk.{Desk}
use Rattle.lw_machine.specs.Parts.{SlotPart, slot_part}
use Rattle.lw_layer.specs.View.{State, LiveView, CellView, keeps}
use Rattle.lw_layer.specs.View as view
use Rattle.lw_layer.specs.StandsFor.{IsPartOf, StandsFor, IsSound}
use Rattle.lw_layer.specs.Windows.{without_room, RoomWhere, HasRoom}
use Rattle.lw_stack.specs.Stack.{Stack, IsStack}
use Rattle.lw_engine.specs.Desks.{no_cell, cell_at, AreNumbered, AreOfDesk, AreAsBefore}
use Rattle.lw_engine.specs.Slots.{bare}
use Rattle.lw_engine.specs.Arranging.{AreListed}
use Rattle.lw_engine.proofs.ArrangingLists.{occurs_before, idle_slot}

-- the live layer with this room in its port
abbrev roomed : ℕ → LiveView → LiveView
roomed n k = record k { room = n }

-- the cells one by one
pub same_cell : (cells other : List CellView) (s : ℕ) → AreAsBefore cells other → s < length cells
    → without_room (cell_at other s) ≡ without_room (cell_at cells s)
same_cell cells other s same low =
    let long : length other ≡ length cells = sym (length-map other without_room) ∙ (ap length same ∙ length-map cells without_room) in
    sym (get_or-map without_room other s no_cell no_cell (omega (arith, long, low)))
    ∙ (ap (λ l. get_or l s no_cell) same ∙ get_or-map without_room cells s no_cell no_cell low)

pub same_length : (cells other : List CellView) → AreAsBefore cells other → length other ≡ length cells
same_length cells other same = sym (length-map other without_room) ∙ (ap length same ∙ length-map cells without_room)

-- a cell stands for a slot's part whatever room its port has
part_roomed : (n : ℕ) (s : State) (k : LiveView) (p : SlotPart) → IsPartOf s k p → IsPartOf s (roomed n k) p
part_roomed n view.Unopened k p is = is
part_roomed n view.Live k p is = record { slot = is.slot; bounds = is.bounds; shown = is.shown; active = is.active }
part_roomed n view.Closed k p is = is

pub stands_roomed : (c e : CellView) (p : SlotPart) → without_room e ≡ without_room c → StandsFor c p → StandsFor e p
stands_roomed c e p same stands =
    let P : CellView → Type 0 = λ v. StandsFor v p in
    part_roomed e.live.room e.state (roomed 0 e.live) p (subst P (sym same) (part_roomed 0 c.state c.live p stands))

-- and it is as sound
sound_as : (n : ℕ) (k : LiveView) → IsSound k → IsSound (roomed n k)
unfolding keeps
sound_as n k ok = record {
  bits = ok.bits;
  off_kept = ok.off_kept;
  wide = ok.wide;
  high = ok.high;
  ordered = ok.ordered;
  inside = ok.inside;
  canonical = ok.canonical;
  scrolled = ok.scrolled;
  hook = ok.hook;
  frame = ok.frame;
}

pub sound_roomed : (c e : CellView) → without_room e ≡ without_room c → (c.state ≡ view.Live → IsSound (bare c).live) → e.state ≡ view.Live
    → IsSound (bare e).live
sound_roomed c e same sound live =
    let P : CellView → Type 0 = λ v. IsSound (bare v).live in
    let was : c.state ≡ view.Live = ap (λ (v : CellView). v.state) (sym same) ∙ live in
    sound_as e.live.room (roomed 0 (bare e).live) (subst P (sym same) (sound_as 0 (bare c).live (sound was)))

-- so the cells are of the same desk
pub numbered_roomed : (n : ℕ) (cells other : List CellView) → AreAsBefore cells other → AreNumbered n cells → AreNumbered n other
numbered_roomed n cells other same numbered = record {
  many = same_length cells other same ∙ numbered.many;
  numbers = λ s low.
      ap (λ (v : CellView). v.number) (same_cell cells other s same (omega (arith, numbered.many, low))) ∙ numbered.numbers s low;
}

pub of_desk_roomed : (v : Stack) (cells other : List CellView) (d : Desk) → AreAsBefore cells other → AreNumbered v.sizes.slots cells → AreOfDesk v cells d
    → AreOfDesk v other d
of_desk_roomed v cells other d same numbered are = record {
  sound = are.sound;
  sizes = are.sizes;
  info = are.info;
  slots = λ s low. stands_roomed (cell_at cells s) (cell_at other s) (slot_part d s) (same_cell cells other s same (omega (arith, numbered.many, low))) (are.slots s low);
}

-- one more cell whose port has other room
set_kept : (cells : List CellView) (k : ℕ) (c : CellView) → without_room c ≡ without_room (get_or cells k no_cell)
    → map without_room (set cells k c) ≡ map without_room cells
set_kept [] k c same = refl
set_kept (v ∷ vs) zero c same = ap (λ q. q ∷ map without_room vs) same
set_kept (v ∷ vs) (suc k) c same = ap (λ l. without_room v ∷ l) (set_kept vs k c same)

pub more_as_before : (cells now : List CellView) (k : ℕ) (c : CellView) → AreAsBefore cells now → without_room c ≡ without_room (get_or now k no_cell)
    → AreAsBefore cells (set now k c)
more_as_before cells now k c same is = set_kept now k c is ∙ same

-- and one more port with room
pub more_room : (now : List CellView) (us : List ℕ) (u : ℕ) (c : CellView) → u < length now
    → ((s : ℕ) → 0 < occurrences s us → HasRoom 5 (cell_at now s)) → HasRoom 5 c
    → (s : ℕ) → 0 < occurrences s (us ++ u ∷ []) → HasRoom 5 (cell_at (set now u c) s)
more_room now us u c inside before one s has =
    let P : CellView → Type 0 = λ v. HasRoom 5 v in
    ⊎_elim
    (λ (same : s ≡ u). subst P (sym (ap (λ n. get_or (set now u c) n no_cell) same ∙ get_or-set_same now u c no_cell inside)) one)
    (λ (other : s ≢ u).
    let still = occurs_before s u us other in
    subst P (sym (get_or-set_other now u s c no_cell other)) (before s (omega (arith, has, still))))
    (cases_eq s u)

-- every slot with a layer is in LayerInfo's list still
pub listed_roomed : (v : Stack) (cells other : List CellView) → AreAsBefore cells other → AreListed v cells → AreListed v other
listed_roomed v cells other same listed s low live =
    let inside : s < length cells = omega (arith, same_length cells other same, low) in
    let is = sym (same_cell cells other s same inside) in
    listed s inside (ap (λ (c : CellView). c.state) is ∙ live) ∙ ap (λ (c : CellView). Some c.live.bounds) is

-- where those in the list have room, all have
pub all_room : (v : Stack) (cells now : List CellView) → IsStack v → AreListed v cells → AreAsBefore cells now
    → ((s : ℕ) → 0 < occurrences s v.front_to_back → HasRoom 5 (cell_at now s)) → (s : ℕ) → s < length now → HasRoom 5 (cell_at now s)
all_room v cells now ok listed same room s low = either (cases_lt 0 (occurrences s v.front_to_back))
  where
    without : (c : CellView) (q : State) → (q ≡ view.Live → ⊥) → RoomWhere q 5 c.live
    without c view.Unopened idle = tt
    without c view.Live idle = absurd (idle refl)
    without c view.Closed idle = tt

    either : (0 < occurrences s v.front_to_back) ⊎ (occurrences s v.front_to_back ≤ 0) → HasRoom 5 (cell_at now s)
    either (inl has) = room s has
    either (inr past) =
        let none : occurrences s v.front_to_back ≡ 0 = omega (arith, past) in
        without (cell_at now s) (cell_at now s).state
        (λ live. idle_slot v now s ok (listed_roomed v cells now same listed) low none live)

-- so it is with the parts of a desk
pub listed_cells : (v : Stack) (cells : List CellView) (d : Desk) → AreOfDesk v cells d → AreNumbered v.sizes.slots cells → AreListed v cells
listed_cells v cells d are numbered s low live =
    let c = cell_at cells s in
    let P : State → Type 0 = λ q. IsPartOf q c.live (slot_part d s) in
    let part : P view.Live = subst P live (are.slots s (omega (arith, numbered.many, low))) in
    sym (are.info.bounds s) ∙ part.bounds
