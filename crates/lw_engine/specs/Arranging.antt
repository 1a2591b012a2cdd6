-- What a call makes of LayerInfo, the shelf of hooks and all slots (`IsAllStep`, `DropHooks`, `ReplacesHook`), and words of this
-- crate's private contracts.
use Rattle.std.specs.Prelude.{◌≡◌, ℕ, ◌<◌, ◌≤◌, ◌==◌, Bool, true, not, ◌||◌, if◌then◌else◌, List, [], ◌∷◌, length, map, take}
use Rattle.std.specs.Prelude.{slice_set, Option, Some, None}
use Rattle.std.specs.List.{All, slice_index_or}
use Rattle.lw_calls.specs.Assets.{Assets}
use Rattle.lw_calls.specs.declared.call.Call.{Call}
use Rattle.lw_calls.specs.declared.call.Call.TheVariants.{Create, OpenWindow, SetHook}
use Rattle.lw_calls.specs.Orders.{occurrences}
use Rattle.lw_calls.specs.declared.reply.Reply.{Reply}
use Rattle.lw_calls.specs.declared.reply.Reply.TheVariants.{Done, NotOpen}
use Rattle.lw_machine.specs.Hook.{Hook}
use Rattle.lw_machine.specs.Layer.{may_open}
use Rattle.lw_machine.specs.Desk.{Desk}
use Rattle.lw_machine.specs.Arrangement.{hook_from}
use Rattle.lw_machine.specs.Reveal.{has_bounds}
use Rattle.lw_machine.specs.Step.{after, reply}
use Rattle.lw_layer.specs.View.{State, CellView, hooked}
use Rattle.lw_layer.specs.View as view
use Rattle.lw_layer.specs.Looks.{IsLookAt}
use Rattle.lw_layer.specs.StandsFor.{IsSound, slot_of}
use Rattle.lw_layer.specs.declared.look.Look.{Look}
use Rattle.lw_stack.specs.Stack.{Stack, bounds_at}
use Rattle.lw_arrange.specs.Arrangements.{ArrangementView}
use Rattle.lw_engine.specs.Desks.{AreOfDesk, AreOnShelf, hook_at, no_cell, cell_at}
use Rattle.lw_engine.specs.Slots.{hook_in, bare, shelf_without, ReadyView, IsSettled, IsReadyFor, IsLeft, nothing_ready}

-- What a call on all layers answers and leaves in each desk with these parts and this shelf of hooks, to which this was handed
-- in.
abbrev pub IsAllStep : Assets → Stack → List (Option Hook) → List CellView → ℕ → Call → Reply → Stack → List (Option Hook)
    → List CellView → Type 0
IsAllStep assets v shelf cells task call r new_v new_shelf new_cells =
    (d : Desk) → AreOfDesk v cells d → AreOnShelf shelf d → d.assets ≡ assets
    → (r ≡ reply d task call) × AreOfDesk new_v new_cells (after d task call) × AreOnShelf new_shelf (after d task call)

-- a layer that was deleted has dropped its hook
abbrev pub DropHooks : List CellView → List CellView → Type 0
DropHooks slots new =
    (s : ℕ) → s < length slots → (cell_at slots s).state ≡ view.Live → (cell_at new s).state ≡ view.Closed
    → hook_in (cell_at new s) ≡ None

-- a layer whose hook was replaced has the shelf's hook of that number, or none where the shelf hasn't got it, and no former one
abbrev pub ReplacesHook : Call → List (Option Hook) → List CellView → List CellView → Type 0
ReplacesHook (SetHook slot n) shelf slots new =
    (cell_at slots slot).state ≡ view.Live → hook_in (cell_at new slot) ≡ hook_at shelf n
ReplacesHook call shelf slots new = Unit {0}

-- What becomes of the shelf and of the slots where the hook of this number is set in a slot that is in this state: the layer
-- takes it from the shelf, and no slot but a live one has a layer.
abbrev pub IsHookSet : State → List (Option Hook) → List CellView → ℕ → ℕ → Reply → List (Option Hook) → List CellView → Type 0
IsHookSet view.Live shelf slots slot n r new_shelf new =
    (r ≡ Done) × (new_shelf ≡ shelf_without (Some n) shelf)
    × (new ≡ slice_set slots slot (hooked (hook_at shelf n) (cell_at slots slot)))
IsHookSet idle shelf slots slot n r new_shelf new = (r ≡ NotOpen) × (new_shelf ≡ shelf) × (new ≡ slots)

-- what is told of a slot's cell is so, and a live one is sound, its hook aside
pub record IsTruth (c : CellView) (k : Option Look) : Type 0 where
  pub look : IsLookAt c.state c.live k
  pub sound : c.state ≡ view.Live → IsSound (bare c).live

-- Two lists are as long, and this holds of each pair.
pub record ForEach {A B : Type 0} (P : A → B → Type 0) (a : A) (b : B) (xs : List A) (ys : List B) : Type 0 where
  pub many : length ys ≡ length xs
  pub each : (n : ℕ) → n < length xs → P (slice_index_or xs n a) (slice_index_or ys n b)

-- a look for each cell
abbrev pub AreLooks : List CellView → List (Option Look) → Type 0
AreLooks cells looks = ForEach IsTruth no_cell None cells looks

-- the flag says whether in this version a layer may be created in the slot that a call creates or opens one in
abbrev pub IsFreshSlot : ℕ → List CellView → Call → Bool → Type 0
IsFreshSlot version cells (Create slot make) fresh =
    fresh ≡ may_open version (slot_of (cell_at cells slot).state (cell_at cells slot).live)
IsFreshSlot version cells (OpenWindow slot make framed nocare asks title) fresh =
    fresh ≡ may_open version (slot_of (cell_at cells slot).state (cell_at cells slot).live)
IsFreshSlot version cells call fresh = Unit {0}

-- the slot that a call creates or opens a layer in is one of so many
abbrev pub HasSlot : ℕ → Call → Type 0
HasSlot many (Create slot make) = slot < many
HasSlot many (OpenWindow slot make framed nocare asks title) = slot < many
HasSlot many call = Unit {0}

-- every slot with a layer has its bounds in LayerInfo's list
abbrev pub AreListed : Stack → List CellView → Type 0
AreListed v cells =
    (s : ℕ) → s < length cells → (cell_at cells s).state ≡ view.Live
    → bounds_at v.bounds s ≡ Some (cell_at cells s).live.bounds

-- the slots for which something is ready
abbrev pub slots_of : List ReadyView → List ℕ
slots_of ready = map (λ r. r.slot) ready

-- what is ready was made for slots that there are
abbrev pub AreFor : ArrangementView → List (Option Hook) → List CellView → List ReadyView → Type 0
AreFor a shelf slots made = All (λ r. (r.slot < length slots) × IsReadyFor a shelf (cell_at slots r.slot) r) made

-- Something is ready once at most for each of these slots, and for no other; those of them for which nothing is ready the
-- arrangement leaves as they are.
pub record AreMade (a : ArrangementView) (shelf : List (Option Hook)) (slots : List CellView) (numbers : List ℕ)
    (made : List ReadyView) : Type 0 where
  pub each : AreFor a shelf slots made
  pub once : (s : ℕ) → occurrences s (slots_of made) ≤ occurrences s numbers
  pub others : (s : ℕ) → 0 < occurrences s numbers → occurrences s (slots_of made) ≡ 0 → IsLeft a (cell_at slots s)

-- the slot has no bounds in the list
abbrev pub is_idle : Stack → ℕ → Bool
is_idle v s = not (has_bounds (bounds_at v.bounds s))

-- the slot has bounds in the one list or in the other
abbrev pub is_concerned : Stack → Stack → ℕ → Bool
is_concerned v w s = has_bounds (bounds_at v.bounds s) || has_bounds (bounds_at w.bounds s)

-- Something is ready once at most for each slot that has bounds before the arrangement or afterwards, and for no other; those of
-- them for which nothing is ready the arrangement leaves as they are.
pub record AreReady (v : Stack) (a : ArrangementView) (shelf : List (Option Hook)) (slots : List CellView)
    (made : List ReadyView) : Type 0 where
  pub each : AreFor a shelf slots made
  pub once : (s : ℕ) → occurrences s (slots_of made) ≤ (if is_concerned v a.stack s then 1 else 0)
  pub others : (s : ℕ) → is_concerned v a.stack s ≡ true → occurrences s (slots_of made) ≡ 0 → IsLeft a (cell_at slots s)

-- what is ready makes of its slots what is told
abbrev pub AreSettled : List (List ℕ) → (CellView → CellView) → List CellView → List ReadyView → Type 0
AreSettled glyphs after slots ready =
    All (λ r. (r.slot < length slots) × IsSettled glyphs (cell_at slots r.slot) (after (cell_at slots r.slot)) r) ready

-- what is ready, once the slot has this hook, and once the hook that a call asks for was taken from the shelf for the slot of its
-- new layer
abbrev pub given_to : ℕ → Option Hook → List ReadyView → List ReadyView
given_to slot h [] = []
given_to slot h (r ∷ ready) = if r.slot == slot then record r { taken = h } ∷ ready else r ∷ given_to slot h ready

abbrev pub with_taken : List (Option Hook) → Call → List ReadyView → List ReadyView
with_taken shelf (Create slot make) ready = given_to slot (hook_from (hook_at shelf) make.hook) ready
with_taken shelf (OpenWindow slot make framed nocare asks title) ready = given_to slot (hook_from (hook_at shelf) make.hook) ready
with_taken shelf call ready = ready

-- each cell has become what is told
abbrev pub AreChanged : (CellView → CellView) → List CellView → List CellView → Type 0
AreChanged becomes cells changed = ForEach (λ c e. e ≡ becomes c) no_cell no_cell cells changed

-- the cells of these slots have become what is told, and all others are as before
pub record AreChangedAt (order : List ℕ) (becomes : CellView → CellView) (cells changed : List CellView) : Type 0 where
  pub many : length changed ≡ length cells
  pub each : (s : ℕ) → cell_at changed s ≡ (if occurrences s order == 0 then cell_at cells s else becomes (cell_at cells s))

-- the first k that are ready were settled, and the others are still there
pub record AreUnder
    (becomes : CellView → CellView) (k : ℕ) (slots now : List CellView) (made ready : List ReadyView) : Type 0 where
  pub cells : AreChangedAt (slots_of (take k made)) becomes slots now
  pub many : length ready ≡ length made
  pub still : (i : ℕ) → k ≤ i → slice_index_or ready i nothing_ready ≡ slice_index_or made i nothing_ready

-- what is ready, without its strips, which were given up
abbrev pub given_up : ReadyView → ReadyView
given_up r = record r { lost = [] }

-- what is ready, once the first k gave their strips up
pub record HaveGiven (k : ℕ) (ready given : List ReadyView) : Type 0 where
  pub many : length given ≡ length ready
  pub done : (i : ℕ) → i < k → slice_index_or given i nothing_ready ≡ given_up (slice_index_or ready i nothing_ready)
  pub left : (i : ℕ) → k ≤ i → slice_index_or given i nothing_ready ≡ slice_index_or ready i nothing_ready
