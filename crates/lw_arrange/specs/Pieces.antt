-- The pieces of the screen that change owner in an arrangement (the manual's Layers Library chapter has clip rectangles; that
-- they are exchanged so is this project's own). Owners are the slots by their numbers, and the desktop by the number of slots.
use Rattle.std.specs.Prelude.{◌≡◌, ℕ, ◌+◌, ◌≤◌, ◌==◌, Bool, not, ◌&&◌, ◌||◌, if◌then◌else◌, List, [], ◌∷◌, ◌++◌, map, ℤ, Option}
use Rattle.std.specs.List.{All, list_any, filter, flat_map, slice_index_or}
use Rattle.std.specs.Option.{is_some}
use Rattle.lw_region.specs.Rectangle.{Rectangle, has_pixel}
use Rattle.lw_region.specs.Pixels.{pixels_of, intersection}
use Rattle.lw_region.specs.Bands.{bands, covers}
use Rattle.lw_region.specs.Banded.{IsCanonical}
use Rattle.lw_machine.specs.Desk.{is_the}
use Rattle.lw_strips.specs.Laying.{screen}
use Rattle.lw_strips.specs.declared.piece.Piece.{Piece}
use Rattle.lw_stack.specs.declared.sets.SlotSet.{SlotSet}
use Rattle.lw_stack.specs.Sets.{set_of, AreOfSlots}
use Rattle.lw_stack.specs.Stack.{Stack, top_in}
use Rattle.lw_arrange.specs.declared.arrangement.Step.{Step}
use Rattle.lw_arrange.specs.declared.arrangement.Step.TheVariants.{Refused, Arranged}

-- of so many slots, the owner has a place where this layer is on top: the layer itself, or on the screen the desktop where none
-- is
abbrev pub is_owner : ℕ → Bool → Option ℕ → ℕ → Bool
is_owner slots on_screen top k = if k == slots then (on_screen && not (is_some top)) else is_the top k

-- owner k has the place
abbrev pub owner_has : Stack → ℕ → ℤ → ℤ → Bool
owner_has v k x y =
    is_owner v.sizes.slots (has_pixel (screen v.sizes.width v.sizes.height) x y) (top_in v x y) k

-- the rectangles of the pieces that one owner loses to another, in their order
abbrev pub between : ℕ → ℕ → List Piece → List Rectangle
between a b pieces = map (λ p. p.rect) (filter (λ p. p.from == a && p.to == b) pieces)

-- the owner loses or gains a piece
abbrev pub exchanges : ℕ → List Piece → Bool
exchanges k pieces = list_any (λ p. p.from == k || p.to == k) pieces

-- From the one list of layers to the other each owner loses to each other owner what the one has before and the other afterwards,
-- as a canonical list, and to itself nothing.
pub record ArePieces (v w : Stack) (pieces : List Piece) : Type 0 where
  pub owners : All (λ p. (p.from ≤ v.sizes.slots) × (p.to ≤ v.sizes.slots)) pieces
  pub canonical : (a b : ℕ) → IsCanonical (between a b pieces)
  pub places : (a b : ℕ) (x y : ℤ) → a ≤ v.sizes.slots → b ≤ v.sizes.slots
      → covers (between a b pieces) x y ≡ (not (a == b) && (owner_has v a x y && owner_has w b x y))

-- so it is with what planning answers, where that is an arrangement
abbrev pub StepHasPieces : Stack → Step → Type 0
StepHasPieces v (Refused r) = Unit {0}
StepHasPieces v (Arranged a) = ArePieces v a.stack a.pieces

-- Words of this crate's private contracts: what is shown within an area of each owner, by slot and, for the desktop, the rest;
-- and the pieces of it that owner a loses to owner b, to all of these owners, and that all of these lose.
abbrev pub owner_in : List (List Rectangle) → List Rectangle → ℕ → List Rectangle
owner_in sets rest k = slice_index_or sets k rest

abbrev pub piece_of : ℕ → ℕ → Rectangle → Piece
piece_of a b r = record { from = a; to = b; rect = r }

abbrev pub pieces_to : ℕ → List Rectangle → ℕ → List Rectangle → List Piece
pieces_to a lost b gained = if a == b then [] else map (piece_of a b) (bands (intersection (pixels_of lost) (pixels_of gained)))

-- slots with what is shown of them, and the desktop with the rest
abbrev pub with_desktop : ℕ → List SlotSet → List Rectangle → List SlotSet
with_desktop slots parts rest = parts ++ record { slot = slots; set = rest } ∷ []

abbrev pub losses_to : ℕ → List Rectangle → List SlotSet → List Piece
losses_to a lost owners = flat_map (λ q. pieces_to a lost q.slot q.set) owners

abbrev pub all_losses : List SlotSet → List SlotSet → List Piece
all_losses losing gaining = flat_map (λ p. losses_to p.slot p.set gaining) losing

-- These owners, each once, have what is shown, and all others nothing.
pub record AreOwnersOf (slots : ℕ) (shown : List (List Rectangle)) (rest : List Rectangle) (owners : List SlotSet) : Type 0 where
  pub once : AreOfSlots (slots + 1) owners
  pub sets : (k : ℕ) → k ≤ slots → set_of owners k ≡ owner_in shown rest k

-- The pieces are those that each owner loses to each other one, by what is shown of it before and afterwards.
pub record AreExchanged (slots : ℕ) (were : List (List Rectangle)) (bare : List Rectangle) (shown : List (List Rectangle))
    (rest : List Rectangle) (pieces : List Piece) : Type 0 where
  pub losing : List SlotSet
  pub gaining : List SlotSet
  pub before : AreOwnersOf slots were bare losing
  pub after : AreOwnersOf slots shown rest gaining
  pub all : pieces ≡ all_losses losing gaining
