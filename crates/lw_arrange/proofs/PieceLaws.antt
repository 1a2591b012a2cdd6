-- The pieces of an area that change owner: what each owner loses to each other one, and that no place has two owners.
use Rattle.std.proofs.Common.{◌≡◌, ℕ, ◌+◌, ◌<◌, ◌≤◌, ◌==◌, Bool, true, false, not, ◌&&◌, ◌||◌, cond, List, [], ◌∷◌, ◌++◌, take, get_or, map, length, ℤ, Option, Some, None, refl, sym, ap, subst, ◌∙◌, inl, inr, arith}
use Rattle.std.specs.Prelude.{if◌then◌else◌}
use Rattle.std.specs.List.{All, filter, flat_map}
use Rattle.std.specs.Option.{is_some}
use Rattle.std.proofs.lemmas.Bool.{false≢true, cases_lt, ne_eqb, eq-eqb, eqb-true, and_parts, and_from, and_right}
use Rattle.std.proofs.lemmas.List.{append-nil, take_all, take_more, flat_map_more, get_or_default, get_or_past}
use Rattle.std.proofs.lemmas.List.Elements.{All-nil, All-cons, All-head, All-tail}
use Rattle.lw_region.specs.Rectangle.{Rectangle, has_pixel}
use Rattle.lw_region.specs.Pixels.{pixels_of, intersection}
use Rattle.lw_region.specs.Bands.{bands, covers}
use Rattle.lw_region.specs.Banded.{IsCanonical}
use Rattle.lw_region.proofs.Canonical.{covers_nil, covers_append}
use Rattle.lw_region.proofs.Disjoint.{has_at}
use Rattle.lw_region.proofs.SetOps.{combined_lists, covers_one, canonical_bands, canonical_nil, canonical_empty}
use Rattle.lw_calls.specs.declared.sizes.Sizes.{Sizes}
use Rattle.lw_machine.specs.Desk.{is_the}
use Rattle.lw_machine.specs.Screen.{screen_bounds}
use Rattle.lw_strips.specs.Laying.{screen, LiesIn}
use Rattle.lw_strips.specs.declared.piece.Piece.{Piece}
use Rattle.lw_cliprects.specs.Parts.{LieIn}
use Rattle.lw_stack.specs.declared.sets.SlotSet.{SlotSet}
use Rattle.lw_stack.specs.Sets.{set_of, sets_of, AreOfOthers, AreOfSlots}
use Rattle.lw_stack.proofs.SetsLaws.{slots_more, set_more, set_in, past_none}
use Rattle.lw_stack.specs.Stack.{Stack, first_at, top_in, AreShownIn, LieApart}
use Rattle.lw_stack.proofs.FirstLaws.{top_on_screen}
use Rattle.lw_arrange.specs.Pieces.{is_owner, owner_has, between, ArePieces, owner_in, piece_of, pieces_to, with_desktop, losses_to, all_losses, AreOwnersOf, AreExchanged}

-- the places that both lists have
abbrev common : List Rectangle → List Rectangle → List Rectangle
common a b = bands (intersection (pixels_of a) (pixels_of b))

common_places : (a b : List Rectangle) (x y : ℤ) → covers (common a b) x y ≡ (covers a x y && covers b x y)
common_places a b x y = (combined_lists.intersections a b (common a b) refl).pixels x y

nothing_common : (a b : List Rectangle) → ((x y : ℤ) → (covers a x y && covers b x y) ≡ false) → common a b ≡ []
nothing_common a b none = canonical_empty (common a b) (canonical_bands _) (λ x y. common_places a b x y ∙ none x y)

-- between owners that have no place in common there is no piece; so an owner that had nothing loses nothing
pub nothing_shared : (a b : ℕ) (lost gained : List Rectangle) → ((x y : ℤ) → (covers lost x y && covers gained x y) ≡ false)
    → pieces_to a lost b gained ≡ []
nothing_shared a b lost gained none = by_test (a == b) (nothing_common lost gained none)
  where
    by_test : (t : Bool) → common lost gained ≡ [] → (if t then [] else map (piece_of a b) (common lost gained)) ≡ []
    by_test true none = refl
    by_test false none = ap (map (piece_of a b)) none

nothing_lost : (a b : ℕ) (lost gained : List Rectangle) → lost ≡ [] → pieces_to a lost b gained ≡ []
nothing_lost a b lost gained empty =
    nothing_shared a b lost gained
    (λ x y. ap (λ l. covers l x y && covers gained x y) empty ∙ ap (λ t. t && covers gained x y) (covers_nil x y))

-- a list that shares no place with another, and no place with one rectangle more
neither : (a b c : Bool) → (a && b) ≡ false → (a && c) ≡ false → (a && (b || c)) ≡ false
neither true true c one other = one
neither true false c one other = other
neither false b c one other = refl

pub shares_none : (lost : List Rectangle) (x y : ℤ) → (covers lost x y && covers [] x y) ≡ false
shares_none lost x y = and_right (covers lost x y) (covers [] x y) (covers_nil x y)

pub shares_no_more : (lost rects : List Rectangle) (k : ℕ) (r : Rectangle) → k < length rects → r ≡ get_or rects k r
    → ((x y : ℤ) → (covers lost x y && covers (take k rects) x y) ≡ false) → LieApart lost r
    → (x y : ℤ) → (covers lost x y && covers (take (k + 1) rects) x y) ≡ false
shares_no_more lost rects k r below is before apart x y =
    ap (λ l. covers lost x y && covers l x y) (take_more rects k r below ∙ ap (λ q. take k rects ++ q ∷ []) (sym is))
    ∙ (ap (λ t. covers lost x y && t) (covers_append (take k rects) (r ∷ []) x y ∙ ap (λ t. covers (take k rects) x y || t) (covers_one r x y))
    ∙ neither (covers lost x y) (covers (take k rects) x y) (has_pixel r x y) (before x y) (apart x y))

pub no_losses : (a : ℕ) (lost : List Rectangle) (owners : List SlotSet) → lost ≡ [] → losses_to a lost owners ≡ []
no_losses a lost [] empty = refl
no_losses a lost (q ∷ owners) empty =
    ap (λ l. l ++ losses_to a lost owners) (nothing_lost a q.slot lost q.set empty) ∙ no_losses a lost owners empty

pub none_more : (ps qs : List Piece) → qs ≡ [] → ps ≡ ps ++ qs
none_more ps qs none = sym (ap (λ l. ps ++ l) none ∙ append-nil ps)

-- the pieces of one owner more, and of the desktop after all slots
pub gathered_more : (f : SlotSet → List Piece) (parts : List SlotSet) (i : ℕ) (p : SlotSet) (before now after : List Piece)
    → i < length parts → p ≡ get_or parts i p → now ≡ before ++ flat_map f (take i parts) → after ≡ now ++ f p
    → after ≡ before ++ flat_map f (take (i + 1) parts)
gathered_more f parts i p before now after below is so_far more =
    more
    ∙ (ap (λ l. l ++ f p) so_far
    ∙ (flat_map_more f before (take i parts) p
    ∙ ap (λ l. before ++ flat_map f l) (ap (λ q. take i parts ++ q ∷ []) is ∙ sym (take_more parts i p below))))

pub gathered_all : (f : SlotSet → List Piece) (parts : List SlotSet) (i : ℕ) (p : SlotSet) (before now after : List Piece)
    → length parts ≤ i → now ≡ before ++ flat_map f (take i parts) → after ≡ now ++ f p
    → after ≡ before ++ flat_map f (parts ++ p ∷ [])
gathered_all f parts i p before now after end so_far more =
    more
    ∙ (ap (λ l. l ++ f p) (so_far ∙ ap (λ l. before ++ flat_map f l) (take_all i parts end))
    ∙ flat_map_more f before parts p)

pub nothing_to_itself : (a b : ℕ) (lost gained : List Rectangle) → a ≡ b → pieces_to a lost b gained ≡ []
nothing_to_itself a b lost gained same =
    ap (λ t. if t then [] else map (piece_of a b) (common lost gained)) (eq-eqb a b same)

-- pieces of two lists
rects_on : (p : Piece) (t : Bool) (xs ys : List Piece) (zs : List Rectangle) → map (λ q. q.rect) xs ≡ map (λ q. q.rect) ys ++ zs
    → map (λ q. q.rect) (cond t (p ∷ xs) xs) ≡ map (λ q. q.rect) (cond t (p ∷ ys) ys) ++ zs
rects_on p true xs ys zs is = ap (λ l. p.rect ∷ l) is
rects_on p false xs ys zs is = is

between_append : (a b : ℕ) (ps qs : List Piece) → between a b (ps ++ qs) ≡ between a b ps ++ between a b qs
between_append a b [] qs = refl
between_append a b (p ∷ ps) qs =
    rects_on p (p.from == a && p.to == b) (filter (λ q. q.from == a && q.to == b) (ps ++ qs))
    (filter (λ q. q.from == a && q.to == b) ps) (between a b qs) (between_append a b ps qs)

-- the pieces of one pair of owners, and those of another pair
between_own : (a b : ℕ) (rs : List Rectangle) → between a b (map (piece_of a b) rs) ≡ rs
between_own a b [] = refl
between_own a b (r ∷ rs) =
    let left = filter (λ q. q.from == a && q.to == b) (map (piece_of a b) rs) in
    ap (λ t. map (λ q. q.rect) (cond t (piece_of a b r ∷ left) left)) (and_from (a == a) (b == b) (eq-eqb a a refl) (eq-eqb b b refl))
    ∙ ap (λ l. r ∷ l) (between_own a b rs)

between_other : (a b c d : ℕ) (rs : List Rectangle) → (c == a && d == b) ≡ false → between a b (map (piece_of c d) rs) ≡ []
between_other a b c d [] other = refl
between_other a b c d (r ∷ rs) other =
    let left = filter (λ q. q.from == a && q.to == b) (map (piece_of c d) rs) in
    ap (λ t. map (λ q. q.rect) (cond t (piece_of c d r ∷ left) left)) other ∙ between_other a b c d rs other

pair_own : (a b : ℕ) (lost gained : List Rectangle) → between a b (pieces_to a lost b gained) ≡ (if a == b then [] else common lost gained)
pair_own a b lost gained = by_test (a == b)
  where
    by_test : (t : Bool) → between a b (if t then [] else map (piece_of a b) (common lost gained)) ≡ (if t then [] else common lost gained)
    by_test true = refl
    by_test false = between_own a b (common lost gained)

pair_other : (a b c : ℕ) (lost : List Rectangle) (d : ℕ) (gained : List Rectangle) → (c == a && d == b) ≡ false
    → between a b (pieces_to c lost d gained) ≡ []
pair_other a b c lost d gained other = by_test (c == d)
  where
    by_test : (t : Bool) → between a b (if t then [] else map (piece_of c d) (common lost gained)) ≡ []
    by_test true = refl
    by_test false = between_other a b c d (common lost gained) other

-- of all pieces, those of no pair, and those of one
gather_none : (a b : ℕ) (f : SlotSet → List Piece) (ps : List SlotSet) → ((p : SlotSet) → between a b (f p) ≡ [])
    → between a b (flat_map f ps) ≡ []
gather_none a b f [] none = refl
gather_none a b f (p ∷ ps) none =
    between_append a b (f p) (flat_map f ps)
    ∙ (ap (λ l. l ++ between a b (flat_map f ps)) (none p) ∙ gather_none a b f ps none)

gather_others : (a b key : ℕ) (f : SlotSet → List Piece) (ps : List SlotSet)
    → ((p : SlotSet) → (p.slot == key) ≡ false → between a b (f p) ≡ []) → AreOfOthers key ps → between a b (flat_map f ps) ≡ []
gather_others a b key f [] none h = refl
gather_others a b key f (p ∷ ps) none h =
    between_append a b (f p) (flat_map f ps)
    ∙ (ap (λ l. l ++ between a b (flat_map f ps)) (none p h.0) ∙ gather_others a b key f ps none h.1)

gather_one : (a b key n : ℕ) (f : SlotSet → List Piece) (g : List Rectangle → List Rectangle) (ps : List SlotSet)
    → ((p : SlotSet) → (p.slot == key) ≡ false → between a b (f p) ≡ [])
    → ((p : SlotSet) → p.slot ≡ key → between a b (f p) ≡ g p.set) → g [] ≡ [] → AreOfSlots n ps
    → between a b (flat_map f ps) ≡ g (set_of ps key)
gather_one a b key n f g [] others own none h = sym none
gather_one a b key n f g (p ∷ ps) others own none h =
    between_append a b (f p) (flat_map f ps) ∙ by_test (p.slot == key) refl (gather_one a b key n f g ps others own none h.2)
  where
    by_test : (t : Bool) → (p.slot == key) ≡ t → between a b (flat_map f ps) ≡ g (set_of ps key)
        → between a b (f p) ++ between a b (flat_map f ps) ≡ g (if t then p.set else set_of ps key)
    by_test true is rest =
        let same = eqb-true p.slot key is in
        ap (λ l. between a b (f p) ++ l) (gather_others a b key f ps others (subst (λ k. AreOfOthers k ps) same h.1))
        ∙ (append-nil (between a b (f p)) ∙ own p same)
    by_test false is rest = ap (λ l. l ++ between a b (flat_map f ps)) (others p is) ∙ rest

-- what one owner loses to another one: to itself nothing
abbrev pair_of : ℕ → ℕ → List Rectangle → List Rectangle → List Rectangle
pair_of a b lost gained = if a == b then [] else common lost gained

pair_of_none : (a b : ℕ) (lost gained : List Rectangle) → ((x y : ℤ) → (covers lost x y && covers gained x y) ≡ false)
    → pair_of a b lost gained ≡ []
pair_of_none a b lost gained none = by_test (a == b)
  where
    by_test : (t : Bool) → (if t then [] else common lost gained) ≡ []
    by_test true = refl
    by_test false = nothing_common lost gained none

lost_none : (a b : ℕ) (gained : List Rectangle) → pair_of a b [] gained ≡ []
lost_none a b gained = pair_of_none a b [] gained (λ x y. ap (λ t. t && covers gained x y) (covers_nil x y))

gained_none : (a b : ℕ) (lost : List Rectangle) → pair_of a b lost [] ≡ []
gained_none a b lost =
    pair_of_none a b lost [] (λ x y. ap (λ t. covers lost x y && t) (covers_nil x y) ∙ and_right (covers lost x y) false refl)

all_between : (n m : ℕ) (losing gaining : List SlotSet) → AreOfSlots n losing → AreOfSlots m gaining → (a b : ℕ)
    → between a b (all_losses losing gaining) ≡ pair_of a b (set_of losing a) (set_of gaining b)
all_between n m losing gaining h k a b =
    gather_one a b a n (λ p. losses_to p.slot p.set gaining) (λ l. pair_of a b l (set_of gaining b)) losing
    (λ p off. gather_none a b (λ q. pieces_to p.slot p.set q.slot q.set) gaining
    (λ q. pair_other a b p.slot p.set q.slot q.set (ap (λ t. t && (q.slot == b)) off)))
    (λ p is. gather_one a b b m (λ q. pieces_to p.slot p.set q.slot q.set) (λ l. pair_of a b p.set l) gaining
    (λ q off. pair_other a b p.slot p.set q.slot q.set (and_right (p.slot == a) (q.slot == b) off))
    (λ q at. ap (λ c. between a b (pieces_to c p.set q.slot q.set)) is
    ∙ (ap (λ d. between a b (pieces_to a p.set d q.set)) at ∙ pair_own a b p.set q.set)) (gained_none a b p.set) k)
    (lost_none a b (set_of gaining b)) h

-- what holds of the pieces of each pair holds of all
from_between : (P : Piece → Type 0) (ps : List Piece) → ((a b : ℕ) → All (λ r. P (piece_of a b r)) (between a b ps)) → All P ps
from_between P [] each = All-nil P
from_between P (p ∷ ps) each =
    All-cons P p ps
    (first p.from p.to (filter (λ q. q.from == p.from && q.to == p.to) ps) (p.from == p.from && p.to == p.to)
    (and_from (p.from == p.from) (p.to == p.to) (eq-eqb p.from p.from refl) (eq-eqb p.to p.to refl)) (each p.from p.to))
    (from_between P ps (λ a b. rest a b (filter (λ q. q.from == a && q.to == b) ps) (p.from == a && p.to == b) (each a b)))
  where
    first : (a b : ℕ) (left : List Piece) (t : Bool) → t ≡ true
        → All (λ r. P (piece_of a b r)) (map (λ q. q.rect) (cond t (p ∷ left) left)) → P (piece_of a b p.rect)
    first a b left true is all = All-head (λ r. P (piece_of a b r)) p.rect (map (λ q. q.rect) left) all
    first a b left false is all = absurd (false≢true is)

    rest : (a b : ℕ) (left : List Piece) (t : Bool) → All (λ r. P (piece_of a b r)) (map (λ q. q.rect) (cond t (p ∷ left) left))
        → All (λ r. P (piece_of a b r)) (map (λ q. q.rect) left)
    rest a b left true all = All-tail (λ r. P (piece_of a b r)) p.rect (map (λ q. q.rect) left) all
    rest a b left false all = all

-- what is told of slots and of the desktop is told of all owners
fewer_slots : (n m : ℕ) (ps : List SlotSet) → n ≤ m → AreOfSlots n ps → AreOfSlots m ps
fewer_slots n m [] most h = tt
fewer_slots n m (p ∷ ps) most h = (omega (arith, most, h.0), h.1, fewer_slots n m ps most h.2)

of_slots : (n : ℕ) (ps : List SlotSet) → AreOfSlots n ps → AreOfOthers n ps
of_slots n [] h = tt
of_slots n (p ∷ ps) h = (ne_eqb p.slot n (λ same. absurd (omega (arith, same, h.0))), of_slots n ps h.2)

pub owners_of : (slots : ℕ) (sets : List (List Rectangle)) (rest : List Rectangle) (parts : List SlotSet) → length sets ≡ slots
    → AreOfSlots (length sets) parts → sets ≡ sets_of (length sets) parts → AreOwnersOf slots sets rest (with_desktop slots parts rest)
owners_of slots sets rest parts many h is = record {
  once = slots_more (slots + 1) parts desktop (fewer_slots slots (slots + 1) parts (omega arith) low) (omega arith) others;
  sets = λ k most.
      set_more slots parts desktop k others refl
      ∙ elim (cases_lt k slots) [
        | inl below ↦ ap (λ t. if t then rest else set_of parts k) (ne_eqb slots k (λ same. absurd (omega (arith, same, below))))
            ∙ (sym (set_in (length sets) parts k h)
            ∙ (ap (λ l. get_or l k []) (sym is) ∙ sym (get_or_default sets k rest [] (omega (arith, below, many)))))
        | inr past ↦ ap (λ t. if t then rest else set_of parts k) (eq-eqb slots k (omega (arith, past, most)))
            ∙ sym (get_or_past sets k rest (omega (arith, past, many)))
      ];
}
  where
    desktop : SlotSet
    desktop = record { slot = slots; set = rest }

    low : AreOfSlots slots parts
    low = subst (λ n. AreOfSlots n parts) many h

    others : AreOfOthers slots parts
    others = of_slots slots parts low

-- the pieces of each pair of owners
module _ (slots : ℕ) (were : List (List Rectangle)) (bare : List Rectangle) (sets : List (List Rectangle)) (rest : List Rectangle)
    (pieces : List Piece) (h : AreExchanged slots were bare sets rest pieces) where
  pairs : (a b : ℕ) → between a b pieces ≡ pair_of a b (set_of h.losing a) (set_of h.gaining b)
  pairs a b = ap (between a b) h.all ∙ all_between (slots + 1) (slots + 1) h.losing h.gaining h.before.once h.after.once a b

  pair_between : (a b : ℕ) → a ≤ slots → b ≤ slots → between a b pieces ≡ pair_of a b (owner_in were bare a) (owner_in sets rest b)
  pair_between a b one other =
      pairs a b
      ∙ (ap (λ l. pair_of a b l (set_of h.gaining b)) (h.before.sets a one) ∙ ap (λ l. pair_of a b (owner_in were bare a) l) (h.after.sets b other))

  no_loser : (a b : ℕ) → slots + 1 ≤ a → between a b pieces ≡ []
  no_loser a b past =
      pairs a b ∙ (ap (λ l. pair_of a b l (set_of h.gaining b)) (past_none (slots + 1) h.losing a h.before.once past) ∙ lost_none a b _)

  no_gainer : (a b : ℕ) → slots + 1 ≤ b → between a b pieces ≡ []
  no_gainer a b past =
      pairs a b ∙ (ap (λ l. pair_of a b (set_of h.losing a) l) (past_none (slots + 1) h.gaining b h.after.once past) ∙ gained_none a b _)

  pairs_canonical : (a b : ℕ) → IsCanonical (between a b pieces)
  pairs_canonical a b = subst IsCanonical (sym (pairs a b)) (by_test (a == b))
    where
      by_test : (t : Bool) → IsCanonical (if t then [] else common (set_of h.losing a) (set_of h.gaining b))
      by_test true = canonical_nil
      by_test false = canonical_bands _

  -- what holds of the rectangles of each pair holds of all pieces
  all_hold : (P : Piece → Type 0)
      → ((a b : ℕ) → a ≤ slots → b ≤ slots → All (λ r. P (piece_of a b r)) (common (owner_in were bare a) (owner_in sets rest b)))
      → All P pieces
  all_hold P each =
      from_between P pieces
      (λ a b. elim (cases_lt a (slots + 1)) [
        | inl one ↦ elim (cases_lt b (slots + 1)) [
          | inl other ↦ subst (λ l. All (λ r. P (piece_of a b r)) l)
              (sym (pair_between a b (omega (arith, one)) (omega (arith, other))))
              (by_test a b (a == b) (each a b (omega (arith, one)) (omega (arith, other))))
          | inr past ↦ subst (λ l. All (λ r. P (piece_of a b r)) l) (sym (no_gainer a b past)) (All-nil _)
        ]
        | inr past ↦ subst (λ l. All (λ r. P (piece_of a b r)) l) (sym (no_loser a b past)) (All-nil _)
      ])
    where
      by_test : (a b : ℕ) (t : Bool) → All (λ r. P (piece_of a b r)) (common (owner_in were bare a) (owner_in sets rest b))
          → All (λ r. P (piece_of a b r)) (if t then [] else common (owner_in were bare a) (owner_in sets rest b))
      by_test a b true all = All-nil _
      by_test a b false all = all

-- no place has two owners
bare_or_top : (on : Bool) (o : Option ℕ) (b : ℕ) → ((on && not (is_some o)) && is_the o b) ≡ false
bare_or_top on None b = and_right (on && true) false refl
bare_or_top on (Some m) b = ap (λ t. t && (m == b)) (and_right on false refl)

top_or_bare : (on : Bool) (o : Option ℕ) (a : ℕ) → (is_the o a && (on && not (is_some o))) ≡ false
top_or_bare on None a = refl
top_or_bare on (Some m) a = and_right (m == a) (on && false) (and_right on false refl)

top_once : (o : Option ℕ) (a b : ℕ) → (a == b) ≡ false → (is_the o a && is_the o b) ≡ false
top_once None a b other = refl
top_once (Some m) a b other = by_test (m == a) refl
  where
    by_test : (t : Bool) → (m == a) ≡ t → (t && (m == b)) ≡ false
    by_test true is = ap (λ k. k == b) (eqb-true m a is) ∙ other
    by_test false is = refl

one_owner : (slots : ℕ) (on : Bool) (o : Option ℕ) (a b : ℕ) → (a == b) ≡ false → (is_owner slots on o a && is_owner slots on o b) ≡ false
one_owner slots on o a b other = by_test (a == slots) (b == slots) refl refl
  where
    bare : Bool
    bare = on && not (is_some o)

    by_test : (s t : Bool) → (a == slots) ≡ s → (b == slots) ≡ t → ((if s then bare else is_the o a) && (if t then bare else is_the o b)) ≡ false
    by_test true true is was = absurd (false≢true (sym other ∙ eq-eqb a b (eqb-true a slots is ∙ sym (eqb-true b slots was))))
    by_test true false is was = bare_or_top on o b
    by_test false true is was = top_or_bare on o a
    by_test false false is was = top_once o a b other

-- What is shown within an area of each owner of a list.
pub record AreOwnersIn (area : List Rectangle) (v : Stack) (sets : List (List Rectangle)) (rest : List Rectangle) : Type 0 where
  pub many : length v.bounds ≡ v.sizes.slots
  pub shown : AreShownIn area v.bounds v.front_to_back sets
  pub left : (x y : ℤ) → covers rest x y ≡ (covers area x y && not (is_some (first_at v.bounds v.front_to_back x y)))

-- within places of the screen, the first layer of the list is the top
pub first_is_top : (v : Stack) (x y : ℤ) (on : Bool) (test : Option ℕ → Bool)
    → (on ≡ true → has_pixel (screen_bounds v.sizes) x y ≡ true)
    → (on && test (first_at v.bounds v.front_to_back x y)) ≡ (on && test (top_in v x y))
first_is_top v x y true test inside = ap test (sym (top_on_screen v x y (inside refl)))
first_is_top v x y false test inside = refl

with_screen : (a on n : Bool) → (a ≡ true → on ≡ true) → (a && n) ≡ (a && (on && n))
with_screen false on n inside = refl
with_screen true on n inside = ap (λ b. b && n) (sym (inside refl))

owner_places : (area : List Rectangle) (v : Stack) (sets : List (List Rectangle)) (rest : List Rectangle) → AreOwnersIn area v sets rest
    → LieIn (screen_bounds v.sizes) area → (k : ℕ) → k ≤ v.sizes.slots → (x y : ℤ)
    → covers (owner_in sets rest k) x y ≡ (covers area x y && owner_has v k x y)
owner_places area v sets rest h inside k most x y =
    elim (cases_lt k v.sizes.slots) [
      | inl below ↦ let listed : k < length v.bounds = omega (arith, below, h.many) in
          let held : k < length sets = omega (arith, listed, h.shown.many) in
          ap (λ l. covers l x y) (get_or_default sets k rest [] held)
          ∙ (h.shown.places k x y listed
          ∙ (first_is_top v x y (covers area x y) (λ o. is_the o k) (inside x y)
          ∙ ap (λ t. covers area x y && (if t then bare else is_the top k)) (sym (ne_eqb k v.sizes.slots (λ same. absurd (omega (arith, below, same)))))))
      | inr past ↦ let last : length sets ≤ k = omega (arith, past, h.many, h.shown.many) in
          ap (λ l. covers l x y) (get_or_past sets k rest last)
          ∙ (h.left x y
          ∙ (first_is_top v x y (covers area x y) (λ o. not (is_some o)) (inside x y)
          ∙ (with_screen (covers area x y) (has_pixel (screen v.sizes.width v.sizes.height) x y) (not (is_some top)) (inside x y)
          ∙ ap (λ t. covers area x y && (if t then bare else is_the top k)) (sym (eq-eqb k v.sizes.slots (omega (arith, past, most)))))))
    ]
  where
    top : Option ℕ
    top = top_in v x y

    bare : Bool
    bare = has_pixel (screen v.sizes.width v.sizes.height) x y && not (is_some top)

-- what the one has before and the other afterwards, within the area and everywhere
in_area : (a h k : Bool) → (a ≡ false → (h && k) ≡ false) → ((a && h) && (a && k)) ≡ (h && k)
in_area false h k none = sym (none refl)
in_area true h k none = refl

-- The pieces of an area, outside which the same layer is on top before and after, are those of the whole screen.
pub are_pieces : (v w : Stack) (area : List Rectangle) (were : List (List Rectangle)) (bare : List Rectangle) (sets : List (List Rectangle))
    (rest : List Rectangle) (slots : ℕ) (pieces : List Piece) → slots ≡ v.sizes.slots → w.sizes ≡ v.sizes → AreOwnersIn area v were bare
    → AreOwnersIn area w sets rest → LieIn (screen_bounds v.sizes) area
    → ((x y : ℤ) → covers area x y ≡ false → top_in v x y ≡ top_in w x y)
    → AreExchanged slots were bare sets rest pieces → ArePieces v w pieces
are_pieces v w area were bare sets rest slots pieces count same before after inside elsewhere h = record {
  owners = all_hold slots were bare sets rest pieces h (λ p. (p.from ≤ v.sizes.slots) × (p.to ≤ v.sizes.slots))
      (λ a b one other k d below. (omega (arith, one, count), omega (arith, other, count)));
  canonical = pairs_canonical slots were bare sets rest pieces h;
  places = λ a b x y one other.
      ap (λ l. covers l x y)
      (pair_between slots were bare sets rest pieces h a b (omega (arith, one, count)) (omega (arith, other, count)))
      ∙ by_test a b x y (a == b) refl one other;
}
  where
    inside_after : LieIn (screen_bounds w.sizes) area
    inside_after = subst (λ z. LieIn (screen_bounds z) area) (sym same) inside

    apart : (a b : ℕ) (x y : ℤ) → (a == b) ≡ false → covers area x y ≡ false → (owner_has v a x y && owner_has w b x y) ≡ false
    apart a b x y other off =
        ap (λ o. is_owner v.sizes.slots (has_pixel (screen v.sizes.width v.sizes.height) x y) o a && owner_has w b x y) (elsewhere x y off)
        ∙ (ap (λ (z : Sizes). is_owner z.slots (has_pixel (screen z.width z.height) x y) (top_in w x y) a && owner_has w b x y) (sym same)
        ∙ one_owner w.sizes.slots (has_pixel (screen w.sizes.width w.sizes.height) x y) (top_in w x y) a b other)

    by_test : (a b : ℕ) (x y : ℤ) (t : Bool) → (a == b) ≡ t → a ≤ v.sizes.slots → b ≤ v.sizes.slots
        → covers (if t then [] else common (owner_in were bare a) (owner_in sets rest b)) x y ≡ (not t && (owner_has v a x y && owner_has w b x y))
    by_test a b x y true own one other = covers_nil x y
    by_test a b x y false own one other =
        let fits : b ≤ w.sizes.slots = subst (λ (z : Sizes). b ≤ z.slots) (sym same) other in
        common_places (owner_in were bare a) (owner_in sets rest b) x y
        ∙ (ap (λ t. t && covers (owner_in sets rest b) x y) (owner_places area v were bare before inside a one x y)
        ∙ (ap (λ t. (covers area x y && owner_has v a x y) && t) (owner_places area w sets rest after inside_after b fits x y)
        ∙ in_area (covers area x y) (owner_has v a x y) (owner_has w b x y) (apart a b x y own)))

-- and they lie on the screen
pub pieces_on_screen : (v : Stack) (area : List Rectangle) (were : List (List Rectangle)) (bare : List Rectangle) (sets : List (List Rectangle))
    (rest : List Rectangle) (slots : ℕ) (pieces : List Piece) → slots ≡ v.sizes.slots → AreOwnersIn area v were bare
    → LieIn (screen_bounds v.sizes) area → AreExchanged slots were bare sets rest pieces
    → All (λ p. LiesIn p.rect (screen v.sizes.width v.sizes.height)) pieces
pieces_on_screen v area were bare sets rest slots pieces count before inside h =
    all_hold slots were bare sets rest pieces h (λ p. LiesIn p.rect (screen v.sizes.width v.sizes.height))
    (λ a b one other k d below x y has.
    let both = and_parts (covers (owner_in were bare a) x y) (covers (owner_in sets rest b) x y)
    (sym (common_places (owner_in were bare a) (owner_in sets rest b) x y) ∙ has_at (common (owner_in were bare a) (owner_in sets rest b)) k d x y below has) in
    inside x y
    (and_parts (covers area x y) (owner_has v a x y)
    (sym (owner_places area v were bare before inside a (omega (arith, one, count)) x y) ∙ both.0)).0)
