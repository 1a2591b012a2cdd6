-- What the slots give up, claim and become for which something is ready, and that all others have no part in an arrangement.
use Rattle.std.proofs.Common.{◌≡◌, ℕ, ◌+◌, ◌<◌, ◌≤◌, ◌==◌, Bool, true, false, not, ◌&&◌, ◌||◌, cond, List, [], ◌∷◌, map, length, get_or, ℤ, Option, Some, None, ◌⊎◌, inl, inr, refl, sym, ap, subst, ◌∙◌, ⊎_elim, arith}
use Rattle.std.specs.Prelude.{if◌then◌else◌}
use Rattle.std.specs.List.{All, filter, sum_by}
use Rattle.std.proofs.Math.Bool.{and-true}
use Rattle.std.proofs.lemmas.Bool.{false≢true, eq-eqb, eqb-true, and_right}
use Rattle.std.proofs.lemmas.List.Elements.{All-head, All-tail, All-weaker}
use Rattle.lw_region.specs.Rectangle.{Rectangle}
use Rattle.lw_region.proofs.SetOps.{canonical_empty}
use Rattle.lw_calls.specs.declared.sizes.Sizes.{Sizes}
use Rattle.lw_calls.specs.Orders.{occurrences}
use Rattle.lw_machine.specs.Hook.{Hook}
use Rattle.lw_machine.specs.Reveal.{has_bounds}
use Rattle.lw_machine.specs.Screen.{bounds_have}
use Rattle.lw_strips.specs.Strips.{StripView, rects_of}
use Rattle.lw_strips.specs.Pools.{copies, copies_in}
use Rattle.lw_strips.specs.Exchange.{lost_by, gained_by, lost_rects, gained_rects, pieces_of, total}
use Rattle.lw_strips.specs.declared.piece.Piece.{Piece}
use Rattle.lw_strips.proofs.ExchangeLaws.{exchange}
use Rattle.lw_layer.specs.View.{State, CellView}
use Rattle.lw_layer.specs.View as view
use Rattle.lw_stack.specs.Stack.{Stack, bounds_at}
use Rattle.lw_stack.proofs.FirstLaws.{not_top}
use Rattle.lw_arrange.specs.Arrangements.{ArrangementView}
use Rattle.lw_arrange.specs.Exchanged.{HasPieces}
use Rattle.lw_arrange.specs.Pieces.{owner_has, between, exchanges, ArePieces}
use Rattle.lw_arrange.specs.Prepared.{without_layer}
use Rattle.lw_arrange.specs.Settled.{settled_by}
use Rattle.lw_arrange.proofs.DesktopLaws.{blank_rects}
use Rattle.lw_arrange.proofs.KeptPlaces.{none_lost, none_gained, slot_owner_has}
use Rattle.lw_engine.specs.Desks.{cell_at, AreNumbered}
use Rattle.lw_engine.specs.Slots.{asked_hook, slot_after, ReadyView, IsLeft}
use Rattle.lw_engine.specs.Arranging.{AreListed, slots_of, is_concerned, AreReady, AreSettled, with_taken, given_up, AreChanged, AreChangedAt}
use Rattle.lw_engine.proofs.ReadyLists.{ready_taken}
use Rattle.lw_engine.proofs.ExchangeSums.{total_more, total_lost, strips_many, lost_counted, ready_total, given_slots, given_claims, taken_sum, given_settled, enough_claims, last_claims, owners_below}

-- an owner of which there is no piece
no_first : (t : Bool) (p : Piece) (left : List Piece) → map (λ (q : Piece). q.rect) (cond t (p ∷ left) left) ≡ [] → t ≡ false
no_first true p left none = absurd (cc (none))
no_first false p left none = refl

less_first : (t : Bool) (p : Piece) (left : List Piece) → map (λ (q : Piece). q.rect) (cond t (p ∷ left) left) ≡ []
    → map (λ (q : Piece). q.rect) left ≡ []
less_first true p left none = absurd (cc (none))
less_first false p left none = none

nothing_lost : (a n : ℕ) (pieces : List Piece) → All (λ p. p.to ≤ n) pieces → ((b : ℕ) → b ≤ n → between a b pieces ≡ []) → lost_rects a pieces ≡ []
nothing_lost a n [] owners none = refl
nothing_lost a n (p ∷ pieces) owners none =
    let test : (p.from == a && p.to == p.to) ≡ false =
    no_first (p.from == a && p.to == p.to) p (filter (λ q. q.from == a && q.to == p.to) pieces) (none p.to (All-head (λ q. q.to ≤ n) p pieces owners)) in
    let other : (p.from == a) ≡ false = sym (and-true (p.from == a)) ∙ (ap (λ t. p.from == a && t) (sym (eq-eqb p.to p.to refl)) ∙ test) in
    ap (λ t. map (λ (q : Piece). q.rect) (cond t (p ∷ filter (λ q. q.from == a) pieces) (filter (λ q. q.from == a) pieces))) other
    ∙ nothing_lost a n pieces (All-tail (λ q. q.to ≤ n) p pieces owners)
    (λ b low. less_first (p.from == a && p.to == b) p (filter (λ q. q.from == a && q.to == b) pieces) (none b low))

nothing_gained : (b n : ℕ) (pieces : List Piece) → All (λ p. p.from ≤ n) pieces → ((a : ℕ) → a ≤ n → between a b pieces ≡ []) → gained_rects b pieces ≡ []
nothing_gained b n [] owners none = refl
nothing_gained b n (p ∷ pieces) owners none =
    let test : (p.from == p.from && p.to == b) ≡ false =
    no_first (p.from == p.from && p.to == b) p (filter (λ q. q.from == p.from && q.to == b) pieces) (none p.from (All-head (λ q. q.from ≤ n) p pieces owners)) in
    let other : (p.to == b) ≡ false = ap (λ t. t && p.to == b) (sym (eq-eqb p.from p.from refl)) ∙ test in
    ap (λ t. map (λ (q : Piece). q.rect) (cond t (p ∷ filter (λ q. q.to == b) pieces) (filter (λ q. q.to == b) pieces))) other
    ∙ nothing_gained b n pieces (All-tail (λ q. q.from ≤ n) p pieces owners)
    (λ a low. less_first (p.from == a && p.to == b) p (filter (λ q. q.from == a && q.to == b) pieces) (none a low))

-- a slot without bounds has no places
without_places : (v : Stack) (s : ℕ) (x y : ℤ) → s < v.sizes.slots → bounds_at v.bounds s ≡ None → owner_has v s x y ≡ false
without_places v s x y low none = slot_owner_has v s x y low ∙ not_top v s x y (ap (λ o. bounds_have o x y) none)

-- the parts of the exchange that the slots have for which something is ready
module _ (v : Stack) (a : ArrangementView) (shelf : List (Option Hook)) (slots : List CellView) (made : List ReadyView)
    (numbered : AreNumbered v.sizes.slots slots) (sizes : a.stack.sizes ≡ v.sizes) (pieces : ArePieces v a.stack a.pieces)
    (listed : AreListed v slots) (ready : AreReady v a shelf slots made) where
  ready_once : (s : ℕ) → occurrences s (slots_of made) ≤ 1
  ready_once s = by_test (is_concerned v a.stack s) (ready.once s)
    where
      by_test : (t : Bool) → occurrences s (slots_of made) ≤ (if t then 1 else 0) → occurrences s (slots_of made) ≤ 1
      by_test true is = omega (arith, is)
      by_test false is = omega (arith, is)

  -- a slot for which nothing is ready has no bounds before and afterwards, or is left as it is
  unready : (s : ℕ) → occurrences s (slots_of made) ≡ 0
      → ((bounds_at v.bounds s ≡ None) × (bounds_at a.stack.bounds s ≡ None)) ⊎ IsLeft a (cell_at slots s)
  unready s none = by_bounds (bounds_at v.bounds s) (bounds_at a.stack.bounds s) (λ concerned. ready.others s concerned none)
    where
      by_bounds : (o p : Option Rectangle) → ((has_bounds o || has_bounds p) ≡ true → IsLeft a (cell_at slots s))
          → ((o ≡ None) × (p ≡ None)) ⊎ IsLeft a (cell_at slots s)
      by_bounds None None left = inl (refl, refl)
      by_bounds None (Some r) left = inr (left refl)
      by_bounds (Some r) p left = inr (left refl)

  slots_same : a.stack.sizes.slots ≡ v.sizes.slots
  slots_same = ap (λ (z : Sizes). z.slots) sizes

  -- a slot that is left as it is has no pieces
  left_out : (s : ℕ) → s < v.sizes.slots → IsLeft a (cell_at slots s) → exchanges s a.pieces ≡ false
  left_out s low left = ap (λ n. exchanges n a.pieces) (sym (numbered.numbers s low)) ∙ left.unexchanged

  idle_lost : (s : ℕ) → s < v.sizes.slots → occurrences s (slots_of made) ≡ 0 → lost_rects s a.pieces ≡ []
  idle_lost s low none =
      ⊎_elim
      (λ idle.
      nothing_lost s v.sizes.slots a.pieces
      (All-weaker (λ p. (p.from ≤ v.sizes.slots) × (p.to ≤ v.sizes.slots)) (λ p. p.to ≤ v.sizes.slots) (λ p both. both.1) a.pieces pieces.owners)
      (λ b below. canonical_empty (between s b a.pieces) (pieces.canonical s b)
      (λ x y. pieces.places s b x y (omega (arith, low)) below
      ∙ and_right (not (s == b)) _ (ap (λ t. t && owner_has a.stack b x y) (without_places v s x y low idle.0)))))
      (λ left. none_lost s a.pieces (left_out s low left)) (unready s none)

  idle_gained : (s : ℕ) → s < v.sizes.slots → occurrences s (slots_of made) ≡ 0 → gained_rects s a.pieces ≡ []
  idle_gained s low none =
      ⊎_elim
      (λ idle.
      nothing_gained s v.sizes.slots a.pieces
      (All-weaker (λ p. (p.from ≤ v.sizes.slots) × (p.to ≤ v.sizes.slots)) (λ p. p.from ≤ v.sizes.slots) (λ p both. both.0) a.pieces pieces.owners)
      (λ b below. canonical_empty (between b s a.pieces) (pieces.canonical b s)
      (λ x y. pieces.places b s x y below (omega (arith, low))
      ∙ and_right (not (b == s)) _ (and_right (owner_has v b x y) _ (without_places a.stack s x y (omega (arith, low, slots_same)) idle.1)))))
      (λ left. none_gained s a.pieces (left_out s low left)) (unready s none)

  -- each has what the plan says of its slot
  has_pieces : (i : ℕ) (d : ReadyView) → i < length made → ((get_or made i d).slot < v.sizes.slots)
      × HasPieces (get_or made i d).slot a.stack.sizes.depth a.pieces (get_or made i d).lost (get_or made i d).claims
  has_pieces i d below =
      let r = get_or made i d in
      let one = ready.each i d below in
      let P : ℕ → Type 0 = λ n. HasPieces n a.stack.sizes.depth a.pieces r.lost r.claims in
      (omega (arith, one.0, numbered.many), subst P (sym one.1.slot) one.1.pieces)

  lost_are : (i : ℕ) (d : ReadyView) → i < length made → rects_of (get_or made i d).lost ≡ lost_rects (get_or made i d).slot a.pieces
  lost_are i d below = ap rects_of (has_pieces i d below).1.lost ∙ blank_rects a.stack.sizes.depth (lost_rects (get_or made i d).slot a.pieces)

  lost_sum : (r : Rectangle) → sum_by (λ q. copies_in r q.lost) made ≡ total v.sizes.slots (λ s. lost_by r s a.pieces)
  lost_sum r =
      ready_total (λ q. copies_in r q.lost) v.sizes.slots made (λ s. lost_by r s a.pieces)
      (λ i d below. ((has_pieces i d below).0, lost_counted r (get_or made i d).slot a.pieces (get_or made i d).lost (lost_are i d below)))
      ready_once
      (λ s low none. sym (exchange.lost r s a.pieces) ∙ ap (copies r) (idle_lost s low none))

  lost_many : sum_by (λ q. length q.lost) made ≡ total v.sizes.slots (λ s. length (lost_rects s a.pieces))
  lost_many =
      ready_total (λ q. length q.lost) v.sizes.slots made (λ s. length (lost_rects s a.pieces))
      (λ i d below. ((has_pieces i d below).0, strips_many (get_or made i d).slot a.pieces (get_or made i d).lost (lost_are i d below)))
      ready_once
      (λ s low none. ap length (idle_lost s low none))

  claims_sum : (r : Rectangle) → sum_by (λ q. copies r q.claims) made ≡ total v.sizes.slots (λ s. gained_by r s a.pieces)
  claims_sum r =
      ready_total (λ q. copies r q.claims) v.sizes.slots made (λ s. gained_by r s a.pieces)
      (λ i d below.
      ((has_pieces i d below).0, ap (copies r) (has_pieces i d below).1.gained ∙ exchange.gained r (get_or made i d).slot a.pieces))
      ready_once
      (λ s low none. sym (exchange.gained r s a.pieces) ∙ ap (copies r) (idle_gained s low none))

  owners : All (λ p. p.from < v.sizes.slots + 1) a.pieces × All (λ p. p.to < v.sizes.slots + 1) a.pieces
  owners = owners_below v.sizes.slots a.pieces pieces.owners

  -- what is ready, once the hook was taken for the slot of a new layer, and once all strips were given up
  abbrev pub taken : List ReadyView
  taken = with_taken shelf a.call made

  abbrev pub given : List ReadyView
  given = map given_up taken

  pub room_for_all : (bare : List StripView) (spare : ℕ) → rects_of bare ≡ lost_rects v.sizes.slots a.pieces → length a.pieces ≤ spare
      → sum_by (λ q. length q.lost) taken + length bare ≤ spare
  room_for_all bare spare is enough =
      let n = v.sizes.slots in
      let same = taken_sum (λ q. length q.lost) shelf a.call made (λ q h. refl) in
      let slots_lose = lost_many in
      let whole = total_lost a.pieces (n + 1) owners.0 in
      let next = total_more n (λ o. length (lost_rects o a.pieces)) in
      let last = strips_many n a.pieces bare is in
      omega (arith, same, slots_lose, whole, next, last, enough)

  pub all_pieces : (r : Rectangle) (bare : List StripView) (pool : ℕ) → rects_of bare ≡ lost_rects v.sizes.slots a.pieces
      → pool ≡ sum_by (λ q. copies_in r q.lost) taken + copies_in r bare → pool ≡ pieces_of r a.pieces
  all_pieces r bare pool is numbers =
      let n = v.sizes.slots in
      let same = taken_sum (λ q. copies_in r q.lost) shelf a.call made (λ q h. refl) in
      let slots_lose = lost_sum r in
      let whole = exchange.losses a.pieces (n + 1) r owners.0 in
      let next = total_more n (λ o. lost_by r o a.pieces) in
      let last = lost_counted r n a.pieces bare is in
      omega (arith, same, slots_lose, whole, next, last, numbers)

  claimed : (r : Rectangle) → sum_by (λ q. copies r q.claims) given ≡ total v.sizes.slots (λ s. gained_by r s a.pieces)
  claimed r = given_claims r shelf a.call made ∙ claims_sum r

  pub enough_pieces : (r : Rectangle) (pool : ℕ) → pool ≡ pieces_of r a.pieces → sum_by (λ q. copies r q.claims) given ≤ pool
  enough_pieces r pool is =
      let all = claimed r in
      let enough = enough_claims r v.sizes.slots a.pieces pool owners.1 is in
      omega (arith, all, enough)

  pub last_pieces : (r : Rectangle) (pool left : ℕ) → pool ≡ pieces_of r a.pieces → pool ≡ left + sum_by (λ q. copies r q.claims) given
      → left ≡ gained_by r v.sizes.slots a.pieces
  last_pieces r pool left is step =
      last_claims r v.sizes.slots a.pieces pool left owners.1 is (step ∙ ap (λ n. left + n) (claimed r))

  pub settled_then : (glyphs : List (List ℕ)) → AreSettled glyphs (slot_after glyphs a shelf) slots given
  settled_then glyphs =
      given_settled glyphs (slot_after glyphs a shelf) slots taken (ready_taken glyphs a shelf slots made ready.each ready_once)

  pub once_then : (s : ℕ) → occurrences s (slots_of given) ≤ 1
  once_then s = let same = ap (occurrences s) (given_slots shelf a.call made) in let once = ready_once s in omega (arith, same, once)

  -- a slot for which nothing is ready stays as it is
  still_after : (glyphs : List (List ℕ)) (s : ℕ) → s < length slots → occurrences s (slots_of made) ≡ 0
      → cell_at slots s ≡ slot_after glyphs a shelf (cell_at slots s)
  still_after glyphs s below none =
      ⊎_elim (λ idle. by_state c.state (never idle.0) ∙ sym (gone idle.1)) (λ left. sym (left.still glyphs shelf)) (unready s none)
    where
      c : CellView
      c = cell_at slots s

      gone : bounds_at a.stack.bounds s ≡ None → slot_after glyphs a shelf c ≡ without_layer c c.state
      gone after =
          ap (settled_by glyphs a (asked_hook shelf a.call c.number) c)
          (ap (bounds_at a.stack.bounds) (numbered.numbers s (omega (arith, numbered.many, below))) ∙ after)

      never : bounds_at v.bounds s ≡ None → c.state ≡ view.Live → ⊥
      never before live = false≢true (ap has_bounds (sym before ∙ listed s below live))

      by_state : (q : State) → (q ≡ view.Live → ⊥) → c ≡ without_layer c q
      by_state view.Unopened live = refl
      by_state view.Live live = absurd (live refl)
      by_state view.Closed live = refl

  pub changed_then : (glyphs : List (List ℕ)) (new : List CellView)
      → AreChangedAt (slots_of given) (slot_after glyphs a shelf) slots new → AreChanged (slot_after glyphs a shelf) slots new
  changed_then glyphs new changed = record {
    many = changed.many;
    each = λ s below. changed.each s ∙ by_test s below (occurrences s (slots_of given) == 0) refl;
  }
    where
      by_test : (s : ℕ) → s < length slots → (t : Bool) → (occurrences s (slots_of given) == 0) ≡ t
          → (if t then cell_at slots s else slot_after glyphs a shelf (cell_at slots s)) ≡ slot_after glyphs a shelf (cell_at slots s)
      by_test s below true is =
          still_after glyphs s below (sym (ap (occurrences s) (given_slots shelf a.call made)) ∙ eqb-true (occurrences s (slots_of given)) 0 is)
      by_test s below false is = refl
