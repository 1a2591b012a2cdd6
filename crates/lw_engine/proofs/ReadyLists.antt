-- What is told of all slots, and what is ready for them once a hook was taken from the shelf.
use Rattle.std.proofs.Common.{◌≡◌, ◌≢◌, ℕ, zero, suc, ◌+◌, ◌<◌, ◌≤◌, ◌==◌, Bool, true, false, cond, not, ◌||◌, List, [], ◌∷◌, ◌++◌, map, length, take, get_or, set, Option, Some, None, ◌∙◌, refl, sym, ap, subst, ⊎_elim, arith}
use Rattle.std.specs.Prelude.{if◌then◌else◌}
use Rattle.std.specs.List.{All, filter}
use Rattle.std.specs.Option.{is_some}
use Rattle.std.proofs.lemmas.Bool.{false≢true, cases_eq, eqb-true, ne_eqb}
use Rattle.std.proofs.lemmas.List.{append_assoc, get_or-map, length-map, map_push}
use Rattle.std.proofs.lemmas.List.Elements.{All-nil, All-cons, All-head, All-tail, All-push, All-weaker, filter_more}
use Rattle.lw_region.specs.Rectangle.{Rectangle}
use Rattle.lw_calls.specs.declared.call.Call.{Call}
use Rattle.lw_calls.specs.declared.call.Call.TheVariants.{Create, OpenWindow}
use Rattle.lw_calls.specs.Orders.{occurrences}
use Rattle.lw_machine.specs.Hook.{Hook}
use Rattle.lw_machine.specs.Arrangement.{hook_from}
use Rattle.lw_machine.specs.Reveal.{has_bounds}
use Rattle.lw_layer.specs.View.{State, CellView, hooked}
use Rattle.lw_layer.specs.View as view
use Rattle.lw_layer.specs.Drafts.{no_layer}
use Rattle.lw_layer.specs.Looks.{IsLookAt}
use Rattle.lw_layer.specs.StandsFor.{IsSound}
use Rattle.lw_layer.specs.declared.look.Look.{Look}
use Rattle.lw_stack.specs.Stack.{Stack, bounds_at, IsStack}
use Rattle.lw_arrange.specs.Arrangements.{ArrangementView}
use Rattle.lw_engine.specs.Desks.{cell_at, hook_at}
use Rattle.lw_engine.specs.Slots.{hook_in, asked_hook, slot_after, ReadyView, IsSettledBy, IsSettled, IsReadyFor, IsLeft, nothing_ready}
use Rattle.lw_engine.specs.Arranging.{IsTruth, slots_of, AreFor, AreMade, is_idle, is_concerned, AreReady, AreSettled, given_to, with_taken}
use Rattle.lw_engine.proofs.ArrangingLists.{occurs_before, entry_occurs}
use Rattle.lw_engine.proofs.SettlingLaws.{bare_cell}

-- a look tells nothing of a hook
look_hooked : (h : Option Hook) (c : CellView) (k : Option Look) → IsLookAt c.state c.live k → IsLookAt c.state (hooked h c).live k
look_hooked h c k look = go c.state k look
  where
    go : (s : State) (k : Option Look) → IsLookAt s c.live k → IsLookAt s (hooked h c).live k
    go view.Unopened k look = look
    go view.Live None look = look
    go view.Live (Some k) look = record {
      kind = look.kind;
      backdrop = look.backdrop;
      bounds = look.bounds;
      scroll_x = look.scroll_x;
      scroll_y = look.scroll_y;
      bits_w = look.bits_w;
      bits_h = look.bits_h;
      framed = look.framed;
      owner = look.owner;
      active = look.active;
      updating = look.updating;
    }
    go view.Closed k look = look

-- what is told of a slot's cell is so
pub truth_hooked : (s c : CellView) (k : Option Look) → s ≡ hooked (hook_in s) c → IsLookAt c.state c.live k → (c.state ≡ view.Live → IsSound c.live) → ((c.state ≡ view.Live → ⊥) → c.live ≡ no_layer) → IsTruth s k
truth_hooked s c k is look sound idle =
    let P : CellView → Type 0 = λ v. IsTruth v k in
    let Q : CellView → Type 0 = λ v. IsSound v.live in
    subst P (sym is) (record { look = look_hooked (hook_in s) c k look; sound = λ live. subst Q (bare_cell c sound idle) (sound live) })

-- how often a number stands in two lists, and among those of a list that pass a test
occurs_split : (s : ℕ) (xs ys : List ℕ) → occurrences s (xs ++ ys) ≡ occurrences s xs + occurrences s ys
occurs_split s [] ys = omega arith
occurs_split s (x ∷ xs) ys = let rest = occurs_split s xs ys in omega (arith, rest)

occurs_passed : (p : ℕ → Bool) (s : ℕ) (us : List ℕ) → occurrences s (filter p us) ≡ (if p s then occurrences s us else 0)
occurs_passed p s [] = none (p s)
  where
    none : (t : Bool) → occurrences s [] ≡ (if t then 0 else 0)
    none true = refl
    none false = refl
occurs_passed p s (u ∷ us) = by_test (p u) (p s) (u == s) refl refl refl (occurs_passed p s us)
  where
    by_test : (here there same : Bool) → p u ≡ here → p s ≡ there → (u == s) ≡ same
        → occurrences s (filter p us) ≡ (if there then occurrences s us else 0)
        → occurrences s (cond here (u ∷ filter p us) (filter p us)) ≡ (if there then (if u == s then 1 else 0) + occurrences s us else 0)
    by_test true true same here there is rest = ap (λ n. (if u == s then 1 else 0) + n) rest
    by_test true false true here there is rest = absurd (false≢true (sym there ∙ (ap p (sym (eqb-true u s is)) ∙ here)))
    by_test true false false here there is rest = ap (λ t. (if t then 1 else 0) + occurrences s (filter p us)) is ∙ omega (arith, rest)
    by_test false true true here there is rest = absurd (false≢true (sym here ∙ (ap p (eqb-true u s is) ∙ there)))
    by_test false true false here there is rest =
        rest ∙ (omega arith ∙ ap (λ t. (if t then 1 else 0) + occurrences s us) (sym is))
    by_test false false same here there is rest = rest

-- one slot more is made ready, or left as it is
pub made_more : (a : ArrangementView) (shelf : List (Option Hook)) (slots : List CellView) (us : List ℕ) (made : List ReadyView) (u : ℕ)
    (r : ReadyView) → AreMade a shelf slots us made → u < length slots → r.slot ≡ u → IsReadyFor a shelf (cell_at slots u) r
    → AreMade a shelf slots (us ++ u ∷ []) (made ++ r ∷ [])
made_more a shelf slots us made u r so_far low is one =
    let N : ℕ → Type 0 = λ n. (n < length slots) × IsReadyFor a shelf (cell_at slots n) r in
    record {
      each = All-push (λ q. (q.slot < length slots) × IsReadyFor a shelf (cell_at slots q.slot) q) made r so_far.each (subst N (sym is) (low, one));
      once = λ s. let more = now s in let wanted = occurs_split s us (u ∷ []) in let few = so_far.once s in omega (arith, more, wanted, few);
      others = λ s has none.
          let more = now s in
          let wanted = occurs_split s us (u ∷ []) in
          so_far.others s (omega (arith, has, none, more, wanted)) (omega (arith, none, more));
    }
  where
    now : (s : ℕ) → occurrences s (slots_of (made ++ r ∷ [])) ≡ occurrences s (slots_of made) + occurrences s (u ∷ [])
    now s =
        ap (occurrences s) (map_push (λ (q : ReadyView). q.slot) made r ∙ ap (λ n. slots_of made ++ n ∷ []) is)
        ∙ occurs_split s (slots_of made) (u ∷ [])

pub left_more : (a : ArrangementView) (shelf : List (Option Hook)) (slots : List CellView) (us : List ℕ) (made : List ReadyView) (u : ℕ)
    → AreMade a shelf slots us made → IsLeft a (cell_at slots u) → AreMade a shelf slots (us ++ u ∷ []) made
left_more a shelf slots us made u so_far left = record {
  each = so_far.each;
  once = λ s. let wanted = occurs_split s us (u ∷ []) in let few = so_far.once s in omega (arith, wanted, few);
  others = λ s has none.
      let P : ℕ → Type 0 = λ n. IsLeft a (cell_at slots n) in
      ⊎_elim
      (λ (same : s ≡ u). subst P (sym same) left)
      (λ (other : s ≢ u). let before = occurs_before s u us other in so_far.others s (omega (arith, has, before)) none)
      (cases_eq s u);
}

pub made_as : (a : ArrangementView) (shelf : List (Option Hook)) (slots : List CellView) (us vs : List ℕ) (made : List ReadyView) → us ≡ vs
    → AreMade a shelf slots us made → AreMade a shelf slots vs made
made_as a shelf slots us vs made same so_far = subst (λ l. AreMade a shelf slots l made) same so_far

-- the next slot of a list, which gets bounds or has some already
pub idle_by : (o : Option Rectangle) (none : Bool) → is_some o ≡ not none → not (has_bounds o) ≡ none
idle_by None true is = refl
idle_by None false is = absurd (false≢true is)
idle_by (Some r) true is = absurd (false≢true (sym is))
idle_by (Some r) false is = refl

pub next_idle : (v : Stack) (order : List ℕ) (i : ℕ) (t : Bool) → i < length order → is_idle v (get_or order i 0) ≡ t
    → (v.front_to_back ++ filter (is_idle v) (take i order)) ++ cond t (get_or order i 0 ∷ []) []
    ≡ v.front_to_back ++ filter (is_idle v) (take (i + 1) order)
next_idle v order i t below is =
    append_assoc v.front_to_back (filter (is_idle v) (take i order)) (cond t (get_or order i 0 ∷ []) [])
    ∙ ap (λ l. v.front_to_back ++ l)
    (ap (λ b. filter (is_idle v) (take i order) ++ cond b (get_or order i 0 ∷ []) []) (sym is) ∙ sym (filter_more (is_idle v) order i 0 below))

-- the slots in LayerInfo's list, and those that get bounds, are those with bounds before or afterwards
pub all_ready : (v : Stack) (a : ArrangementView) (shelf : List (Option Hook)) (slots : List CellView) (made : List ReadyView) → IsStack v
    → IsStack a.stack → AreMade a shelf slots (v.front_to_back ++ filter (is_idle v) a.stack.front_to_back) made → AreReady v a shelf slots made
all_ready v a shelf slots made before after so_far = record {
  each = so_far.each;
  once = λ s. let few = so_far.once s in let wanted = listed s in omega (arith, few, wanted);
  others = λ s concerned none.
      let one : occurrences s all ≡ 1 = listed s ∙ ap (λ t. if t then 1 else 0) concerned in
      so_far.others s (omega (arith, one)) none;
}
  where
    by_test : (b c : Bool) (n m : ℕ) → n ≡ (if b then 1 else 0) → m ≡ (if c then 1 else 0)
        → n + (if not b then m else 0) ≡ (if b || c then 1 else 0)
    by_test true c n m was is = omega (arith, was)
    by_test false true n m was is = omega (arith, was, is)
    by_test false false n m was is = omega (arith, was, is)

    all : List ℕ
    all = v.front_to_back ++ filter (is_idle v) a.stack.front_to_back

    listed : (s : ℕ) → occurrences s all ≡ (if is_concerned v a.stack s then 1 else 0)
    listed s =
        occurs_split s v.front_to_back (filter (is_idle v) a.stack.front_to_back)
        ∙ (ap (λ n. occurrences s v.front_to_back + n) (occurs_passed (is_idle v) s a.stack.front_to_back)
        ∙ by_test (has_bounds (bounds_at v.bounds s)) (has_bounds (bounds_at a.stack.bounds s)) (occurrences s v.front_to_back) (occurrences s a.stack.front_to_back) (before.listed s) (after.listed s))

-- the entries of a list, none of which is for a slot
pub others_differ : (ready : List ReadyView) (s i : ℕ) (d : ReadyView) → i < length ready → occurrences s (slots_of ready) ≡ 0
    → ((get_or ready i d).slot == s) ≡ false
others_differ ready s i d below none = ne_eqb (get_or ready i d).slot s (λ same. clash same)
  where
    clash : (get_or ready i d).slot ≡ s → ⊥
    clash same =
        let us = slots_of ready in
        let is : get_or us i 0 ≡ (get_or ready i d).slot = get_or-map (λ (r : ReadyView). r.slot) ready i d 0 below in
        let there = entry_occurs us i 0 (omega (arith, below, length-map ready (λ (r : ReadyView). r.slot))) in
        let here = ap (λ n. occurrences n us) (is ∙ same) in
        omega (arith, there, here, none)

-- the hook is for the first entry for its slot
pub given_at : (ready : List ReadyView) (i slot : ℕ) (h : Option Hook) (d : ReadyView) → i < length ready
    → ((k : ℕ) → k < i → ((get_or ready k nothing_ready).slot == slot) ≡ false) → ((get_or ready i d).slot == slot) ≡ true
    → set ready i (record (get_or ready i d) { taken = h }) ≡ given_to slot h ready
given_at [] i slot h d below none here = absurd (omega arith)
given_at (r ∷ ready) zero slot h d below none here =
    sym (ap (λ t. if t then record r { taken = h } ∷ ready else r ∷ given_to slot h ready) here)
given_at (r ∷ ready) (suc i) slot h d below none here =
    ap (λ l. r ∷ l) (given_at ready i slot h d (omega (arith, below)) (λ k low. none (suc k) (omega (arith, low))) here)
    ∙ sym (ap (λ t. if t then record r { taken = h } ∷ ready else r ∷ given_to slot h ready) (none zero (omega arith)))

pub given_none : (ready : List ReadyView) (slot : ℕ) (h : Option Hook)
    → ((k : ℕ) → k < length ready → ((get_or ready k nothing_ready).slot == slot) ≡ false) → ready ≡ given_to slot h ready
given_none [] slot h none = refl
given_none (r ∷ ready) slot h none =
    ap (λ l. r ∷ l) (given_none ready slot h (λ k low. none (suc k) (omega (arith, low))))
    ∙ sym (ap (λ t. if t then record r { taken = h } ∷ ready else r ∷ given_to slot h ready) (none zero (omega arith)))

-- what doesn't depend on hooks is as before
pub given_keeps : {X : Type 0} (f : ReadyView → X) (slot : ℕ) (h : Option Hook) (ready : List ReadyView) → ((r : ReadyView) → f (record r { taken = h }) ≡ f r)
    → map f (given_to slot h ready) ≡ map f ready
given_keeps f slot h [] keeps = refl
given_keeps f slot h (r ∷ ready) keeps = by_test (r.slot == slot) (given_keeps f slot h ready keeps)
  where
    by_test : (t : Bool) → map f (given_to slot h ready) ≡ map f ready
        → map f (if t then record r { taken = h } ∷ ready else r ∷ given_to slot h ready) ≡ f r ∷ map f ready
    by_test true rest = ap (λ x. x ∷ map f ready) (keeps r)
    by_test false rest = ap (λ l. f r ∷ l) rest

pub taken_keeps : {X : Type 0} (f : ReadyView → X) (shelf : List (Option Hook)) (call : Call) (ready : List ReadyView)
    → ((r : ReadyView) (h : Option Hook) → f (record r { taken = h }) ≡ f r) → map f (with_taken shelf call ready) ≡ map f ready
taken_keeps f shelf (Create slot make) ready keeps =
    given_keeps f slot (hook_from (hook_at shelf) make.hook) ready (λ r. keeps r (hook_from (hook_at shelf) make.hook))
taken_keeps f shelf (OpenWindow slot make framed nocare asks title) ready keeps =
    given_keeps f slot (hook_from (hook_at shelf) make.hook) ready (λ r. keeps r (hook_from (hook_at shelf) make.hook))
taken_keeps f shelf call ready keeps = refl

-- what holds of the entry for a slot once it has its hook, and of the others as they are
given_all : (P : ReadyView → Type 0) (slot : ℕ) (h : Option Hook) (ready : List ReadyView) → occurrences slot (slots_of ready) ≤ 1
    → All (λ r. ((r.slot == slot) ≡ true → P (record r { taken = h })) × ((r.slot == slot) ≡ false → P r)) ready → All P (given_to slot h ready)
given_all P slot h [] once each = All-nil P
given_all P slot h (r ∷ ready) once each =
    by_test (r.slot == slot) refl once (All-head Q r ready each) (All-tail Q r ready each) (λ less. given_all P slot h ready less (All-tail Q r ready each))
  where
    Q : ReadyView → Type 0
    Q q = ((q.slot == slot) ≡ true → P (record q { taken = h })) × ((q.slot == slot) ≡ false → P q)

    by_test : (t : Bool) → (r.slot == slot) ≡ t → (if t then 1 else 0) + occurrences slot (slots_of ready) ≤ 1 → Q r → All Q ready
        → (occurrences slot (slots_of ready) ≤ 1 → All P (given_to slot h ready))
        → All P (if t then record r { taken = h } ∷ ready else r ∷ given_to slot h ready)
    by_test true is once first others rest =
        let none : occurrences slot (slots_of ready) ≡ 0 = omega (arith, once) in
        All-cons P (record r { taken = h }) ready (first.0 is)
        (λ i d below. (others i d below).1 (others_differ ready slot i d below none))
    by_test false is once first others rest = All-cons P r (given_to slot h ready) (first.1 is) (rest (omega (arith, once)))

-- What is ready makes of each slot what the arrangement says, once the slot of a new layer has its hook.
pub ready_taken : (glyphs : List (List ℕ)) (a : ArrangementView) (shelf : List (Option Hook)) (slots : List CellView) (made : List ReadyView)
    → AreFor a shelf slots made → ((s : ℕ) → occurrences s (slots_of made) ≤ 1)
    → AreSettled glyphs (slot_after glyphs a shelf) slots (with_taken shelf a.call made)
ready_taken glyphs a shelf slots made ready once = by_call a.call refl
  where
    Settled : ReadyView → Type 0
    Settled r = (r.slot < length slots) × IsSettled glyphs (cell_at slots r.slot) (slot_after glyphs a shelf (cell_at slots r.slot)) r

    -- a slot for which the call asks for this hook
    asked : (r : ReadyView) (h : Option Hook) → (r.slot < length slots) × IsReadyFor a shelf (cell_at slots r.slot) r
        → asked_hook shelf a.call (cell_at slots r.slot).number ≡ h → Settled (record r { taken = h })
    asked r h one is =
        let c = cell_at slots r.slot in
        let P : Option Hook → Type 0 = λ q. IsSettledBy glyphs c (slot_after glyphs a shelf c) r.gained q r.window r.prepared in
        (one.0, subst P is (one.1.settled glyphs))

    untaken : (r : ReadyView) → (r.slot < length slots) × IsReadyFor a shelf (cell_at slots r.slot) r
        → asked_hook shelf a.call (cell_at slots r.slot).number ≡ None → Settled r
    untaken r one none =
        let c = cell_at slots r.slot in
        let P : Option Hook → Type 0 = λ q. IsSettledBy glyphs c (slot_after glyphs a shelf c) r.gained q r.window r.prepared in
        (one.0, subst P (none ∙ sym one.1.untaken) (one.1.settled glyphs))

    -- a slot in which a layer is created or opened
    opened : (slot : ℕ) (hook : Option ℕ)
        → ((n : ℕ) → asked_hook shelf a.call n ≡ (if n == slot then hook_from (hook_at shelf) hook else None))
        → All Settled (given_to slot (hook_from (hook_at shelf) hook) made)
    opened slot hook is =
        let h = hook_from (hook_at shelf) hook in
        given_all Settled slot h made (once slot)
        (λ i d below.
        let r = get_or made i d in
        let one = ready i d below in
        let asks : asked_hook shelf a.call (cell_at slots r.slot).number ≡ (if r.slot == slot then h else None) =
        is (cell_at slots r.slot).number ∙ ap (λ n. if n == slot then h else None) (sym one.1.slot)
        in (
          λ here. asked r h one (asks ∙ ap (λ t. if t then h else None) here),
          λ other. untaken r one (asks ∙ ap (λ t. if t then h else None) other),
        ))

    by_call : (k : Call) → a.call ≡ k → All Settled (with_taken shelf k made)
    by_call (Create slot make) is = opened slot make.hook (λ n. ap (λ q. asked_hook shelf q n) is)
    by_call (OpenWindow slot make framed nocare asks title) is = opened slot make.hook (λ n. ap (λ q. asked_hook shelf q n) is)
    by_call k is =
        All-weaker (λ r. (r.slot < length slots) × IsReadyFor a shelf (cell_at slots r.slot) r) Settled
        (λ r one. untaken r one (ap (λ q. asked_hook shelf q (cell_at slots r.slot).number) is)) made ready
