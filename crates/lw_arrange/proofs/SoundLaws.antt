-- What a call that isn't refused makes of a list of layers is one.
use Rattle.std.proofs.Common.{◌≡◌, ℕ, ◌+◌, ◌<◌, ◌==◌, Bool, true, false, not, ◌&&◌, nat_lt, ℤ, pos, negsuc, ◌≤ℤ◌, List, ◌∷◌, length, Option, Some, None, IsTrue, refl, sym, ap, subst, ◌∙◌, arith}
use Rattle.std.specs.Prelude.{if◌then◌else◌, int_le}
use Rattle.std.specs.List.{slice_index_or, slice_set}
use Rattle.std.proofs.lemmas.Int.{ints}
use Rattle.std.proofs.lemmas.List.{get_or-set_same, get_or-set_other, length-set}
use Rattle.std.proofs.lemmas.Bool.{and_parts, ltb-true, false≢true, eqb-true, eq-eqb, not-true, not-false}
use Rattle.lw_region.specs.Rectangle.{Rectangle, columns_of, rows_of, IsWord}
use Rattle.lw_region.proofs.Within.{within_low, within_high}
use Rattle.lw_calls.specs.declared.sizes.Sizes.{Sizes}
use Rattle.lw_calls.specs.declared.make.Make.{Make}
use Rattle.lw_calls.specs.declared.call.Call.{Call}
use Rattle.lw_calls.specs.declared.call.Call.TheVariants.{Create, OpenWindow, Close, ToFront, ToBack, InFrontOf, MoveBy, SizeBy, SetBox, Activate}
use Rattle.lw_calls.specs.declared.reply.Reply.{Reply}
use Rattle.lw_calls.specs.declared.reply.Reply.TheVariants.{NotOpen, AlreadyOpen, Backdrop, OutOfBounds}
use Rattle.lw_calls.specs.Limits.{call_fits, make_fits, is_coordinate, coordinates_fit, is_extent, window_fits}
use Rattle.lw_calls.specs.Orders.{occurrences}
use Rattle.lw_machine.specs.Reveal.{has_bounds}
use Rattle.lw_machine.specs.Arrangement.{has_coordinates, may_lie_at, is_at_least, bounds_of, without, put_before, placed}
use Rattle.lw_machine.specs.Step.{refuse}
use Rattle.lw_machine.proofs.ListSound.{occurrences_put_before, occurrences_placed, occurrences_without_same, occurrences_without_other, occurrences_moved}
use Rattle.lw_machine.proofs.ArrangementSound.{unrefused}
use Rattle.lw_layer.specs.declared.look.Look.{Look}
use Rattle.lw_stack.specs.Stack.{Stack, bounds_at, IsPlacedOn, IsStack}
use Rattle.lw_arrange.specs.declared.asked_bounds.Needs.{Needs}
use Rattle.lw_arrange.specs.AskedBounds.{IsRect, may_lie, needs_of, new_needs, changed_by}
use Rattle.lw_arrange.specs.Planning.{look_is, is_backdrop_at, placed_look, live_at, is_free_at, may_change, creation_refused, change_refused, refused, changed_bounds, with_new, without_slot, with_order, with_change, with_front, with_pair, with_activated, stack_after, IsChangeRect, HasNewRect}

-- a slot that isn't refused as not open has bounds
live_has_bounds : (b : Option Rectangle) (k : Option Look) → look_is (λ l. true) (placed_look b k) ≡ true → has_bounds b ≡ true
live_has_bounds None k h = absurd (false≢true h)
live_has_bounds (Some r) k h = refl

pub reordering_bounds : (v : Stack) (looks : List (Option Look)) (s : ℕ) (next : Option Reply)
    → refuse (not (look_is (λ l. true) (live_at v looks s))) NotOpen next ≡ None → has_bounds (bounds_at v.bounds s) ≡ true
reordering_bounds v looks s next e =
    live_has_bounds (bounds_at v.bounds s) (slice_index_or looks s None) (not-false _ (unrefused _ NotOpen next e).0)

-- bounds that a layer may have lie where one may and are in order
lying_on : (s : Sizes) (n : Needs) (r : Rectangle) → may_lie s n r ≡ true → IsPlacedOn s (Some r)
unfolding is_at_least
lying_on s n r may =
    let first = and_parts (may_lie_at s r && is_at_least (pos 1) (pos 1) r) _ may in
    let parts = and_parts (may_lie_at s r) (is_at_least (pos 1) (pos 1) r) first.0 in
    let size = and_parts (int_le (pos 1) (columns_of r)) (int_le (pos 1) (rows_of r)) parts.1 in
    let columns : pos 1 ≤ℤ columns_of r = grind (arith, ints) in
    let rows : pos 1 ≤ℤ rows_of r = grind (arith, ints) in
    (record { columns = omega (arith, ints); rows = omega (arith, ints) }, parts.0)

-- so they are those of a rectangle
coordinate_word : (z : ℤ) → is_coordinate z ≡ true → IsWord z
coordinate_word z h = (within_low (negsuc 32767) z (pos 32767) h, within_high (negsuc 32767) z (pos 32767) h)

rect_on : (s : Sizes) (r : Rectangle) → IsPlacedOn s (Some r) → IsRect r
unfolding may_lie_at has_coordinates
rect_on s r on =
    let corners = and_parts (coordinates_fit r.min_x r.min_y) (coordinates_fit r.max_x r.max_y) (and_parts (has_coordinates r) _ on.1).0 in
    let first = and_parts (is_coordinate r.min_x) (is_coordinate r.min_y) corners.0 in
    let last = and_parts (is_coordinate r.max_x) (is_coordinate r.max_y) corners.1 in
    record {
      ordered = on.0;
      words = record {
        left = coordinate_word r.min_x first.0;
        top = coordinate_word r.min_y first.1;
        right = coordinate_word r.max_x last.0;
        bottom = coordinate_word r.max_y last.1;
      };
    }

-- a creation that isn't refused
creation_free : (v : Stack) (fresh : Bool) (s : ℕ) (make : Make) (framed : Bool)
    → creation_refused v fresh s make framed ≡ None
    → (has_bounds (bounds_at v.bounds s) ≡ false) × IsPlacedOn v.sizes (Some (bounds_of make))
creation_free v fresh s make framed e =
    let first = unrefused (not (is_free_at v fresh s)) AlreadyOpen _ e in
    let free = and_parts fresh (not (has_bounds (bounds_at v.bounds s))) (not-false _ first.0) in
    let second = unrefused (not (may_lie v.sizes (new_needs make framed) (bounds_of make))) OutOfBounds None first.1 in
    (not-true (has_bounds (bounds_at v.bounds s)) free.1, lying_on v.sizes (new_needs make framed) (bounds_of make) (not-false _ second.0))

-- a change that isn't refused
change_on : (v : Stack) (k : Option Look) (call : Call) (b : Option Rectangle) → may_change v k call b ≡ true
    → IsPlacedOn v.sizes (changed_bounds call b)
change_on v k call None may = tt
change_on v None call (Some r) may = absurd (false≢true may)
change_on v (Some l) call (Some r) may = lying_on v.sizes (needs_of l) (changed_by call r) may

change_placed : (v : Stack) (looks : List (Option Look)) (s : ℕ) (call : Call) → change_refused v looks s call ≡ None
    → IsPlacedOn v.sizes (changed_bounds call (bounds_at v.bounds s))
change_placed v looks s call e =
    let k = live_at v looks s in
    let first = unrefused _ NotOpen _ e in
    let second = unrefused (look_is (λ l. l.backdrop) k) Backdrop _ first.1 in
    let third = unrefused (not (may_change v k call (bounds_at v.bounds s))) OutOfBounds None second.1 in
    change_on v k call (bounds_at v.bounds s) (not-false _ third.0)

change_rect : (v : Stack) (call : Call) (b : Option Rectangle) → IsPlacedOn v.sizes (changed_bounds call b)
    → IsChangeRect call b
change_rect v call None on = tt
change_rect v call (Some r) on = rect_on v.sizes (changed_by call r) on

-- The bounds that a call gives a layer which isn't refused are those of a rectangle.
pub new_rect : (v : Stack) (looks : List (Option Look)) (fresh : Bool) (task : ℕ) (call : Call)
    → refused v looks fresh task call ≡ None → HasNewRect v call
new_rect v looks fresh task (Create slot make) e = rect_on v.sizes (bounds_of make) (creation_free v fresh slot make false e).1
new_rect v looks fresh task (OpenWindow slot make framed nocare asks title) e =
    rect_on v.sizes (bounds_of make) (creation_free v fresh slot make framed e).1
new_rect v looks fresh task (MoveBy slot dx dy) e =
    change_rect v (MoveBy slot dx dy) (bounds_at v.bounds slot) (change_placed v looks slot (MoveBy slot dx dy) e)
new_rect v looks fresh task (SizeBy slot dw dh) e =
    change_rect v (SizeBy slot dw dh) (bounds_at v.bounds slot) (change_placed v looks slot (SizeBy slot dw dh) e)
new_rect v looks fresh task (SetBox slot x y w h) e =
    change_rect v (SetBox slot x y w h) (bounds_at v.bounds slot) (change_placed v looks slot (SetBox slot x y w h) e)
new_rect v looks fresh task call e = tt

-- the bounds of all slots, with those of one changed
pub bounds_set : (bounds : List (Option Rectangle)) (s t : ℕ) (b : Option Rectangle) → s < length bounds
    → bounds_at (slice_set bounds s b) t ≡ (if t == s then b else bounds_at bounds t)
bounds_set bounds s t b low = by_test (t == s) refl
  where
    by_test : (same : Bool) → (t == s) ≡ same → bounds_at (slice_set bounds s b) t ≡ (if same then b else bounds_at bounds t)
    by_test true e = ap (bounds_at (slice_set bounds s b)) (eqb-true t s e) ∙ get_or-set_same bounds s b None low
    by_test false e = get_or-set_other bounds s t b None (λ same. false≢true (sym e ∙ eq-eqb t s same))

-- A list of layers with a slot's bounds changed and another order, in which each slot with bounds stands once and no other.
with_bounds_sound : (v : Stack) (order : List ℕ) (active : Option ℕ) (s : ℕ) (b : Option Rectangle) → IsStack v
    → s < length v.bounds → IsPlacedOn v.sizes b
    → ((t : ℕ) → occurrences t order ≡ (if has_bounds (if t == s then b else bounds_at v.bounds t) then 1 else 0))
    → IsStack (record v { front_to_back = order; bounds = slice_set v.bounds s b; active = active })
with_bounds_sound v order active s b ok low on listed =
    record {
      limits = ok.limits;
      many = length-set v.bounds s b ∙ ok.many;
      listed = λ t. listed t ∙ ap (λ o. if has_bounds o then 1 else 0) (sym (bounds_set v.bounds s t b low));
      placed =
          λ t. let P : Option Rectangle → Type 0 = IsPlacedOn v.sizes in subst P (sym (bounds_set v.bounds s t b low))
          (by_test t (t == s));
    }
  where
    by_test : (t : ℕ) (same : Bool) → IsPlacedOn v.sizes (if same then b else bounds_at v.bounds t)
    by_test t true = on
    by_test t false = ok.placed t

-- a list of layers in another order
with_order_sound : (v : Stack) (order : List ℕ) → IsStack v → ((t : ℕ) → occurrences t order ≡ occurrences t v.front_to_back)
    → IsStack (with_order v order)
with_order_sound v order ok same =
    record { limits = ok.limits; many = ok.many; listed = λ t. same t ∙ ok.listed t; placed = ok.placed }

-- how often a slot stands in a list, by whether it is the one that is told
count_at : (s t : ℕ) (us : List ℕ) (b old : Option Rectangle) (n : ℕ) → (t == s ≡ true → n ≡ (if has_bounds b then 1 else 0))
    → (t == s ≡ false → n ≡ (if has_bounds old then 1 else 0)) → n ≡ (if has_bounds (if t == s then b else old) then 1 else 0)
count_at s t us b old n same other = by_test (t == s) refl
  where
    by_test : (e : Bool) → (t == s) ≡ e → n ≡ (if has_bounds (if e then b else old) then 1 else 0)
    by_test true e = same e
    by_test false e = other e

-- equality of numbers is the same both ways
pub eqb_swapped : (s t : ℕ) (b : Bool) → (t == s) ≡ b → (s == t) ≡ b
eqb_swapped s t true e = eq-eqb s t (sym (eqb-true t s e))
eqb_swapped s t false e = by_test (s == t) refl
  where
    by_test : (b : Bool) → (s == t) ≡ b → (s == t) ≡ false
    by_test true f = absurd (false≢true (sym e ∙ eq-eqb t s (sym (eqb-true s t f))))
    by_test false f = f

-- one where it is so
abbrev one_if : Bool → ℕ
one_if b = if b then 1 else 0

-- a new layer
new_sound : (v : Stack) (looks : List (Option Look)) (s : ℕ) (make : Make) → IsStack v → s < length v.bounds
    → has_bounds (bounds_at v.bounds s) ≡ false → IsPlacedOn v.sizes (Some (bounds_of make))
    → IsStack (with_new v looks s make)
new_sound v looks s make ok low free on =
    with_bounds_sound v order v.active s (Some (bounds_of make)) ok low on
    (λ t. count_at s t v.front_to_back (Some (bounds_of make)) (bounds_at v.bounds t) (occurrences t order) (here t) (there t))
  where
    order : List ℕ
    order = placed (is_backdrop_at looks) make.backdrop make.place s v.front_to_back

    count : (t : ℕ) → occurrences t order ≡ (if s == t then 1 else 0) + occurrences t v.front_to_back
    count t = occurrences_placed (is_backdrop_at looks) make.backdrop make.place s t v.front_to_back

    here : (t : ℕ) → (t == s) ≡ true → occurrences t order ≡ 1
    here t e =
        let none : occurrences t v.front_to_back ≡ 0 =
        ok.listed t ∙ ap one_if (ap (λ n. has_bounds (bounds_at v.bounds n)) (eqb-true t s e) ∙ free) in
        let more : one_if (s == t) ≡ one_if true = ap one_if (eqb_swapped s t true e) in
        let all = count t in
        omega (arith, none, more, all)

    there : (t : ℕ) → (t == s) ≡ false → occurrences t order ≡ (if has_bounds (bounds_at v.bounds t) then 1 else 0)
    there t e =
        let more : one_if (s == t) ≡ one_if false = ap one_if (eqb_swapped s t false e) in
        let all = count t in
        let same : occurrences t order ≡ occurrences t v.front_to_back = omega (arith, more, all) in
        same ∙ ok.listed t

-- one layer less
without_sound : (v : Stack) (s : ℕ) → IsStack v → s < length v.bounds → IsStack (without_slot v s)
without_sound v s ok low =
    with_bounds_sound v (without s v.front_to_back) (without_slot v s).active s None ok low tt
    (λ t. count_at s t v.front_to_back None (bounds_at v.bounds t) (occurrences t (without s v.front_to_back)) (here t) (there t))
  where
    here : (t : ℕ) → (t == s) ≡ true → occurrences t (without s v.front_to_back) ≡ 0
    here t e = ap (λ n. occurrences n (without s v.front_to_back)) (eqb-true t s e) ∙ occurrences_without_same s v.front_to_back

    there : (t : ℕ) → (t == s) ≡ false
        → occurrences t (without s v.front_to_back) ≡ (if has_bounds (bounds_at v.bounds t) then 1 else 0)
    there t e = occurrences_without_other s t v.front_to_back (eqb_swapped s t false e) ∙ ok.listed t

-- a slot with bounds stands in the list once
once : (v : Stack) (s : ℕ) → IsStack v → has_bounds (bounds_at v.bounds s) ≡ true → occurrences s v.front_to_back ≡ 1
once v s ok has = ok.listed s ∙ ap (λ b. if b then 1 else 0) has

-- a layer in front, behind, and in front of another
front_sound : (v : Stack) (s : ℕ) → IsStack v → has_bounds (bounds_at v.bounds s) ≡ true → IsStack (with_front v s)
front_sound v s ok has =
    with_order_sound v (s ∷ without s v.front_to_back) ok (λ t. occurrences_moved s t v.front_to_back (once v s ok has))

before_sound : (v : Stack) (test : ℕ → Bool) (s : ℕ) → IsStack v → has_bounds (bounds_at v.bounds s) ≡ true
    → IsStack (with_order v (put_before test s (without s v.front_to_back)))
before_sound v test s ok has =
    with_order_sound v (put_before test s (without s v.front_to_back)) ok
    (λ t. occurrences_put_before test s t (without s v.front_to_back) ∙ occurrences_moved s t v.front_to_back (once v s ok has))

pair_sound : (v : Stack) (s other : ℕ) → IsStack v → has_bounds (bounds_at v.bounds s) ≡ true → IsStack (with_pair v s other)
pair_sound v s other ok has = by_test (s == other)
  where
    by_test : (b : Bool) → IsStack (if b then v else with_order v (put_before (λ t. t == other) s (without s v.front_to_back)))
    by_test true = ok
    by_test false = before_sound v (λ t. t == other) s ok has

-- other bounds of a layer
changed_has : (call : Call) (b : Option Rectangle) → has_bounds (changed_bounds call b) ≡ has_bounds b
changed_has call None = refl
changed_has call (Some r) = refl

change_sound : (v : Stack) (s : ℕ) (call : Call) → IsStack v → s < length v.bounds
    → IsPlacedOn v.sizes (changed_bounds call (bounds_at v.bounds s)) → IsStack (with_change v s call)
change_sound v s call ok low on =
    with_bounds_sound v v.front_to_back v.active s (changed_bounds call (bounds_at v.bounds s)) ok low on
    (λ t. count_at s t v.front_to_back (changed_bounds call (bounds_at v.bounds s)) (bounds_at v.bounds t)
    (occurrences t v.front_to_back) (here t) (λ e. ok.listed t))
  where
    here : (t : ℕ) → (t == s) ≡ true
        → occurrences t v.front_to_back ≡ (if has_bounds (changed_bounds call (bounds_at v.bounds s)) then 1 else 0)
    here t e =
        ok.listed t ∙ ap (λ b. if b then 1 else 0)
        (ap (λ n. has_bounds (bounds_at v.bounds n)) (eqb-true t s e) ∙ sym (changed_has call (bounds_at v.bounds s)))

-- another active window
activated_sound : (v : Stack) (s : ℕ) → IsStack v → IsStack (with_activated v s)
activated_sound v s ok = record { limits = ok.limits; many = ok.many; listed = ok.listed; placed = ok.placed }

-- a slot of a call that fits has an entry among the bounds
pub entry_low : (v : Stack) (s : ℕ) (rest : Bool) → IsStack v → IsTrue (nat_lt s v.sizes.slots && rest) → s < length v.bounds
entry_low v s rest ok fits =
    let low = ltb-true s v.sizes.slots (and_parts (nat_lt s v.sizes.slots) rest fits).0 in omega (arith, low, ok.many)

only_low : (v : Stack) (s : ℕ) → IsStack v → IsTrue (nat_lt s v.sizes.slots) → s < length v.bounds
only_low v s ok fits = let low = ltb-true s v.sizes.slots fits in omega (arith, low, ok.many)

-- What a call that isn't refused makes of a list of layers is one.
pub after_sound : (v : Stack) (looks : List (Option Look)) (fresh : Bool) (task : ℕ) (call : Call) → IsStack v
    → IsTrue (call_fits v.sizes call) → refused v looks fresh task call ≡ None → IsStack (stack_after v looks call)
after_sound v looks fresh task (Create slot make) ok fits e =
    let free = creation_free v fresh slot make false e in
    new_sound v looks slot make ok (entry_low v slot (make_fits v.sizes make) ok fits) free.0 free.1
after_sound v looks fresh task (OpenWindow slot make framed nocare asks title) ok fits e =
    let free = creation_free v fresh slot make framed e in
    new_sound v looks slot make ok
    (entry_low v slot (make_fits v.sizes make && window_fits make framed asks) ok fits) free.0 free.1
after_sound v looks fresh task (Close slot) ok fits e = without_sound v slot ok (only_low v slot ok fits)
after_sound v looks fresh task (ToFront slot) ok fits e = front_sound v slot ok (reordering_bounds v looks slot _ e)
after_sound v looks fresh task (ToBack slot) ok fits e =
    before_sound v (is_backdrop_at looks) slot ok (reordering_bounds v looks slot _ e)
after_sound v looks fresh task (InFrontOf slot other) ok fits e = pair_sound v slot other ok (reordering_bounds v looks slot _ e)
after_sound v looks fresh task (MoveBy slot dx dy) ok fits e =
    change_sound v slot (MoveBy slot dx dy) ok (entry_low v slot (coordinates_fit dx dy) ok fits)
    (change_placed v looks slot (MoveBy slot dx dy) e)
after_sound v looks fresh task (SizeBy slot dw dh) ok fits e =
    change_sound v slot (SizeBy slot dw dh) ok (entry_low v slot (coordinates_fit dw dh) ok fits)
    (change_placed v looks slot (SizeBy slot dw dh) e)
after_sound v looks fresh task (SetBox slot x y w h) ok fits e =
    change_sound v slot (SetBox slot x y w h) ok (entry_low v slot (coordinates_fit x y && (is_extent w && is_extent h)) ok fits)
    (change_placed v looks slot (SetBox slot x y w h) e)
after_sound v looks fresh task (Activate slot) ok fits e = activated_sound v slot ok
after_sound v looks fresh task call ok fits e = ok
