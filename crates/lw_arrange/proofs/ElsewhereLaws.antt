-- Outside the area of an arrangement each layer is shown as before, and everywhere one that neither loses nor gains a piece.
use Rattle.std.proofs.Common.{◌≡◌, ℕ, ◌==◌, Bool, true, false, not, ◌&&◌, ◌||◌, List, [], ◌∷◌, length, ◌<◌, ℤ, Option, Some, None, refl, sym, ap, ◌∙◌}
use Rattle.std.specs.Prelude.{if◌then◌else◌}
use Rattle.std.specs.List.{slice_set}
use Rattle.std.proofs.lemmas.Bool.{false≢true, eq-eqb, and_parts, and_right}
use Rattle.std.proofs.lemmas.List.{get_or-set_other}
use Rattle.lw_region.specs.Rectangle.{Rectangle, has_pixel}
use Rattle.lw_region.specs.Bands.{covers}
use Rattle.lw_region.proofs.Canonical.{covers_nil}
use Rattle.lw_calls.specs.declared.make.Make.{Make}
use Rattle.lw_calls.specs.declared.make.Place.{Place}
use Rattle.lw_calls.specs.declared.make.Place.TheVariants.{Front, Behind}
use Rattle.lw_calls.specs.declared.call.Call.{Call}
use Rattle.lw_calls.specs.declared.call.Call.TheVariants.{Create, OpenWindow, Close, ToFront, ToBack, InFrontOf, MoveBy, SizeBy, SetBox}
use Rattle.lw_machine.specs.Desk.{Desk, is_the}
use Rattle.lw_machine.specs.Screen.{bounds_have, screen_bounds, is_shown}
use Rattle.lw_machine.specs.Arrangement.{bounds_of, without, put_before, placed}
use Rattle.lw_machine.specs.Hook.{Hook}
use Rattle.lw_machine.specs.Parts.{info_part, slot_part}
use Rattle.lw_layer.specs.declared.look.Look.{Look}
use Rattle.lw_layer.specs.View.{State, CellView, hooked}
use Rattle.lw_layer.specs.View as view
use Rattle.lw_layer.specs.StandsFor.{IsPartOf, StandsFor}
use Rattle.lw_strips.specs.declared.piece.Piece.{Piece}
use Rattle.lw_cliprects.specs.Parts.{LieIn}
use Rattle.lw_stack.specs.Stack.{Stack, bounds_at, top_in, is_top_in, StandsForInfo}
use Rattle.lw_stack.specs.Laws.{DifferAt}
use Rattle.lw_stack.proofs.FirstLaws.{top_elsewhere as other_elsewhere}
use Rattle.lw_stack.proofs.ListLaws.{shown_is_top}
use Rattle.lw_arrange.specs.Planning.{is_backdrop_at, with_new, without_slot, with_order, with_front, with_back, with_pair, with_change, changed_bounds, stack_after}
use Rattle.lw_arrange.specs.Arrangements.{ArrangementView}
use Rattle.lw_arrange.specs.Areas.{slot_arranged, slot_has, IsAreaOf, HasArea, is_visible, IsShownElsewhere, IsShownUnlessExchanged}
use Rattle.lw_arrange.specs.Pieces.{ArePieces}
use Rattle.lw_arrange.proofs.StandLaws.{shown_nowhere}
use Rattle.lw_arrange.proofs.KeptPlaces.{same_top}

-- a list with a slot put into it is the same without the slot
without_first : (s : ℕ) (us : List ℕ) → without s (s ∷ us) ≡ without s us
without_first s us = ap (λ b. if not b then s ∷ without s us else without s us) (eq-eqb s s refl)

without_put : (test : ℕ → Bool) (s : ℕ) (us : List ℕ) → without s (put_before test s us) ≡ without s us
without_put test s [] = without_first s []
without_put test s (u ∷ us) = by_test (test u) (without_put test s us)
  where
    by_test : (b : Bool) → without s (put_before test s us) ≡ without s us
        → without s (if b then s ∷ u ∷ us else u ∷ put_before test s us) ≡ without s (u ∷ us)
    by_test true rest = without_first s (u ∷ us)
    by_test false rest = ap (λ l. if not (u == s) then u ∷ l else l) rest

without_placed : (backdrops : ℕ → Bool) (backdrop : Bool) (place : Place) (s : ℕ) (us : List ℕ)
    → without s (placed backdrops backdrop place s us) ≡ without s us
without_placed backdrops false Front s us = without_first s us
without_placed backdrops false Behind s us = without_put backdrops s us
without_placed backdrops true Front s us = without_put backdrops s us
without_placed backdrops true Behind s us = without_put (λ t. false) s us

-- a list without a slot is the same without it once more
without_twice : (s : ℕ) (us : List ℕ) → without s (without s us) ≡ without s us
without_twice s [] = refl
without_twice s (u ∷ us) = by_test (u == s) refl (without_twice s us)
  where
    by_test : (b : Bool) → (u == s) ≡ b → without s (without s us) ≡ without s us
        → without s (if not b then u ∷ without s us else without s us) ≡ (if not b then u ∷ without s us else without s us)
    by_test true e rest = rest
    by_test false e rest =
        ap (λ b. if not b then u ∷ without s (without s us) else without s (without s us)) e ∙ ap (λ l. u ∷ l) rest

-- the bounds of a slot alone are others
others_stay : (bounds : List (Option Rectangle)) (s : ℕ) (b : Option Rectangle) (t : ℕ) → (t == s) ≡ false
    → bounds_at bounds t ≡ bounds_at (slice_set bounds s b) t
others_stay bounds s b t e = sym (get_or-set_other bounds s t b None (λ same. false≢true (sym e ∙ eq-eqb t s same)))

-- a slot put at another place, put away, put in, and with other bounds
new_differs : (v : Stack) (looks : List (Option Look)) (s : ℕ) (make : Make) → DifferAt s v (with_new v looks s make)
new_differs v looks s make = record {
  sizes = refl;
  order = sym (without_placed (is_backdrop_at looks) make.backdrop make.place s v.front_to_back);
  others = others_stay v.bounds s (Some (bounds_of make));
}

closed_differs : (v : Stack) (s : ℕ) → DifferAt s v (without_slot v s)
closed_differs v s = record { sizes = refl; order = sym (without_twice s v.front_to_back); others = others_stay v.bounds s None }

front_differs : (v : Stack) (s : ℕ) → DifferAt s v (with_front v s)
front_differs v s = record {
  sizes = refl;
  order = sym (without_first s (without s v.front_to_back) ∙ without_twice s v.front_to_back);
  others = λ t e. refl;
}

put_differs : (v : Stack) (test : ℕ → Bool) (s : ℕ)
    → DifferAt s v (with_order v (put_before test s (without s v.front_to_back)))
put_differs v test s = record {
  sizes = refl;
  order = sym (without_put test s (without s v.front_to_back) ∙ without_twice s v.front_to_back);
  others = λ t e. refl;
}

pair_differs : (v : Stack) (s other : ℕ) → DifferAt s v (with_pair v s other)
pair_differs v s other = by_test (s == other)
  where
    by_test : (b : Bool) → DifferAt s v (if b then v else with_order v (put_before (λ t. t == other) s (without s v.front_to_back)))
    by_test true = record { sizes = refl; order = refl; others = λ t e. refl }
    by_test false = put_differs v (λ t. t == other) s

change_differs : (v : Stack) (s : ℕ) (call : Call) → DifferAt s v (with_change v s call)
change_differs v s call =
    record { sizes = refl; order = refl; others = others_stay v.bounds s (changed_bounds call (bounds_at v.bounds s)) }

-- the places of the screen that the bounds of a slot have in the one list or in the other
abbrev in_either : Stack → Stack → Option ℕ → ℤ → ℤ → Bool
in_either v w o x y = has_pixel (screen_bounds v.sizes) x y && (slot_has v o x y || slot_has w o x y)

-- Outside what the former and the new bounds of a call's slot have of the screen the same layer is on top before and after.
after_elsewhere : (v : Stack) (looks : List (Option Look)) (call : Call) (x y : ℤ)
    → in_either v (stack_after v looks call) (slot_arranged call) x y ≡ false → top_in v x y ≡ top_in (stack_after v looks call) x y
unfolding top_in
after_elsewhere v looks (Create slot make) x y outside =
    other_elsewhere slot v (with_new v looks slot make) x y (new_differs v looks slot make) outside
after_elsewhere v looks (OpenWindow slot make framed nocare asks title) x y outside =
    other_elsewhere slot v (with_new v looks slot make) x y (new_differs v looks slot make) outside
after_elsewhere v looks (Close slot) x y outside = other_elsewhere slot v (without_slot v slot) x y (closed_differs v slot) outside
after_elsewhere v looks (ToFront slot) x y outside = other_elsewhere slot v (with_front v slot) x y (front_differs v slot) outside
after_elsewhere v looks (ToBack slot) x y outside =
    other_elsewhere slot v (with_back v looks slot) x y (put_differs v (is_backdrop_at looks) slot) outside
after_elsewhere v looks (InFrontOf slot other) x y outside =
    other_elsewhere slot v (with_pair v slot other) x y (pair_differs v slot other) outside
after_elsewhere v looks (MoveBy slot dx dy) x y outside =
    other_elsewhere slot v (with_change v slot (MoveBy slot dx dy)) x y (change_differs v slot (MoveBy slot dx dy)) outside
after_elsewhere v looks (SizeBy slot dw dh) x y outside =
    other_elsewhere slot v (with_change v slot (SizeBy slot dw dh)) x y (change_differs v slot (SizeBy slot dw dh)) outside
after_elsewhere v looks (SetBox slot a b w h) x y outside =
    other_elsewhere slot v (with_change v slot (SetBox slot a b w h)) x y (change_differs v slot (SetBox slot a b w h)) outside
after_elsewhere v looks call x y outside = refl

-- the area of a call that moves no layer, and of one that may
pub no_area : (v w : Stack) (call : Call) (area : List Rectangle) → slot_arranged call ≡ None → area ≡ [] → IsAreaOf v w call area
no_area v w call area none empty x y =
    ap (λ l. covers l x y) empty
    ∙ (covers_nil x y
    ∙ sym (ap (λ o. in_either v w o x y) none ∙ and_right (has_pixel (screen_bounds v.sizes) x y) false refl))

-- what two of them have of the screen
both_on : (on a b : Bool) → (((false || (on && a)) || (on && b))) ≡ (on && (a || b))
both_on true a b = refl
both_on false a b = refl

-- what the slot's bounds have of the screen was added, the former ones and the new ones
pub some_area : (v w : Stack) (call : Call) (s : ℕ) (former new : Option Rectangle) (empty first area : List Rectangle)
    → slot_arranged call ≡ Some s → empty ≡ []
    → ((x y : ℤ) → bounds_have former x y ≡ (has_pixel (screen_bounds v.sizes) x y && bounds_have (bounds_at v.bounds s) x y))
    → ((x y : ℤ) → bounds_have new x y ≡ (has_pixel (screen_bounds v.sizes) x y && bounds_have (bounds_at w.bounds s) x y))
    → ((x y : ℤ) → covers first x y ≡ (covers empty x y || bounds_have former x y))
    → ((x y : ℤ) → covers area x y ≡ (covers first x y || bounds_have new x y)) → IsAreaOf v w call area
some_area v w call s former new empty first area some none was is begun added x y =
    let on = has_pixel (screen_bounds v.sizes) x y in
    added x y
    ∙ (ap (λ b. b || bounds_have new x y) (begun x y ∙ ap (λ b. b || bounds_have former x y) (ap (λ l. covers l x y) none ∙ covers_nil x y))
    ∙ (ap (λ b. (false || b) || bounds_have new x y) (was x y)
    ∙ (ap (λ b. (false || (on && bounds_have (bounds_at v.bounds s) x y)) || b) (is x y)
    ∙ (both_on on (bounds_have (bounds_at v.bounds s) x y) (bounds_have (bounds_at w.bounds s) x y)
    ∙ ap (λ o. in_either v w o x y) (sym some)))))

-- an area lies on the screen
pub area_on_screen : (v w : Stack) (call : Call) (area : List Rectangle) → IsAreaOf v w call area → LieIn (screen_bounds v.sizes) area
area_on_screen v w call area around x y has = (and_parts (has_pixel (screen_bounds v.sizes) x y) _ (sym (around x y) ∙ has)).0

-- So it is outside the area of a call that isn't refused, and its plan has this area.
pub top_elsewhere : (v after : Stack) (looks : List (Option Look)) (call : Call) (area : List Rectangle) → after ≡ stack_after v looks call
    → IsAreaOf v after call area → (x y : ℤ) → covers area x y ≡ false → top_in v x y ≡ top_in after x y
top_elsewhere v after looks call area is around x y off =
    after_elsewhere v looks call x y
    (ap (λ (w : Stack). in_either v w (slot_arranged call) x y) (sym is) ∙ (sym (around x y) ∙ off))
    ∙ ap (λ (w : Stack). top_in w x y) (sym is)

pub plan_area : (v after : Stack) (looks : List (Option Look)) (task : ℕ) (call copy : Call) (area : List Rectangle)
    (shown : List (List Rectangle)) (rest : List Rectangle) (pieces : List Piece) → after ≡ stack_after v looks call → copy ≡ call
    → IsAreaOf v after call area
    → HasArea v (record { task = task; call = copy; stack = after; area = area; shown = shown; rest = rest; pieces = pieces })
plan_area v after looks task call copy area shown rest pieces is same around = record {
  area = λ x y. around x y ∙ ap (λ c. in_either v after (slot_arranged c) x y) (sym same);
  elsewhere = λ s x y off. ap (λ o. is_the o s) (top_elsewhere v after looks call area is around x y off);
}

-- Where a cell stands for its slot's part of a desk, it shows what LayerInfo's list says, whatever hook its layer has: so it shows
-- what the plan says outside the area, and at every place if its slot neither loses nor gains a piece.
shown_before : (d : Desk) (v : Stack) (c : CellView) (h : Option Hook) → d.sizes ≡ v.sizes → StandsForInfo v (info_part d)
    → StandsFor (hooked h c) (slot_part d c.number) → (x y : ℤ) → is_visible c.state c.live x y ≡ is_top_in v c.number x y
shown_before d v c h same info stands x y = by_state c.state stands ∙ shown_is_top v d same info c.number x y
  where
    by_state : (q : State) → IsPartOf q (hooked h c).live (slot_part d c.number) → is_visible q c.live x y ≡ is_shown d c.number x y
    by_state view.Unopened part = sym (shown_nowhere d c.number x y part.1)
    by_state view.Live part = sym (part.shown x y)
    by_state view.Closed part = sym (shown_nowhere d c.number x y part.1)

pub shown_elsewhere : (d : Desk) (v : Stack) (a : ArrangementView) (c : CellView) (h : Option Hook) → d.sizes ≡ v.sizes
    → StandsForInfo v (info_part d) → HasArea v a → StandsFor (hooked h c) (slot_part d c.number) → IsShownElsewhere a c
shown_elsewhere d v a c h same info has stands x y off =
    shown_before d v c h same info stands x y ∙ has.elsewhere c.number x y off

pub shown_unless_exchanged : (d : Desk) (v : Stack) (a : ArrangementView) (c : CellView) (h : Option Hook) → d.sizes ≡ v.sizes
    → StandsForInfo v (info_part d) → a.stack.sizes ≡ v.sizes → length v.bounds ≡ v.sizes.slots
    → length a.stack.bounds ≡ a.stack.sizes.slots → ArePieces v a.stack a.pieces → c.number < v.sizes.slots
    → StandsFor (hooked h c) (slot_part d c.number) → IsShownUnlessExchanged a c
shown_unless_exchanged d v a c h same info sizes many many_after pieces low stands none x y =
    shown_before d v c h same info stands x y ∙ same_top v a.stack a.pieces c.number x y sizes many many_after pieces low none
