-- What is visible of a layer after an arrangement.
use Rattle.std.proofs.Common.{◌≡◌, ℕ, ◌<◌, Bool, true, false, not, ◌&&◌, ◌||◌, List, [], slice_index_or, ℤ, Some, refl, sym, ap, subst, ◌∙◌}
use Rattle.std.proofs.lemmas.Bool.{false_from_ne_true, both_ways}
use Rattle.lw_region.specs.Rectangle.{Rectangle, has_pixel}
use Rattle.lw_region.specs.Pixels.{pixels_of, union, difference}
use Rattle.lw_region.specs.Bands.{bands, covers}
use Rattle.lw_region.specs.Banded.{IsCanonical}
use Rattle.lw_region.proofs.SetOps.{combined_lists, canonical_bands}
use Rattle.lw_region.proofs.Canonical.{one_canonical}
use Rattle.lw_machine.specs.Desk.{is_the}
use Rattle.lw_machine.specs.Screen.{bounds_have}
use Rattle.lw_layer.specs.View.{State, CellView}
use Rattle.lw_layer.specs.View as view
use Rattle.lw_layer.specs.StandsFor.{IsSound}
use Rattle.lw_stack.specs.Stack.{bounds_at, is_top_in, LieApart}
use Rattle.lw_stack.proofs.FirstLaws.{not_top}
use Rattle.lw_stack.proofs.ListedLaws.{shown_places, shown_list_law}
use Rattle.lw_arrange.specs.Arrangements.{ArrangementView, IsArrangement}
use Rattle.lw_arrange.specs.Prepared.{shown_at}
use Rattle.lw_arrange.specs.Areas.{is_visible, IsShownElsewhere, IsShownUnlessExchanged}
use Rattle.lw_arrange.specs.Pieces.{exchanges}
use Rattle.lw_arrange.proofs.PieceLaws.{first_is_top}

-- a canonical list of the places where the slot's layer is on top is what is shown of it
shown_so : (a : ArrangementView) (s : ℕ) (rects : List Rectangle) → IsCanonical rects
    → ((x y : ℤ) → covers rects x y ≡ is_top_in a.stack s x y) → rects ≡ shown_at a s
shown_so a s rects canonical places =
    one_canonical rects (shown_at a s) canonical (shown_list_law a.stack s).1
    (λ x y. places x y ∙ sym (shown_places a.stack s x y))

-- the places of the area where a slot's layer is on top
in_area : (a : ArrangementView) (s : ℕ) (rects : List Rectangle) → IsArrangement a → s < a.stack.sizes.slots
    → rects ≡ slice_index_or a.shown s [] → (x y : ℤ)
    → covers rects x y ≡ (covers a.area x y && is_top_in a.stack s x y)
in_area a s rects planned low are x y =
    ap (λ l. covers l x y) are
    ∙ (planned.shown.places s x y (subst (λ n. s < n) (sym planned.stack.many) low)
    ∙ first_is_top a.stack x y (covers a.area x y) (λ o. is_the o s) (planned.area x y))

-- what a layer shows outside the area, by what its cell holds
idle_elsewhere : (a : ArrangementView) (c : CellView) → (c.state ≡ view.Live → ⊥) → IsShownElsewhere a c → (x y : ℤ)
    → covers a.area x y ≡ false → is_top_in a.stack c.number x y ≡ false
idle_elsewhere a c dead h x y off = sym (h x y off) ∙ unseen c.state dead
  where
    unseen : (q : State) → (q ≡ view.Live → ⊥) → is_visible q c.live x y ≡ false
    unseen view.Unopened dead = refl
    unseen view.Live dead = absurd (dead refl)
    unseen view.Closed dead = refl

live_elsewhere : (a : ArrangementView) (c : CellView) → c.state ≡ view.Live → IsShownElsewhere a c → (x y : ℤ)
    → covers a.area x y ≡ false → covers c.live.visible x y ≡ is_top_in a.stack c.number x y
live_elsewhere a c live h x y off = sym (ap (λ q. is_visible q c.live x y) live) ∙ h x y off

-- of a new layer nothing is shown outside the area
all_inside : (a f : Bool) → (a ≡ false → f ≡ false) → (a && f) ≡ f
all_inside true f h = refl
all_inside false f h = sym (h refl)

pub new_shown : (a : ArrangementView) (c : CellView) (rects : List Rectangle) → IsArrangement a → c.number < a.stack.sizes.slots
    → (c.state ≡ view.Live → ⊥) → IsShownElsewhere a c → rects ≡ slice_index_or a.shown c.number [] → IsCanonical rects
    → rects ≡ shown_at a c.number
new_shown a c rects planned low dead h are canonical =
    shown_so a c.number rects canonical
    (λ x y. in_area a c.number rects planned low are x y
    ∙ all_inside (covers a.area x y) (is_top_in a.stack c.number x y) (idle_elsewhere a c dead h x y))

-- a layer that stays live shows in the area what the plan says, and elsewhere what it shows
joined : (a v f : Bool) → (a ≡ false → v ≡ f) → ((v && not a) || (a && f)) ≡ f
joined true true f h = refl
joined true false f h = refl
joined false true true h = refl
joined false true false h = absurd (cc (h refl))
joined false false true h = absurd (cc (h refl))
joined false false false h = refl

pub live_shown : (a : ArrangementView) (c : CellView) (left own made : List Rectangle) → IsArrangement a
    → c.number < a.stack.sizes.slots → c.state ≡ view.Live → IsShownElsewhere a c
    → left ≡ bands (difference (pixels_of c.live.visible) (pixels_of a.area))
    → own ≡ slice_index_or a.shown c.number [] → made ≡ bands (union (pixels_of left) (pixels_of own))
    → made ≡ shown_at a c.number
live_shown a c left own made planned low live h cleared are added =
    let on_top : ℤ → ℤ → Bool = λ x y. is_top_in a.stack c.number x y in
    shown_so a c.number made (subst IsCanonical (sym added) (canonical_bands (union (pixels_of left) (pixels_of own))))
    (λ x y.
    (combined_lists.unions left own made added).pixels x y
    ∙ (ap (λ b. b || covers own x y)
    ((combined_lists.differences c.live.visible a.area left cleared).pixels x y)
    ∙ (ap (λ b. (covers c.live.visible x y && not (covers a.area x y)) || b) (in_area a c.number own planned low are x y)
    ∙ joined (covers a.area x y) (covers c.live.visible x y) (on_top x y) (live_elsewhere a c live h x y))))

-- one that stays where it is, apart from the area, shows the same
pub apart_shown : (a : ArrangementView) (c : CellView) (bounds : Rectangle) → IsSound c.live → c.state ≡ view.Live
    → bounds_at a.stack.bounds c.number ≡ Some bounds → c.live.bounds ≡ bounds → LieApart a.area bounds → IsShownElsewhere a c
    → c.live.visible ≡ shown_at a c.number
apart_shown a c bounds sound live here stays apart h =
    shown_so a c.number c.live.visible sound.canonical (λ x y. by_area x y (covers a.area x y) refl)
  where
    outside : (x y : ℤ) → covers a.area x y ≡ true → has_pixel bounds x y ≡ false
    outside x y e = sym (ap (λ b. b && has_pixel bounds x y) e) ∙ apart x y

    hidden : (x y : ℤ) → has_pixel bounds x y ≡ false → covers c.live.visible x y ≡ false
    hidden x y off =
        false_from_ne_true (covers c.live.visible x y)
        (λ has. both_ways (has_pixel bounds x y) off (sym (ap (λ r. has_pixel r x y) stays) ∙ sound.inside x y has))

    by_area : (x y : ℤ) (b : Bool) → covers a.area x y ≡ b
        → covers c.live.visible x y ≡ is_top_in a.stack c.number x y
    by_area x y true e =
        let off = outside x y e in
        hidden x y off
        ∙ sym (not_top a.stack c.number x y (ap (λ o. bounds_have o x y) here ∙ off))
    by_area x y false e = live_elsewhere a c live h x y e

-- and one that neither loses nor gains a piece
pub unexchanged_shown : (a : ArrangementView) (c : CellView) → IsSound c.live → c.state ≡ view.Live → exchanges c.number a.pieces ≡ false
    → IsShownUnlessExchanged a c → c.live.visible ≡ shown_at a c.number
unexchanged_shown a c sound live none h =
    shown_so a c.number c.live.visible sound.canonical (λ x y. sym (ap (λ q. is_visible q c.live x y) live) ∙ h none x y)
