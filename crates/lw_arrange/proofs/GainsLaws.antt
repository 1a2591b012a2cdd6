-- The pixels that an arrangement fills in a layer that stays live, as its cells have them and as the machine's definitions do.
use Rattle.std.proofs.Common.{◌≡◌, ℕ, ◌<◌, nat_lt, Bool, true, false, not, ◌&&◌, List, Option, refl, sym, ap, ◌∙◌, ⊎_elim}
use Rattle.std.specs.Prelude.{if◌then◌else◌}
use Rattle.std.proofs.lemmas.Bool.{and_parts, cases_Bool, ltb-true}
use Rattle.lw_region.specs.Rectangle.{Rectangle}
use Rattle.lw_planes.specs.Bitmap.{pen_at}
use Rattle.lw_calls.specs.Kinds.{is_super}
use Rattle.lw_machine.specs.Hook.{Hook}
use Rattle.lw_machine.specs.Layer.{Layer}
use Rattle.lw_machine.specs.Kept.{is_kept}
use Rattle.lw_machine.specs.Reveal.{Across, counts_as_kept, at_new_size, fills, fill_pen, some_pixel, some_now, revealed}
use Rattle.lw_machine.specs.Reveal as reveal
use Rattle.lw_machine.proofs.Settling.{revealed_super}
use Rattle.lw_layer.specs.View.{State, LiveView, CellView, keeps, with_live}
use Rattle.lw_layer.specs.View as view
use Rattle.lw_layer.specs.StandsFor.{IsSound}
use Rattle.lw_layer.proofs.PixelTests.{none_within}
use Rattle.lw_reveal.specs.Changed.{across_to, windowless, carried_to}
use Rattle.lw_reveal.proofs.GainedView.{gained_view, carried_without_bitmap, carried_own}
use Rattle.lw_reveal.proofs.GainedCounts.{counts_kept}
use Rattle.lw_arrange.specs.Filled.{keeps_if_live, counts_if_live, gains, gains_some, filled_layer}
use Rattle.lw_arrange.proofs.FilledLaws.{with_hook, with_other_pens, AreLeft, revealed_filled, unfilled}

-- a super-bitmap layer gains nothing
pub none_gained : (from to : CellView) (x y : ℕ) → is_super to.live.layer.kind ≡ true → gains from to x y ≡ false
none_gained from to x y own =
    ap (λ t. not t && (keeps_if_live to.state to.live x y && not (counts_if_live from.state from.live to.live x y))) own

-- the cell of a layer that stays live, with these bounds and visible rectangles
abbrev pub stayed : Rectangle → List Rectangle → CellView → CellView
stayed r visible c = with_live (λ k. carried_to r visible k) c

-- the layer across an arrangement of such an activity
abbrev pub across_with : LiveView → Rectangle → List Rectangle → Bool → Bool → Across
across_with c r visible active new_active = record (across_to c r visible) { active = active; new_active = new_active }

-- What a layer that stays live gains is what the machine fills.
pub gains_stayed : (c : CellView) (r : Rectangle) (visible : List Rectangle) (active new_active : Bool) (x y : ℕ)
    → c.state ≡ view.Live → is_super c.live.layer.kind ≡ false
    → gains c (stayed r visible c) x y
    ≡ fills (across_with c.live r visible active new_active) c.live.layer
    (at_new_size (across_with c.live r visible active new_active) c.live.layer) x y
unfolding keeps counts_as_kept is_kept
gains_stayed c r visible active new_active x y live other =
    let k = across_with c.live r visible active new_active in
    let l = c.live.layer in
    let Gains : State → LiveView → Bool =
    λ s v. not (is_super v.layer.kind) && (keeps_if_live s v x y && not (counts_if_live s c.live v x y)) in
    ap (λ v. Gains c.state v) (carried_without_bitmap c.live r visible other)
    ∙ (ap (λ s. Gains s (gained_view r visible c.live)) live ∙ ap (λ t. not t && fills k l (at_new_size k l) x y) other)

-- whether something is gained, asked over the machine's size
some_stayed : (c : CellView) (r : Rectangle) (visible : List Rectangle) → is_super c.live.layer.kind ≡ false
    → gains_some c (stayed r visible c) ≡ some_now (across_to c.live r visible) (λ x y. gains c (stayed r visible c) x y)
some_stayed c r visible other =
    ap (λ (v : LiveView). some_pixel v.layer.bits.width v.layer.bits.height (λ x y. gains c (stayed r visible c) x y))
    (carried_without_bitmap c.live r visible other)

-- the pens of the layer that is carried, before it is filled
abbrev pub carried_pen : LiveView → Rectangle → List Rectangle → ℕ → ℕ → ℕ
carried_pen c r visible x y =
    let k = across_to c r visible in
    if reveal.keeps k (at_new_size k c.layer) x y
    then (if counts_as_kept k (windowless c.layer) x y then pen_at c.layer.bits x y else fill_pen c.layer.bits.depth c.layer.hook x y)
    else 0

-- what counts as kept before, the layer kept
counted_kept : (c : LiveView) (r : Rectangle) (visible : List Rectangle) (x y : ℕ)
    → counts_as_kept (across_to c r visible) c.layer x y ≡ true
    → counts_as_kept (across_to c r visible) (windowless c.layer) x y ≡ true
unfolding counts_as_kept keeps
counted_kept c r visible x y counts = counts_kept c r visible x y ∙ (and_parts (keeps c x y) _ counts).0

carried_left : (c : LiveView) (r : Rectangle) (visible : List Rectangle) (active new_active : Bool)
    → AreLeft (across_with c r visible active new_active) c.layer (carried_pen c r visible)
unfolding counts_as_kept
carried_left c r visible active new_active = record {
  stays = λ x y kept counts.
      let k = across_to c r visible in
      let fill = fill_pen c.layer.bits.depth c.layer.hook x y in
      let pen = pen_at c.layer.bits x y in
      ap (λ t. if t then (if counts_as_kept k (windowless c.layer) x y then pen else fill) else 0) kept
      ∙ ap (λ t. if t then pen else fill) (counted_kept c r visible x y counts);
  off = λ x y unkept.
      let k = across_to c r visible in
      let fill = fill_pen c.layer.bits.depth c.layer.hook x y in
      ap (λ t. if t then (if counts_as_kept k (windowless c.layer) x y then pen_at c.layer.bits x y else fill) else 0) unkept;
}

-- the carried layer is the revealed one with other pens
carried_pens : (c : LiveView) (r : Rectangle) (visible : List Rectangle) (active new_active : Bool)
    → with_other_pens (across_with c r visible active new_active) c.layer (carried_pen c r visible) (gained_view r visible c).layer.hook
    ≡ (gained_view r visible c).layer
unfolding counts_as_kept is_kept
carried_pens c r visible active new_active = refl

-- What the machine reveals of a live layer, with a hook or without, is the carried layer once what it gains is filled.
pub live_revealed : (c : CellView) (r : Rectangle) (visible : List Rectangle) (h : Option Hook) (active new_active : Bool)
    → c.state ≡ view.Live → IsSound c.live
    → revealed (across_with c.live r visible active new_active) (with_hook h c.live.layer)
    ≡ filled_layer h (λ x y. gains c (stayed r visible c) x y) (gains_some c (stayed r visible c)) (carried_to r visible c.live).layer
live_revealed c r visible h active new_active live sound =
    ⊎_elim (λ (own : is_super c.live.layer.kind ≡ true). whole own) (λ (other : is_super c.live.layer.kind ≡ false). part other)
    (cases_Bool (is_super c.live.layer.kind))
  where
    to : CellView
    to = stayed r visible c

    l : Layer
    l = c.live.layer

    q : Across
    q = across_with c.live r visible active new_active

    on : ℕ → ℕ → Bool
    on x y = gains c to x y

    whole : is_super l.kind ≡ true
        → revealed q (with_hook h l) ≡ filled_layer h on (gains_some c to) (carried_to r visible c.live).layer
    whole own =
        let carried = carried_own c.live r visible own in
        let none : (x y : ℕ) → on x y ≡ false =
        λ x y. none_gained c to x y (ap (λ (v : LiveView). is_super v.layer.kind) carried ∙ own) in
        revealed_super q (with_hook h l) own
        ∙ (sym (unfilled l h on (gains_some c to) sound.bits.bitmap none
        (none_within to.live.layer.bits.width to.live.layer.bits.height on (λ x y _ _. none x y)))
        ∙ ap (λ (v : LiveView). filled_layer h on (gains_some c to) v.layer) (sym carried))

    part : is_super l.kind ≡ false
        → revealed q (with_hook h l) ≡ filled_layer h on (gains_some c to) (carried_to r visible c.live).layer
    part other =
        revealed_filled q l h on (gains_some c to) (carried_pen c.live r visible) (gained_view r visible c.live).layer.hook other
        (λ x y. gains_stayed c r visible active new_active x y live other) (some_stayed c r visible other)
        (carried_left c.live r visible active new_active)
        ∙ (ap (filled_layer h on (gains_some c to)) (carried_pens c.live r visible active new_active)
        ∙ ap (λ (v : LiveView). filled_layer h on (gains_some c to) v.layer) (sym (carried_without_bitmap c.live r visible other)))

-- A pixel that is gained is one of the layer's bits.
pub gained_inside : (from to : CellView) (x y : ℕ) → gains from to x y ≡ true
    → (x < to.live.layer.bits.width) × (y < to.live.layer.bits.height)
unfolding keeps is_kept
gained_inside from to x y has =
    by_state to.state (and_parts _ _ (and_parts (not (is_super to.live.layer.kind)) _ has).1).0
  where
    by_state : (s : State) → keeps_if_live s to.live x y ≡ true → (x < to.live.layer.bits.width) × (y < to.live.layer.bits.height)
    by_state view.Unopened h = absurd (cc h)
    by_state view.Live h =
        let l = to.live.layer in
        let in_bits = and_parts (nat_lt x l.bits.width) (nat_lt y l.bits.height) (and_parts _ _ h).0 in
        (ltb-true x l.bits.width in_bits.0, ltb-true y l.bits.height in_bits.1)
    by_state view.Closed h = absurd (cc h)
