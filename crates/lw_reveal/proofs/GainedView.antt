-- The damage of a layer across an arrangement, from that of the machine's definition.
use Rattle.std.proofs.Common.{◌≡◌, ℕ, ◌<◌, Bool, true, false, not, ◌&&◌, if◌then◌else◌, nat_lt, List, ℤ, pos, ◌∙◌, sym, refl, ap, subst, ⊎_elim}
use Rattle.std.proofs.lemmas.Bool.{and_parts, and_right, cases_Bool, ltb-true, false_from_ne_true, both_ways}
use Rattle.lw_region.specs.Rectangle.{Rectangle, IsOrdered, width, height}
use Rattle.lw_region.specs.Bands.{covers}
use Rattle.lw_region.proofs.Lists.{and_between}
use Rattle.lw_planes.specs.Grid.{at}
use Rattle.lw_planes.proofs.GridLaws.{grid_at, grid_same}
use Rattle.lw_calls.specs.Kinds.{is_super}
use Rattle.lw_cliprects.specs.Parts.{LieIn}
use Rattle.lw_damage.specs.Damaged.{Damaged, may_lie}
use Rattle.lw_machine.specs.Layer.{Layer, is_framed}
use Rattle.lw_machine.specs.Kept.{is_kept}
use Rattle.lw_machine.specs.Reveal.{is_inner, counts_as_kept, at_new_size, with_revealed, revealed}
use Rattle.lw_machine.specs.Reveal as reveal
use Rattle.lw_machine.proofs.Settling.{revealed_plain, revealed_super}
use Rattle.lw_layer.specs.View.{LiveView, keeps}
use Rattle.lw_layer.specs.Pieces.{inner_of, damage_table, IsDamageOf}
use Rattle.lw_layer.specs.StandsFor.{IsSound}
use Rattle.lw_layer.specs.Keeping.{keeps_pixel}
use Rattle.lw_layer.proofs.InnerLaws.{may_pixel, none_may}
use Rattle.lw_layer.proofs.KeepingLaws.{IsPlain, kept_pixel}
use Rattle.lw_reveal.specs.Changed.{across_to, windowless, carried_to}
use Rattle.lw_reveal.specs.Counted.{inner_with, counts_pixel}
use Rattle.lw_reveal.specs.Gained.{is_left}
use Rattle.lw_reveal.proofs.GainedCounts.{counted_kept, counted_pixel}

-- what an arrangement carries of a layer, from what is revealed of it without its window, and with it
abbrev carried_from : Rectangle → List Rectangle → LiveView → Layer → Layer → LiveView
carried_from bounds visible c unwindowed whole =
    record {
      bounds = bounds;
      visible = visible;
      active = c.active;
      room = c.room;
      layer = record unwindowed { damage = whole.damage; window = c.layer.window };
    }

-- what the arrangement makes of a layer that isn't a super-bitmap layer
abbrev pub gained_view : Rectangle → List Rectangle → LiveView → LiveView
gained_view bounds visible c =
    let a = across_to c bounds visible in
    carried_from bounds visible c (with_revealed a (windowless c.layer) (at_new_size a (windowless c.layer))) (with_revealed a c.layer (at_new_size a c.layer))

pub carried_without_bitmap : (c : LiveView) (bounds : Rectangle) (visible : List Rectangle) → is_super c.layer.kind ≡ false
    → carried_to bounds visible c ≡ gained_view bounds visible c
carried_without_bitmap c bounds visible other =
    let a = across_to c bounds visible in
    ap (λ l. carried_from bounds visible c l (revealed a c.layer)) (revealed_plain a (windowless c.layer) other)
    ∙ ap (λ l. carried_from bounds visible c (with_revealed a (windowless c.layer) (at_new_size a (windowless c.layer))) l) (revealed_plain a c.layer other)

-- and of a super-bitmap layer
pub carried_own : (c : LiveView) (bounds : Rectangle) (visible : List Rectangle) → is_super c.layer.kind ≡ true
    → carried_to bounds visible c ≡ record { bounds = bounds; visible = visible; active = c.active; room = c.room; layer = c.layer }
carried_own c bounds visible own =
    let a = across_to c bounds visible in
    ap (λ l. carried_from bounds visible c l (revealed a c.layer)) (revealed_super a (windowless c.layer) own)
    ∙ ap (λ l. carried_from bounds visible c (windowless c.layer) l) (revealed_super a c.layer own)

-- the layer that it becomes is laid out plainly
pub gained_plain : (c : LiveView) (bounds : Rectangle) (visible : List Rectangle) → IsSound c → IsOrdered bounds
    → LieIn bounds visible → is_super c.layer.kind ≡ false
    → IsPlain (gained_view bounds visible c)
gained_plain c bounds visible sound ordered inside other = record {
  ordered = ordered;
  inside = inside;
  left = sound.scrolled.left other;
  upper = sound.scrolled.upper other;
  wide = refl;
  high = refl;
}

-- what the machine's layer keeps then
gained_keeps : (c : LiveView) (bounds : Rectangle) (visible : List Rectangle) (x y : ℕ)
    → reveal.keeps (across_to c bounds visible) (at_new_size (across_to c bounds visible) c.layer) x y ≡ keeps (gained_view bounds visible c) x y
unfolding keeps is_kept
gained_keeps c bounds visible x y = refl

-- the former damage of a pixel that counts, asked of the layer and of its rectangles
former_pixel : (c : LiveView) (former : Damaged) (x y : ℕ) (t : Bool) → (t ≡ true → keeps c x y ≡ true)
    → c.layer.damage ≡ damage_table c.layer.bits former.rects
    → (if t then at false c.layer.damage x y else true) ≡ not (t && not (covers former.rects (pos x) (pos y)))
unfolding keeps is_kept
former_pixel c former x y true kept table =
    let bits = and_parts (nat_lt x c.layer.bits.width) (nat_lt y c.layer.bits.height) ((and_parts _ _ (kept refl)).0) in
    ap (λ d. at false d x y) table
    ∙ (grid_at c.layer.bits.width c.layer.bits.height (λ i j. covers former.rects (pos i) (pos j)) false x y (ltb-true x c.layer.bits.width bits.0) (ltb-true y c.layer.bits.height bits.1)
    ∙ twice_not (covers former.rects (pos x) (pos y)))
  where
    twice_not : (f : Bool) → f ≡ not (not f)
    twice_not true = refl
    twice_not false = refl
former_pixel c former x y false kept table = refl

-- the pixel is due, of a layer with this former damage
abbrev pub due_pixel : LiveView → Rectangle → List Rectangle → Damaged → ℤ → ℤ → Bool
due_pixel c bounds visible former x y =
    is_left (keeps_pixel c.layer.kind bounds visible x y) (counts_pixel c bounds x y) (covers former.rects x y)

-- What the code's damage is, for a layer that stays live.
pub record IsGained (c : LiveView) (bounds : Rectangle) (visible : List Rectangle) (former d : Damaged) : Type 0 where
  pub pixels : (x y : ℤ) → covers d.rects x y ≡ (due_pixel c bounds visible former x y && may_lie d.inner x y)
  pub inner : d.inner ≡ inner_with c bounds
  pub updating : d.updating ≡ c.layer.updating

-- the tests of the definition and those of the code
same_tests : (kept inner before may now counts damaged : Bool) → kept ≡ now → may ≡ inner → before ≡ not (counts && not damaged)
    → ((kept && inner) && before) ≡ (is_left now counts damaged && may)
same_tests kept inner before may now counts damaged is inside stays = rw (is, inside, stays) (and_between now inner (not (counts && not damaged)))

-- the layer's pixel is damaged afterwards, as the machine defines it
abbrev damaged_then : LiveView → Rectangle → List Rectangle → ℕ → ℕ → Bool
damaged_then c bounds visible x y =
    let a = across_to c bounds visible in
    (reveal.keeps a (at_new_size a c.layer) x y && is_inner a c.layer x y)
    && (if counts_as_kept a c.layer x y then at false c.layer.damage x y else true)

-- so it is by the code's rectangles
gained_pixel : (c : LiveView) (bounds : Rectangle) (visible : List Rectangle) (former d : Damaged) (x y : ℕ) → IsSound c
    → IsOrdered bounds → LieIn bounds visible → is_super c.layer.kind ≡ false → IsDamageOf c former → IsGained c bounds visible former d
    → x < width bounds → y < height bounds → damaged_then c bounds visible x y ≡ covers d.rects (pos x) (pos y)
gained_pixel c bounds visible former d x y sound ordered inside other was gained left low =
    let a = across_to c bounds visible in
    let kind = c.layer.kind in
    let counts = counted_pixel c bounds visible (pos x) (pos y) sound other in
    let plain = gained_plain c bounds visible sound ordered inside other in
    let now = gained_keeps c bounds visible x y ∙ sym (kept_pixel (gained_view bounds visible c) kind refl other plain (pos x) (pos y)) in
    let damaged = former_pixel c former x y (counts_as_kept a c.layer x y) (λ has. counted_kept c bounds visible x y has) was.pixels in
    let may : may_lie d.inner (pos x) (pos y) ≡ is_inner a c.layer x y =
    ap (λ o. may_lie o (pos x) (pos y)) gained.inner ∙ may_pixel (is_super kind) (is_framed c.layer.window) (width bounds) (height bounds) x y other left low
    in
    same_tests _ _ _ _ _ _ _ now may (damaged ∙ ap (λ k. not (k && not (covers former.rects (pos x) (pos y)))) (sym counts))
    ∙ sym (gained.pixels (pos x) (pos y))

-- the damage is that of a layer that isn't a super-bitmap layer
gained_damage : (c : LiveView) (bounds : Rectangle) (visible : List Rectangle) (former d : Damaged) → IsSound c
    → IsOrdered bounds → LieIn bounds visible → is_super c.layer.kind ≡ false
    → IsDamageOf c former → IsGained c bounds visible former d → IsDamageOf (gained_view bounds visible c) d
gained_damage c bounds visible former d sound ordered inside other was gained = record {
  pixels = grid_same (width bounds) (height bounds) _ _ (λ x y left low. gained_pixel c bounds visible former d x y sound ordered inside other was gained left low);
  kept = λ x y has.
      let due = and_parts _ _ (sym (gained.pixels x y) ∙ has) in
      sym (kept_pixel (gained_view bounds visible c) c.layer.kind refl other (gained_plain c bounds visible sound ordered inside other) x y) ∙ (and_parts _ _ due.0).0;
  inner = gained.inner;
  updating = gained.updating;
}

-- so a super-bitmap layer has no damage
own_damage : (c : LiveView) (bounds : Rectangle) (visible : List Rectangle) (former d : Damaged)
    → is_super c.layer.kind ≡ true → IsDamageOf c former
    → ((x y : ℤ) → covers former.rects x y ≡ true → may_lie former.inner x y ≡ true) → IsGained c bounds visible former d
    → IsDamageOf (record { bounds = bounds; visible = visible; active = c.active; room = c.room; layer = c.layer }) d
own_damage c bounds visible former d own was lies gained = record {
  pixels = was.pixels ∙ grid_same c.layer.bits.width c.layer.bits.height _ _ (λ x y left low. none_before (pos x) (pos y) ∙ sym (none_now (pos x) (pos y)));
  kept = λ x y has. absurd (both_ways _ (none_now x y) has);
  inner = gained.inner ∙ any_size (is_super c.layer.kind) own;
  updating = gained.updating;
}
  where
    none_now : (x y : ℤ) → covers d.rects x y ≡ false
    none_now x y =
        gained.pixels x y ∙ and_right _ _ (ap (λ o. may_lie o x y) gained.inner ∙ none_may (is_super c.layer.kind) (is_framed c.layer.window) (width bounds) (height bounds) x y own)

    none_before : (x y : ℤ) → covers former.rects x y ≡ false
    none_before x y =
        false_from_ne_true _ (λ has.
        both_ways _ (ap (λ o. may_lie o x y) was.inner ∙ none_may (is_super c.layer.kind) (is_framed c.layer.window) c.layer.bits.width c.layer.bits.height x y own) (lies x y has))

    any_size : (super : Bool) → super ≡ true
        → inner_of super (is_framed c.layer.window) (width bounds) (height bounds) ≡ inner_of super (is_framed c.layer.window) c.layer.bits.width c.layer.bits.height
    any_size true is = refl
    any_size false is = absurd (both_ways false refl is)

-- the damage is that of the layer as the arrangement reveals it
pub damage_gained : (c : LiveView) (bounds : Rectangle) (visible : List Rectangle) (former d : Damaged) → IsSound c
    → IsOrdered bounds → LieIn bounds visible → IsDamageOf c former
    → ((x y : ℤ) → covers former.rects x y ≡ true → may_lie former.inner x y ≡ true) → IsGained c bounds visible former d → IsDamageOf (carried_to bounds visible c) d
damage_gained c bounds visible former d sound ordered inside was lies gained =
    let P : LiveView → Type 0 = λ v. IsDamageOf v d in
    ⊎_elim
    (λ (own : is_super c.layer.kind ≡ true). subst P (sym (carried_own c bounds visible own)) (own_damage c bounds visible former d own was lies gained))
    (λ (other : is_super c.layer.kind ≡ false). subst P (sym (carried_without_bitmap c bounds visible other)) (gained_damage c bounds visible former d sound ordered inside other was gained))
    (cases_Bool (is_super c.layer.kind))
