-- Laws of the damage that a scroll moves, pixel by pixel.
use Rattle.std.proofs.Common.{◌≡◌, ℕ, ◌==◌, ◌<◌, ◌≤◌, nat_lt, length, Bool, true, false, not, ◌&&◌, ◌||◌, if◌then◌else◌, List, [], ◌∷◌, ⊎_elim, ℤ, pos, negsuc, ◌+ℤ◌, unsigned_abs, Option, Some, None, ◌∙◌, sym, refl, ap, arith}
use Rattle.std.proofs.lemmas.Bool.{and_parts, cases_lt, cases_Bool, lt-ltb, ltb-true, false_from_ne_true, both_ways}
use Rattle.std.proofs.lemmas.Bool.Decides.{nat_tests}
use Rattle.lw_region.specs.Rectangle.{Rectangle, has_pixel}
use Rattle.lw_region.specs.Bands.{bands, covers}
use Rattle.lw_region.specs.Pixels.{Pixel, pixels_of, union}
use Rattle.lw_region.specs.Regions.{rectangle_set}
use Rattle.lw_region.proofs.SetOps.{combined_lists, covers_one}
use Rattle.lw_region.proofs.Reading.{contains_pixels_of}
use Rattle.lw_region.proofs.Canonical.{covers_nil}
use Rattle.lw_planes.specs.Grid.{at}
use Rattle.lw_planes.proofs.GridLaws.{grid_at, grid_same, grid_past_column, grid_past_row}
use Rattle.lw_calls.specs.declared.make.Kind.{Kind}
use Rattle.lw_calls.specs.Kinds.{is_super}
use Rattle.lw_damage.specs.Damaged.{Damaged, IsDamageWith, may_lie}
use Rattle.lw_machine.specs.Layer.{is_framed}
use Rattle.lw_machine.specs.Kept.{holds_at, is_kept, kept_as, is_drawable, in_clip, is_inside, may_be_damaged}
use Rattle.lw_machine.specs.Blits.{in_scroll_area, brought_if, brought_mark, scrolled_mark}
use Rattle.lw_layer.specs.View.{LiveView, shows, keeps, draws, with_layer}
use Rattle.lw_layer.specs.Pieces.{inner_in, damage_table, IsDamageOf}
use Rattle.lw_layer.proofs.InnerLaws.{may_pixel, none_may}
use Rattle.lw_blit.proofs.SourceLaws.{kept_place}
use Rattle.lw_scroll.specs.Scrolled.{scrolled_damage}
use Rattle.lw_scroll.specs.Marks.{clip_has, IsWhole, AreDrawable, LeadToHurt, AreDue, is_damaged, moved_mark, IsMovedDamage}

-- which pixels are damaged, by the rectangles of the damage
pub former_marks : (c : LiveView) (d : Damaged) → IsDamageOf c d → (x y : ℤ) → covers d.rects x y ≡ is_damaged c x y
former_marks c d is (pos x) (pos y) =
    let test : ℕ → ℕ → Bool = λ i j. covers d.rects (pos i) (pos j) in
    let off : (x < c.layer.bits.width → y < c.layer.bits.height → ⊥) → covers d.rects (pos x) (pos y) ≡ false =
    λ out. false_from_ne_true _ (λ has. let place = kept_place c x y (is.kept (pos x) (pos y) has) in out place.0 place.1)
    in
    sym (ap (λ t. at false t x y) is.pixels
    ∙ ⊎_elim
    (λ (left : x < c.layer.bits.width).
    ⊎_elim (λ (low : y < c.layer.bits.height). grid_at c.layer.bits.width c.layer.bits.height test false x y left low)
    (λ (past : c.layer.bits.height ≤ y). grid_past_row c.layer.bits.width c.layer.bits.height test false x y past
    ∙ sym (off (λ _ low. omega arith)))
    (cases_lt y c.layer.bits.height))
    (λ (past : c.layer.bits.width ≤ x). no_column past off)
    (cases_lt x c.layer.bits.width))
  where
    no_column : c.layer.bits.width ≤ x
        → ((x < c.layer.bits.width → y < c.layer.bits.height → ⊥) → covers d.rects (pos x) (pos y) ≡ false)
        → at false (damage_table c.layer.bits d.rects) x y ≡ covers d.rects (pos x) (pos y)
    no_column past off =
        let test : ℕ → ℕ → Bool = λ i j. covers d.rects (pos i) (pos j) in
        ⊎_elim
        (λ (low : y < c.layer.bits.height). grid_past_column c.layer.bits.width c.layer.bits.height test false x y past low
        ∙ sym (off (λ left _. omega arith)))
        (λ (below : c.layer.bits.height ≤ y). grid_past_row c.layer.bits.width c.layer.bits.height test false x y below
        ∙ sym (off (λ left _. omega arith)))
        (cases_lt y c.layer.bits.height)
former_marks c d is (pos x) (negsuc y) = false_from_ne_true _ (λ has. both_ways false refl (is.kept (pos x) (negsuc y) has))
former_marks c d is (negsuc x) y = false_from_ne_true _ (λ has. both_ways false refl (is.kept (negsuc x) y has))

-- one rectangle, added to no pixel
pub alone_pixel : (before made : List Rectangle) (r : Rectangle) (x y : ℤ) → before ≡ []
    → made ≡ bands (union (pixels_of before) (rectangle_set r)) → covers made x y ≡ has_pixel r x y
alone_pixel before made r x y none is =
    (combined_lists.unions before (r ∷ []) made is).pixels x y
    ∙ (ap (λ l. covers l x y || covers (r ∷ []) x y) none
    ∙ (ap (λ t. t || covers (r ∷ []) x y) (covers_nil x y) ∙ covers_one r x y))

-- a test that holds wherever the other does takes nothing away
all_and : (a may : Bool) → (a ≡ true → may ≡ true) → (a && may) ≡ a
all_and true may is = is refl
all_and false may is = refl

-- the clip region, asked at a place of the layer
clip_at : (o : Option (List Pixel)) (x y : ℕ) → in_clip o x y ≡ clip_has o (pos x) (pos y)
clip_at None x y = refl
clip_at (Some set) x y = refl

-- the drawable pixels among those that are kept
pub drawable_is : (c : LiveView) (x y : ℤ)
    → holds_at (λ i j. draws c i j) x y
    ≡ (holds_at (λ i j. keeps c i j) x y && (clip_has c.layer.clip x y && (not c.layer.updating || is_damaged c x y)))
unfolding draws keeps is_drawable
drawable_is c (pos x) (pos y) =
    ap (λ t. keeps c x y && (t && (not c.layer.updating || at false c.layer.damage x y))) (clip_at c.layer.clip x y)
drawable_is c (pos x) (negsuc y) = refl
drawable_is c (negsuc x) y = refl

-- what a clip region leaves of some pixels, and what stays where there is none
pub clip_met : (before made : List Rectangle) (clip : Option (List Pixel)) (region : List Rectangle) (x y : ℤ)
    → clip ≡ Some (pixels_of region) → covers made x y ≡ (covers before x y && covers region x y)
    → covers made x y ≡ (covers before x y && clip_has clip x y)
clip_met before made clip region x y is both =
    both ∙ ap (λ t. covers before x y && t) (sym (contains_pixels_of region x y) ∙ ap (λ o. clip_has o x y) (sym is))

pub clip_none : (before : List Rectangle) (clip : Option (List Pixel)) (x y : ℤ) → clip ≡ None
    → covers before x y ≡ (covers before x y && clip_has clip x y)
clip_none before clip x y is = sym (all_and (covers before x y) (clip_has clip x y) (λ _. ap (λ o. clip_has o x y) is))

-- the tests of a pixel in another order, as an update is on or not
pub drawn_updating : (made cut target kept clip on damaged draws : Bool) → on ≡ true → cut ≡ ((target && kept) && clip)
    → made ≡ (cut && damaged)
    → draws ≡ (kept && (clip && (not on || damaged))) → made ≡ (draws && target)
drawn_updating made cut target kept clip on damaged draws is first second whole =
    rw (second, first, whole, is) (turned target kept clip damaged)
  where
    turned : (target kept clip damaged : Bool)
        → (((target && kept) && clip) && damaged) ≡ ((kept && (clip && damaged)) && target)
    turned true true true true = refl
    turned true true true false = refl
    turned true true false damaged = refl
    turned true false clip damaged = refl
    turned false true true true = refl
    turned false true true false = refl
    turned false true false damaged = refl
    turned false false clip damaged = refl

pub drawn_idle : (cut target kept clip on damaged draws : Bool) → on ≡ false → cut ≡ ((target && kept) && clip)
    → draws ≡ (kept && (clip && (not on || damaged))) → cut ≡ (draws && target)
drawn_idle cut target kept clip on damaged draws is first whole = rw (first, whole, is) (turned target kept clip)
  where
    turned : (target kept clip : Bool) → ((target && kept) && clip) ≡ ((kept && (clip && true)) && target)
    turned true true true = refl
    turned true true false = refl
    turned true false clip = refl
    turned false true true = refl
    turned false true false = refl
    turned false false clip = refl

-- what is due of two parts
pub due_pixel : (former reached hurt : Bool)
    → ((former && not reached) || (reached && hurt)) ≡ (if reached then hurt else former)
due_pixel true true hurt = refl
due_pixel false true hurt = refl
due_pixel true false hurt = refl
due_pixel false false hurt = refl

-- a pixel of the target is hurt as the one that it takes
hurt_moved : (draws target source kept damaged was hurt former reached : Bool) → target ≡ source → reached ≡ (draws && target)
    → hurt ≡ (source && not (kept && not damaged)) → former ≡ was
    → (if reached then hurt else former) ≡ (if draws && target then not (kept && not damaged) else was)
hurt_moved draws true true kept damaged was hurt former reached same first second third = rw (first, second, third) refl
hurt_moved draws true false kept damaged was hurt former reached same first second third = absurd (both_ways true same refl)
hurt_moved draws false source kept damaged was hurt former reached same first second third = rw (first, third) (no_target draws)
  where
    no_target : (draws : Bool)
        → (if draws && false then hurt else was) ≡ (if draws && false then not (kept && not damaged) else was)
    no_target true = refl
    no_target false = refl

-- a pixel's mark after a scroll, by that of the one that it takes
scroll_mark : (drawable has area kept damaged : Bool) (mark : ℕ → ℕ → Bool) (x y u v : ℕ) → (kept ≡ true → mark u v ≡ damaged)
    → (if drawable && has then brought_mark mark x y (brought_if area kept u v) else mark x y)
    ≡ (if drawable && (has && area) then not (kept && not damaged) else mark x y)
scroll_mark true true true true true mark x y u v is = is refl
scroll_mark true true true true false mark x y u v is = is refl
scroll_mark true true true false damaged mark x y u v is = refl
scroll_mark true true false kept damaged mark x y u v is = refl
scroll_mark true false area kept damaged mark x y u v is = refl
scroll_mark false has area kept damaged mark x y u v is = refl

kept_mark : (c : LiveView) (x y : ℤ) → holds_at (λ i j. keeps c i j) x y ≡ true
    → at false c.layer.damage (unsigned_abs x) (unsigned_abs y) ≡ is_damaged c x y
kept_mark c (pos x) (pos y) is = refl
kept_mark c (pos x) (negsuc y) is = absurd (both_ways false refl is)
kept_mark c (negsuc x) y is = absurd (both_ways false refl is)

-- whether a pixel is damaged after a scroll
abbrev pub mark_after : LiveView → Rectangle → ℤ → ℤ → ℕ → ℕ → Bool
mark_after c rect dx dy x y =
    let column = pos x +ℤ dx in
    let row = pos y +ℤ dy in
    if draws c x y && (has_pixel rect (pos x) (pos y) && holds_at (λ i j. in_scroll_area rect c.layer i j) column row)
    then not (holds_at (λ i j. keeps c i j) column row && not (is_damaged c column row))
    else at false c.layer.damage x y

pub scrolled_is : (c : LiveView) (rect : Rectangle) (dx dy : ℤ) (x y : ℕ)
    → scrolled_mark (λ i j. shows c i j) dx dy rect c.layer (at false c.layer.damage) x y ≡ mark_after c rect dx dy x y
unfolding draws keeps
scrolled_is c rect dx dy x y =
    let column = pos x +ℤ dx in
    let row = pos y +ℤ dy in
    scroll_mark (draws c x y) (has_pixel rect (pos x) (pos y)) (holds_at (λ i j. in_scroll_area rect c.layer i j) column row)
    (holds_at (λ i j. keeps c i j) column row) (is_damaged c column row) (at false c.layer.damage) x y (unsigned_abs column)
    (unsigned_abs row) (λ is. kept_mark c column row is)

-- Damage may lie on the pixels of a layer's bits that its inner rectangle has.
may_damage : (c : LiveView) (inner : Option Rectangle) (x y : ℕ) → is_super c.layer.kind ≡ false → inner ≡ inner_in c
    → x < c.layer.bits.width → y < c.layer.bits.height → may_be_damaged c.layer x y ≡ may_lie inner (pos x) (pos y)
may_damage c inner x y other is left low =
    ap (λ t. not t && is_inside c.layer x y) other
    ∙ sym (ap (λ o. may_lie o (pos x) (pos y)) is
    ∙ may_pixel (is_super c.layer.kind) (is_framed c.layer.window) c.layer.bits.width c.layer.bits.height x y other left low)

-- Where no pixel of the rectangle leads to one of it, the damage stays.
pub marks_stay : (c : LiveView) (d : Damaged) (rect : Rectangle) (dx dy : ℤ) → is_super c.layer.kind ≡ false
    → IsDamageOf c d
    → ((x y : ℤ) → covers d.rects x y ≡ true → may_lie d.inner x y ≡ true)
    → ((x y : ℕ) → x < c.layer.bits.width → y < c.layer.bits.height
    → (has_pixel rect (pos x) (pos y) && holds_at (λ i j. in_scroll_area rect c.layer i j) (pos x +ℤ dx) (pos y +ℤ dy)) ≡ false)
    → scrolled_damage c rect dx dy ≡ c.layer.damage
marks_stay c d rect dx dy other is lies none =
    grid_same c.layer.bits.width c.layer.bits.height _ (λ x y. covers d.rects (pos x) (pos y))
    (λ x y left low.
    ap (λ t. t && may_be_damaged c.layer x y)
    (scrolled_is c rect dx dy x y
    ∙ (none_taken (draws c x y) _ _ _ (none x y left low) ∙ sym (former_marks c d is (pos x) (pos y))))
    ∙ all_and (covers d.rects (pos x) (pos y)) (may_be_damaged c.layer x y)
    (λ has. may_damage c d.inner x y other is.inner left low ∙ lies (pos x) (pos y) has))
    ∙ sym is.pixels
  where
    none_taken : (drawable taken a b : Bool) → taken ≡ false → (if drawable && taken then a else b) ≡ b
    none_taken true taken a b is = rw is refl
    none_taken false taken a b is = refl

-- a layer of a kind that keeps all its pixels
pub all_kept : (c : LiveView) (kind : Kind) → c.layer.kind ≡ kind → ((v : Bool) → kept_as kind v ≡ true) → (x y : ℕ)
    → x < c.layer.bits.width → y < c.layer.bits.height → keeps c x y ≡ true
unfolding keeps is_kept
all_kept c kind is all x y left low =
    rw (lt-ltb x c.layer.bits.width left, lt-ltb y c.layer.bits.height low, is) (all (shows c x y))

pub whole_of : (c : LiveView) (d : Damaged) → IsDamageOf c d
    → ((x y : ℕ) → x < c.layer.bits.width → y < c.layer.bits.height → keeps c x y ≡ true)
    → ((x y : ℤ) → covers d.rects x y ≡ false) → IsWhole c
whole_of c d is all none = record {
  kept = all;
  sound = is.pixels
      ∙ grid_same c.layer.bits.width c.layer.bits.height (λ x y. covers d.rects (pos x) (pos y)) (λ x y. false)
      (λ x y _ _. none (pos x) (pos y));
}

-- no rectangle has no pixel
pub empty_nowhere : (l : List Rectangle) (x y : ℤ) → (length l == 0) ≡ true → covers l x y ≡ false
empty_nowhere [] x y is = covers_nil x y
empty_nowhere (r ∷ rest) x y is = absurd (both_ways (length (r ∷ rest) == 0) (grind (arith, nat_tests)) is)

-- damage of a super-bitmap layer has none
pub own_nowhere : (c : LiveView) (d : Damaged) → is_super c.layer.kind ≡ true → IsDamageOf c d
    → ((x y : ℤ) → covers d.rects x y ≡ true → may_lie d.inner x y ≡ true) → (x y : ℤ) → covers d.rects x y ≡ false
own_nowhere c d own is lies x y =
    false_from_ne_true _ (λ has.
    both_ways _ (ap (λ o. may_lie o x y) is.inner
    ∙ none_may (is_super c.layer.kind) (is_framed c.layer.window) c.layer.bits.width c.layer.bits.height x y own)
    (lies x y has))

-- A layer that keeps all and has no damage has none after a scroll.
pub whole_stays : (c : LiveView) (rect : Rectangle) (dx dy : ℤ) → IsWhole c → scrolled_damage c rect dx dy ≡ c.layer.damage
whole_stays c rect dx dy whole =
    grid_same c.layer.bits.width c.layer.bits.height _ (λ x y. false)
    (λ x y left low.
    ap (λ t. t && may_be_damaged c.layer x y)
    (scrolled_is c rect dx dy x y ∙ unmarked (draws c x y) (has_pixel rect (pos x) (pos y)) _ _ _ _
    (area_kept c rect whole (pos x +ℤ dx) (pos y +ℤ dy)) (undamaged c whole (pos x +ℤ dx) (pos y +ℤ dy))
    (undamaged c whole (pos x) (pos y))))
    ∙ sym whole.sound
  where
    unmarked : (drawable has area kept damaged mark : Bool) → (area ≡ true → kept ≡ true) → damaged ≡ false → mark ≡ false
        → (if drawable && (has && area) then not (kept && not damaged) else mark) ≡ false
    unmarked true true true kept damaged mark all none off = rw (all refl, none) refl
    unmarked true true false kept damaged mark all none off = off
    unmarked true false area kept damaged mark all none off = off
    unmarked false has area kept damaged mark all none off = off

    undamaged : (c : LiveView) → IsWhole c → (x y : ℤ) → is_damaged c x y ≡ false
    undamaged c whole (pos x) (pos y) =
        ap (λ t. at false t x y) whole.sound
        ∙ ⊎_elim
        (λ (low : y < c.layer.bits.height).
        ⊎_elim (λ (left : x < c.layer.bits.width). grid_at c.layer.bits.width c.layer.bits.height
        (λ i j. false) false x y left low)
        (λ (past : c.layer.bits.width ≤ x). grid_past_column c.layer.bits.width c.layer.bits.height
        (λ i j. false) false x y past low)
        (cases_lt x c.layer.bits.width))
        (λ (below : c.layer.bits.height ≤ y). grid_past_row c.layer.bits.width c.layer.bits.height
        (λ i j. false) false x y below)
        (cases_lt y c.layer.bits.height)
    undamaged c whole (pos x) (negsuc y) = refl
    undamaged c whole (negsuc x) y = refl

    area_kept : (c : LiveView) (rect : Rectangle) → IsWhole c → (x y : ℤ)
        → holds_at (λ i j. in_scroll_area rect c.layer i j) x y ≡ true
        → holds_at (λ i j. keeps c i j) x y ≡ true
    area_kept c rect whole (pos x) (pos y) is =
        let bits = and_parts (nat_lt x c.layer.bits.width) (nat_lt y c.layer.bits.height) ((and_parts _ _ is).0) in
        whole.kept x y (ltb-true x c.layer.bits.width bits.0) (ltb-true y c.layer.bits.height bits.1)
    area_kept c rect whole (pos x) (negsuc y) is = is
    area_kept c rect whole (negsuc x) y is = is

-- The damage that was moved is that of the layer after the scroll.
pub damage_moved : (c : LiveView) (former d : Damaged) (rect target : Rectangle) (dx dy : ℤ) → is_super c.layer.kind ≡ false
    → IsDamageOf c former
    → ((x y : ℕ) → x < c.layer.bits.width → y < c.layer.bits.height
    → has_pixel target (pos x) (pos y)
    ≡ (has_pixel rect (pos x) (pos y) && holds_at (λ i j. in_scroll_area rect c.layer i j) (pos x +ℤ dx) (pos y +ℤ dy)))
    → IsMovedDamage c target dx dy d → IsDamageOf (with_layer (λ l. record l { damage = scrolled_damage c rect dx dy }) c) d
unfolding keeps is_kept
damage_moved c former d rect target dx dy other was is moved = record {
  pixels = grid_same c.layer.bits.width c.layer.bits.height _ (λ x y. covers d.rects (pos x) (pos y))
      (λ x y left low.
      ap (λ t. t && may_be_damaged c.layer x y)
      (scrolled_is c rect dx dy x y
      ∙ ap (λ t. if draws c x y && t then not
      (holds_at (λ i j. keeps c i j) (pos x +ℤ dx) (pos y +ℤ dy) && not
      (is_damaged c (pos x +ℤ dx) (pos y +ℤ dy))) else at false c.layer.damage x y) (sym (is x y left low)))
      ∙ ap (λ t. moved_mark c target dx dy (pos x) (pos y) && t) (may_damage c d.inner x y other moved.inner left low)
      ∙ sym (moved.pixels (pos x) (pos y)));
  kept = λ x y has.
      let marked : moved_mark c target dx dy x y ≡ true = (and_parts _ _ (sym (moved.pixels x y) ∙ has)).0 in
      mark_kept c former target dx dy was x y marked;
  inner = moved.inner;
  updating = moved.updating;
}
  where
    drawn_kept : (c : LiveView) (x y : ℤ) → holds_at (λ i j. draws c i j) x y ≡ true → holds_at (λ i j. keeps c i j) x y ≡ true
    drawn_kept c x y drawn = (and_parts _ _ (sym (drawable_is c x y) ∙ drawn)).0

    mark_kept : (c : LiveView) (former : Damaged) (target : Rectangle) (dx dy : ℤ) → IsDamageOf c former → (x y : ℤ)
        → moved_mark c target dx dy x y ≡ true → holds_at (λ i j. keeps c i j) x y ≡ true
    mark_kept c former target dx dy was x y marked =
        ⊎_elim
        (λ (taken : (holds_at (λ i j. draws c i j) x y && has_pixel target x y) ≡ true). drawn_kept c x y
        ((and_parts _ _ taken).0))
        (λ (left : (holds_at (λ i j. draws c i j) x y && has_pixel target x y) ≡ false).
        was.kept x y
        (former_marks c former was x y
        ∙ (sym (ap (λ t. if t
        then not (holds_at (λ i j. keeps c i j) (x +ℤ dx) (y +ℤ dy) && not (is_damaged c (x +ℤ dx) (y +ℤ dy)))
        else is_damaged c x y) left)
        ∙ marked)))
        (cases_Bool _)

-- The steps of the code make it.
pub steps_moved : (c : LiveView) (former d : Damaged) (target source : Rectangle) (dx dy : ℤ)
    (kept reached hurt due : List Rectangle)
    → IsDamageOf c former → ((x y : ℤ) → covers kept x y ≡ holds_at (λ i j. keeps c i j) x y)
    → ((x y : ℤ) → has_pixel target x y ≡ has_pixel source (x +ℤ dx) (y +ℤ dy))
    → AreDrawable c target reached → LeadToHurt kept former.rects source dx dy hurt → AreDue former.rects reached hurt due
    → IsDamageWith former.inner due former.updating d → IsMovedDamage c target dx dy d
steps_moved c former d target source dx dy kept reached hurt due was are shifted drawn lead is made = record {
  pixels = λ x y.
      let column = x +ℤ dx in
      let row = y +ℤ dy in
      let same : not (covers kept column row && not (covers former.rects column row))
      ≡ not (holds_at (λ i j. keeps c i j) column row && not (is_damaged c column row)) =
      ap (λ t. not (t && not (covers former.rects column row))) (are column row)
      ∙ ap (λ t. not (holds_at (λ i j. keeps c i j) column row && not t)) (former_marks c former was column row)
      in
      made.pixels x y
      ∙ (ap (λ t. t && may_lie former.inner x y)
      (is x y ∙ hurt_moved (holds_at (λ i j. draws c i j) x y) (has_pixel target x y) (has_pixel source column row)
      (holds_at (λ i j. keeps c i j) column row) (is_damaged c column row) (is_damaged c x y) (covers hurt x y)
      (covers former.rects x y) (covers reached x y)
      (shifted x y) (drawn x y) (lead x y ∙ ap (λ t. has_pixel source column row && t) same) (former_marks c former was x y))
      ∙ ap (λ o. moved_mark c target dx dy x y && may_lie o x y) (sym made.inner));
  inner = made.inner ∙ was.inner;
  updating = made.updating ∙ was.updating;
}
