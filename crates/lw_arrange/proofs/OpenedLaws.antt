-- What the machine reveals of a new layer: the layer as it was created, filled wherever it keeps a pixel.
use Rattle.std.proofs.Common.{◌≡◌, ℕ, Bool, true, false, not, ◌&&◌, nat_lt, List, Option, Some, None, refl, sym, ap, subst, ◌∙◌, ⊎_elim, ℤ, unsigned_abs}
use Rattle.std.specs.Prelude.{if◌then◌else◌}
use Rattle.std.proofs.lemmas.Bool.{cases_Bool}
use Rattle.lw_region.specs.Rectangle.{Rectangle}
use Rattle.lw_region.specs.Bands.{covers}
use Rattle.lw_planes.specs.Grid.{grid, at}
use Rattle.lw_planes.specs.Bitmap.{bitmap}
use Rattle.lw_planes.proofs.GridLaws.{grid_same}
use Rattle.lw_calls.specs.declared.make.Kind.{Kind}
use Rattle.lw_calls.specs.declared.make.Kind.TheVariants.{Simple, Smart, SuperBitmap}
use Rattle.lw_calls.specs.declared.make.Make.{Make}
use Rattle.lw_calls.specs.Kinds.{is_super}
use Rattle.lw_machine.specs.Hook.{Hook}
use Rattle.lw_machine.specs.Layer.{Layer, Window}
use Rattle.lw_machine.specs.Kept.{is_kept, kept_as, screen_place}
use Rattle.lw_machine.specs.Arrangement.{bounds_of, blank, new_layer}
use Rattle.lw_machine.specs.Reveal.{Across, width_in, height_in, is_inner, counts_as_kept, at_new_size, fills, some_pixel, revealed}
use Rattle.lw_machine.specs.Reveal as reveal
use Rattle.lw_machine.proofs.Settling.{revealed_super}
use Rattle.lw_machine.proofs.CreatedSound.{blank_bitmap}
use Rattle.lw_layer.specs.View.{State, LiveView, CellView, keeps}
use Rattle.lw_layer.specs.View as view
use Rattle.lw_layer.specs.New.{new_live}
use Rattle.lw_layer.proofs.NewDraftLaws.{box_extent}
use Rattle.lw_layer.proofs.PixelTests.{none_within}
use Rattle.lw_arrange.specs.Filled.{counts_if_live, gains, gains_some, filled_layer}
use Rattle.lw_arrange.proofs.FilledLaws.{with_hook, revealed_in, with_other_pens, revealed_filled, unfilled}
use Rattle.lw_arrange.proofs.GainsLaws.{none_gained}

-- the size of a new layer that has no bitmap of its own is that of its bounds
pub new_width : (kind : Kind) (depth : ℕ) (make : Make) → is_super kind ≡ false
    → (blank kind depth make).width ≡ unsigned_abs make.w
new_width Simple depth make other = refl
new_width Smart depth make other = refl
new_width SuperBitmap depth make other = absurd (cc other)

pub new_height : (kind : Kind) (depth : ℕ) (make : Make) → is_super kind ≡ false
    → (blank kind depth make).height ≡ unsigned_abs make.h
new_height Simple depth make other = refl
new_height Smart depth make other = refl
new_height SuperBitmap depth make other = absurd (cc other)

wide : (make : Make) (depth : ℕ) → is_super make.kind ≡ false
    → (blank make.kind depth make).width ≡ width_in (Some (bounds_of make))
wide make depth other = new_width make.kind depth make other ∙ sym (ap unsigned_abs (box_extent make.x make.w))

high : (make : Make) (depth : ℕ) → is_super make.kind ≡ false
    → (blank make.kind depth make).height ≡ height_in (Some (bounds_of make))
high make depth other = new_height make.kind depth make other ∙ sym (ap unsigned_abs (box_extent make.y make.h))

blank_is : (kind : Kind) (depth : ℕ) (make : Make)
    → bitmap (blank kind depth make).width (blank kind depth make).height (blank kind depth make).depth (λ x y. 0) ≡ blank kind depth make
blank_is Simple depth make = refl
blank_is Smart depth make = refl
blank_is SuperBitmap depth make = refl

-- a new layer, across the arrangement that creates it
abbrev pub across_new : Make → (ℤ → ℤ → Bool) → List Rectangle → Bool → Bool → Across
across_new make shown visible active new_active = record {
  bounds = None;
  new_bounds = Some (bounds_of make);
  shown = shown;
  new_shown = λ x y. covers visible x y;
  active = active;
  new_active = new_active;
}

-- of a layer that wasn't live no pixel counts as kept before
uncounted : (make : Make) (shown : ℤ → ℤ → Bool) (visible : List Rectangle) (active new_active : Bool) (l : Layer) (x y : ℕ)
    → counts_as_kept (across_new make shown visible active new_active) l x y ≡ false
unfolding counts_as_kept
uncounted make shown visible active new_active l x y = refl

-- the cell of a new layer
abbrev pub created : CellView → Make → ℕ → Rectangle → List Rectangle → Option Window → CellView
created c make depth r visible window =
    record { number = c.number; state = view.Live; live = new_live make depth r visible window 0 }

-- a new layer keeps what the machine's does
kept_new : (make : Make) (depth : ℕ) (window : Option Window) (shown : ℤ → ℤ → Bool) (visible : List Rectangle)
    (active new_active : Bool) (x y : ℕ) → is_super make.kind ≡ false
    → keeps (new_live make depth (bounds_of make) visible window 0) x y
    ≡ reveal.keeps (across_new make shown visible active new_active)
    (at_new_size (across_new make shown visible active new_active) (new_layer depth make None window)) x y
unfolding keeps is_kept
kept_new make depth window shown visible active new_active x y other =
    let r = bounds_of make in
    let seen = kept_as make.kind (covers visible (screen_place r.min_x 0 x) (screen_place r.min_y 0 y)) in
    ap (λ w. (nat_lt x w && nat_lt y (blank make.kind depth make).height) && seen) (wide make depth other)
    ∙ ap (λ h. (nat_lt x (width_in (Some r)) && nat_lt y h) && seen) (high make depth other)

-- and none in a slot that isn't live
pub none_counted : (q : State) (c to : LiveView) (x y : ℕ) → (q ≡ view.Live → ⊥) → counts_if_live q c to x y ≡ false
none_counted view.Unopened c to x y dead = refl
none_counted view.Live c to x y dead = absurd (dead refl)
none_counted view.Closed c to x y dead = refl

-- What a new layer gains is what the machine fills.
gains_created : (c : CellView) (make : Make) (depth : ℕ) (window : Option Window) (shown : ℤ → ℤ → Bool) (visible : List Rectangle)
    (active new_active : Bool) (x y : ℕ) → (c.state ≡ view.Live → ⊥) → is_super make.kind ≡ false
    → gains c (created c make depth (bounds_of make) visible window) x y
    ≡ fills (across_new make shown visible active new_active) (new_layer depth make None window)
    (at_new_size (across_new make shown visible active new_active) (new_layer depth make None window)) x y
gains_created c make depth window shown visible active new_active x y dead other =
    let k = across_new make shown visible active new_active in
    let l = new_layer depth make None window in
    let new = new_live make depth (bounds_of make) visible window 0 in
    ap (λ t. not t && (keeps new x y && not (counts_if_live c.state c.live new x y))) other
    ∙ (ap (λ t. t && not (counts_if_live c.state c.live new x y)) (kept_new make depth window shown visible active new_active x y other)
    ∙ ap (λ t. reveal.keeps k (at_new_size k l) x y && not t)
    (none_counted c.state c.live new x y dead ∙ sym (uncounted make shown visible active new_active l x y)))

-- whether something is gained, asked over the machine's size
some_created : (make : Make) (depth : ℕ) (test : ℕ → ℕ → Bool) → is_super make.kind ≡ false
    → some_pixel (blank make.kind depth make).width (blank make.kind depth make).height test
    ≡ some_pixel (width_in (Some (bounds_of make))) (height_in (Some (bounds_of make))) test
some_created make depth test other =
    ap (λ w. some_pixel w (blank make.kind depth make).height test) (wide make depth other)
    ∙ ap (λ h. some_pixel (width_in (Some (bounds_of make))) h test) (high make depth other)

-- what is created isn't damaged
undamaged : (b counted was : Bool) → counted ≡ false → (b && (if counted then was else false)) ≡ false
undamaged true counted was none = rw none refl
undamaged false counted was none = refl

-- the created layer is the revealed one with pen 0 everywhere
created_pens : (make : Make) (depth : ℕ) (window : Option Window) (shown : ℤ → ℤ → Bool) (visible : List Rectangle)
    (active new_active : Bool) → is_super make.kind ≡ false
    → with_other_pens (across_new make shown visible active new_active) (new_layer depth make None window) (λ x y. 0) None
    ≡ new_layer depth make None window
created_pens make depth window shown visible active new_active other =
    let k = across_new make shown visible active new_active in
    let l = new_layer depth make None window in
    let b = blank make.kind depth make in
    let w = width_in (Some (bounds_of make)) in
    let t = height_in (Some (bounds_of make)) in
    let bits : bitmap w t b.depth (λ x y. 0) ≡ b =
    ap (λ n. bitmap n t b.depth (λ x y. 0)) (sym (wide make depth other))
    ∙ (ap (λ n. bitmap b.width n b.depth (λ x y. 0)) (sym (high make depth other)) ∙ blank_is make.kind depth make) in
    let damage : (revealed_in k l).damage ≡ l.damage =
    grid_same w t _ (λ x y. false)
    (λ x y left low.
    undamaged (reveal.keeps k (at_new_size k l) x y && is_inner k l x y) (counts_as_kept k l x y) (at false l.damage x y)
    (uncounted make shown visible active new_active l x y))
    ∙ (ap (λ n. grid n t (λ x y. false)) (sym (wide make depth other))
    ∙ ap (λ n. grid b.width n (λ x y. false)) (sym (high make depth other))) in
    ap (λ q. record l { bits = q; damage = (revealed_in k l).damage }) bits ∙ ap (λ q. record l { damage = q }) damage

-- What the machine reveals of a new layer, with a hook or without, is the created layer once what it gains is filled.
pub new_revealed : (c : CellView) (make : Make) (depth : ℕ) (r : Rectangle) (visible : List Rectangle) (window : Option Window)
    (h : Option Hook) (shown : ℤ → ℤ → Bool) (active new_active : Bool) → (c.state ≡ view.Live → ⊥) → r ≡ bounds_of make
    → revealed (across_new make shown visible active new_active) (new_layer depth make h window)
    ≡ filled_layer h (λ x y. gains c (created c make depth r visible window) x y)
    (gains_some c (created c make depth r visible window)) (new_layer depth make None window)
new_revealed c make depth r visible window h shown active new_active dead place =
    let P : Rectangle → Type 0 = λ r.
    revealed (across_new make shown visible active new_active) (new_layer depth make h window)
    ≡ filled_layer h (λ x y. gains c (created c make depth r visible window) x y)
    (gains_some c (created c make depth r visible window)) (new_layer depth make None window) in
    subst P (sym place)
    (⊎_elim (λ (own : is_super make.kind ≡ true). whole own) (λ (other : is_super make.kind ≡ false). part other)
    (cases_Bool (is_super make.kind)))
  where
    to : CellView
    to = created c make depth (bounds_of make) visible window

    l : Layer
    l = new_layer depth make None window

    q : Across
    q = across_new make shown visible active new_active

    on : ℕ → ℕ → Bool
    on x y = gains c to x y

    whole : is_super make.kind ≡ true → revealed q (with_hook h l) ≡ filled_layer h on (gains_some c to) l
    whole own =
        let none : (x y : ℕ) → on x y ≡ false = λ x y. none_gained c to x y own in
        revealed_super q (with_hook h l) own
        ∙ sym (unfilled l h on (gains_some c to) (blank_bitmap make.kind depth make) none
        (none_within l.bits.width l.bits.height on (λ x y _ _. none x y)))

    part : is_super make.kind ≡ false → revealed q (with_hook h l) ≡ filled_layer h on (gains_some c to) l
    part other =
        revealed_filled q l h on (gains_some c to) (λ x y. 0) None other
        (λ x y. gains_created c make depth window shown visible active new_active x y dead other)
        (some_created make depth on other)
        (record {
          stays = λ x y kept counts. absurd (cc (uncounted make shown visible active new_active l x y, counts));
          off = λ x y unkept. refl;
        })
        ∙ ap (filled_layer h on (gains_some c to)) (created_pens make depth window shown visible active new_active other)
