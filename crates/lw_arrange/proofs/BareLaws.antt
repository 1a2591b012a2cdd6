-- A layer without a hook is as it is filled, unless it is a framed window whose size changes.
use Rattle.std.proofs.Common.{◌≡◌, ℕ, ◌<◌, ◌^◌, Bool, true, false, not, ◌&&◌, ◌||◌, nat_lt, List, Option, Some, None, refl, sym, ap, subst, ◌∙◌, ⊎_elim}
use Rattle.std.specs.Prelude.{if◌then◌else◌}
use Rattle.std.proofs.lemmas.Bool.{and_parts, cases_Bool, ltb-true}
use Rattle.std.proofs.lemmas.Nat.{pow_pos}
use Rattle.lw_region.specs.Rectangle.{Rectangle, width, height}
use Rattle.lw_planes.specs.Bitmap.{IsBitmap, bitmap, pen_at}
use Rattle.lw_planes.proofs.BitmapLaws.{IsBitmap_bitmap, pen_at_bitmap}
use Rattle.lw_calls.specs.declared.make.Kind.{Kind}
use Rattle.lw_calls.specs.declared.make.Kind.TheVariants.{Simple, Smart, SuperBitmap}
use Rattle.lw_calls.specs.declared.make.Make.{Make}
use Rattle.lw_calls.specs.Kinds.{is_super}
use Rattle.lw_machine.specs.Layer.{Layer, Window, is_framed}
use Rattle.lw_machine.specs.Kept.{in_inner, is_kept}
use Rattle.lw_machine.specs.Arrangement.{blank, new_layer}
use Rattle.lw_machine.specs.Reveal.{width_in, height_in, counts_as_kept, at_new_size, fill_pen, hook_after}
use Rattle.lw_machine.specs.Reveal as reveal
use Rattle.lw_machine.proofs.CreatedSound.{blank_bitmap}
use Rattle.lw_layer.specs.View.{LiveView, CellView, keeps}
use Rattle.lw_layer.specs.View as view
use Rattle.lw_layer.specs.StandsFor.{IsSound}
use Rattle.lw_reveal.specs.Changed.{across_to, windowless, carried_to}
use Rattle.lw_reveal.proofs.GainedView.{gained_view, carried_without_bitmap, carried_own}
use Rattle.lw_reveal.proofs.GainedCounts.{counts_kept}
use Rattle.lw_arrange.specs.Filled.{gains, filled_layer}
use Rattle.lw_arrange.proofs.FilledLaws.{with_hook, unfilled_bare}
use Rattle.lw_arrange.proofs.GainsLaws.{stayed, gains_stayed, none_gained, gained_inside, carried_pen}

-- the size of a framed window stays
abbrev pub KeepsFrame : LiveView → Rectangle → Type 0
KeepsFrame c r = is_framed c.layer.window ≡ true → (width r ≡ width c.bounds) × (height r ≡ height c.bounds)

-- so all that the layer kept counts as kept, and nothing else
frame_stays : (kept framed was now : Bool) → (framed ≡ true → was ≡ now) → (kept && (was || not (framed && now))) ≡ kept
frame_stays true true was true same = rw (same refl) refl
frame_stays true true was false same = rw (same refl) refl
frame_stays true false true now same = refl
frame_stays true false false now same = refl
frame_stays false framed was now same = refl

all_counts : (c : LiveView) (r : Rectangle) (visible : List Rectangle) (x y : ℕ) → KeepsFrame c r
    → counts_as_kept (across_to c r visible) c.layer x y ≡ keeps c x y
unfolding counts_as_kept keeps
all_counts c r visible x y stays =
    let f = is_framed c.layer.window in
    frame_stays (keeps c x y) f (in_inner f (width c.bounds) (height c.bounds) x y) (in_inner f (width r) (height r) x y)
    (λ framed.
    ap (λ w. in_inner f w (height c.bounds) x y) (sym (stays framed).0) ∙ ap (λ h. in_inner f (width r) h x y) (sym (stays framed).1))

-- the pens of the carried layer, which has no hook
abbrev bare_pen : LiveView → Rectangle → List Rectangle → ℕ → ℕ → ℕ
bare_pen c r visible x y =
    let k = across_to c r visible in
    if reveal.keeps k (at_new_size k c.layer) x y
    then (if counts_as_kept k (windowless c.layer) x y then pen_at c.layer.bits x y else 0)
    else 0

carried_bits : (c : LiveView) (r : Rectangle) (visible : List Rectangle)
    → (gained_view r visible c).layer.bits ≡ bitmap (width_in (Some r)) (height_in (Some r)) c.layer.bits.depth (carried_pen c r visible)
unfolding is_kept
carried_bits c r visible = refl

bare_is : (c : LiveView) (r : Rectangle) (visible : List Rectangle) (x y : ℕ) → IsSound c
    → carried_pen c r visible x y ≡ bare_pen c r visible x y
bare_is c r visible x y sound =
    let k = across_to c r visible in
    ap (λ o. if reveal.keeps k (at_new_size k c.layer) x y
    then (if counts_as_kept k (windowless c.layer) x y then pen_at c.layer.bits x y else fill_pen c.layer.bits.depth o x y)
    else 0) sound.hook

-- a pen that isn't kept before, or not now, is 0
zero_pen : (kept whole counted : Bool) (pen : ℕ) → whole ≡ counted → (kept && not counted) ≡ true
    → (if kept then (if whole then pen else 0) else 0) ≡ 0
zero_pen true whole true pen same filled = absurd (cc filled)
zero_pen true whole false pen same filled = rw same refl
zero_pen false whole counted pen same filled = refl

-- Where no frame changes its size, each pixel that a layer without a hook gains has pen 0 already.
pub gained_blank : (c : CellView) (r : Rectangle) (visible : List Rectangle) (x y : ℕ) → c.state ≡ view.Live → IsSound c.live
    → KeepsFrame c.live r → gains c (stayed r visible c) x y ≡ true
    → pen_at (carried_to r visible c.live).layer.bits x y ≡ 0
gained_blank c r visible x y live sound stays has =
    ⊎_elim (λ (own : is_super c.live.layer.kind ≡ true). whole own) (λ (other : is_super c.live.layer.kind ≡ false). part other)
    (cases_Bool (is_super c.live.layer.kind))
  where
    l : Layer
    l = c.live.layer

    whole : is_super l.kind ≡ true → pen_at (carried_to r visible c.live).layer.bits x y ≡ 0
    whole own =
        let still = ap (λ (v : LiveView). is_super v.layer.kind) (carried_own c.live r visible own) ∙ own in
        absurd (cc (none_gained c (stayed r visible c) x y still, has))

    part : is_super l.kind ≡ false → pen_at (carried_to r visible c.live).layer.bits x y ≡ 0
    part other =
        let k = across_to c.live r visible in
        let g = gained_view r visible c.live in
        let carried = carried_without_bitmap c.live r visible other in
        let inside = gained_inside c (stayed r visible c) x y has in
        let left = subst (λ (v : LiveView). x < v.layer.bits.width) carried inside.0 in
        let low = subst (λ (v : LiveView). y < v.layer.bits.height) carried inside.1 in
        let filled : (reveal.keeps k (at_new_size k l) x y && not (counts_as_kept k l x y)) ≡ true =
        sym (gains_stayed c r visible c.live.active c.live.active x y live other) ∙ has in
        let same : counts_as_kept k (windowless l) x y ≡ counts_as_kept k l x y =
        counts_kept c.live r visible x y ∙ sym (all_counts c.live r visible x y stays) in
        ap (λ (v : LiveView). pen_at v.layer.bits x y) carried
        ∙ (pens left low
        ∙ (bare_is c.live r visible x y sound
        ∙ zero_pen (reveal.keeps k (at_new_size k l) x y) (counts_as_kept k (windowless l) x y) (counts_as_kept k l x y)
        (pen_at l.bits x y) same filled))
      where
        pens : x < width_in (Some r) → y < height_in (Some r)
            → pen_at (gained_view r visible c.live).layer.bits x y ≡ carried_pen c.live r visible x y
        pens left low =
            ap (λ b. pen_at b x y) (carried_bits c.live r visible)
            ∙ pen_at_bitmap (width_in (Some r)) (height_in (Some r)) l.bits.depth (carried_pen c.live r visible) x y left low

-- the bits of the carried layer are a bitmap, where it has no hook
small_pen : (kept whole : Bool) (pen d : ℕ) → (whole ≡ true → pen < 2 ^ d) → (if kept then (if whole then pen else 0) else 0) < 2 ^ d
small_pen true true pen d small = small refl
small_pen true false pen d small = pow_pos d
small_pen false whole pen d small = pow_pos d

kept_small : (c : LiveView) (x y : ℕ) → IsSound c → keeps c x y ≡ true → pen_at c.layer.bits x y < 2 ^ c.layer.bits.depth
unfolding keeps is_kept
kept_small c x y sound kept =
    let b = c.layer.bits in
    let sides = and_parts (nat_lt x b.width) (nat_lt y b.height) (and_parts (nat_lt x b.width && nat_lt y b.height) _ kept).0 in
    sound.bits.bitmap.pens x y (ltb-true x b.width sides.0) (ltb-true y b.height sides.1)

pub carried_bitmap : (c : LiveView) (r : Rectangle) (visible : List Rectangle) → IsSound c
    → IsBitmap (carried_to r visible c).layer.bits
carried_bitmap c r visible sound =
    let P : LiveView → Type 0 = λ v. IsBitmap v.layer.bits in
    ⊎_elim (λ (own : is_super c.layer.kind ≡ true). subst P (sym (carried_own c r visible own)) sound.bits.bitmap)
    (λ (other : is_super c.layer.kind ≡ false). subst P (sym (carried_without_bitmap c r visible other)) gained)
    (cases_Bool (is_super c.layer.kind))
  where
    gained : IsBitmap (gained_view r visible c).layer.bits
    gained =
        let k = across_to c r visible in
        subst IsBitmap (sym (carried_bits c r visible))
        (IsBitmap_bitmap (width_in (Some r)) (height_in (Some r)) c.layer.bits.depth (carried_pen c r visible)
        (λ x y left low.
        let Q : ℕ → Type 0 = λ n. n < 2 ^ c.layer.bits.depth in
        subst Q (sym (bare_is c r visible x y sound))
        (small_pen (reveal.keeps k (at_new_size k c.layer) x y) (counts_as_kept k (windowless c.layer) x y) (pen_at c.layer.bits x y)
        c.layer.bits.depth (λ counts. kept_small c x y sound (sym (counts_kept c r visible x y) ∙ counts)))))

-- and it has no hook either
pub carried_bare : (c : LiveView) (r : Rectangle) (visible : List Rectangle) → IsSound c → (carried_to r visible c).layer.hook ≡ None
carried_bare c r visible sound =
    ⊎_elim
    (λ (own : is_super c.layer.kind ≡ true). ap (λ (v : LiveView). v.layer.hook) (carried_own c r visible own) ∙ sound.hook)
    (λ (other : is_super c.layer.kind ≡ false).
    ap (λ (v : LiveView). v.layer.hook) (carried_without_bitmap c r visible other) ∙ ap (hook_after _) sound.hook)
    (cases_Bool (is_super c.layer.kind))

-- So a live layer without a hook is as it is filled.
pub live_unfilled : (c : CellView) (r : Rectangle) (visible : List Rectangle) (some : Bool) → c.state ≡ view.Live → IsSound c.live
    → KeepsFrame c.live r
    → filled_layer None (λ x y. gains c (stayed r visible c) x y) some (carried_to r visible c.live).layer
    ≡ (carried_to r visible c.live).layer
live_unfilled c r visible some live sound stays =
    let l = (carried_to r visible c.live).layer in
    unfilled_bare l (λ x y. gains c (stayed r visible c) x y) some (carried_bitmap c.live r visible sound)
    (λ x y left low has. gained_blank c r visible x y live sound stays has)
    ∙ ap (λ o. with_hook o l) (sym (carried_bare c.live r visible sound))

-- a new layer has pen 0 everywhere
created_blank : (kind : Kind) (depth : ℕ) (make : Make) (x y : ℕ) → x < (blank kind depth make).width
    → y < (blank kind depth make).height → pen_at (blank kind depth make) x y ≡ 0
created_blank Simple depth make x y left low = pen_at_bitmap _ _ depth (λ i j. 0) x y left low
created_blank Smart depth make x y left low = pen_at_bitmap _ _ depth (λ i j. 0) x y left low
created_blank SuperBitmap depth make x y left low = pen_at_bitmap _ _ depth (λ i j. 0) x y left low

-- and so is a new one.
pub new_unfilled : (make : Make) (depth : ℕ) (window : Option Window) (on : ℕ → ℕ → Bool) (some : Bool)
    → filled_layer None on some (new_layer depth make None window) ≡ new_layer depth make None window
new_unfilled make depth window on some =
    unfilled_bare (new_layer depth make None window) on some (blank_bitmap make.kind depth make)
    (λ x y left low is. created_blank make.kind depth make x y left low)
