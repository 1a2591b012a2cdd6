-- A call on a layer leaves what the screen shows outside the layer's bounds.
use Rattle.std.proofs.Common.{◌≡◌, ℕ, ◌<◌, ◌==◌, Bool, true, false, List, [], ◌∷◌, ℤ, pos, Option, Some, None, find, refl, sym}
use Rattle.std.proofs.Common.{ap, subst, ◌∙◌}
use Rattle.std.specs.Prelude.{if◌then◌else◌}
use Rattle.std.proofs.lemmas.Bool.{eqb-true, both_ways, false_from_ne_true, false≢true}
use Rattle.lw_planes.specs.Bitmap.{pen_at}
use Rattle.lw_planes.proofs.BitmapLaws.{pen_at_bitmap}
use Rattle.lw_region.specs.Rectangle.{has_pixel}
use Rattle.lw_calls.specs.declared.call.Call.{Call}
use Rattle.lw_calls.specs.declared.call.Call.TheVariants.{RegRect, RegPair, RegClear, Create, OpenWindow, Close, ToFront, ToBack}
use Rattle.lw_calls.specs.declared.call.Call.TheVariants.{InFrontOf, MoveBy, SizeBy, SetBox, Activate, SetHook, Which, ReadPixel}
use Rattle.lw_calls.specs.declared.call.Call.TheVariants.{Blit}
use Rattle.lw_calls.specs.declared.touch.CallClass.{CallClass}
use Rattle.lw_calls.specs.declared.touch.CallClass.TheVariants.{OnRegisters, OnInfo, OnLayer, OnLayers, OnAll}
use Rattle.lw_calls.specs.declared.touch.Role.TheVariants.{Info}
use Rattle.lw_calls.specs.Touches.{class_of, is_on_info}
use Rattle.lw_machine.specs.Layer.{Slot}
use Rattle.lw_machine.specs.Desk.{Desk, with_value, is_the}
use Rattle.lw_machine.specs.Screen.{bounds_have, screen_bounds, top_at, top, pen_on, pen_of_top, screen}
use Rattle.lw_machine.specs.Parts.{info_part}
use Rattle.lw_machine.specs.Step.{refusal, effect, after}
use Rattle.lw_machine.proofs.ReachedSound.{after_sizes}
use Rattle.lw_machine.proofs.Untouched.{differ_back, leaves_the_rest}
use Rattle.lw_gzz.specs.Together.{draws_on, DrawingStaysInside}
use Rattle.lw_gzz.proofs.Order.{unless}

-- a changed slot leaves the others
kept : (d : Desk) (slot s t : ℕ) (v : Slot) → (slot == s) ≡ true → (s == t) ≡ false → with_value slot v d.slot t ≡ d.slot t
kept d slot s t v same differ =
    let other : (t == slot) ≡ false = ap (λ n. t == n) (eqb-true slot s same) ∙ differ_back s t differ in
    ap (λ b. if b then v else d.slot t) other

-- a blit draws on its slot, whether it has another source or not
blit_draws : (source slot s : ℕ) (b : Bool) → draws_on s (if b then OnLayer slot else OnLayers source slot) ≡ true
    → (slot == s) ≡ true
blit_draws source slot s true h = h
blit_draws source slot s false h = h

effect_beside : (d : Desk) (task : ℕ) (call : Call) (s t : ℕ) → draws_on s (class_of call) ≡ true → (s == t) ≡ false
    → (effect d task call).slot t ≡ d.slot t
effect_beside d task (RegRect op register rect) s t h differ = absurd (false≢true h)
effect_beside d task (RegPair op source into) s t h differ = absurd (false≢true h)
effect_beside d task (RegClear register) s t h differ = absurd (false≢true h)
effect_beside d task (Create slot make) s t h differ = absurd (false≢true h)
effect_beside d task (OpenWindow slot make framed nocare asks title) s t h differ = absurd (false≢true h)
effect_beside d task (Close slot) s t h differ = absurd (false≢true h)
effect_beside d task (ToFront slot) s t h differ = absurd (false≢true h)
effect_beside d task (ToBack slot) s t h differ = absurd (false≢true h)
effect_beside d task (InFrontOf slot other) s t h differ = absurd (false≢true h)
effect_beside d task (MoveBy slot dx dy) s t h differ = absurd (false≢true h)
effect_beside d task (SizeBy slot dw dh) s t h differ = absurd (false≢true h)
effect_beside d task (SetBox slot x y w z) s t h differ = absurd (false≢true h)
effect_beside d task (Activate slot) s t h differ = absurd (false≢true h)
effect_beside d task (SetHook slot hook) s t h differ = absurd (false≢true h)
effect_beside d task (Which x y) s t h differ = absurd (false≢true h)
effect_beside d task (ReadPixel slot x y) s t h differ = refl
effect_beside d task (Blit source slot area) s t h differ = kept d slot s t _ (blit_draws source slot s (source == slot) h) differ
effect_beside d task call s t h differ = kept d _ s t _ h differ

after_beside : (d : Desk) (task : ℕ) (call : Call) (s t : ℕ) → draws_on s (class_of call) ≡ true → (s == t) ≡ false
    → (after d task call).slot t ≡ d.slot t
unfolding after
after_beside d task call s t h differ =
    unless (λ a. a.slot t ≡ d.slot t) (refusal d task call) d (effect d task call) refl
    (effect_beside d task call s t h differ)

-- nor does it touch LayerInfo
off_info : (s : ℕ) (c : CallClass) → draws_on s c ≡ true → is_on_info c ≡ false
off_info s OnRegisters h = refl
off_info s OnInfo h = absurd (false≢true h)
off_info s (OnLayer slot) h = refl
off_info s (OnLayers source slot) h = refl
off_info s OnAll h = absurd (false≢true h)

-- a slot that doesn't pass isn't found, and is no top
not_found : (test : ℕ → Bool) (us : List ℕ) (s : ℕ) → test s ≡ false → is_the (find test us) s ≡ false
not_found test [] s off = refl
not_found test (u ∷ us) s off = step (test u) refl (not_found test us s off)
  where
    step : (b : Bool) → test u ≡ b → is_the (find test us) s ≡ false → is_the (if b then Some u else find test us) s ≡ false
    step true is h = false_from_ne_true (u == s) (λ same. both_ways (test s) off (ap test (sym (eqb-true u s same)) ∙ is))
    step false is h = h

off_top : (on : Bool) (o : Option ℕ) (s : ℕ) → is_the o s ≡ false → is_the (if on then o else None) s ≡ false
off_top true o s off = off
off_top false o s off = refl

not_top : (d : Desk) (s : ℕ) (x y : ℤ) → bounds_have (d.bounds s) x y ≡ false → is_the (top d x y) s ≡ false
unfolding top
not_top d s x y off =
    off_top (has_pixel (screen_bounds d.sizes) x y) (find (λ t. bounds_have (d.bounds t) x y) d.front_to_back) s
    (not_found (λ t. bounds_have (d.bounds t) x y) d.front_to_back s off)

-- what the screen shows
shows : (d : Desk) (x y : ℕ) → x < d.sizes.width → y < d.sizes.height
    → pen_at (screen d) x y ≡ pen_of_top d (top d (pos x) (pos y)) (pos x) (pos y)
unfolding screen
shows d x y left low =
    pen_at_bitmap d.sizes.width d.sizes.height d.sizes.depth
    (λ x y. pen_of_top d (top d (pos x) (pos y)) (pos x) (pos y)) x y left low

same_top : (d e : Desk) (x y : ℤ) → e.sizes ≡ d.sizes → info_part e ≡ info_part d → top e x y ≡ top d x y
unfolding top
same_top d e x y sizes info = λ i. top_at (sizes i) (info i).bounds (info i).front_to_back x y

same_pen : (d e : Desk) (s : ℕ) (x y : ℤ) (o : Option ℕ) → info_part e ≡ info_part d
    → ((t : ℕ) → (s == t) ≡ false → e.slot t ≡ d.slot t) → is_the o s ≡ false → pen_of_top e o x y ≡ pen_of_top d o x y
same_pen d e s x y None info others off = refl
same_pen d e s x y (Some t) info others off =
    λ i. pen_on ((info i).bounds t) (others t (differ_back t s off) i) x y

pub stays_inside : DrawingStaysInside
stays_inside d task call s x y draws left low outside =
    let e : Desk = after d task call in
    let sizes : e.sizes ≡ d.sizes = after_sizes d task call in
    let info : info_part e ≡ info_part d = sym (leaves_the_rest d task call Info (off_info s (class_of call) draws)) in
    shows e x y (subst (λ z. x < z.width) (sym sizes) left) (subst (λ z. y < z.height) (sym sizes) low) ∙
    (ap (λ o. pen_of_top e o (pos x) (pos y)) (same_top d e (pos x) (pos y) sizes info) ∙
    (same_pen d e s (pos x) (pos y) (top d (pos x) (pos y)) info (λ t differ. after_beside d task call s t draws differ)
    (not_top d s (pos x) (pos y) outside) ∙
    sym (shows d x y left low)))
