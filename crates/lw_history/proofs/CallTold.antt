-- A call that is no arrangement leaves just that damaged of each simple layer which is hurt after it.
use Rattle.std.proofs.Common.{◌≡◌, ℕ, ◌==◌, Bool, true, false, not, ◌&&◌, List, Option, Some, None, refl, sym, ap, ◌∙◌, eqb-true}
use Rattle.std.specs.Prelude.{if◌then◌else◌, ℤ}
use Rattle.std.proofs.lemmas.Bool.{false≢true}
use Rattle.lw_region.specs.Rectangle.{Rectangle}
use Rattle.lw_planes.specs.Grid.{at}
use Rattle.lw_planes.proofs.GridLaws.{grid_at}
use Rattle.lw_calls.specs.declared.make.Kind.{Kind}
use Rattle.lw_calls.specs.declared.make.Kind.TheVariants.{Simple}
use Rattle.lw_calls.specs.declared.call.Call.{Call}
use Rattle.lw_calls.specs.declared.call.Call.TheVariants.{RegRect, RegPair, RegClear, Create, OpenWindow, Close, ToFront, ToBack}
use Rattle.lw_calls.specs.declared.call.Call.TheVariants.{InFrontOf, MoveBy, SizeBy, SetBox, Activate, SetHook, Which, ReadPixel}
use Rattle.lw_calls.specs.declared.call.Call.TheVariants.{ScrollRaster, Blit, EndRefresh, SetTitle}
use Rattle.lw_calls.specs.declared.area.Area.{Area}
use Rattle.lw_calls.specs.Touches.{is_arrangement}
use Rattle.lw_calls.specs.Kinds.{is_super}
use Rattle.lw_machine.specs.Layer.{Layer, Window, Slot, Unopened, Live, Closed, is_framed, change_window}
use Rattle.lw_machine.specs.Desk.{Desk}
use Rattle.lw_machine.specs.Kept.{is_visible, is_inside, may_be_damaged}
use Rattle.lw_machine.specs.Paint.{with_pens}
use Rattle.lw_machine.specs.Blits.{scroll_raster, scrolled_mark}
use Rattle.lw_machine.specs.Reveal.{framed_by, with_frame}
use Rattle.lw_machine.specs.Step.{on_layer, effect, clip_blit_from, end_update}
use Rattle.lw_machine.specs.Hurt.{Hurts, hurt_in_slot}
use Rattle.lw_machine.proofs.PaintSound.{grid_at_default}
use Rattle.lw_history.proofs.Told.{inner_lies, IsTold, IsChanged, one_changed, HasDamageOf, same_damage}

-- what a call that is no arrangement leaves of the layer in slot s: where the pixel is kept in its inner rectangle, it is damaged
-- where it is hurt
abbrev pub CallTold : Desk → ℕ → Call → Hurts → Desk → Type 0
CallTold d task call hurt e =
    (s : ℕ) (m : Layer) (x y : ℕ) → (effect d task call).slot s ≡ Live m → m.kind ≡ Simple → is_inside m x y ≡ true
    → at false m.damage x y ≡ hurt_in_slot d e s (d.slot s) call (hurt s) x y

-- a blit leaves the damage, from whatever slot
blit_leaves : (o : Slot) (source_visible : Layer → ℕ → ℕ → Bool) (visible : Layer → ℕ → ℕ → Bool) (area : Area) (l : Layer)
    → HasDamageOf l (clip_blit_from o source_visible (visible l) area l)
unfolding with_pens
blit_leaves Unopened source_visible visible area l = record { kind = refl; damage = refl }
blit_leaves (Live source) source_visible visible area l = record { kind = refl; damage = refl }
blit_leaves Closed source_visible visible area l = record { kind = refl; damage = refl }

-- a frame leaves the damage, painted or not
framed_leaves : (glyphs : List (List ℕ)) (kept : ℕ → ℕ → Bool) (active : Bool) (o : Option Window) (l : Layer)
    → HasDamageOf l (framed_by glyphs kept active o l)
unfolding with_pens
framed_leaves glyphs kept active None l = record { kind = refl; damage = refl }
framed_leaves glyphs kept active (Some w) l = go w.framed
  where
    go : (b : Bool) → HasDamageOf l (framed_by glyphs kept active (Some (record w { framed = b })) l)
    go true = record { kind = refl; damage = refl }
    go false = record { kind = refl; damage = refl }

-- a title leaves the damage
title_leaves : (glyphs : List (List ℕ)) (kept : ℕ → ℕ → Bool) (active : Bool) (title : List ℕ) (l : Layer)
    → HasDamageOf l (with_frame glyphs kept active (change_window (λ w. record w { title = title }) l))
title_leaves glyphs kept active title l =
    let q = change_window (λ w. record w { title = title }) l in
    let leaves = framed_leaves glyphs kept active q.window q in
    record { kind = leaves.kind; damage = leaves.damage }

-- a partial end of an update leaves what is hurt
partial_end : (t : Bool) (b : Bool) → (if t && false then false else b) ≡ b
partial_end true b = refl
partial_end false b = refl

-- a full end of an update clears all damage
full_end : (d : Desk) (hurt : Hurts) → IsTold d hurt → (slot s : ℕ) (m : Layer) (x y : ℕ)
    → (on_layer d slot (end_update true)).slot s ≡ Live m → m.kind ≡ Simple
    → at false m.damage x y ≡ (if (slot == s) && true then false else hurt s x y)
full_end d hurt told slot s m x y is simple = go (slot == s) refl
  where
    c : IsChanged d slot (end_update true) s m
    c = one_changed d slot (end_update true) s m is

    go : (b : Bool) → (slot == s) ≡ b → at false m.damage x y ≡ (if b && true then false else hurt s x y)
    go true e =
        let same : m ≡ end_update true c.layer = c.is ∙ ap (λ t. if t then end_update true c.layer else c.layer) e in
        ap (λ (q : Layer). at false q.damage x y) same ∙
        grid_at_default c.layer.bits.width c.layer.bits.height (λ _ _. false) false x y refl
    go false e =
        let same : m ≡ c.layer = c.is ∙ ap (λ t. if t then end_update true c.layer else c.layer) e in
        ap (λ (q : Layer). at false q.damage x y) same ∙ told s c.layer x y c.was (sym (ap (λ (q : Layer). q.kind) same) ∙ simple)

-- a simple layer's damage may lie on each pixel of its inner rectangle
simple_may : (k : Kind) (b : Bool) → k ≡ Simple → b ≡ true → (not (is_super k) && b) ≡ true
simple_may k b simple is = ap (λ q. not (is_super q) && b) simple ∙ is

-- what a ScrollRaster of this layer leaves damaged
scrolled_told : (d : Desk) (hurt : Hurts) (s : ℕ) (l m : Layer) (visible : ℕ → ℕ → Bool) (dx dy : ℤ) (rect : Rectangle) (x y : ℕ)
    → ((u v : ℕ) → at false l.damage u v ≡ hurt s u v) → l.kind ≡ Simple → m ≡ scroll_raster visible dx dy rect l
    → is_inside m x y ≡ true → at false m.damage x y ≡ scrolled_mark visible dx dy rect l (hurt s) x y
unfolding with_pens
scrolled_told d hurt s l m visible dx dy rect x y told kind is inside =
    let marks : at false l.damage ≡ hurt s = λ i. λ u v. told u v i in
    let here : is_inside l x y ≡ true = sym (ap (λ (q : Layer). is_inside q x y) is) ∙ inside in
    let lies = inner_lies (is_framed l.window) l.bits.width l.bits.height x y here in
    let mark = λ (f : ℕ → ℕ → Bool). scrolled_mark visible dx dy rect l f x y in
    ap (λ (q : Layer). at false q.damage x y) is ∙
    (grid_at l.bits.width l.bits.height
    (λ u v. scrolled_mark visible dx dy rect l (at false l.damage) u v && may_be_damaged l u v) false x y lies.0 lies.1 ∙
    (ap (λ t. mark (at false l.damage) && t) (simple_may l.kind (is_inside l x y) kind here) ∙
    (and_true (mark (at false l.damage)) ∙ ap mark marks)))
  where
    and_true : (b : Bool) → (b && true) ≡ b
    and_true true = refl
    and_true false = refl

-- the same, of any slot
scroll_told : (d : Desk) (hurt : Hurts) → IsTold d hurt
    → (slot : ℕ) (dx dy : ℤ) (rect : Rectangle) (s : ℕ) (m : Layer) (x y : ℕ) (v : Slot → Bool)
    → ((l : Layer) → v (Live l) ≡ (if slot == s then scrolled_mark (is_visible d s l) dx dy rect l (hurt s) x y else hurt s x y))
    → (on_layer d slot (λ l. scroll_raster (is_visible d slot l) dx dy rect l)).slot s ≡ Live m → m.kind ≡ Simple
    → is_inside m x y ≡ true → at false m.damage x y ≡ v (d.slot s)
unfolding with_pens
scroll_told d hurt told slot dx dy rect s m x y v live is simple inside =
    go (slot == s) refl ∙ (sym (live c.layer) ∙ ap v (sym c.was))
  where
    change : Layer → Layer
    change = λ l. scroll_raster (is_visible d slot l) dx dy rect l

    c : IsChanged d slot change s m
    c = one_changed d slot change s m is

    go : (b : Bool) → (slot == s) ≡ b
        → at false m.damage x y ≡
        (if b then scrolled_mark (is_visible d s c.layer) dx dy rect c.layer (hurt s) x y else hurt s x y)
    go true e =
        let same : m ≡ scroll_raster (is_visible d s c.layer) dx dy rect c.layer =
        c.is ∙ (ap (λ t. if t then change c.layer else c.layer) e ∙
        ap (λ k. scroll_raster (is_visible d k c.layer) dx dy rect c.layer) (eqb-true slot s e)) in
        let kind : c.layer.kind ≡ Simple = sym (ap (λ (q : Layer). q.kind) same) ∙ simple in
        scrolled_told d hurt s c.layer m (is_visible d s c.layer) dx dy rect x y
        (λ a b. told s c.layer a b c.was kind) kind same inside
    go false e =
        let same : m ≡ c.layer = c.is ∙ ap (λ t. if t then change c.layer else c.layer) e in
        ap (λ (q : Layer). at false q.damage x y) same ∙ told s c.layer x y c.was (sym (ap (λ (q : Layer). q.kind) same) ∙ simple)

-- a slot that stays has what it had
stays : (d : Desk) (hurt : Hurts) → IsTold d hurt → (s : ℕ) (m : Layer) (x y : ℕ) (v : Slot → Bool) → v (Live m) ≡ hurt s x y
    → d.slot s ≡ Live m → m.kind ≡ Simple → at false m.damage x y ≡ v (d.slot s)
stays d hurt told s m x y v live is simple = told s m x y is simple ∙ (sym live ∙ ap v (sym is))

-- a call that is no arrangement leaves just that damaged of each simple layer which is hurt after it
pub call_told : (d : Desk) (task : ℕ) (call : Call) (hurt : Hurts) (e : Desk) → IsTold d hurt → is_arrangement call ≡ false
    → CallTold d task call hurt e
unfolding with_pens
call_told d task (Create slot make) hurt e told plain s m x y is simple inside = absurd (false≢true (sym plain))
call_told d task (OpenWindow slot make framed nocare asks title) hurt e told plain s m x y is simple inside =
    absurd (false≢true (sym plain))
call_told d task (Close slot) hurt e told plain s m x y is simple inside = absurd (false≢true (sym plain))
call_told d task (ToFront slot) hurt e told plain s m x y is simple inside = absurd (false≢true (sym plain))
call_told d task (ToBack slot) hurt e told plain s m x y is simple inside = absurd (false≢true (sym plain))
call_told d task (InFrontOf slot other) hurt e told plain s m x y is simple inside = absurd (false≢true (sym plain))
call_told d task (MoveBy slot dx dy) hurt e told plain s m x y is simple inside = absurd (false≢true (sym plain))
call_told d task (SizeBy slot dw dh) hurt e told plain s m x y is simple inside = absurd (false≢true (sym plain))
call_told d task (SetBox slot bx by w h) hurt e told plain s m x y is simple inside = absurd (false≢true (sym plain))
call_told d task (Activate slot) hurt e told plain s m x y is simple inside = absurd (false≢true (sym plain))
call_told d task (SetHook slot hook) hurt e told plain s m x y is simple inside =
    same_damage d hurt told slot (λ l. record l { hook = d.shelf hook }) (λ l. record { kind = refl; damage = refl }) s m x y
    (λ q. hurt_in_slot d e s q (SetHook slot hook) (hurt s) x y) (λ l. refl) is simple
call_told d task (RegRect op register rect) hurt e told plain s m x y is simple inside =
    stays d hurt told s m x y (λ q. hurt_in_slot d e s q (RegRect op register rect) (hurt s) x y) refl is simple
call_told d task (RegPair op source into) hurt e told plain s m x y is simple inside =
    stays d hurt told s m x y (λ q. hurt_in_slot d e s q (RegPair op source into) (hurt s) x y) refl is simple
call_told d task (RegClear register) hurt e told plain s m x y is simple inside =
    stays d hurt told s m x y (λ q. hurt_in_slot d e s q (RegClear register) (hurt s) x y) refl is simple
call_told d task (Which px py) hurt e told plain s m x y is simple inside =
    stays d hurt told s m x y (λ q. hurt_in_slot d e s q (Which px py) (hurt s) x y) refl is simple
call_told d task (ReadPixel slot px py) hurt e told plain s m x y is simple inside =
    stays d hurt told s m x y (λ q. hurt_in_slot d e s q (ReadPixel slot px py) (hurt s) x y) refl is simple
call_told d task (ScrollRaster slot dx dy rect) hurt e told plain s m x y is simple inside =
    scroll_told d hurt told slot dx dy rect s m x y (λ q. hurt_in_slot d e s q (ScrollRaster slot dx dy rect) (hurt s) x y)
    (λ l. refl) is simple inside
call_told d task (EndRefresh slot true) hurt e told plain s m x y is simple inside =
    let c = one_changed d slot (end_update true) s m is in
    full_end d hurt told slot s m x y is simple ∙ ap (λ q. hurt_in_slot d e s q (EndRefresh slot true) (hurt s) x y) (sym c.was)
call_told d task (EndRefresh slot false) hurt e told plain s m x y is simple inside =
    same_damage d hurt told slot (end_update false) (λ l. record { kind = refl; damage = refl }) s m x y
    (λ q. hurt_in_slot d e s q (EndRefresh slot false) (hurt s) x y) (λ l. partial_end (slot == s) (hurt s x y)) is simple
call_told d task (Blit source slot area) hurt e told plain s m x y is simple inside =
    same_damage d hurt told slot _ (λ l. blit_leaves (d.slot source) (is_visible d source) (is_visible d slot) area l) s m x y
    (λ q. hurt_in_slot d e s q (Blit source slot area) (hurt s) x y) (λ l. refl) is simple
call_told d task (SetTitle slot title) hurt e told plain s m x y is simple inside =
    same_damage d hurt told slot _ (λ l. title_leaves d.assets.glyphs _ _ title l) s m x y
    (λ q. hurt_in_slot d e s q (SetTitle slot title) (hurt s) x y) (λ l. refl) is simple
call_told d task call hurt e told plain s m x y is simple inside =
    same_damage d hurt told _ _ (λ l. record { kind = refl; damage = refl }) s m x y
    (λ q. hurt_in_slot d e s q call (hurt s) x y) (λ l. refl) is simple
