-- A call that is no arrangement leaves a sound desk sound.
use Rattle.std.proofs.Common.{◌≡◌, ℕ, ◌==◌, ◌≤◌, Bool, true, false, not, ◌&&◌, List, refl, sym, ap, subst, ◌∙◌, Option, Some}
use Rattle.std.proofs.Common.{None}
use Rattle.std.specs.Prelude.{if◌then◌else◌, ℤ, pos, negsuc, ◌+ℤ◌, int_le, IsTrue}
use Rattle.std.specs.List.{slice_index_or}
use Rattle.std.proofs.Math.Path.{fun_ext}
use Rattle.std.proofs.lemmas.Bool.{and_parts, both_ways, eqb-true, true≢false}
use Rattle.lw_region.specs.Rectangle.{Rectangle, columns_of, rows_of}
use Rattle.lw_region.specs.Pixels.{Pixel}
use Rattle.lw_region.specs.Order.{natural}
use Rattle.lw_calls.specs.declared.make.Kind.{Kind}
use Rattle.lw_calls.specs.declared.make.Kind.TheVariants.{Simple, Smart, SuperBitmap}
use Rattle.lw_calls.specs.declared.sizes.Sizes.{Sizes}
use Rattle.lw_calls.specs.declared.reply.Reply.{Reply}
use Rattle.lw_calls.specs.declared.reply.Reply.TheVariants.{NotSuper, OutOfBounds}
use Rattle.lw_calls.specs.declared.call.Call.{Call}
use Rattle.lw_calls.specs.declared.call.Call.TheVariants.{RegRect, RegPair, RegClear, SetHook, Which, SetA, SetB, SetMode}
use Rattle.lw_calls.specs.declared.call.Call.TheVariants.{SetMask, At, WritePixel, ReadPixel, Fill, DrawTo, Letters, SetRast}
use Rattle.lw_calls.specs.declared.call.Call.TheVariants.{ScrollRaster, Put, Blit, Clip, Unclip, BeginRefresh, EndRefresh, Scroll}
use Rattle.lw_calls.specs.declared.call.Call.TheVariants.{SetTitle, TakeMessage}
use Rattle.lw_calls.specs.Limits.{call_fits}
use Rattle.lw_machine.specs.Hook.{Hook}
use Rattle.lw_machine.specs.Layer.{Layer, Slot, Unopened, Live, Closed, is_live, layer_is, change_layer, is_window}
use Rattle.lw_calls.specs.Kinds.{is_super}
use Rattle.lw_machine.specs.Desk.{Desk, with_value, is_the}
use Rattle.lw_machine.specs.Screen.{top}
use Rattle.lw_machine.specs.Kept.{is_visible, is_kept, in_bits, kept_as}
use Rattle.lw_machine.specs.Arrangement.{portion_fits, may_lie_at, is_at_least}
use Rattle.lw_calls.specs.Orders.{occurrences}
use Rattle.lw_calls.specs.Touches.{is_arrangement}
use Rattle.lw_machine.specs.Step.{on_layer, refuse_not_open, refuse, may_scroll, scroll_layer, refusal, effect, changed_unless}
use Rattle.lw_machine.specs.Step.{after, no_bitmap}
use Rattle.lw_machine.specs.Sound.{IsKeeping, IsBounded, IsPlaced, IsSlot, IsDesk, backdrops_last, active_is_window}
use Rattle.lw_machine.proofs.DrawingSound.{IsAlike, alike_self, raster_alike, clip_alike, hook_alike, updating_alike, pixel_alike}
use Rattle.lw_machine.proofs.DrawingSound.{fill_alike, line_alike, letters_alike, raster_set_alike, put_bitmap_alike}
use Rattle.lw_machine.proofs.DrawingSound.{blit_from_alike, scroll_raster_alike, update_ended_alike, message_taken_alike}
use Rattle.lw_machine.proofs.DrawingSound.{titled_alike}

-- A layer m in slot s of a desk, in the place of a layer l: the desk is as sound with m as with l.
pub record IsUpdated (d : Desk) (s : ℕ) (l m : Layer) : Type 0 where
  pub placed : IsPlaced d.sizes m (d.bounds s)
  pub keeping : IsKeeping d.sizes.depth (is_visible d s m) m
  pub backdrop : m.backdrop ≡ l.backdrop
  pub window : is_window m.window ≡ is_window l.window

-- what holds of the value at n and of all other values holds of each
pub with_value_all : {A : Type 0} (P : ℕ → A → Type 0) (n : ℕ) (v : A) (f : ℕ → A) → P n v → ((k : ℕ) → P k (f k)) → (k : ℕ)
    → P k (with_value n v f k)
with_value_all P n v f here other k =
    go (k == n) refl
  where
    go : (b : Bool) → (k == n) ≡ b → P k (if b then v else f k)
    go true e = subst (λ m. P m v) (sym (eqb-true k n e)) here
    go false e = other k

-- a changed layer is live where it was
pub live_stays : (change : Layer → Layer) (s : Slot) → is_live (change_layer change s) ≡ is_live s
live_stays change Unopened = refl
live_stays change (Live l) = refl
live_stays change Closed = refl

-- a slot without a layer is not changed
unopened_stays : (change : Layer → Layer) (s : Slot) → s ≡ Unopened → change_layer change s ≡ Unopened
unopened_stays change s e = ap (change_layer change) e

-- a layer that is changed so that a test of it stays
test_stays : (test : Layer → Bool) (change : Layer → Layer) (s : Slot) → ((l : Layer) → s ≡ Live l → test (change l) ≡ test l)
    → layer_is test (change_layer change s) ≡ layer_is test s
test_stays test change Unopened same = refl
test_stays test change (Live l) same = same l refl
test_stays test change Closed same = refl

-- the same on the desk
tests_stay : (test : Layer → Bool) (d : Desk) (slot : ℕ) (change : Layer → Layer)
    → ((l : Layer) → d.slot slot ≡ Live l → test (change l) ≡ test l) → (s : ℕ)
    → layer_is test ((on_layer d slot change).slot s) ≡ layer_is test (d.slot s)
tests_stay test d slot change same s =
    with_value_all (λ k x. layer_is test x ≡ layer_is test (d.slot k)) slot (change_layer change (d.slot slot)) d.slot
    (test_stays test change (d.slot slot) same) (λ k. refl) s

-- what is visible rests on the order and the bounds alone
visible_stays : (d : Desk) (slots : ℕ → Slot) (registers : ℕ → ℕ → List Pixel) (shelf : ℕ → Option Hook) (s : ℕ) (l : Layer)
    → is_visible (record d { slot = slots; registers = registers; shelf = shelf }) s l ≡ is_visible d s l
unfolding is_visible top
visible_stays d slots registers shelf s l = refl

-- a slot is as it should be whatever other slots, registers and hooks there are
slot_stays : (d : Desk) (slots : ℕ → Slot) (registers : ℕ → ℕ → List Pixel) (shelf : ℕ → Option Hook) (s : ℕ) (x : Slot)
    → IsSlot d s x
    → IsSlot (record d { slot = slots; registers = registers; shelf = shelf }) s x
slot_stays d slots registers shelf s Unopened is = is
slot_stays d slots registers shelf s (Live l) is =
    (is.0, subst (λ v. IsKeeping d.sizes.depth v l) (sym (visible_stays d slots registers shelf s l)) is.1)
slot_stays d slots registers shelf s Closed is = is

-- the changed slot is as it should be
slot_changed : (d : Desk) (slot : ℕ) (change : Layer → Layer) (x : Slot) → IsSlot d slot x
    → ((l : Layer) → x ≡ Live l → IsUpdated d slot l (change l)) → IsSlot d slot (change_layer change x)
slot_changed d slot change Unopened is updated = is
slot_changed d slot change (Live l) is updated = let u : IsUpdated d slot l (change l) = updated l refl in (u.placed, u.keeping)
slot_changed d slot change Closed is updated = is

-- the active window is one as before
pub active_stays : (d e : Desk) (o : Option ℕ)
    → ((s : ℕ) → layer_is (λ l. is_window l.window) (e.slot s) ≡ layer_is (λ l. is_window l.window) (d.slot s))
    → active_is_window d o ≡ true → active_is_window e o ≡ true
active_stays d e None same is = refl
active_stays d e (Some s) same is = same s ∙ is

-- a sound desk is sound with a layer changed so
pub on_layer_sound : (d : Desk) (slot : ℕ) (change : Layer → Layer) → IsDesk d
    → ((l : Layer) → d.slot slot ≡ Live l → IsUpdated d slot l (change l)) → IsDesk (on_layer d slot change)
on_layer_sound d slot change ok updated =
    record {
      limits = ok.limits;
      beyond = with_value_all (λ k x. d.sizes.slots ≤ k → x ≡ Unopened) slot (change_layer change (d.slot slot)) d.slot
          (λ past. unopened_stays change (d.slot slot) (ok.beyond slot past)) ok.beyond;
      listed = with_value_all (λ k x. occurrences k d.front_to_back ≡ (if is_live x then 1 else 0)) slot
          (change_layer change (d.slot slot)) d.slot
          (ok.listed slot ∙ ap (λ b. if b then 1 else 0) (sym (live_stays change (d.slot slot)))) ok.listed;
      backdrops =
          ap (λ backdrop. backdrops_last backdrop d.front_to_back)
          (fun_ext (tests_stay (λ l. l.backdrop) d slot change (λ l is. (updated l is).backdrop))) ∙ ok.backdrops;
      slots = with_value_all (λ k x. IsSlot (on_layer d slot change) k x) slot (change_layer change (d.slot slot)) d.slot
          (slot_stays d changed d.registers d.shelf slot (change_layer change (d.slot slot))
          (slot_changed d slot change (d.slot slot) (ok.slots slot) updated))
          (λ k. slot_stays d changed d.registers d.shelf k (d.slot k) (ok.slots k));
      active = active_stays d (on_layer d slot change) d.active
          (tests_stay (λ l. is_window l.window) d slot change (λ l is. (updated l is).window)) ok.active;
    }
  where
    changed : ℕ → Slot
    changed = with_value slot (change_layer change (d.slot slot)) d.slot

-- what holds of a live slot's layer
pub live_slot : (d : Desk) (s : ℕ) (l : Layer) → IsDesk d → d.slot s ≡ Live l → IsSlot d s (Live l)
live_slot d s l ok is = subst (λ x. IsSlot d s x) is (ok.slots s)

-- a layer with the same scroll shows the same pixels
visible_same : (d : Desk) (s : ℕ) (l m : Layer) → m.scroll_x ≡ l.scroll_x → m.scroll_y ≡ l.scroll_y
    → is_visible d s l ≡ is_visible d s m
unfolding is_visible
visible_same d s l m e f = rw (e, f) refl

-- a layer of a layer's size and kind may have its bounds
bounded_same : (sizes : Sizes) (planes : ℕ) (visible : ℕ → ℕ → Bool) (l m : Layer) (r : Rectangle) → IsAlike planes visible l m
    → IsBounded sizes l r → IsBounded sizes m r
unfolding portion_fits
bounded_same sizes planes visible l m r a b =
    record {
      may = rw (a.framed, a.kind, a.scroll_x, a.scroll_y, a.width, a.height) b.may;
      columns = rw (a.kind, a.width) b.columns;
      rows = rw (a.kind, a.height) b.rows;
      left = rw (a.kind, a.scroll_x) b.left;
      upper = rw (a.kind, a.scroll_y) b.upper;
    }

-- it is where that one's bounds are
placed_same : (sizes : Sizes) (planes : ℕ) (visible : ℕ → ℕ → Bool) (l m : Layer) (o : Option Rectangle)
    → IsAlike planes visible l m → IsPlaced sizes l o → IsPlaced sizes m o
placed_same sizes planes visible l m None a p = p
placed_same sizes planes visible l m (Some r) a p = bounded_same sizes planes visible l m r a p

-- a layer like that in a slot may stand in its place
alike_updated : (d : Desk) (s : ℕ) (l m : Layer) → IsSlot d s (Live l) → IsAlike d.sizes.depth (is_visible d s l) l m
    → IsUpdated d s l m
alike_updated d s l m is a =
    record {
      placed = placed_same d.sizes d.sizes.depth (is_visible d s l) l m (d.bounds s) a is.0;
      keeping = subst (λ v. IsKeeping d.sizes.depth v m) (visible_same d s l m a.scroll_x a.scroll_y) a.keeping;
      backdrop = a.backdrop;
      window = a.window;
    }

-- a sound desk is sound with a layer changed to one like it
alike_sound : (d : Desk) (slot : ℕ) (change : Layer → Layer) → IsDesk d
    → ((l : Layer) → IsKeeping d.sizes.depth (is_visible d slot l) l → IsAlike d.sizes.depth (is_visible d slot l) l (change l))
    → IsDesk (on_layer d slot change)
alike_sound d slot change ok alike =
    on_layer_sound d slot change ok
    (λ l is. let s : IsSlot d slot (Live l) = live_slot d slot l ok is in alike_updated d slot l (change l) s (alike l s.1))

-- a sound desk is sound whatever its registers and its shelf have
besides_sound : (d : Desk) (registers : ℕ → ℕ → List Pixel) (shelf : ℕ → Option Hook) → IsDesk d
    → IsDesk (record d { registers = registers; shelf = shelf })
besides_sound d registers shelf ok =
    record {
      limits = ok.limits;
      beyond = ok.beyond;
      listed = ok.listed;
      backdrops = ok.backdrops;
      slots = λ s. slot_stays d d.slot registers shelf s (d.slot s) (ok.slots s);
      active = active_stays d (record d { registers = registers; shelf = shelf }) d.active (λ s. refl) ok.active;
    }

-- a number that is not below 0 is itself
pub natural_stays : (z : ℤ) → int_le (pos 0) z ≡ true → pos (natural z) ≡ z
natural_stays (pos n) e = refl
natural_stays (negsuc n) e = absurd (cc)

-- a portion that lies in a bitmap does so at its scroll
portion_stays : (x y : ℤ) (w h : ℕ) (r : Rectangle) → portion_fits x y w h r ≡ true
    → portion_fits (pos (natural x)) (pos (natural y)) w h r ≡ true
unfolding portion_fits
portion_stays x y w h r e =
    let both : ((int_le (pos 0) x && int_le (x +ℤ columns_of r) (pos w)) ≡ true) ×
    ((int_le (pos 0) y && int_le (y +ℤ rows_of r) (pos h)) ≡ true) = and_parts _ _ e in
    let left : pos (natural x) ≡ x = natural_stays x ((and_parts (int_le (pos 0) x) _ both.0).0) in
    let high : pos (natural y) ≡ y = natural_stays y ((and_parts (int_le (pos 0) y) _ both.1).0) in
    subst (λ a. portion_fits a (pos (natural y)) w h r ≡ true) (sym left)
    (subst (λ a. portion_fits x a w h r ≡ true) (sym high) e)

-- of three tests the last may be another that holds
last_of_three : (a b p q : Bool) → (a && (b && p)) ≡ true → q ≡ true → (a && (b && q)) ≡ true
last_of_three true true p q e h = h
last_of_three true false p q e h = e
last_of_three false b p q e h = e

-- a test that is made where another holds
made_where : (a p : Bool) → p ≡ true → (if a then p else true) ≡ true
made_where true p e = e
made_where false p e = refl

-- a super-bitmap layer may have its bounds where the portion that it then shows lies in its bitmap
scrolled_placed : (sizes : Sizes) (dx dy : ℤ) (l : Layer) (o : Option Rectangle) → is_super l.kind ≡ true
    → may_scroll o dx dy l ≡ true → IsPlaced sizes l o → IsPlaced sizes (scroll_layer dx dy l) o
scrolled_placed sizes dx dy l None super may p = p
scrolled_placed sizes dx dy l (Some r) super may p =
    record {
      may = last_of_three (may_lie_at sizes r && is_at_least (pos 1) (pos 1) r) _ _ _ p.may
          (made_where (is_super l.kind) _
          (portion_stays (pos l.scroll_x +ℤ dx) (pos l.scroll_y +ℤ dy) l.bits.width l.bits.height r may));
      columns = p.columns;
      rows = p.rows;
      left = λ other. absurd (both_ways (is_super l.kind) other super);
      upper = λ other. absurd (both_ways (is_super l.kind) other super);
    }

-- what a super-bitmap layer keeps doesn't rest on what is visible
pub kept_same : (k : Kind) (v w : Bool) → is_super k ≡ true → kept_as k v ≡ kept_as k w
kept_same Simple v w e = absurd (cc)
kept_same Smart v w e = refl
kept_same SuperBitmap v w e = refl

-- a super-bitmap layer has no damage
no_damage : (a b : Bool) → a ≡ true → (not a && b) ≡ true → ⊥
no_damage true b e f = cc
no_damage false b e f = cc

-- a super-bitmap layer keeps what it should at any scroll
scrolled_keeping : (planes : ℕ) (v w : ℕ → ℕ → Bool) (dx dy : ℤ) (l : Layer) → is_super l.kind ≡ true → IsKeeping planes v l
    → IsKeeping planes w (scroll_layer dx dy l)
unfolding is_kept
scrolled_keeping planes v w dx dy l super k =
    record {
      bitmap = k.bitmap;
      planes = k.planes;
      frameless = k.frameless;
      off_kept = λ x y e. k.off_kept x y (ap (λ b. in_bits l x y && b) (kept_same l.kind (v x y) (w x y) super) ∙ e);
      damage_kept = λ x y e. absurd (no_damage (is_super l.kind) _ super (k.damage_inner x y e));
      damage_inner = k.damage_inner;
    }

-- a super-bitmap layer at another scroll may stand in its place
scrolled_updated : (d : Desk) (s : ℕ) (dx dy : ℤ) (l : Layer) → IsSlot d s (Live l) → is_super l.kind ≡ true
    → may_scroll (d.bounds s) dx dy l ≡ true → IsUpdated d s l (scroll_layer dx dy l)
scrolled_updated d s dx dy l is super may =
    record {
      placed = scrolled_placed d.sizes dx dy l (d.bounds s) super may is.0;
      keeping = scrolled_keeping d.sizes.depth (is_visible d s l) (is_visible d s (scroll_layer dx dy l)) dx dy l super is.1;
      backdrop = refl;
      window = refl;
    }

-- a refusal whose test fails where the call isn't refused
pub not_refused : (test : Bool) (r : Reply) (next : Option Reply) → refuse (not test) r next ≡ None
    → (test ≡ true) × (next ≡ None)
not_refused true r next e = (refl, e)
not_refused false r next e = absurd (cc)

-- a scroll that isn't refused is one of a super-bitmap layer, to a portion that lies in its bitmap
scroll_allowed : (d : Desk) (task slot : ℕ) (dx dy : ℤ) (l : Layer) → refusal d task (Scroll slot dx dy) ≡ None
    → d.slot slot ≡ Live l → (is_super l.kind ≡ true) × (may_scroll (d.bounds slot) dx dy l ≡ true)
scroll_allowed d task slot dx dy l allowed is =
    let P : Slot → Type 0 =
    λ s. refuse_not_open s
    (refuse (layer_is (λ l. not (is_super l.kind)) s) NotSuper
    (refuse (layer_is (λ l. not (may_scroll (d.bounds slot) dx dy l)) s) OutOfBounds None)) ≡ None in
    let at_layer : P (Live l) = subst P is allowed in
    let first : (is_super l.kind ≡ true) × (refuse (not (may_scroll (d.bounds slot) dx dy l)) OutOfBounds None ≡ None) =
    not_refused (is_super l.kind) NotSuper _ at_layer in
    (first.0, (not_refused (may_scroll (d.bounds slot) dx dy l) OutOfBounds None first.1).0)

-- ScrollLayer
scroll_sound : (d : Desk) (task slot : ℕ) (dx dy : ℤ) → IsDesk d → refusal d task (Scroll slot dx dy) ≡ None
    → IsDesk (on_layer d slot (scroll_layer dx dy))
scroll_sound d task slot dx dy ok allowed =
    on_layer_sound d slot (scroll_layer dx dy) ok
    (λ l is. let may : (is_super l.kind ≡ true) × (may_scroll (d.bounds slot) dx dy l ≡ true) =
    scroll_allowed d task slot dx dy l allowed is in scrolled_updated d slot dx dy l (live_slot d slot l ok is) may.0 may.1)

-- the effect of a call that is no arrangement and isn't refused
effect_sound : (d : Desk) (task : ℕ) (call : Call) → IsDesk d → refusal d task call ≡ None → is_arrangement call ≡ false
    → IsDesk (effect d task call)
effect_sound d task (RegRect op register rect) ok allowed none = besides_sound d _ d.shelf ok
effect_sound d task (RegPair op source into) ok allowed none = besides_sound d _ d.shelf ok
effect_sound d task (RegClear register) ok allowed none = besides_sound d _ d.shelf ok
effect_sound d task (SetHook slot hook) ok allowed none =
    besides_sound (on_layer d slot (λ l. record l { hook = d.shelf hook })) d.registers _
    (alike_sound d slot _ ok (λ l k. hook_alike _ _ l (d.shelf hook) k))
effect_sound d task (Which x y) ok allowed none = ok
effect_sound d task (SetA slot pen) ok allowed none =
    alike_sound d slot _ ok (λ l k. raster_alike _ _ l l (record l.raster { pen_a = pen }) (alike_self _ _ l k))
effect_sound d task (SetB slot pen) ok allowed none =
    alike_sound d slot _ ok (λ l k. raster_alike _ _ l l (record l.raster { pen_b = pen }) (alike_self _ _ l k))
effect_sound d task (SetMode slot mode) ok allowed none =
    alike_sound d slot _ ok (λ l k. raster_alike _ _ l l (record l.raster { mode = mode }) (alike_self _ _ l k))
effect_sound d task (SetMask slot mask) ok allowed none =
    alike_sound d slot _ ok (λ l k. raster_alike _ _ l l (record l.raster { mask = mask }) (alike_self _ _ l k))
effect_sound d task (At slot x y) ok allowed none =
    alike_sound d slot _ ok (λ l k. raster_alike _ _ l l (record l.raster { cursor_x = x; cursor_y = y }) (alike_self _ _ l k))
effect_sound d task (WritePixel slot x y) ok allowed none =
    alike_sound d slot _ ok (λ l k. pixel_alike _ (is_visible d slot l) x y l k)
effect_sound d task (ReadPixel slot x y) ok allowed none = ok
effect_sound d task (Fill slot rect) ok allowed none =
    alike_sound d slot _ ok (λ l k. fill_alike _ (is_visible d slot l) rect l k)
effect_sound d task (DrawTo slot x y) ok allowed none =
    alike_sound d slot _ ok (λ l k. line_alike _ (is_visible d slot l) x y l k)
effect_sound d task (Letters slot text) ok allowed none =
    alike_sound d slot _ ok (λ l k. letters_alike _ (is_visible d slot l) d.assets.glyphs text l k)
effect_sound d task (SetRast slot pen) ok allowed none =
    alike_sound d slot _ ok (λ l k. raster_set_alike _ (is_visible d slot l) pen l k)
effect_sound d task (ScrollRaster slot dx dy rect) ok allowed none =
    alike_sound d slot _ ok (λ l k. scroll_raster_alike _ (is_visible d slot l) dx dy rect l k)
effect_sound d task (Put bitmap slot area) ok allowed none =
    alike_sound d slot _ ok
    (λ l k. put_bitmap_alike _ (is_visible d slot l) (slice_index_or d.assets.bitmaps bitmap no_bitmap) area l k)
effect_sound d task (Blit source slot area) ok allowed none =
    alike_sound d slot _ ok (λ l k. blit_from_alike _ (d.slot source) (is_visible d source) (is_visible d slot l) area l k)
effect_sound d task (Clip slot register) ok allowed none =
    alike_sound d slot _ ok (λ l k. clip_alike _ _ l (Some (d.registers task register)) k)
effect_sound d task (Unclip slot) ok allowed none = alike_sound d slot _ ok (λ l k. clip_alike _ _ l None k)
effect_sound d task (BeginRefresh slot) ok allowed none = alike_sound d slot _ ok (λ l k. updating_alike _ _ l true k)
effect_sound d task (EndRefresh slot full) ok allowed none = alike_sound d slot _ ok (λ l k. update_ended_alike _ _ full l k)
effect_sound d task (Scroll slot dx dy) ok allowed none = scroll_sound d task slot dx dy ok allowed
effect_sound d task (SetTitle slot title) ok allowed none =
    alike_sound d slot _ ok (λ l k. titled_alike _ (is_visible d slot l) d.assets.glyphs (is_the d.active slot) title l k)
effect_sound d task (TakeMessage slot) ok allowed none = alike_sound d slot _ ok (λ l k. message_taken_alike _ _ l k)
effect_sound d task call ok allowed none = absurd (true≢false none)

-- what is refused leaves the desk, and what isn't leaves a sound one
pub unless_refused_sound : (o : Option Reply) (d e : Desk) → IsDesk d → (o ≡ None → IsDesk e) → IsDesk (changed_unless o d e)
unless_refused_sound None d e ok changed = changed refl
unless_refused_sound (Some r) d e ok changed = ok

-- a call that is no arrangement leaves a sound desk sound
pub layer_call_sound : (d : Desk) (task : ℕ) (call : Call) → IsDesk d → IsTrue (call_fits d.sizes call)
    → is_arrangement call ≡ false → IsDesk (after d task call)
unfolding after
layer_call_sound d task call ok fits none =
    unless_refused_sound (refusal d task call) d (effect d task call) ok (λ allowed. effect_sound d task call ok allowed none)
