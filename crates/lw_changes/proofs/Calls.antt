-- A call changes the screen only where its layer lies.
use Rattle.std.proofs.Common.{◌≡◌, ℕ, ◌==◌, Bool, true, false, [], ◌++◌, ℤ, pos, Option, Some, None, refl, sym, ap, ◌∙◌}
use Rattle.std.proofs.Common.{eqb-true, inr}
use Rattle.std.specs.Prelude.{if◌then◌else◌}
use Rattle.std.proofs.lemmas.Bool.{both_ways, false_from_ne_true}
use Rattle.lw_region.specs.Rectangle.{Rectangle, moved_by}
use Rattle.lw_region.specs.Bands.{covers}
use Rattle.lw_planes.specs.Bitmap.{bitmap, pen_at}
use Rattle.lw_planes.proofs.BitmapLaws.{bitmap_same}
use Rattle.lw_calls.specs.declared.sizes.Sizes.{Sizes}
use Rattle.lw_calls.specs.declared.make.Make.{Make}
use Rattle.lw_calls.specs.declared.call.Call.{Call}
use Rattle.lw_calls.specs.declared.call.Call.TheVariants.{RegRect, RegPair, RegClear, Create, OpenWindow, Close, ToFront, ToBack}
use Rattle.lw_calls.specs.declared.call.Call.TheVariants.{InFrontOf, MoveBy, SizeBy, SetBox, Activate, SetHook, Which, SetA, SetB}
use Rattle.lw_calls.specs.declared.call.Call.TheVariants.{SetMode, SetMask, At, WritePixel, ReadPixel, Fill, DrawTo, Letters}
use Rattle.lw_calls.specs.declared.call.Call.TheVariants.{SetRast, ScrollRaster, Put, Blit, Clip, Unclip, BeginRefresh}
use Rattle.lw_calls.specs.declared.call.Call.TheVariants.{EndRefresh, Scroll, SetTitle, TakeMessage}
use Rattle.lw_calls.specs.declared.reply.Reply.{Reply}
use Rattle.lw_machine.specs.Layer.{Layer, Window}
use Rattle.lw_machine.specs.Desk.{Desk, is_the}
use Rattle.lw_machine.specs.Kept.{visible_within}
use Rattle.lw_machine.specs.Screen.{top, is_shown, screen}
use Rattle.lw_machine.specs.Shapes.{box_at, differ}
use Rattle.lw_machine.specs.Arrangement.{without, has_backdrop, create_layer, delete_layer, active_without, sized_by}
use Rattle.lw_machine.specs.Arrangement.{change_bounds}
use Rattle.lw_machine.specs.Arrangement.{put_before, upfront_layer, behind_layer, move_layer_in_front_of, with_active, new_window}
use Rattle.lw_machine.specs.Reveal.{across, settled}
use Rattle.lw_machine.specs.Step.{refusal, on_layer, end_update, effect, changed_unless, after}
use Rattle.lw_machine.specs.Sound.{IsDesk}
use Rattle.lw_machine.proofs.CreatedSound.{other_value}
use Rattle.lw_machine.proofs.ReachedSound.{after_sizes}
use Rattle.lw_machine.proofs.Seen.{the_one}
use Rattle.lw_machine.proofs.Untouched.{differ_back}
use Rattle.lw_machine.proofs.RevealSound.{shows}
use Rattle.lw_changes.specs.Touched.{touched_slot, bounds_list, bounds_on, repainted, touched}
use Rattle.lw_changes.specs.Laws.{CallsChangeWhatTheyTouch, OtherCallsLeaveTheScreen}
use Rattle.lw_changes.proofs.Places.{found_without, found_before, found_behind, found_placed, covers_bounds, covers_neither}
use Rattle.lw_changes.proofs.Beside.{IsBeside, on_top}
use Rattle.lw_changes.proofs.Staying.{showed, kept_still, shown_still}
use Rattle.lw_changes.proofs.Covering.{OnlyCovers, created_covers, front_covers}
use Rattle.lw_changes.proofs.Screens.{top_pen, same_on_screen, IsQuiet, quiet_top, drawn_top}
use Rattle.lw_changes.proofs.Arrangements.{arranged_pen, around, off_both, unpainted_there}

-- The arrangements of a slot's layer leave the others in their order.
front_beside : (d : Desk) (slot : ℕ) → IsBeside d (upfront_layer d slot) slot
front_beside d slot = record {
  sizes = refl;
  found = λ test off. found_behind test slot (without slot d.front_to_back) off ∙ found_without test slot d.front_to_back off;
  bounds = λ s other. refl;
  slots = λ s other. refl;
}

put_beside : (d : Desk) (slot : ℕ) (before : ℕ → Bool)
    → IsBeside d (record d { front_to_back = put_before before slot (without slot d.front_to_back) }) slot
put_beside d slot before = record {
  sizes = refl;
  found = λ test off. found_before test before slot (without slot d.front_to_back) off ∙
      found_without test slot d.front_to_back off;
  bounds = λ s other. refl;
  slots = λ s other. refl;
}

same_beside : (d : Desk) (slot : ℕ) → IsBeside d d slot
same_beside d slot =
    record { sizes = refl; found = λ test off. refl; bounds = λ s other. refl; slots = λ s other. refl }

front_of_beside : (d : Desk) (slot other : ℕ) → IsBeside d (move_layer_in_front_of d slot other) slot
front_of_beside d slot other = go (slot == other)
  where
    go : (b : Bool)
        → IsBeside d
        (if b then d else record d { front_to_back = put_before (λ t. t == other) slot (without slot d.front_to_back) }) slot
    go true = same_beside d slot
    go false = put_beside d slot (λ t. t == other)

bounds_beside : (d : Desk) (slot : ℕ) (change : Rectangle → Rectangle) → IsBeside d (change_bounds d slot change) slot
bounds_beside d slot change = record {
  sizes = refl;
  found = λ test off. refl;
  bounds = λ s other. other_value slot s _ d.bounds other;
  slots = λ s other. refl;
}

created_beside : (d : Desk) (slot : ℕ) (make : Make) (window : Option Window) → IsBeside d (create_layer d slot make window) slot
created_beside d slot make window = record {
  sizes = refl;
  found = λ test off. found_placed test (has_backdrop d) make.backdrop make.place slot d.front_to_back off;
  bounds = λ s other. other_value slot s _ d.bounds other;
  slots = λ s other. other_value slot s _ d.slot other;
}

deleted_beside : (d : Desk) (slot : ℕ) → IsBeside d (delete_layer d slot) slot
deleted_beside d slot = record {
  sizes = refl;
  found = λ test off. found_without test slot d.front_to_back off;
  bounds = λ s other. other_value slot s _ d.bounds other;
  slots = λ s other. other_value slot s _ d.slot other;
}

-- another window stays active or not, where the layer in a slot goes
active_left : (o : Option ℕ) (slot s : ℕ) → (s == slot) ≡ false → is_the (active_without slot o) s ≡ is_the o s
active_left None slot s other = refl
active_left (Some m) slot s other = go (m == slot) refl
  where
    go : (b : Bool) → (m == slot) ≡ b → is_the (if b then None else Some m) s ≡ (m == s)
    go true e = sym (ap (λ k. k == s) (eqb-true m slot e) ∙ differ_back s slot other)
    go false e = refl

move_active : (d : Desk) (slot other s : ℕ) → is_the (move_layer_in_front_of d slot other).active s ≡ is_the d.active s
move_active d slot other s = go (slot == other)
  where
    go : (b : Bool)
        → is_the
        (if b then d else record d { front_to_back = put_before (λ t. t == other) slot (without slot d.front_to_back) }).active s
        ≡ is_the d.active s
    go true = refl
    go false = refl

-- a test isn't changed where it is the same
alike : (b : Bool) → differ b b ≡ false
alike true = refl
alike false = refl

-- A layer that is created, or comes to the front: no other one is painted.
covered_same : (d a : Desk) (slot x y : ℕ) → IsDesk d → IsBeside d a slot → OnlyCovers d a slot → a.active ≡ d.active
    → covers (around d a slot ++ []) (pos x) (pos y) ≡ false → pen_at (screen (settled d a)) x y ≡ pen_at (screen d) x y
covered_same d a slot x y ok beside only active off =
    let parts = covers_neither (around d a slot) [] (pos x) (pos y) off in
    let both = off_both d a slot (pos x) (pos y) parts.0 in
    same_on_screen d (settled d a) x y beside.sizes
    (arranged_pen d a slot (pos x) (pos y) ok beside both.0 both.1
    (λ s l other is live. inr (record {
      active = ap (λ o. differ (is_the d.active s) (is_the o s)) active ∙ alike (is_the d.active s);
      kept = λ u v. kept_still l.kind _ _ (still s l u v other);
    })))
  where
    still : (s : ℕ) (l : Layer) (u v : ℕ) → (s == slot) ≡ false → shows (across d a s) l u v ≡ true
        → showed (across d a s) l u v ≡ true
    still s l u v other seen =
        shown_still (is_shown d s) (is_shown a s) (d.bounds s) l.scroll_x l.scroll_y u v (λ x y. only s x y other)
        (ap (λ o. visible_within (is_shown a s) o l.scroll_x l.scroll_y u v) (sym (beside.bounds s other)) ∙ seen)

-- An arrangement of a slot's layer that leaves the activity of other windows.
arranged_same : (d a : Desk) (slot x y : ℕ) → IsDesk d → IsBeside d a slot
    → ((s : ℕ) → (s == slot) ≡ false → is_the a.active s ≡ is_the d.active s)
    → covers (around d a slot ++ repainted (settled d a) (around d a slot)) (pos x) (pos y) ≡ false
    → pen_at (screen (settled d a)) x y ≡ pen_at (screen d) x y
arranged_same d a slot x y ok beside active off =
    let parts = covers_neither (around d a slot) (repainted (settled d a) (around d a slot)) (pos x) (pos y) off in
    let both = off_both d a slot (pos x) (pos y) parts.0 in
    same_on_screen d (settled d a) x y beside.sizes
    (arranged_pen d a slot (pos x) (pos y) ok beside both.0 both.1
    (λ s l other is live. unpainted_there d a slot s l (pos x) (pos y) ok beside both.0 both.1 other is live parts.1
    (ap (differ (is_the d.active s)) (active s other) ∙ alike (is_the d.active s))))

-- Another window becomes active: the frames of two windows may be painted.
activated_same : (d : Desk) (slot x y : ℕ) → IsDesk d
    → covers (around d (with_active d slot) slot ++ bounds_on d d.active) (pos x) (pos y) ≡ false
    → pen_at (screen (settled d (with_active d slot))) x y ≡ pen_at (screen d) x y
unfolding top
activated_same d slot x y ok off =
    let a : Desk = with_active d slot in
    let parts = covers_neither (around d a slot) (bounds_on d d.active) (pos x) (pos y) off in
    let both = off_both d a slot (pos x) (pos y) parts.0 in
    same_on_screen d (settled d a) x y refl
    (arranged_pen d a slot (pos x) (pos y) ok (same_active) both.0 both.1
    (λ s l other is live. inr (record { active = active s other is parts.1; kept = λ u v seen. seen })))
  where
    same_active : IsBeside d (with_active d slot) slot
    same_active = record { sizes = refl; found = λ test off. refl; bounds = λ s other. refl; slots = λ s other. refl }

    active : (s : ℕ) → (s == slot) ≡ false → top d (pos x) (pos y) ≡ Some s
        → covers (bounds_on d d.active) (pos x) (pos y) ≡ false → differ (is_the d.active s) (slot == s) ≡ false
    active s other is uncovered =
        let idle : is_the d.active s ≡ false =
        false_from_ne_true (is_the d.active s)
        (λ one. both_ways (covers (bounds_on d d.active) (pos x) (pos y)) uncovered
        (ap (λ o. covers (bounds_on d o) (pos x) (pos y)) (the_one d.active s one)
        ∙ (covers_bounds (d.bounds s) (pos x) (pos y) ∙ (on_top d (pos x) (pos y) s is).has))) in
        ap (λ b. differ b (slot == s)) idle ∙ differ_back s slot other

-- A call that draws on a slot's layer.
drawn_same : (d : Desk) (slot : ℕ) (f : Layer → Layer) (x y : ℕ)
    → covers ((bounds_list (d.bounds slot) ++ bounds_list (d.bounds slot)) ++ []) (pos x) (pos y) ≡ false
    → pen_at (screen (on_layer d slot f)) x y ≡ pen_at (screen d) x y
drawn_same d slot f x y off =
    let parts = covers_neither (bounds_list (d.bounds slot) ++ bounds_list (d.bounds slot)) [] (pos x) (pos y) off in
    let own = off_both d d slot (pos x) (pos y) parts.0 in
    same_on_screen d (on_layer d slot f) x y refl (drawn_top d slot f (pos x) (pos y) own.0)

-- A call that touches no layer leaves the pens of the top layers.
end_quiet : (full : Bool) → IsQuiet (end_update full)
end_quiet false = record { bits = λ l. refl; scroll_x = λ l. refl; scroll_y = λ l. refl }
end_quiet true = record { bits = λ l. refl; scroll_x = λ l. refl; scroll_y = λ l. refl }

left_tops : (d : Desk) (task : ℕ) (call : Call) → touched_slot call ≡ None → (x y : ℤ)
    → top_pen (effect d task call) x y ≡ top_pen d x y
unfolding top
left_tops d task (RegRect op register rect) none x y = refl
left_tops d task (RegPair op source into) none x y = refl
left_tops d task (RegClear register) none x y = refl
left_tops d task (Which u v) none x y = refl
left_tops d task (ReadPixel slot u v) none x y = refl
left_tops d task (SetHook slot hook) none x y =
    quiet_top d slot (λ l. record l { hook = d.shelf hook }) x y
    (record { bits = λ l. refl; scroll_x = λ l. refl; scroll_y = λ l. refl })
left_tops d task (SetA slot pen) none x y =
    quiet_top d slot _ x y (record { bits = λ l. refl; scroll_x = λ l. refl; scroll_y = λ l. refl })
left_tops d task (SetB slot pen) none x y =
    quiet_top d slot _ x y (record { bits = λ l. refl; scroll_x = λ l. refl; scroll_y = λ l. refl })
left_tops d task (SetMode slot mode) none x y =
    quiet_top d slot _ x y (record { bits = λ l. refl; scroll_x = λ l. refl; scroll_y = λ l. refl })
left_tops d task (SetMask slot mask) none x y =
    quiet_top d slot _ x y (record { bits = λ l. refl; scroll_x = λ l. refl; scroll_y = λ l. refl })
left_tops d task (At slot u v) none x y =
    quiet_top d slot _ x y (record { bits = λ l. refl; scroll_x = λ l. refl; scroll_y = λ l. refl })
left_tops d task (Clip slot register) none x y =
    quiet_top d slot _ x y (record { bits = λ l. refl; scroll_x = λ l. refl; scroll_y = λ l. refl })
left_tops d task (Unclip slot) none x y =
    quiet_top d slot _ x y (record { bits = λ l. refl; scroll_x = λ l. refl; scroll_y = λ l. refl })
left_tops d task (BeginRefresh slot) none x y =
    quiet_top d slot _ x y (record { bits = λ l. refl; scroll_x = λ l. refl; scroll_y = λ l. refl })
left_tops d task (EndRefresh slot full) none x y = quiet_top d slot (end_update full) x y (end_quiet full)
left_tops d task (TakeMessage slot) none x y =
    quiet_top d slot _ x y (record { bits = λ l. refl; scroll_x = λ l. refl; scroll_y = λ l. refl })
left_tops d task call none x y = absurd (cc)

-- A call that isn't refused changes the screen only where its layer lies.
effect_same : (d : Desk) (task : ℕ) (call : Call) (x y : ℕ) → IsDesk d → refusal d task call ≡ None
    → covers (touched d call (effect d task call)) (pos x) (pos y) ≡ false
    → pen_at (screen (effect d task call)) x y ≡ pen_at (screen d) x y
effect_same d task (Create slot make) x y ok none off =
    covered_same d (create_layer d slot make None) slot x y ok (created_beside d slot make None)
    (created_covers d slot make None false ok none) refl off
effect_same d task (OpenWindow slot make framed nocare asks title) x y ok none off =
    let window : Option Window = Some (new_window task framed nocare asks title) in
    covered_same d (create_layer d slot make window) slot x y ok (created_beside d slot make window)
    (created_covers d slot make window framed ok none) refl off
effect_same d task (Close slot) x y ok none off =
    arranged_same d (delete_layer d slot) slot x y ok (deleted_beside d slot) (λ s other. active_left d.active slot s other) off
effect_same d task (ToFront slot) x y ok none off =
    covered_same d (upfront_layer d slot) slot x y ok (front_beside d slot) (front_covers d slot (front_beside d slot)) refl off
effect_same d task (ToBack slot) x y ok none off =
    arranged_same d (behind_layer d slot) slot x y ok (put_beside d slot (has_backdrop d)) (λ s other. refl) off
effect_same d task (InFrontOf slot next) x y ok none off =
    arranged_same d (move_layer_in_front_of d slot next) slot x y ok (front_of_beside d slot next)
    (λ s other. move_active d slot next s) off
effect_same d task (MoveBy slot dx dy) x y ok none off =
    let move : Rectangle → Rectangle = λ r. moved_by r dx dy in
    arranged_same d (change_bounds d slot move) slot x y ok (bounds_beside d slot move) (λ s other. refl) off
effect_same d task (SizeBy slot dw dh) x y ok none off =
    let size : Rectangle → Rectangle = λ r. sized_by r dw dh in
    arranged_same d (change_bounds d slot size) slot x y ok (bounds_beside d slot size) (λ s other. refl) off
effect_same d task (SetBox slot left high w h) x y ok none off =
    let box : Rectangle → Rectangle = λ r. box_at left high w h in
    arranged_same d (change_bounds d slot box) slot x y ok (bounds_beside d slot box) (λ s other. refl) off
effect_same d task (Activate slot) x y ok none off = activated_same d slot x y ok off
effect_same d task (WritePixel slot u v) x y ok none off = drawn_same d slot _ x y off
effect_same d task (Fill slot rect) x y ok none off = drawn_same d slot _ x y off
effect_same d task (DrawTo slot u v) x y ok none off = drawn_same d slot _ x y off
effect_same d task (Letters slot text) x y ok none off = drawn_same d slot _ x y off
effect_same d task (SetRast slot pen) x y ok none off = drawn_same d slot _ x y off
effect_same d task (ScrollRaster slot dx dy rect) x y ok none off = drawn_same d slot _ x y off
effect_same d task (Put image slot area) x y ok none off = drawn_same d slot _ x y off
effect_same d task (Blit source slot area) x y ok none off = drawn_same d slot _ x y off
effect_same d task (Scroll slot dx dy) x y ok none off = drawn_same d slot _ x y off
effect_same d task (SetTitle slot title) x y ok none off = drawn_same d slot _ x y off
effect_same d task call x y ok none off =
    same_on_screen d (effect d task call) x y refl (left_tops d task call refl (pos x) (pos y))

-- Whether it is refused or not, a call changes the screen only where its layer lies.
pub changes_where_it_lies : CallsChangeWhatTheyTouch
unfolding after
changes_where_it_lies d task call x y ok off = go (refusal d task call) refl off
  where
    go : (o : Option Reply) → refusal d task call ≡ o
        → covers (touched d call (changed_unless o d (effect d task call))) (pos x) (pos y) ≡ false
        → pen_at (screen (changed_unless o d (effect d task call))) x y ≡ pen_at (screen d) x y
    go None none uncovered = effect_same d task call x y ok none uncovered
    go (Some r) refused uncovered = refl

-- A call that touches no layer leaves the whole screen.
pub others_leave : OtherCallsLeaveTheScreen
unfolding after screen
others_leave d task call none =
    ap (λ (s : Sizes). bitmap s.width s.height s.depth (λ x y. top_pen (after d task call) (pos x) (pos y)))
    (after_sizes d task call)
    ∙ bitmap_same d.sizes.width d.sizes.height d.sizes.depth _ (λ x y. top_pen d (pos x) (pos y))
    (λ x y left low. go (refusal d task call) (pos x) (pos y))
  where
    go : (o : Option Reply) (x y : ℤ) → top_pen (changed_unless o d (effect d task call)) x y ≡ top_pen d x y
    go None x y = left_tops d task call none x y
    go (Some r) x y = refl
