-- What an arrangement of one slot's layer leaves of the others on the screen.
use Rattle.std.proofs.Common.{◌≡◌, ℕ, ◌==◌, Bool, true, false, ◌&&◌, List, [], ◌++◌, ℤ, Option, Some, None, refl, sym, ap, subst}
use Rattle.std.proofs.Common.{◌∙◌, inl, inr, ⊎_elim, eqb-true}
use Rattle.std.specs.Prelude.{if◌then◌else◌}
use Rattle.std.proofs.lemmas.Bool.{both_ways, and_from, false_from_ne_true, eq-eqb}
use Rattle.lw_region.specs.Rectangle.{Rectangle, has_pixel}
use Rattle.lw_region.specs.Bands.{covers}
use Rattle.lw_calls.specs.declared.make.Kind.{Kind}
use Rattle.lw_calls.specs.declared.make.Kind.TheVariants.{Simple, Smart, SuperBitmap}
use Rattle.lw_calls.specs.Kinds.{is_super}
use Rattle.lw_machine.specs.Layer.{Layer, Window, Slot, Unopened, Live, Closed, layer_is, is_framed, change_layer}
use Rattle.lw_machine.specs.Desk.{Desk, is_the}
use Rattle.lw_machine.specs.Screen.{bounds_have, top, is_shown, pen_on, pen_of_top}
use Rattle.lw_machine.specs.Kept.{screen_place, visible_within, kept_as, is_visible}
use Rattle.lw_machine.specs.Shapes.{differ}
use Rattle.lw_machine.specs.Paint.{with_pens}
use Rattle.lw_machine.specs.Reveal.{Across, across, revealed, keeps, framed_by, with_frame, frame_is_due, with_due_frame}
use Rattle.lw_machine.specs.Reveal.{settled_layer, settled}
use Rattle.lw_machine.specs.Sound.{IsDesk, IsSlot, IsPlaced, IsKeeping}
use Rattle.lw_machine.proofs.Seen.{the_one}
use Rattle.lw_machine.proofs.Settling.{changed_or_not, painted_frame, told_framed, settled_is}
use Rattle.lw_machine.proofs.Settling.{revealed_in, revealed_plain, revealed_super}
use Rattle.lw_machine.proofs.RevealSound.{shows}
use Rattle.lw_changes.specs.Touched.{bounds_list, bounds_meet, is_simple, may_repaint_frame, repainted_in, repainted}
use Rattle.lw_changes.proofs.Places.{covers_bounds, covers_neither, found_covers, apart_uncovered}
use Rattle.lw_changes.proofs.Beside.{IsBeside, same_top, on_top}
use Rattle.lw_changes.proofs.Staying.{Stays, IsUnpainted, showed, same_pen}
use Rattle.lw_changes.proofs.Screens.{top_pen}

-- a layer that is shown on a place lies there
record IsThere (d : Desk) (s : ℕ) (l : Layer) : Type 0 where
  bounds : Rectangle
  is : d.bounds s ≡ Some bounds
  placed : IsPlaced d.sizes l (Some bounds)
  keeping : IsKeeping d.sizes.depth (is_visible d s l) l

there : (d : Desk) (s : ℕ) (l : Layer) → IsSlot d s (Live l) → IsThere d s l
there d s l is = go (d.bounds s) refl is.0
  where
    go : (o : Option Rectangle) → d.bounds s ≡ o → IsPlaced d.sizes l o → IsThere d s l
    go None e p = absurd p
    go (Some r) e p = record { bounds = r; is = e; placed = p; keeping = is.1 }

-- a settled slot shows the pen that it showed, where its layer does
settled_pen : (d a : Desk) (s : ℕ) (l : Layer) (o : Option Rectangle) (x y : ℤ) → a.slot s ≡ Live l
    → pen_on o (Live (settled_layer d.assets.glyphs (across d a s) l)) x y ≡ pen_on o (Live l) x y
    → pen_on o ((settled d a).slot s) x y ≡ pen_on o (Live l) x y
settled_pen d a s l o x y live same =
    ⊎_elim
    (λ changed. ap (λ q. pen_on o q x y) (changed ∙ ap (change_layer (settled_layer d.assets.glyphs (across d a s))) live) ∙ same)
    (λ old. ap (λ q. pen_on o q x y) (old ∙ live))
    (changed_or_not a.front_to_back (λ t layer. change_layer (settled_layer d.assets.glyphs (across d a t)) layer) a.slot s)

-- An arrangement of the slot's layer leaves each place of the screen on which that doesn't lie before or after it, and on
-- which no layer lies that is painted.
pub arranged_pen : (d a : Desk) (slot : ℕ) (x y : ℤ) → IsDesk d → IsBeside d a slot → bounds_have (d.bounds slot) x y ≡ false
    → bounds_have (a.bounds slot) x y ≡ false
    → ((s : ℕ) (l : Layer) → (s == slot) ≡ false → top d x y ≡ Some s → d.slot s ≡ Live l → IsUnpainted (across d a s) l)
    → top_pen (settled d a) x y ≡ top_pen d x y
unfolding top
arranged_pen d a slot x y ok beside before after unpainted =
    ap (λ o. pen_of_top (settled d a) o x y) same ∙ go (top d x y) refl
  where
    same : top a x y ≡ top d x y
    same = same_top d a slot x y beside before after

    shown_at : (s : ℕ) → top d x y ≡ Some s → (is_shown d s x y ≡ true) × (is_shown a s x y ≡ true)
    shown_at s is =
        let one : is_the (Some s) s ≡ true = eq-eqb s s refl in
        (ap (λ o. is_the o s) is ∙ one, ap (λ o. is_the o s) (same ∙ is) ∙ one)

    of_layer : (s : ℕ) (l : Layer) → (s == slot) ≡ false → top d x y ≡ Some s → d.slot s ≡ Live l → IsSlot d s (Live l)
        → pen_on (a.bounds s) ((settled d a).slot s) x y ≡ pen_on (d.bounds s) (d.slot s) x y
    of_layer s l other is live sound =
        let t : IsThere d s l = there d s l sound in
        let stays : Stays d.sizes (across d a s) l t.bounds =
        record { was = t.is; is = beside.bounds s other ∙ t.is; bounded = t.placed; frameless = t.keeping.frameless } in
        let has : has_pixel t.bounds x y ≡ true = ap (λ o. bounds_have o x y) (sym t.is) ∙ (on_top d x y s is).has in
        let seen = shown_at s is in
        let pen =
        same_pen d.sizes (across d a s) l t.bounds stays x y has seen.0 seen.1 d.assets.glyphs (unpainted s l other is live) in
        ap (λ o. pen_on o ((settled d a).slot s) x y) (beside.bounds s other ∙ t.is)
        ∙ (settled_pen d a s l (Some t.bounds) x y (beside.slots s other ∙ live) pen
        ∙ sym (ap (λ o. pen_on o (d.slot s) x y) t.is ∙ ap (λ q. pen_on (Some t.bounds) q x y) live))

    bare : (s : ℕ) → top d x y ≡ Some s → d.bounds s ≡ None → ⊥
    bare s is none =
        both_ways (bounds_have (d.bounds s) x y) (ap (λ o. bounds_have o x y) none) (on_top d x y s is).has

    of_slot : (s : ℕ) (q : Slot) → (s == slot) ≡ false → top d x y ≡ Some s → d.slot s ≡ q → IsSlot d s q
        → pen_on (a.bounds s) ((settled d a).slot s) x y ≡ pen_on (d.bounds s) (d.slot s) x y
    of_slot s Unopened other is held sound = absurd (bare s is sound)
    of_slot s (Live l) other is held sound = of_layer s l other is held sound
    of_slot s Closed other is held sound = absurd (bare s is sound)

    go : (o : Option ℕ) → top d x y ≡ o → pen_of_top (settled d a) o x y ≡ pen_of_top d o x y
    go None is = refl
    go (Some s) is = by (s == slot) refl
      where
        by : (b : Bool) → (s == slot) ≡ b → pen_on (a.bounds s) ((settled d a).slot s) x y ≡ pen_on (d.bounds s) (d.slot s) x y
        by true e =
            absurd (both_ways (bounds_have (d.bounds slot) x y) before
            (ap (λ k. bounds_have (d.bounds k) x y) (sym (eqb-true s slot e)) ∙ (on_top d x y s is).has))
        by false e = of_slot s (d.slot s) e is refl (ok.slots s)

-- where the arranged slot's layer lies before and after
abbrev pub around : Desk → Desk → ℕ → List Rectangle
around d a slot = bounds_list (d.bounds slot) ++ bounds_list (a.bounds slot)

-- a place that these don't cover has neither
pub off_both : (d a : Desk) (slot : ℕ) (x y : ℤ) → covers (around d a slot) x y ≡ false
    → (bounds_have (d.bounds slot) x y ≡ false) × (bounds_have (a.bounds slot) x y ≡ false)
off_both d a slot x y off =
    let parts = covers_neither (bounds_list (d.bounds slot)) (bounds_list (a.bounds slot)) x y off in
    (sym (covers_bounds (d.bounds slot) x y) ∙ parts.0, sym (covers_bounds (a.bounds slot) x y) ∙ parts.1)

-- a layer whose bounds meet none of these shows no pixel that it didn't show before
apart_seen : (d a : Desk) (slot s : ℕ) (r : Rectangle) (x y : ℤ) → IsBeside d a slot → a.bounds s ≡ Some r
    → bounds_meet (around d a slot) (Some r) ≡ false → is_shown a s x y ≡ true → is_shown d s x y ≡ true
apart_seen d a slot s r x y beside bounds apart seen =
    let is : top a x y ≡ Some s = the_one (top a x y) s seen in
    let has : has_pixel r x y ≡ true = ap (λ o. bounds_have o x y) (sym bounds) ∙ (on_top a x y s is).has in
    let off = off_both d a slot x y (apart_uncovered (around d a slot) r x y apart has) in
    ap (λ o. is_the o s) (sym (same_top d a slot x y beside off.0 off.1)) ∙ seen

-- An arrangement leaves of each slot whether its layer is painted whole.
module _ (glyphs : List (List ℕ)) (kept : ℕ → ℕ → Bool) (active : Bool) where
  framed_by_same : (o : Option Window) (l : Layer) → may_repaint_frame (framed_by glyphs kept active o l) ≡ may_repaint_frame l
  unfolding with_pens
  framed_by_same None l = refl
  framed_by_same (Some w) l = go w.framed
    where
      go : (b : Bool) → may_repaint_frame (if b then painted_frame glyphs kept active w.title l else l) ≡ may_repaint_frame l
      go true = refl
      go false = refl

  framed_same : (t : Bool) (l : Layer) → may_repaint_frame (if t then with_frame glyphs kept active l else l) ≡ may_repaint_frame l
  framed_same true l = framed_by_same l.window l
  framed_same false l = refl

from_revealed : (glyphs : List (List ℕ)) (c : Across) (l r : Layer) → revealed c l ≡ r → may_repaint_frame r ≡ may_repaint_frame l
    → may_repaint_frame (settled_layer glyphs c l) ≡ may_repaint_frame l
from_revealed glyphs c l r is same =
    let q : Layer = with_due_frame glyphs c l r in
    ap may_repaint_frame (settled_is glyphs c l r is)
    ∙ (ap (λ b. b && is_simple q.kind) (told_framed c q q.window)
    ∙ (framed_same glyphs (keeps c r) c.new_active (frame_is_due c l r) r ∙ same))

layer_repainted : (glyphs : List (List ℕ)) (c : Across) (l : Layer) → may_repaint_frame (settled_layer glyphs c l) ≡ may_repaint_frame l
layer_repainted glyphs c l = go (is_super l.kind) refl
  where
    go : (b : Bool) → is_super l.kind ≡ b → may_repaint_frame (settled_layer glyphs c l) ≡ may_repaint_frame l
    go true own = from_revealed glyphs c l l (revealed_super c l own) refl
    go false plain = from_revealed glyphs c l (revealed_in c l) (revealed_plain c l plain) refl

slot_repainted : (glyphs : List (List ℕ)) (c : Across) (q : Slot)
    → layer_is may_repaint_frame (change_layer (settled_layer glyphs c) q) ≡ layer_is may_repaint_frame q
slot_repainted glyphs c Unopened = refl
slot_repainted glyphs c (Live l) = layer_repainted glyphs c l
slot_repainted glyphs c Closed = refl

settled_repainted : (d a : Desk) (s : ℕ) → layer_is may_repaint_frame ((settled d a).slot s) ≡ layer_is may_repaint_frame (a.slot s)
settled_repainted d a s =
    ⊎_elim
    (λ changed. ap (layer_is may_repaint_frame) changed ∙ slot_repainted d.assets.glyphs (across d a s) (a.slot s))
    (λ old. ap (layer_is may_repaint_frame) old)
    (changed_or_not a.front_to_back (λ t layer. change_layer (settled_layer d.assets.glyphs (across d a t)) layer) a.slot s)

-- A layer on top of a place that no painted frame covers isn't painted, where the activity of windows stays.
pub unpainted_there : (d a : Desk) (slot s : ℕ) (l : Layer) (x y : ℤ) → IsDesk d → IsBeside d a slot
    → bounds_have (d.bounds slot) x y ≡ false → bounds_have (a.bounds slot) x y ≡ false → (s == slot) ≡ false
    → top d x y ≡ Some s → d.slot s ≡ Live l → covers (repainted (settled d a) (around d a slot)) x y ≡ false
    → differ (is_the d.active s) (is_the a.active s) ≡ false
    → IsUnpainted (across d a s) l
unpainted_there d a slot s l x y ok beside before after other is live off active = by_frame (is_framed l.window) refl
  where
    t : IsThere d s l
    t = there d s l (subst (IsSlot d s) live (ok.slots s))

    now : a.bounds s ≡ Some t.bounds
    now = beside.bounds s other ∙ t.is

    still : bounds_meet (around d a slot) (Some t.bounds) ≡ false → (u v : ℕ)
        → shows (across d a s) l u v ≡ true → showed (across d a s) l u v ≡ true
    still apart u v seen =
        ap (λ o. visible_within (is_shown d s) o l.scroll_x l.scroll_y u v) t.is
        ∙ apart_seen d a slot s t.bounds (screen_place t.bounds.min_x l.scroll_x u) (screen_place t.bounds.min_y l.scroll_y v)
        beside now apart (ap (λ o. visible_within (is_shown a s) o l.scroll_x l.scroll_y u v) (sym now) ∙ seen)

    meeting : is_framed l.window ≡ true → l.kind ≡ Simple → bounds_meet (around d a slot) (Some t.bounds) ≡ true → ⊥
    meeting framed simple meets =
        let here : layer_is may_repaint_frame ((settled d a).slot s) ≡ true =
        settled_repainted d a s ∙ (ap (layer_is may_repaint_frame) (beside.slots s other ∙ live) ∙
        and_from _ _ framed (ap is_simple simple)) in
        let touches : bounds_meet (around d a slot) (a.bounds s) ≡ true = ap (bounds_meet (around d a slot)) now ∙ meets in
        let listed : repainted_in (settled d a) (around d a slot) s ≡ bounds_list (a.bounds s) =
        ap (λ b. if b then bounds_list (a.bounds s) else []) (and_from _ _ here touches) in
        let on = on_top a x y s (same_top d a slot x y beside before after ∙ is) in
        both_ways (covers (repainted (settled d a) (around d a slot)) x y) off
        (found_covers (repainted_in (settled d a) (around d a slot)) (λ k. bounds_have (a.bounds k) x y) a.front_to_back s x y
        on.found (ap (λ rects. covers rects x y) listed ∙ (covers_bounds (a.bounds s) x y ∙ on.has)))

    by_kind : (k : Kind) → l.kind ≡ k → is_framed l.window ≡ true → IsUnpainted (across d a s) l
    by_kind Simple simple framed =
        let apart : bounds_meet (around d a slot) (Some t.bounds) ≡ false =
        false_from_ne_true (bounds_meet (around d a slot) (Some t.bounds)) (meeting framed simple) in
        inr (record {
          active = active;
          kept = λ u v seen. ap (λ k. kept_as k (showed (across d a s) l u v)) simple ∙
              still apart u v (ap (λ k. kept_as k (shows (across d a s) l u v)) (sym simple) ∙ seen);
        })
    by_kind Smart smart framed =
        inr (record { active = active; kept = λ u v seen. ap (λ k. kept_as k (showed (across d a s) l u v)) smart })
    by_kind SuperBitmap own framed = inl (t.keeping.frameless (ap is_super own))

    by_frame : (b : Bool) → is_framed l.window ≡ b → IsUnpainted (across d a s) l
    by_frame true framed = by_kind l.kind refl framed
    by_frame false bare = inl bare
