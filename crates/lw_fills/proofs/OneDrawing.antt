-- Fills that have no pixel in common are one drawing.
use Rattle.std.proofs.Common.{◌≡◌, ℕ, zero, suc, ◌==◌, Bool, true, false, not, cond, ◌&&◌, ◌||◌, List, [], ◌∷◌, AllPairs, None, ℤ, pos, refl, sym, ap, ◌∙◌, arith}
use Rattle.std.proofs.Math.Path.{fun_ext}
use Rattle.std.proofs.lemmas.Bool.{false≢true, eqb-true, eq-eqb}
use Rattle.lw_region.specs.Rectangle.{Rectangle, has_pixel, AreApart}
use Rattle.lw_region.specs.Bands.{covers}
use Rattle.lw_region.proofs.Canonical.{covers_nil, covers_cons, covers_bands}
use Rattle.lw_region.proofs.SetOps.{canonical_bands}
use Rattle.lw_region.proofs.Disjoint.{canonical_disjoint}
use Rattle.lw_region.proofs.FindingLaws.{covers_none}
use Rattle.lw_area.specs.declared.point.Point.{Point}
use Rattle.lw_area.specs.Areas.{is_in_area, area_set, area_rectangles}
use Rattle.lw_area.proofs.Closed.{area_pixels}
use Rattle.lw_planes.specs.Bitmap.{Bitmap, pen_at}
use Rattle.lw_planes.proofs.BitmapLaws.{pen_at_bitmap, bitmap_from_pens, bitmap_same}
use Rattle.std.specs.Int.{bit_at}
use Rattle.lw_calls.specs.declared.call.Call.TheVariants.{Fill}
use Rattle.lw_calls.specs.declared.reply.Reply.TheVariants.{NotOpen}
use Rattle.lw_machine.specs.Layer.{Layer, Slot, Unopened, Live, Closed, is_live, change_layer}
use Rattle.lw_machine.specs.Desk.{Desk, with_value}
use Rattle.lw_machine.specs.Screen.{top}
use Rattle.lw_machine.specs.Kept.{is_visible, is_kept, is_drawable}
use Rattle.lw_machine.specs.Paint.{through_mask, candidate_bit, with_pens}
use Rattle.lw_machine.specs.Shapes.{rect_fill}
use Rattle.lw_machine.specs.Step.{refuse, changed_unless, drawn_on, after}
use Rattle.lw_machine.specs.Sound.{IsKeeping, IsSlot}
use Rattle.lw_machine.proofs.DrawingSound.{fill_alike}
use Rattle.lw_gzz.specs.Together.{after_all}
use Rattle.lw_fills.specs.Fills.{fills, area_fill, FillsAreOneDrawing, AreasAreOneDrawing}

-- what two drawings leave at a place, of which one at most has it
twice : (drawable a b both : Bool) (painted : ℕ → ℕ) (old : ℕ) → both ≡ (a || b) → (a ≡ true → b ≡ false)
    → cond (drawable && b) (painted (cond (drawable && a) (painted old) old)) (cond (drawable && a) (painted old) old)
    ≡ cond (drawable && both) (painted old) old
twice false a b both painted old e h = refl
twice true true true both painted old e h = absurd (false≢true (sym (h refl)))
twice true true false true painted old e h = refl
twice true true false false painted old e h = absurd (false≢true e)
twice true false true true painted old e h = refl
twice true false true false painted old e h = absurd (false≢true e)
twice true false false true painted old e h = absurd (false≢true (sym e))
twice true false false false painted old e h = refl

-- two drawings of tests that don't hold together are one of either
drawn_twice : (visible : ℕ → ℕ → Bool) (a b both : ℤ → ℤ → Bool) (l : Layer) → ((x y : ℤ) → both x y ≡ (a x y || b x y))
    → ((x y : ℤ) → a x y ≡ true → b x y ≡ false) → area_fill b visible (area_fill a visible l) ≡ area_fill both visible l
unfolding with_pens is_drawable is_kept
drawn_twice visible a b both l either apart =
    let painted : ℕ → ℕ = λ old. through_mask l.bits.depth l.raster.mask (λ k. candidate_bit l.raster true k (bit_at old k)) old in
    let once : ℕ → ℕ → ℕ = λ x y. cond (is_drawable visible l x y && a (pos x) (pos y)) (painted (pen_at l.bits x y)) (pen_at l.bits x y) in
    ap (λ (bits : Bitmap). record l { bits = bits })
    (bitmap_same l.bits.width l.bits.height l.bits.depth _ (λ x y. cond (is_drawable visible l x y && both (pos x) (pos y)) (painted (pen_at l.bits x y)) (pen_at l.bits x y)) (λ x y left low.
    ap (λ old. cond (is_drawable visible l x y && b (pos x) (pos y)) (painted old) old) (pen_at_bitmap l.bits.width l.bits.height l.bits.depth once x y left low)
    ∙ twice (is_drawable visible l x y) (a (pos x) (pos y)) (b (pos x) (pos y)) (both (pos x) (pos y)) painted (pen_at l.bits x y) (either (pos x) (pos y)) (apart (pos x) (pos y))))

-- a drawing of nothing
undrawn : (drawable has : Bool) (painted old : ℕ) → has ≡ false → old ≡ cond (drawable && has) painted old
undrawn false has painted old e = refl
undrawn true true painted old e = absurd (false≢true (sym e))
undrawn true false painted old e = refl

nothing_drawn : (planes : ℕ) (visible : ℕ → ℕ → Bool) (has : ℤ → ℤ → Bool) (l : Layer) → IsKeeping planes visible l
    → ((x y : ℤ) → has x y ≡ false) → l ≡ area_fill has visible l
unfolding with_pens
nothing_drawn planes visible has l k none =
    ap (λ (bits : Bitmap). record l { bits = bits })
    (bitmap_from_pens l.bits _ k.bitmap (λ x y left low. undrawn (is_drawable visible l x y) (has (pos x) (pos y)) _ (pen_at l.bits x y) (none (pos x) (pos y))))

-- the layer after fills
abbrev filled : (ℕ → ℕ → Bool) → List Rectangle → Layer → Layer
filled visible [] l = l
filled visible (r ∷ rs) l = filled visible rs (rect_fill visible r l)

-- the rectangles after a first one are apart, and have no pixel of it
rest_apart : (r : Rectangle) (rs : List Rectangle) → AllPairs AreApart (r ∷ rs) → AllPairs AreApart rs
rest_apart r rs h = λ i j d l m. h (suc i) (suc j) d (omega (arith, l)) (omega (arith, m))

not_both : (p q : Bool) → (p && q) ≡ false → p ≡ true → q ≡ false
not_both true q h e = h
not_both false q h e = absurd (false≢true e)

first_apart : (r : Rectangle) (rs : List Rectangle) → AllPairs AreApart (r ∷ rs) → (x y : ℤ) → has_pixel r x y ≡ true → covers rs x y ≡ false
first_apart r rs h x y has =
    covers_none rs r x y (λ k low. not_both (has_pixel r x y) _ (h zero (suc k) r (omega arith) (omega (arith, low)) x y) has)

filled_is : (planes : ℕ) (visible : ℕ → ℕ → Bool) (rs : List Rectangle) (l : Layer) → IsKeeping planes visible l → AllPairs AreApart rs
    → filled visible rs l ≡ area_fill (covers rs) visible l
filled_is planes visible [] l k h = nothing_drawn planes visible (covers []) l k covers_nil
filled_is planes visible (r ∷ rs) l k h =
    filled_is planes visible rs (rect_fill visible r l) (fill_alike planes visible r l k).keeping (rest_apart r rs h)
    ∙ drawn_twice visible (has_pixel r) (covers rs) (covers (r ∷ rs)) l (covers_cons r rs) (first_apart r rs h)

-- the desk with this in a slot
abbrev with_slot : Desk → ℕ → Slot → Desk
with_slot d slot x = record d { slot = with_value slot x d.slot }

as_before : (d : Desk) (slot : ℕ) (x : Slot) → d.slot slot ≡ x → d ≡ with_slot d slot x
as_before d slot x is = ap (λ (f : ℕ → Slot). record d { slot = f }) (fun_ext (λ k. go k (k == slot) refl))
  where
    go : (k : ℕ) (b : Bool) → (k == slot) ≡ b → d.slot k ≡ cond b x (d.slot k)
    go k true e = ap d.slot (eqb-true k slot e) ∙ is
    go k false e = refl

again : (d : Desk) (slot : ℕ) (x z : Slot) → with_slot (with_slot d slot x) slot z ≡ with_slot d slot z
again d slot x z = ap (λ (f : ℕ → Slot). record d { slot = f }) (fun_ext (λ k. go k (k == slot)))
  where
    go : (k : ℕ) (b : Bool) → cond b z (cond b x (d.slot k)) ≡ cond b z (d.slot k)
    go k true = refl
    go k false = refl

there : (d : Desk) (slot : ℕ) (x : Slot) → (with_slot d slot x).slot slot ≡ x
there d slot x = ap (λ b. cond b x (d.slot slot)) (eq-eqb slot slot refl)

-- a fill of a layer
fill_after : (d : Desk) (task slot : ℕ) (r : Rectangle) (l : Layer) → d.slot slot ≡ Live l
    → after d task (Fill slot r) ≡ with_slot d slot (Live (rect_fill (is_visible d slot l) r l))
unfolding after
fill_after d task slot r l is =
    ap (λ (x : Slot). changed_unless (refuse (not (is_live x)) NotOpen None) d (with_slot d slot (change_layer (λ m. rect_fill (is_visible d slot m) r m) x))) is

-- it shows the same pixels afterwards
still_visible : (d : Desk) (slot : ℕ) (x : Slot) (visible : ℕ → ℕ → Bool) (r : Rectangle) (l : Layer)
    → is_visible (with_slot d slot x) slot (rect_fill visible r l) ≡ is_visible d slot l
unfolding is_visible top with_pens
still_visible d slot x visible r l = refl

fills_after : (task slot : ℕ) (rs : List Rectangle) (d : Desk) (l : Layer) (visible : ℕ → ℕ → Bool) → d.slot slot ≡ Live l
    → is_visible d slot l ≡ visible → after_all d task (fills slot rs) ≡ with_slot d slot (Live (filled visible rs l))
fills_after task slot [] d l visible is same = as_before d slot (Live l) is
fills_after task slot (r ∷ rs) d l visible is same =
    let one : Layer = rect_fill visible r l in
    let first : after d task (Fill slot r) ≡ with_slot d slot (Live one) =
    fill_after d task slot r l is ∙ ap (λ v. with_slot d slot (Live (rect_fill v r l))) same in
    ap (λ e. after_all e task (fills slot rs)) first
    ∙ (fills_after task slot rs (with_slot d slot (Live one)) one visible (there d slot (Live one)) (still_visible d slot (Live one) visible r l ∙ same)
    ∙ again d slot (Live one) (Live (filled visible rs one)))

-- fills of a slot without a layer change nothing
refused_after : (task slot : ℕ) (rs : List Rectangle) (d : Desk) → is_live (d.slot slot) ≡ false → after_all d task (fills slot rs) ≡ d
unfolding after
refused_after task slot [] d bare = refl
refused_after task slot (r ∷ rs) d bare =
    ap (λ e. after_all e task (fills slot rs)) (ap (λ b. changed_unless (refuse (not b) NotOpen None) d (drawn_on d slot (λ visible. rect_fill visible r))) bare)
    ∙ refused_after task slot rs d bare

undisturbed : (task slot : ℕ) (rs : List Rectangle) (d : Desk) (change : (ℕ → ℕ → Bool) → Layer → Layer) (x : Slot) → d.slot slot ≡ x
    → is_live x ≡ false → change_layer (λ l. change (is_visible d slot l) l) x ≡ x → after_all d task (fills slot rs) ≡ drawn_on d slot change
undisturbed task slot rs d change x is bare same =
    refused_after task slot rs d (ap is_live is ∙ bare)
    ∙ (as_before d slot x is ∙ ap (with_slot d slot) (sym (ap (change_layer (λ l. change (is_visible d slot l) l)) is ∙ same)))

pub fills_are : FillsAreOneDrawing
fills_are d task slot rs ok apart = go (d.slot slot) refl (ok.slots slot)
  where
    change : (ℕ → ℕ → Bool) → Layer → Layer
    change = area_fill (covers rs)

    go : (x : Slot) → d.slot slot ≡ x → IsSlot d slot x → after_all d task (fills slot rs) ≡ drawn_on d slot change
    go Unopened is here = undisturbed task slot rs d change Unopened is refl refl
    go (Live l) is here =
        fills_after task slot rs d l (is_visible d slot l) is refl
        ∙ (ap (λ m. with_slot d slot (Live m)) (filled_is d.sizes.depth (is_visible d slot l) rs l here.1 apart)
        ∙ sym (ap (λ x. with_slot d slot (change_layer (λ m. change (is_visible d slot m) m) x)) is))
    go Closed is here = undisturbed task slot rs d change Closed is refl refl

-- the rectangles of an area have its pixels
area_covers : (points : List Point) (words : List ℕ) → covers (area_rectangles points words) ≡ is_in_area points words
area_covers points words =
    fun_ext (λ x. fun_ext (λ y. covers_bands (area_set points words) x y ∙ area_pixels points words x y))

pub areas_are : AreasAreOneDrawing
areas_are d task slot points words ok =
    fills_are d task slot (area_rectangles points words) ok (canonical_disjoint (area_rectangles points words) (canonical_bands (area_set points words)))
    ∙ ap (λ has. drawn_on d slot (area_fill has)) (area_covers points words)
