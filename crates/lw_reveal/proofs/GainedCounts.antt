-- What counts as kept before.
use Rattle.std.proofs.Common.{◌≡◌, ℕ, ◌&&◌, ◌||◌, not, Bool, true, false, List, Option, [], ◌∷◌, Some, None, ◌∙◌, sym, refl, ap, ℤ, pos, negsuc, arith}
use Rattle.std.specs.Ordering.{int_eq}
use Rattle.std.specs.Option.{option_eq}
use Rattle.std.proofs.lemmas.Bool.{and_parts, or_right}
use Rattle.std.proofs.lemmas.Bool.Decides.{nat_tests}
use Rattle.std.proofs.lemmas.Int.{ints}
use Rattle.lw_region.specs.Rectangle.{Rectangle, within, width, height}
use Rattle.lw_region.specs.Pixels.{pixels_of, union}
use Rattle.lw_region.specs.Bands.{bands, covers}
use Rattle.lw_region.specs.Regions.{rectangle_set}
use Rattle.lw_region.proofs.SetOps.{combined_lists, covers_one}
use Rattle.lw_region.proofs.Canonical.{covers_nil}
use Rattle.lw_calls.specs.declared.make.Kind.{Kind}
use Rattle.lw_calls.specs.Kinds.{is_super}
use Rattle.lw_damage.specs.Damaged.{may_lie}
use Rattle.lw_machine.specs.Layer.{is_framed}
use Rattle.lw_machine.specs.Kept.{is_kept, in_inner}
use Rattle.lw_machine.specs.Reveal.{was_inner, is_inner, counts_as_kept}
use Rattle.lw_layer.specs.View.{LiveView, keeps}
use Rattle.lw_layer.specs.Pieces.{inner_of}
use Rattle.lw_layer.specs.Keeping.{AreKept, keeps_pixel}
use Rattle.lw_layer.proofs.KeepingLaws.{all_is, kept_pixel, sound_plain}
use Rattle.lw_reveal.specs.Changed.{across_to, windowless}
use Rattle.lw_reveal.specs.Counted.{inner_with, AreCounted, CountedLaw}
use Rattle.lw_reveal.specs.Gained.{AreOf}
use Rattle.lw_reveal.proofs.PairingLaws.{edges_same}

-- what a frame would take away, it leaves where there is none
no_frame : (kept was is : Bool) → (kept && (was || not (false && is))) ≡ kept
no_frame true true is = refl
no_frame true false is = refl
no_frame false was is = refl

-- what a layer keeps counts as kept before once it has no window, and nothing else
pub counts_kept : (c : LiveView) (bounds : Rectangle) (visible : List Rectangle) (x y : ℕ)
    → counts_as_kept (across_to c bounds visible) (windowless c.layer) x y ≡ keeps c x y
unfolding counts_as_kept keeps is_kept
counts_kept c bounds visible x y =
    let a = across_to c bounds visible in
    no_frame (keeps c x y) (was_inner a (windowless c.layer) x y) (is_inner a (windowless c.layer) x y)

-- what counts is kept
pub counted_kept : (c : LiveView) (bounds : Rectangle) (visible : List Rectangle) (x y : ℕ)
    → counts_as_kept (across_to c bounds visible) c.layer x y ≡ true → keeps c x y ≡ true
unfolding counts_as_kept keeps
counted_kept c bounds visible x y has = (and_parts _ _ has).0

-- what a frame leaves, by its rectangle and by the machine's inner rectangle, at any pixel
framed_pixel : (w h x y : ℕ) → may_lie (inner_of false true w h) (pos x) (pos y) ≡ in_inner true w h x y
unfolding in_inner within
framed_pixel w h x y = grind (arith, ints, nat_tests)

inner_pixel : (super framed : Bool) (w h x y : ℕ) → super ≡ false → framed ≡ true
    → may_lie (inner_of super framed w h) (pos x) (pos y) ≡ in_inner framed w h x y
inner_pixel true framed w h x y other has = absurd (cc other)
inner_pixel false false w h x y other has = absurd (cc has)
inner_pixel false true w h x y other has = framed_pixel w h x y

-- which pixels a frame takes away, by both
same_frames : (framed may_before may_now before now : Bool) → (framed ≡ true → may_before ≡ before) → (framed ≡ true → may_now ≡ now)
    → (not framed || (may_before || not may_now)) ≡ (before || not (framed && now))
same_frames true may_before may_now before now first second = rw (first refl, second refl) refl
same_frames false may_before may_now true now first second = refl
same_frames false may_before may_now false now first second = refl

-- the pixels that count, by the machine's definition
pub counted_pixel : CountedLaw
unfolding counts_as_kept keeps
counted_pixel c bounds visible (pos x) (pos y) sound other =
    let a = across_to c bounds visible in
    let framed = is_framed c.layer.window in
    let super = is_super c.layer.kind in
    ap (λ k. k && (not framed || (may_lie (inner_with c c.bounds) (pos x) (pos y) || not (may_lie (inner_with c bounds) (pos x) (pos y)))))
    (kept_pixel c c.layer.kind refl other (sound_plain c sound other) (pos x) (pos y))
    ∙ ap (λ f. keeps c x y && f)
    (same_frames framed _ _ (was_inner a c.layer x y) (is_inner a c.layer x y)
    (λ has. inner_pixel super framed (width c.bounds) (height c.bounds) x y other has)
    (λ has. inner_pixel super framed (width bounds) (height bounds) x y other has))
counted_pixel c bounds visible (pos x) (negsuc y) sound other =
    ap (λ k. k && (not (is_framed c.layer.window) || (may_lie (inner_with c c.bounds) (pos x) (negsuc y) || not (may_lie (inner_with c bounds) (pos x) (negsuc y)))))
    (kept_pixel c c.layer.kind refl other (sound_plain c sound other) (pos x) (negsuc y))
counted_pixel c bounds visible (negsuc x) y sound other =
    ap (λ k. k && (not (is_framed c.layer.window) || (may_lie (inner_with c c.bounds) (negsuc x) y || not (may_lie (inner_with c bounds) (negsuc x) y))))
    (kept_pixel c c.layer.kind refl other (sound_plain c sound other) (negsuc x) y)

-- The pixels that count, from what the code reads of the layer: what it keeps, whether it has a frame, and both inner rectangles.
pub record IsFrame (c : LiveView) (bounds : Rectangle) (kept : List Rectangle) (framed : Bool) (former inner : Option Rectangle) :
    Type 0 where
  pub kept_is : (x y : ℤ) → covers kept x y ≡ keeps_pixel c.layer.kind c.bounds c.visible x y
  pub framed_is : framed ≡ is_framed c.layer.window
  pub former_is : former ≡ inner_with c c.bounds
  pub inner_is : inner ≡ inner_with c bounds

pub frame_read : (c : LiveView) (bounds before : Rectangle) (kind : Kind) (shown kept : List Rectangle) (framed : Bool)
    (former inner : Option Rectangle) → kind ≡ c.layer.kind → before ≡ c.bounds → shown ≡ c.visible
    → framed ≡ is_framed c.layer.window → AreKept kind before shown kept
    → former ≡ inner_of (is_super kind) framed (width before) (height before)
    → inner ≡ inner_of (is_super kind) framed (width bounds) (height bounds) → IsFrame c bounds kept framed former inner
frame_read c bounds before kind shown kept framed former inner kinds places visible frames are was now = record {
  kept_is = λ x y.
      are x y
      ∙ (ap (λ k. keeps_pixel k before shown x y) kinds
      ∙ (ap (λ b. keeps_pixel c.layer.kind b shown x y) places ∙ ap (λ l. keeps_pixel c.layer.kind c.bounds l x y) visible));
  framed_is = frames;
  former_is =
      was
      ∙ (ap (λ k. inner_of (is_super k) framed (width before) (height before)) kinds
      ∙ (ap (λ f. inner_of (is_super c.layer.kind) f (width before) (height before)) frames
      ∙ ap (λ b. inner_with c b) places));
  inner_is =
      now
      ∙ (ap (λ k. inner_of (is_super k) framed (width bounds) (height bounds)) kinds
      ∙ ap (λ f. inner_of (is_super c.layer.kind) f (width bounds) (height bounds)) frames);
}

-- all that is kept counts without a frame, and where the inner rectangle stays
stays_true : (m : Bool) → (m || not m) ≡ true
stays_true true = refl
stays_true false = refl

pub frameless_counts : (c : LiveView) (bounds : Rectangle) (kept : List Rectangle) (framed : Bool) (former inner : Option Rectangle)
    → IsFrame c bounds kept framed former inner → framed ≡ false → AreCounted c bounds kept
frameless_counts c bounds kept framed former inner read none x y =
    read.kept_is x y
    ∙ (all_is (keeps_pixel c.layer.kind c.bounds c.visible x y)
    ∙ ap (λ f. keeps_pixel c.layer.kind c.bounds c.visible x y && (not f || (may_lie (inner_with c c.bounds) x y || not (may_lie (inner_with c bounds) x y)))) (sym none ∙ read.framed_is))

pub same_counts : (c : LiveView) (bounds : Rectangle) (kept : List Rectangle) (framed : Bool) (former inner : Option Rectangle)
    → IsFrame c bounds kept framed former inner → former ≡ inner → AreCounted c bounds kept
same_counts c bounds kept framed former inner read same x y =
    let k = keeps_pixel c.layer.kind c.bounds c.visible x y in
    let before = may_lie (inner_with c c.bounds) x y in
    read.kept_is x y
    ∙ (all_is k
    ∙ (ap (λ t. k && t) (sym (or_right (not (is_framed c.layer.window)) (before || not before) (stays_true before)))
    ∙ ap (λ o. k && (not (is_framed c.layer.window) || (before || not (may_lie o x y)))) (sym read.former_is ∙ (same ∙ read.inner_is))))

-- rectangles, or none, that compare as equal
pub same_place : (a b : Option Rectangle)
    → option_eq (λ r s. int_eq r.min_x s.min_x && (int_eq r.min_y s.min_y && (int_eq r.max_x s.max_x && int_eq r.max_y s.max_y))) a b ≡ true
    → a ≡ b
same_place None None is = refl
same_place None (Some s) is = absurd (cc is)
same_place (Some r) None is = absurd (cc is)
same_place (Some r) (Some s) is = ap Some (edges_same r s is)

-- the pixels of a rectangle that was added to none, or of none
pub none_of : (place : Option Rectangle) (made : List Rectangle) → place ≡ None → made ≡ [] → AreOf place made
none_of place made none is x y = ap (λ l. covers l x y) is ∙ (covers_nil x y ∙ ap (λ o. may_lie o x y) (sym none))

pub one_of : (place : Option Rectangle) (rect : Rectangle) (old made : List Rectangle) → place ≡ Some rect → old ≡ []
    → made ≡ bands (union (pixels_of old) (rectangle_set rect)) → AreOf place made
one_of place rect old made some none is x y =
    (combined_lists.unions old (rect ∷ []) made is).pixels x y
    ∙ (ap (λ l. covers l x y || covers (rect ∷ []) x y) none
    ∙ (ap (λ t. t || covers (rect ∷ []) x y) (covers_nil x y)
    ∙ (covers_one rect x y ∙ ap (λ o. may_lie o x y) (sym some))))
