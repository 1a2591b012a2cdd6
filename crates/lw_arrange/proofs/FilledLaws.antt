-- What the machine's reveal makes of a layer with a hook or without: what a cell's layer is once it is filled where it gains pixels.
use Rattle.std.proofs.Common.{◌≡◌, ℕ, ◌<◌, Bool, true, false, not, ◌&&◌, Option, Some, None, refl, sym, ap, ◌∙◌}
use Rattle.std.specs.Prelude.{if◌then◌else◌}
use Rattle.std.proofs.Math.Path.{fun_ext}
use Rattle.lw_planes.specs.Bitmap.{IsBitmap, bitmap, pen_at}
use Rattle.lw_planes.proofs.BitmapLaws.{pen_at_bitmap, bitmap_again, bitmap_same}
use Rattle.lw_calls.specs.Kinds.{is_super}
use Rattle.lw_machine.specs.Hook.{Hook}
use Rattle.lw_machine.specs.Layer.{Layer}
use Rattle.lw_machine.specs.Kept.{is_kept}
use Rattle.lw_machine.specs.Paint.{with_pens}
use Rattle.lw_machine.specs.Reveal.{Across, width_in, height_in, counts_as_kept, at_new_size, keeps, fills, fill_pen, some_pixel, some_now, hook_after, with_revealed, revealed}
use Rattle.lw_machine.proofs.Settling.{revealed_plain}
use Rattle.lw_arrange.specs.Filled.{filled_layer}

-- A pixel's pen by whether it is kept, and whether it counts as kept before: filled at once, or by a layer with other pens and then
-- filled.
pen_filled : (kept counted on : Bool) (was fill pen : ℕ) → on ≡ (kept && not counted)
    → (kept ≡ true → counted ≡ true → pen ≡ was) → (kept ≡ false → pen ≡ 0)
    → (if kept then (if counted then was else fill) else 0) ≡ (if on then fill else pen)
pen_filled true true on was fill pen is stays off = rw is (sym (stays refl refl))
pen_filled true false on was fill pen is stays off = rw is refl
pen_filled false counted on was fill pen is stays off = rw is (sym (off refl))

-- the layer with one hook or another, and revealed where it isn't a super-bitmap layer
abbrev pub with_hook : Option Hook → Layer → Layer
with_hook h l = record l { hook = h }

abbrev pub revealed_in : Across → Layer → Layer
revealed_in k l = with_revealed k l (at_new_size k l)

-- the revealed layer with other pens, and another hook
abbrev pub with_other_pens : Across → Layer → (ℕ → ℕ → ℕ) → Option Hook → Layer
with_other_pens k l pen other =
    record (revealed_in k l) { bits = bitmap (width_in k.new_bounds) (height_in k.new_bounds) l.bits.depth pen; hook = other }

-- Such pens are right off the pixels that are filled: those that count as kept have their former pens, and those that aren't kept
-- pen 0.
pub record AreLeft (k : Across) (l : Layer) (pen : ℕ → ℕ → ℕ) : Type 0 where
  pub stays : (x y : ℕ) → keeps k (at_new_size k l) x y ≡ true → counts_as_kept k l x y ≡ true → pen x y ≡ pen_at l.bits x y
  pub off : (x y : ℕ) → keeps k (at_new_size k l) x y ≡ false → pen x y ≡ 0

-- the pens of a revealed layer with a hook or without
bits_filled : (k : Across) (l : Layer) (h : Option Hook) (on : ℕ → ℕ → Bool) (some : Bool) (pen : ℕ → ℕ → ℕ) (other : Option Hook)
    → ((x y : ℕ) → on x y ≡ fills k l (at_new_size k l) x y) → AreLeft k l pen
    → (revealed_in k (with_hook h l)).bits ≡ (filled_layer h on some (with_other_pens k l pen other)).bits
unfolding with_pens counts_as_kept is_kept
bits_filled k l h on some pen other is left =
    let w = width_in k.new_bounds in
    let t = height_in k.new_bounds in
    let d = l.bits.depth in
    bitmap_same w t d _ (λ x y. if on x y then fill_pen d h x y else pen_at (bitmap w t d pen) x y)
    (λ x y across down.
    pen_filled (keeps k (at_new_size k l) x y) (counts_as_kept k l x y) (on x y) (pen_at l.bits x y) (fill_pen d h x y) (pen x y) (is x y)
    (left.stays x y) (left.off x y)
    ∙ ap (λ p. if on x y then fill_pen d h x y else p) (sym (pen_at_bitmap w t d pen x y across down)))

-- what is filled doesn't depend on the hook, and so neither does whether something is
some_filled : (k : Across) (l : Layer) (h : Option Hook) (on : ℕ → ℕ → Bool) → ((x y : ℕ) → on x y ≡ fills k l (at_new_size k l) x y)
    → some_now k (fills k (with_hook h l) (at_new_size k (with_hook h l))) ≡ some_now k (λ x y. on x y)
unfolding counts_as_kept is_kept
some_filled k l h on is =
    let same : (λ x y. fills k l (at_new_size k l) x y) ≡ (λ x y. on x y) = fun_ext (λ x. fun_ext (λ y. sym (is x y))) in
    ap (λ f. some_pixel (width_in k.new_bounds) (height_in k.new_bounds) f) same

-- A layer that isn't a super-bitmap layer is revealed with a hook or without as one with other pens that is filled where it gains
-- pixels.
pub revealed_filled : (k : Across) (l : Layer) (h : Option Hook) (on : ℕ → ℕ → Bool) (some : Bool) (pen : ℕ → ℕ → ℕ)
    (other : Option Hook) → is_super l.kind ≡ false → ((x y : ℕ) → on x y ≡ fills k l (at_new_size k l) x y)
    → some ≡ some_now k (λ x y. on x y) → AreLeft k l pen
    → revealed k (with_hook h l) ≡ filled_layer h on some (with_other_pens k l pen other)
unfolding with_pens counts_as_kept is_kept
revealed_filled k l h on some pen other without_bitmap is any left =
    let r = revealed_in k (with_hook h l) in
    let f = filled_layer h on some (with_other_pens k l pen other) in
    let turns : r.hook ≡ hook_after some h = ap (λ b. hook_after b h) (some_filled k l h on is ∙ sym any) in
    revealed_plain k (with_hook h l) without_bitmap
    ∙ (ap (λ b. record r { bits = b }) (bits_filled k l h on some pen other is left) ∙ ap (λ q. record f { hook = q }) turns)

-- a bitmap with some pens given again, that are what they were
same_pens : (l : Layer) (h : Option Hook) (on : ℕ → ℕ → Bool) → IsBitmap l.bits
    → ((x y : ℕ) → x < l.bits.width → y < l.bits.height → on x y ≡ true → fill_pen l.bits.depth h x y ≡ pen_at l.bits x y)
    → (with_pens on (λ x y. fill_pen l.bits.depth h x y) l).bits ≡ l.bits
unfolding with_pens
same_pens l h on ok same =
    let b = l.bits in
    bitmap_same b.width b.height b.depth _ (λ x y. pen_at b x y) (λ x y left low. either (on x y) _ (pen_at b x y) (same x y left low))
    ∙ bitmap_again b ok
  where
    either : (t : Bool) (fill pen : ℕ) → (t ≡ true → fill ≡ pen) → (if t then fill else pen) ≡ pen
    either true fill pen is = is refl
    either false fill pen is = refl

-- a layer of which nothing is filled keeps its pens
pub unfilled : (l : Layer) (h : Option Hook) (on : ℕ → ℕ → Bool) (some : Bool) → IsBitmap l.bits → ((x y : ℕ) → on x y ≡ false)
    → some ≡ false → filled_layer h on some l ≡ with_hook h l
unfolding with_pens
unfilled l h on some ok none never =
    ap (λ b. record l { bits = b; hook = hook_after some h })
    (same_pens l h on ok (λ x y left low is. absurd (cc (none x y, is))))
    ∙ (ap (λ t. record l { hook = hook_after t h }) never ∙ ap (λ q. record l { hook = q }) (kept_hook h))
  where
    kept_hook : (o : Option Hook) → hook_after false o ≡ o
    kept_hook None = refl
    kept_hook (Some k) = refl

-- and so does one without a hook of which only pixels with pen 0 are filled
pub unfilled_bare : (l : Layer) (on : ℕ → ℕ → Bool) (some : Bool) → IsBitmap l.bits
    → ((x y : ℕ) → x < l.bits.width → y < l.bits.height → on x y ≡ true → pen_at l.bits x y ≡ 0)
    → filled_layer None on some l ≡ with_hook None l
unfolding with_pens
unfilled_bare l on some ok zero =
    ap (λ b. record l { bits = b; hook = None }) (same_pens l None on ok (λ x y left low is. sym (zero x y left low is)))
