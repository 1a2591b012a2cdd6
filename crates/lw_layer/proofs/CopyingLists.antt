-- Rows of two lists of rectangles with a bitmap each, one after the other.
use Rattle.std.proofs.Common.{◌≡◌, ℕ, ◌<◌, Bool, true, false, ◌||◌, if◌then◌else◌, List, ◌++◌, length, ◌∙◌, sym, refl, ap, ℤ, pos, ◌+ℤ◌}
use Rattle.std.specs.Int.{bit_at}
use Rattle.lw_region.specs.Rectangle.{Rectangle}
use Rattle.lw_region.specs.Bands.{covers}
use Rattle.lw_region.proofs.Canonical.{covers_append}
use Rattle.lw_planes.specs.Row.{bit_of, row_bit}
use Rattle.lw_planes.specs.Bitmap.{Bitmap}
use Rattle.lw_buffers.specs.Lookup.{pen_in}
use Rattle.lw_buffers.proofs.LookupLaws.{pen_in_append}
use Rattle.lw_layer.specs.Copied.{HasPlaces}

-- a bit of one of two pens
bit_choice : (t : Bool) (p q plane : ℕ) → (if t then bit_at p plane else bit_at q plane) ≡ bit_at (if t then p else q) plane
bit_choice true p q plane = refl
bit_choice false p q plane = refl

either_bit : (a b : Bool) → (if a then 1 else bit_of b) ≡ bit_of (a || b)
either_bit true b = refl
either_bit false b = refl

-- places that were written over others are in front of them
pub places_over : (rs ss : List Rectangle) (bs cs : List Bitmap) (plane : ℕ) (x y : ℤ) (n : ℕ) (old_bits old_kept bits kept : List ℕ) → length bs ≡ length rs → HasPlaces ss cs plane x y n old_bits old_kept
    → ((i : ℕ) → i < n → row_bit bits i ≡ (if covers rs (x +ℤ pos i) y then bit_at (pen_in rs bs (x +ℤ pos i) y) plane else row_bit old_bits i))
    → ((i : ℕ) → i < n → row_bit kept i ≡ (if covers rs (x +ℤ pos i) y then 1 else row_bit old_kept i))
    → HasPlaces (rs ++ ss) (bs ++ cs) plane x y n bits kept
places_over rs ss bs cs plane x y n old_bits old_kept bits kept many old pens there = record {
  pens =
      λ i below.
      pens i below ∙
      (ap (λ w. if covers rs (x +ℤ pos i) y then bit_at (pen_in rs bs (x +ℤ pos i) y) plane else w) (old.pens i below) ∙
      (bit_choice (covers rs (x +ℤ pos i) y) (pen_in rs bs (x +ℤ pos i) y) (pen_in ss cs (x +ℤ pos i) y) plane ∙
      ap (λ p. bit_at p plane) (sym (pen_in_append rs ss bs cs (x +ℤ pos i) y many))));
  there =
      λ i below.
      there i below ∙
      (ap (λ w. if covers rs (x +ℤ pos i) y then 1 else w) (old.there i below) ∙
      (either_bit (covers rs (x +ℤ pos i) y) (covers ss (x +ℤ pos i) y) ∙ ap (λ w. bit_of w) (sym (covers_append rs ss (x +ℤ pos i) y))));
}
