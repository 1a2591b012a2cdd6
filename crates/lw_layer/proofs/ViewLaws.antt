-- What a draft stands for once bytes were written into one of its buffers.
use Rattle.std.proofs.Common.{◌≡◌, ◌≢◌, ℕ, ◌==◌, ◌<◌, Bool, true, false, ◌&&◌, nat_lt, if◌then◌else◌, List, length, get_or, set, Option, Some, None, ◌∙◌, sym, refl, ap, arith, ⊎_elim, ℤ, pos, ◌+ℤ◌, ◌-ℤ◌, unsigned_abs}
use Rattle.std.specs.Int.{bit_at}
use Rattle.std.specs.List.{slice_index_or}
use Rattle.std.proofs.lemmas.Bool.{cases_eq, and_parts}
use Rattle.std.proofs.lemmas.Bool.Decides.{nat_tests}
use Rattle.std.proofs.lemmas.Int.{ints}
use Rattle.std.proofs.lemmas.List.{get_or-set_same, get_or-set_other}
use Rattle.std.proofs.lemmas.List.Quantifiers.{position-Some}
use Rattle.lw_region.specs.Rectangle.{Rectangle, within, has_pixel, width, height}
use Rattle.lw_planes.specs.Pen.{pen_of}
use Rattle.lw_planes.specs.Bitmap.{Bitmap, bitmap, pen_at}
use Rattle.lw_planes.specs.Change.{overwritten_bit, written_rows, with_row}
use Rattle.lw_planes.proofs.BitmapLaws.{pen_at_bitmap, bitmap_same}
use Rattle.lw_machine.specs.Desk.{is_the}
use Rattle.lw_machine.specs.Screen.{distance}
use Rattle.lw_layer.specs.View.{LiveView}
use Rattle.lw_layer.specs.Pieces.{Layout, buffered, buffer_rectangle, across, down, found_in, buffer_at, column_in, line_in, with_bytes}
use Rattle.lw_layer.specs.Code.{HasPlace}
use Rattle.lw_layer.specs.Drafts.{IsLiveDraft, IsBuffer, layout, buffers_of, no_bitmap, pen_from, bits_of, live_view}
use Rattle.lw_layer.specs.declared.draft.LiveDraft.{LiveDraft}
use Rattle.lw_layer.proofs.BufferLaws.{as_many_buffers}

-- a place between two edges lies in as many columns as there are between them
inside_extent : (least greatest z : ℤ) → within least z greatest ≡ true → distance least z < unsigned_abs ((greatest +ℤ pos 1) -ℤ least)
unfolding within
inside_extent least greatest z has = grind (arith, ints)

-- a choice that is there was made by its test
chosen : (t : Bool) (o : Option ℕ) (n : ℕ) → (if t then o else None) ≡ Some n → (t ≡ true) × (o ≡ Some n)
chosen true o n is = (refl, is)
chosen false o n is = absurd (cc is)

pub has_place : (l : Layout) (x y n : ℕ) → buffer_at l x y ≡ Some n → HasPlace l x y n
unfolding buffer_at
has_place l x y n is =
    let in_bits = chosen (nat_lt x l.width && nat_lt y l.height) (found_in l (buffered l) x y) n is in
    let sides : (nat_lt x l.width ≡ true) × (nat_lt y l.height ≡ true) = and_parts _ _ in_bits.0 in
    let found = position-Some (λ r. has_pixel r (across l x) (down l y)) (buffered l) n l.bounds in_bits.1 in
    let halves = and_parts _ _ found.1 in
    record {
      left = grind (arith, nat_tests);
      low = grind (arith, nat_tests);
      there = found.0;
      has = found.1;
      first = found.2;
      column = inside_extent _ _ _ halves.0;
      line = inside_extent _ _ _ halves.1;
    }

-- the pen in a bitmap once bytes were written into it
pen_with_row : (b : Bitmap) (k line : ℕ) (bytes : List ℕ) (i j : ℕ) → i < b.width → j < b.height → pen_at (with_row b k line bytes) i j ≡ pen_of b.depth (λ p. overwritten_bit b.width b.height k line bytes i j p (bit_at (pen_at b i j) p))
unfolding written_rows
pen_with_row b k line bytes i j left low = pen_at_bitmap b.width b.height b.depth _ i j left low

-- the same, for a buffer of a rectangle's size
pen_written : (depth : ℕ) (r : Rectangle) (b : Bitmap) (k line : ℕ) (bytes : List ℕ) (i j : ℕ) → IsBuffer depth r b → i < width r → j < height r → pen_at (with_row b k line bytes) i j ≡ pen_of depth (λ p. overwritten_bit (width r) (height r) k line bytes i j p (bit_at (pen_at b i j) p))
pen_written depth r b k line bytes i j is left low =
    let left_in : i < b.width = omega (arith, is.width) in
    let low_in : j < b.height = omega (arith, is.height) in
    pen_with_row b k line bytes i j left_in low_in ∙
    (ap (λ q. pen_of q (λ p. overwritten_bit b.width b.height k line bytes i j p (bit_at (pen_at b i j) p))) is.planes ∙
    (ap (λ q. pen_of depth (λ p. overwritten_bit q b.height k line bytes i j p (bit_at (pen_at b i j) p))) is.width ∙
    ap (λ q. pen_of depth (λ p. overwritten_bit (width r) q k line bytes i j p (bit_at (pen_at b i j) p))) is.height))

-- the pen of one pixel once bytes were written into buffer n
pen_changed : (l : Layout) (depth : ℕ) (bs : List Bitmap) (n k line : ℕ) (bytes : List ℕ) (x y : ℕ) (found : Option ℕ) → found ≡ buffer_at l x y → length bs ≡ length (buffered l) → IsBuffer depth (buffer_rectangle l n) (slice_index_or bs n no_bitmap) → n < length (buffered l) → pen_from (set bs n (with_row (slice_index_or bs n no_bitmap) k line bytes)) l found x y ≡ (if is_the found n then pen_of depth (λ p. overwritten_bit (width (buffer_rectangle l n)) (height (buffer_rectangle l n)) k line bytes (column_in l n x) (line_in l n y) p (bit_at (pen_from bs l found x y) p)) else pen_from bs l found x y)
pen_changed l depth bs n k line bytes x y None is many buffer there = refl
pen_changed l depth bs n k line bytes x y (Some m) is many buffer there =
    let b = slice_index_or bs n no_bitmap in
    ⊎_elim
    (λ (same : m ≡ n).
    let place = has_place l x y n (sym is ∙ ap Some same) in
    let here : get_or (set bs n (with_row b k line bytes)) n no_bitmap ≡ with_row b k line bytes = get_or-set_same bs n _ no_bitmap (omega (arith, many)) in
    let test : (n == n) ≡ true = grind (arith, nat_tests) in
    rw same (rw (here, test) (pen_written depth (buffer_rectangle l n) b k line bytes (column_in l n x) (line_in l n y) buffer place.column place.line)))
    (λ (other : m ≢ n).
    let here : get_or (set bs n (with_row b k line bytes)) m no_bitmap ≡ get_or bs m no_bitmap = get_or-set_other bs n m _ no_bitmap other in
    let test : (m == n) ≡ false = grind (arith, nat_tests) in
    rw (here, test) refl)
    (cases_eq m n)

-- the bits of a layer once bytes were written into buffer n
pub bits_written : (l : Layout) (depth : ℕ) (bs : List Bitmap) (n k line : ℕ) (bytes : List ℕ) → length bs ≡ length (buffered l) → IsBuffer depth (buffer_rectangle l n) (slice_index_or bs n no_bitmap) → n < length (buffered l) → bits_of l depth (set bs n (with_row (slice_index_or bs n no_bitmap) k line bytes)) ≡ bitmap l.width l.height depth (λ x y. if is_the (buffer_at l x y) n then pen_of depth (λ p. overwritten_bit (width (buffer_rectangle l n)) (height (buffer_rectangle l n)) k line bytes (column_in l n x) (line_in l n y) p (bit_at (pen_at (bits_of l depth bs) x y) p)) else pen_at (bits_of l depth bs) x y)
bits_written l depth bs n k line bytes many buffer there =
    bitmap_same l.width l.height depth _ _
    (λ x y left low.
    let old : pen_at (bits_of l depth bs) x y ≡ pen_from bs l (buffer_at l x y) x y = pen_at_bitmap l.width l.height depth (λ i j. pen_from bs l (buffer_at l i j) i j) x y left low in
    rw old (pen_changed l depth bs n k line bytes x y (buffer_at l x y) refl many buffer there))

-- the live layer of a draft with other bits
abbrev pub with_bits : LiveView → Bitmap → LiveView
with_bits c b = record c { layer = record c.layer { bits = b } }

-- the draft stands for the layer with the bytes written, where its buffers are the old ones with one changed
pub view_of_set : (d : LiveDraft) (n k line : ℕ) (bytes : List ℕ) (bs : List Bitmap) → IsLiveDraft d → n < length (buffered (layout d)) → bs ≡ set (buffers_of d) n (with_row (slice_index_or (buffers_of d) n no_bitmap) k line bytes) → with_bits (live_view d) (bits_of (layout d) d.depth bs) ≡ with_bytes (live_view d) k n line bytes
unfolding with_bytes
view_of_set d n k line bytes bs ok there is =
    let buffer = ok.buffers.sized.each n there in
    ap (λ b. with_bits (live_view d) (bits_of (layout d) d.depth b)) is ∙
    ap (with_bits (live_view d)) (bits_written (layout d) d.depth (buffers_of d) n k line bytes (as_many_buffers d ok) buffer there)
