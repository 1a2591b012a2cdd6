-- The bits of lent lines of a buffer.
use Rattle.std.proofs.Common.{◌≡◌, ℕ, ◌+◌, ◌-◌, ◌*◌, ◌==◌, ◌<◌, ◌≤◌, true, ◌&&◌, nat_le, nat_lt, List, Some, ◌∙◌, sym, refl, ap, arith}
use Rattle.std.specs.Int.{bit_at}
use Rattle.std.specs.List.{slice_index_or}
use Rattle.std.proofs.lemmas.Bool.{and_parts}
use Rattle.std.proofs.lemmas.Bool.Decides.{nat_tests}
use Rattle.lw_planes.specs.Row.{row_bit}
use Rattle.lw_planes.specs.Bitmap.{pen_at, row_bytes}
use Rattle.lw_planes.proofs.BitmapLaws.{pen_at_bitmap}
use Rattle.lw_machine.specs.Desk.{is_the}
use Rattle.lw_machine.proofs.Seen.{the_one}
use Rattle.lw_layer.specs.Pieces.{Layout, buffer_at, column_in, line_in, in_line, in_lines, HaveLinesBits}
use Rattle.lw_layer.specs.Drafts.{IsLiveDraft, layout, buffers_of, no_bitmap, pen_from, live_view}
use Rattle.lw_layer.specs.Written.{HaveBufferBits}
use Rattle.lw_layer.specs.declared.draft.LiveDraft.{LiveDraft}
use Rattle.lw_layer.proofs.BufferLaws.{buffer_is}
use Rattle.lw_layer.proofs.ViewLaws.{has_place}

-- the pen of a pixel in a line of a buffer
pub pen_in_line : (l : Layout) (n line x y : ℕ) → in_line l n line x y ≡ true → (line_in l n y ≡ line) × (buffer_at l x y ≡ Some n)
unfolding in_line
pen_in_line l n line x y is =
    let halves : (is_the (buffer_at l x y) n ≡ true) × ((line_in l n y == line) ≡ true) = and_parts _ _ is in
    (grind (arith, nat_tests), the_one _ n halves.0)

-- the pen of a pixel in lines of a buffer
pub pen_in_lines : (l : Layout) (n line rows x y : ℕ) → in_lines l n line rows x y ≡ true → (line ≤ line_in l n y) × (line_in l n y < line + rows) × (buffer_at l x y ≡ Some n)
unfolding in_lines
pen_in_lines l n line rows x y is =
    let halves : (is_the (buffer_at l x y) n ≡ true) × ((nat_le line (line_in l n y) && nat_lt (line_in l n y) (line + rows)) ≡ true) = and_parts _ _ is in
    let edges : (nat_le line (line_in l n y) ≡ true) × (nat_lt (line_in l n y) (line + rows) ≡ true) = and_parts (nat_le line (line_in l n y)) (nat_lt (line_in l n y) (line + rows)) halves.1 in
    (grind (arith, nat_tests), grind (arith, nat_tests), the_one _ n halves.0)

-- the bytes of lines have the bits of the pixels whose pens are in them
pub lines_bits_of : (d : LiveDraft) (plane n line rows : ℕ) (bytes : List ℕ) → IsLiveDraft d → HaveBufferBits d plane n line rows bytes → HaveLinesBits (live_view d) plane n line rows bytes
lines_bits_of d plane n line rows bytes ok has x y is =
    let l = layout d in
    let at = pen_in_lines l n line rows x y is in
    let place = has_place l x y n at.2 in
    let b = slice_index_or (buffers_of d) n no_bitmap in
    let buffer = buffer_is d n b ok place.there refl in
    let k : ℕ = line_in l n y - line in
    let i : ℕ = column_in l n x in
    let inside : i < b.width = omega (arith, buffer.width, place.column) in
    let here : line + k ≡ line_in l n y = omega (arith, at.0) in
    let pen : pen_at (live_view d).layer.bits x y ≡ pen_from (buffers_of d) l (buffer_at l x y) x y = pen_at_bitmap l.width l.height d.depth (λ i j. pen_from (buffers_of d) l (buffer_at l i j) i j) x y place.left place.low in
    ap (λ w. row_bit bytes (8 * (k * row_bytes w) + i)) (sym buffer.width) ∙
    (has i k inside (omega (arith, at.0, at.1)) ∙
    ap (λ p. bit_at p plane) (ap (λ j. pen_at b i j) here ∙ (ap (λ o. pen_from (buffers_of d) l o x y) (sym at.2) ∙ sym pen)))
