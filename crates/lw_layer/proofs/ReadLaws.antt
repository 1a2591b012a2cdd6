-- What reading a pixel gives.
use Rattle.std.proofs.Common.{◌≡◌, ℕ, ◌<◌, false, Some, None, ◌∙◌, sym, refl, ap, arith, ℤ, pos, negsuc, ◌-ℤ◌}
use Rattle.std.specs.List.{slice_index_or}
use Rattle.lw_planes.specs.Bitmap.{pen_at}
use Rattle.lw_planes.proofs.BitmapLaws.{pen_at_bitmap}
use Rattle.lw_machine.specs.Kept.{holds_at}
use Rattle.lw_layer.specs.View.{LiveView, keeps, kept_pen}
use Rattle.lw_layer.specs.Pieces.{HasLine, buffer_rectangle, across, down, buffer_at, column_in, line_in}
use Rattle.lw_layer.specs.Drafts.{IsLiveDraft, layout, buffers_of, no_bitmap, pen_from, live_view}
use Rattle.lw_layer.specs.declared.draft.LiveDraft.{LiveDraft}
use Rattle.lw_layer.proofs.BufferLaws.{buffer_is}
use Rattle.lw_layer.proofs.ViewLaws.{has_place}
use Rattle.lw_layer.proofs.KeptLaws.{keeps_found, distance_is}

-- a pixel that isn't kept isn't read
pub unkept_unread : (c : LiveView) (x y : ℤ) → holds_at (λ i j. keeps c i j) x y ≡ false → None ≡ kept_pen c x y
unkept_unread c (pos x) (pos y) off = rw off refl
unkept_unread c (pos x) (negsuc y) off = refl
unkept_unread c (negsuc x) y off = refl

-- where the pixel lies in its buffer
pub read_line : (d : LiveDraft) (x y n line : ℕ) → buffer_at (layout d) x y ≡ Some n → pos line ≡ down (layout d) y -ℤ (buffer_rectangle (layout d) n).min_y → HasLine (layout d) n line
read_line d x y n line found is =
    let place = has_place (layout d) x y n found in
    let at : line_in (layout d) n y ≡ line = distance_is (buffer_rectangle (layout d) n).min_y (down (layout d) y) line is in
    record { buffer = place.there; below = omega (arith, place.line) }

pub read_column : (d : LiveDraft) (x y n column : ℕ) → IsLiveDraft d → buffer_at (layout d) x y ≡ Some n → pos column ≡ across (layout d) x -ℤ (buffer_rectangle (layout d) n).min_x → column < (slice_index_or (buffers_of d) n no_bitmap).width
read_column d x y n column ok found is =
    let place = has_place (layout d) x y n found in
    let at : column_in (layout d) n x ≡ column = distance_is (buffer_rectangle (layout d) n).min_x (across (layout d) x) column is in
    let buffer = buffer_is d n (slice_index_or (buffers_of d) n no_bitmap) ok place.there refl in
    omega (arith, place.column, buffer.width)

-- its pen
pub read_pen : (d : LiveDraft) (x y n column line : ℕ) → buffer_at (layout d) x y ≡ Some n → pos column ≡ across (layout d) x -ℤ (buffer_rectangle (layout d) n).min_x → pos line ≡ down (layout d) y -ℤ (buffer_rectangle (layout d) n).min_y → Some (pen_at (slice_index_or (buffers_of d) n no_bitmap) column line) ≡ kept_pen (live_view d) (pos x) (pos y)
read_pen d x y n column line found is_column is_line =
    let l = layout d in
    let place = has_place l x y n found in
    let kept = keeps_found d x y n found in
    let at_column : column_in l n x ≡ column = distance_is (buffer_rectangle l n).min_x (across l x) column is_column in
    let at_line : line_in l n y ≡ line = distance_is (buffer_rectangle l n).min_y (down l y) line is_line in
    let pen : pen_at (live_view d).layer.bits x y ≡ pen_from (buffers_of d) l (buffer_at l x y) x y = pen_at_bitmap l.width l.height d.depth (λ i j. pen_from (buffers_of d) l (buffer_at l i j) i j) x y place.left place.low in
    let here : pen_at (slice_index_or (buffers_of d) n no_bitmap) column line ≡ pen_at (live_view d).layer.bits x y =
    ap (λ i. pen_at (slice_index_or (buffers_of d) n no_bitmap) i line) (sym at_column) ∙
    (ap (λ j. pen_at (slice_index_or (buffers_of d) n no_bitmap) (column_in l n x) j) (sym at_line) ∙
    (ap (λ o. pen_from (buffers_of d) l o x y) (sym found) ∙ sym pen))
    in
    rw kept (ap Some here)
