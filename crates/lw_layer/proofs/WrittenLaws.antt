-- A draft stays one, and stands for the layer with the bytes written, once bytes were written into one of its buffers.
use Rattle.std.proofs.Common.{◌≡◌, ◌≢◌, ℕ, ◌-◌, ◌<◌, ◌≤◌, List, [], ◌∷◌, ◌++◌, length, set, get_or, true, Option, Some, ◌∙◌, sym, refl, ap, subst, arith, ⊎_elim, length-append, length-set}
use Rattle.std.specs.List.{slice_index_or}
use Rattle.lw_strips.specs.Strips.{StripView, rects_of, planes_of}
use Rattle.std.specs.Vec.{with_item}
use Rattle.std.proofs.lemmas.Bool.{cases_lt, cases_eq}
use Rattle.std.proofs.lemmas.List.{get_or_default, get_or-set_same, get_or-set_other, set-append_left, set-append_right, set-get_or, map-set, get_or-map}
use Rattle.std.proofs.lemmas.List.Elements.{All-set, All-get_or}
use Rattle.lw_region.specs.Rectangle.{Rectangle}
use Rattle.lw_planes.specs.Bitmap.{Bitmap}
use Rattle.lw_planes.specs.Change.{with_row, written_rows}
use Rattle.lw_planes.proofs.WriteLaws.{width_with_row, height_with_row, depth_with_row, IsPlanes_with_row}
use Rattle.lw_machine.specs.Kept.{is_kept}
use Rattle.lw_calls.specs.declared.make.Kind.{Kind}
use Rattle.lw_calls.specs.declared.make.Kind.TheVariants.{Simple, Smart, SuperBitmap}
use Rattle.lw_layer.specs.View.{keeps}
use Rattle.lw_layer.specs.Pieces.{buffered, with_bytes}
use Rattle.lw_layer.specs.Drafts.{IsLiveDraft, IsBuffer, AreBuffers, IsRest, layout, own_list, visible_planes, buffers_of, no_bitmap, no_strip, live_view}
use Rattle.lw_layer.specs.Written.{changed_own, changed_pens, with_line_bytes}
use Rattle.lw_layer.specs.declared.draft.LiveDraft.{LiveDraft}
use Rattle.lw_layer.proofs.BufferLaws.{planes_many, strip_buffer, covered_buffer, own_buffer, as_many_buffers, changed_shown, changed_covered, changed_last}
use Rattle.lw_layer.proofs.ViewLaws.{view_of_set}

-- a buffer stays one of its size
buffer_written : (depth : ℕ) (r : Rectangle) (b : Bitmap) (k line : ℕ) (bytes : List ℕ) → IsBuffer depth r b → IsBuffer depth r (with_row b k line bytes)
buffer_written depth r b k line bytes is = record {
  sound = IsPlanes_with_row b k line bytes is.sound.sizes;
  width = width_with_row b k line bytes ∙ is.width;
  height = height_with_row b k line bytes ∙ is.height;
  planes = depth_with_row b k line bytes ∙ is.planes;
}

-- all buffers stay such where one is changed into such
buffers_set : (depth : ℕ) (rects : List Rectangle) (bs : List Bitmap) (none : Rectangle) (n : ℕ) (b : Bitmap) → AreBuffers depth rects bs none → length bs ≡ length rects → n < length rects → IsBuffer depth (slice_index_or rects n none) b → AreBuffers depth rects (set bs n b) none
buffers_set depth rects bs none n b are many there is = record {
  each =
      λ m inside.
      ⊎_elim
      (λ (same : m ≡ n). let here : get_or (set bs n b) n no_bitmap ≡ b = get_or-set_same bs n b no_bitmap (omega (arith, many)) in rw same (rw here is))
      (λ (other : m ≢ n). let here : get_or (set bs n b) m no_bitmap ≡ get_or bs m no_bitmap = get_or-set_other bs n m b no_bitmap other in rw here (are.each m inside))
      (cases_eq m n);
}

-- what is told of a draft whose buffer n took these bytes
pub record IsWritten (d e : LiveDraft) (n k line : ℕ) (bytes : List ℕ) : Type 0 where
  pub sound : IsLiveDraft e
  pub view : live_view e ≡ with_bytes (live_view d) k n line bytes

-- the buffer as it becomes
abbrev written : LiveDraft → ℕ → ℕ → ℕ → List ℕ → Bitmap
written d n k line bytes = with_row (slice_index_or (buffers_of d) n no_bitmap) k line bytes

all_buffers : (d : LiveDraft) (n k line : ℕ) (bytes : List ℕ) (bs : List Bitmap) → IsLiveDraft d → n < length (buffered (layout d)) → bs ≡ set (buffers_of d) n (written d n k line bytes) → AreBuffers d.depth (buffered (layout d)) bs d.bounds
all_buffers d n k line bytes bs ok there is =
    let P : List Bitmap → Type 0 = λ q. AreBuffers d.depth (buffered (layout d)) q d.bounds in
    subst P (sym is) (buffers_set d.depth (buffered (layout d)) (buffers_of d) d.bounds n _ ok.buffers.sized (as_many_buffers d ok) there (buffer_written d.depth _ _ k line bytes (ok.buffers.sized.each n there)))

-- the strips as they become: the rectangles stay
strips_changed : (d : LiveDraft) (n : ℕ) (f : Bitmap → Bitmap) → n < length d.strips.items
    → rects_of (set d.strips.items n (changed_pens f (slice_index_or d.strips.items n no_strip))) ≡ rects_of d.strips.items
strips_changed d n f inside =
    let one = slice_index_or d.strips.items n no_strip in
    map-set (λ (s : StripView). s.rect) d.strips.items n (changed_pens f one)
    ∙ (ap (λ r. set (rects_of d.strips.items) n r) (sym (get_or-map (λ (s : StripView). s.rect) d.strips.items n no_strip one.rect inside))
    ∙ set-get_or (rects_of d.strips.items) n one.rect)

-- into the buffer of a visible rectangle
written_shown : (d : LiveDraft) (n k line : ℕ) (bytes : List ℕ) → IsLiveDraft d → n < length (buffered (layout d)) → n < length d.strips.items
    → IsWritten d (record d { strips = with_item d.strips n (changed_pens (λ b. with_row b k line bytes) (slice_index_or d.strips.items n no_strip)) }) n k line bytes
unfolding keeps is_kept
written_shown d n k line bytes ok there inside =
    let f : Bitmap → Bitmap = λ b. with_row b k line bytes in
    let one = slice_index_or d.strips.items n no_strip in
    let S : StripView → Type 0 = λ s. s.solid ≡ true in
    let planes : planes_of (set d.strips.items n (changed_pens f one)) ≡ set (visible_planes d) n (written d n k line bytes) =
    map-set (λ (s : StripView). s.planes) d.strips.items n (changed_pens f one) ∙ ap (λ b. set (visible_planes d) n (f b)) (sym (strip_buffer d n no_strip inside)) in
    let same : planes_of (set d.strips.items n (changed_pens f one)) ++ (d.covered.items ++ own_list d.superbits) ≡ set (buffers_of d) n (written d n k line bytes) =
    ap (λ q. q ++ (d.covered.items ++ own_list d.superbits)) planes
    ∙ sym (set-append_left (visible_planes d) (d.covered.items ++ own_list d.superbits) n _ (omega (arith, planes_many d))) in
    record {
      sound = record {
        place = ok.place;
        mode = ok.mode;
        buffers = record {
          shown = strips_changed d n f inside ∙ ok.buffers.shown;
          solid = All-set S d.strips.items n (changed_pens f one) (All-get_or S d.strips.items n no_strip inside ok.buffers.solid) ok.buffers.solid;
          rest = ok.buffers.rest;
          sized = all_buffers d n k line bytes _ ok there same;
        };
        damage = ok.damage;
        frame = ok.frame;
      };
      view = view_of_set d n k line bytes _ ok there same;
    }

-- into the buffer of a hidden rectangle
written_covered : (d : LiveDraft) (n k line : ℕ) (bytes : List ℕ) → IsLiveDraft d → n < length (buffered (layout d)) → length d.strips.items ≤ n → n - length d.strips.items < length d.covered.items → IsWritten d (record d { covered = with_item d.covered (n - length d.strips.items) (written d n k line bytes) }) n k line bytes
unfolding keeps is_kept
written_covered d n k line bytes ok there past inside =
    let i : ℕ = n - length d.strips.items in
    let same : visible_planes d ++ (set d.covered.items i (written d n k line bytes) ++ own_list d.superbits) ≡ set (buffers_of d) n (written d n k line bytes) =
    sym (set-append_right (visible_planes d) (d.covered.items ++ own_list d.superbits) _ n _ (planes_many d) past ∙ ap (λ q. visible_planes d ++ q) (set-append_left d.covered.items (own_list d.superbits) i _ inside)) in
    record {
      sound = record {
        place = ok.place;
        mode = ok.mode;
        buffers = record {
          shown = ok.buffers.shown;
          solid = ok.buffers.solid;
          rest = rw (length-set d.covered.items i (written d n k line bytes)) ok.buffers.rest;
          sized = all_buffers d n k line bytes _ ok there same;
        };
        damage = ok.damage;
        frame = ok.frame;
      };
      view = view_of_set d n k line bytes _ ok there same;
    }

-- the last of all buffers, changed
last_set : (xs ys : List Bitmap) (b v : Bitmap) (n : ℕ) → length xs ≤ n → length ys ≤ n - length xs → n < length (xs ++ (ys ++ (b ∷ []))) → xs ++ (ys ++ (v ∷ [])) ≡ set (xs ++ (ys ++ (b ∷ []))) n v
last_set xs ys b v n past late inside =
    let i : ℕ = n - length xs in
    let long = length-append xs (ys ++ (b ∷ [])) in
    let more = length-append ys (b ∷ []) in
    let last : i - length ys ≡ 0 = omega arith in
    sym (set-append_right xs (ys ++ (b ∷ [])) _ n v refl past ∙
    (ap (λ q. xs ++ q) (set-append_right ys (b ∷ []) _ i v refl late) ∙ ap (λ j. xs ++ (ys ++ set (b ∷ []) j v)) last))

-- an own bitmap stays one where it is changed
rest_written : (kind : Kind) (hidden covered : ℕ) (b c : Bitmap) → IsRest kind hidden covered (Some b) → IsRest kind hidden covered (Some c)
rest_written Simple hidden covered b c is = absurd (cc is.1)
rest_written Smart hidden covered b c is = absurd (cc is.1)
rest_written SuperBitmap hidden covered b c is = (is.0, c, refl)

-- into an own bitmap
abbrev with_own : LiveDraft → Option Bitmap → LiveDraft
with_own d o = record d { superbits = o }

written_own : (d : LiveDraft) (b : Bitmap) (n k line : ℕ) (bytes : List ℕ) → IsLiveDraft (with_own d (Some b)) → n < length (buffered (layout (with_own d (Some b)))) → length d.strips.items ≤ n → length d.covered.items ≤ n - length d.strips.items → slice_index_or (buffers_of (with_own d (Some b))) n no_bitmap ≡ b → IsWritten (with_own d (Some b)) (with_own d (Some (with_row b k line bytes))) n k line bytes
unfolding keeps is_kept written_rows
written_own d b n k line bytes ok there past late at =
    let q : LiveDraft = with_own d (Some b) in
    let inside : n < length (visible_planes d ++ (d.covered.items ++ (b ∷ []))) = omega (arith, as_many_buffers q ok) in
    let same : visible_planes d ++ (d.covered.items ++ (with_row b k line bytes ∷ [])) ≡ set (buffers_of q) n (written q n k line bytes) =
    last_set (visible_planes d) d.covered.items b _ n (omega (arith, planes_many d)) (omega (arith, planes_many d)) inside ∙ ap (λ w. set (buffers_of q) n (with_row w k line bytes)) (sym at) in
    record {
      sound = record {
        place = ok.place;
        mode = ok.mode;
        buffers = record {
          shown = ok.buffers.shown;
          solid = ok.buffers.solid;
          rest = rest_written d.kind _ _ b _ ok.buffers.rest;
          sized = all_buffers q n k line bytes _ ok there same;
        };
        damage = ok.damage;
        frame = ok.frame;
      };
      view = view_of_set q n k line bytes _ ok there same;
    }

-- into any buffer
pub written_line : (d : LiveDraft) (k n line : ℕ) (bytes : List ℕ) → IsLiveDraft d → n < length (buffered (layout d)) → IsWritten d (with_line_bytes k n line d bytes) n k line bytes
written_line d k n line bytes ok there =
    let f : Bitmap → Bitmap = λ b. with_row b k line bytes in
    let P : LiveDraft → Type 0 = λ e. IsWritten d e n k line bytes in
    ⊎_elim
    (λ (inside : n < length d.strips.items).
    let one = slice_index_or d.strips.items n no_strip in
    subst P (changed_shown d n f one inside (get_or_default d.strips.items n no_strip one inside)) (written_shown d n k line bytes ok there inside))
    (λ (past : length d.strips.items ≤ n).
    let i : ℕ = n - length d.strips.items in
    ⊎_elim
    (λ (inside : i < length d.covered.items).
    subst P (changed_covered d n i f (slice_index_or (buffers_of d) n no_bitmap) refl past inside (covered_buffer d n i refl past inside)) (written_covered d n k line bytes ok there past inside))
    (λ (late : length d.covered.items ≤ i).
    let own = own_buffer d n ok there past late in
    let Q : Option Bitmap → Type 0 = λ o. IsLiveDraft (with_own d o) → n < length (buffered (layout (with_own d o))) → slice_index_or (buffers_of (with_own d o)) n no_bitmap ≡ own.own → IsWritten (with_own d o) (with_own d (changed_own f o)) n k line bytes in
    let all : Q d.superbits = subst Q (sym own.is) (λ sound inside at. written_own d own.own n k line bytes sound inside past late at) in
    subst P (changed_last d n f past late) (all ok there own.at))
    (cases_lt i (length d.covered.items)))
    (cases_lt n (length d.strips.items))
