-- The bits of a live layer are a bitmap of sizes for planes.
use Rattle.std.proofs.Common.{◌≡◌, ℕ, ◌^◌, ◌<◌, Option, Some, None, sym, refl, subst, arith, pow_pos}
use Rattle.std.specs.List.{slice_index_or}
use Rattle.lw_planes.specs.Sizes.{IsPlanes}
use Rattle.lw_planes.proofs.BitmapLaws.{IsBitmap_bitmap}
use Rattle.lw_layer.specs.View.{LiveView}
use Rattle.lw_layer.specs.Pieces.{buffer_at, column_in, line_in}
use Rattle.lw_layer.specs.Drafts.{IsLiveDraft, layout, buffers_of, no_bitmap, pen_from, live_view}
use Rattle.lw_layer.specs.declared.draft.LiveDraft.{LiveDraft}
use Rattle.lw_layer.proofs.BufferLaws.{buffer_is}
use Rattle.lw_layer.proofs.ViewLaws.{has_place}

-- a pen in a buffer is one of its planes
pen_small : (d : LiveDraft) (x y : ℕ) (found : Option ℕ) → IsLiveDraft d → found ≡ buffer_at (layout d) x y → pen_from (buffers_of d) (layout d) found x y < 2 ^ d.depth
pen_small d x y None ok is = omega (arith, pow_pos d.depth)
pen_small d x y (Some n) ok is =
    let place = has_place (layout d) x y n (sym is) in
    let buffer = buffer_is d n (slice_index_or (buffers_of d) n no_bitmap) ok place.there refl in
    let left : column_in (layout d) n x < (slice_index_or (buffers_of d) n no_bitmap).width = omega (arith, place.column, buffer.width) in
    let low : line_in (layout d) n y < (slice_index_or (buffers_of d) n no_bitmap).height = omega (arith, place.line, buffer.height) in
    let small = buffer.sound.bitmap.pens (column_in (layout d) n x) (line_in (layout d) n y) left low in
    let P : ℕ → Type 0 = λ q. pen_from (buffers_of d) (layout d) (Some n) x y < 2 ^ q in
    subst P buffer.planes small

pub live_bits : (d : LiveDraft) → IsLiveDraft d → IsPlanes (live_view d).layer.bits
live_bits d ok = record {
  bitmap = IsBitmap_bitmap (layout d).width (layout d).height d.depth _ (λ x y left low. pen_small d x y (buffer_at (layout d) x y) ok refl);
  sizes = ok.place.sizes;
}

-- the same, of the layer that a draft stands for
pub layer_bits : (d : LiveDraft) (c : LiveView) → IsLiveDraft d → live_view d ≡ c → IsPlanes c.layer.bits
layer_bits d c ok is = let P : LiveView → Type 0 = λ v. IsPlanes v.layer.bits in subst P is (live_bits d ok)
