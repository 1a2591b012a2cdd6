-- What holds of every live layer for which a draft stands.
use Rattle.std.proofs.Common.{◌≡◌, ℕ, Bool, true, false, ◌||◌, inl, inr, List, Option, Some, None, ◌∙◌, sym, refl, subst}
use Rattle.std.proofs.lemmas.Bool.{cases_lt}
use Rattle.lw_region.specs.Rectangle.{Rectangle, IsOrdered}
use Rattle.lw_region.specs.Bands.{covers}
use Rattle.lw_region.specs.Banded.{IsCanonical}
use Rattle.lw_planes.specs.Bitmap.{pen_at}
use Rattle.lw_planes.proofs.GridLaws.{grid_past_column, grid_past_row}
use Rattle.lw_planes.proofs.BitmapLaws.{pen_at_bitmap}
use Rattle.lw_cliprects.specs.Parts.{hidden_of, LieIn, AreDivided}
use Rattle.lw_machine.specs.Parts.{SlotPart}
use Rattle.lw_layer.specs.View as view
use Rattle.lw_layer.specs.View.{keeps, State, LiveView, CellView}
use Rattle.lw_layer.specs.Pieces.{buffer_at}
use Rattle.lw_layer.specs.Drafts.{IsLiveDraft, layout, buffers_of, pen_from, live_view}
use Rattle.lw_layer.specs.StandsFor.{IsSound, slot_of, IsLivePart, IsPartOf, StandsFor}
use Rattle.lw_layer.specs.declared.draft.LiveDraft.{LiveDraft}
use Rattle.lw_layer.proofs.KeptLaws.{keeps_found, plain_size}
use Rattle.lw_layer.proofs.BitsLaws.{live_bits}

-- a pixel that isn't kept has no buffer, and so no pen
unkept_pen : (d : LiveDraft) (x y : ℕ) (found : Option ℕ) → buffer_at (layout d) x y ≡ found → keeps (live_view d) x y ≡ false → pen_from (buffers_of d) (layout d) found x y ≡ 0
unkept_pen d x y None is off = refl
unkept_pen d x y (Some n) is off = let kept = keeps_found d x y n is in absurd (cc)

-- off the pixels that it keeps, a layer's pens are 0
pub off_kept : (d : LiveDraft) (x y : ℕ) → keeps (live_view d) x y ≡ false → pen_at (live_view d).layer.bits x y ≡ 0
off_kept d x y off =
    let l = layout d in
    let pens : ℕ → ℕ → ℕ = λ i j. pen_from (buffers_of d) l (buffer_at l i j) i j in
    elim (cases_lt y l.height) [
      | inl low ↦ elim (cases_lt x l.width) [
        | inl left ↦ pen_at_bitmap l.width l.height d.depth pens x y left low ∙ unkept_pen d x y (buffer_at l x y) refl off
        | inr past ↦ grid_past_column l.width l.height pens 0 x y past low
      ]
      | inr past ↦ grid_past_row l.width l.height pens 0 x y past
    ]

-- the first of two parts lies in their union
first_part : (a b c : Bool) → (a || b) ≡ c → a ≡ true → c ≡ true
first_part true b c is has = sym is
first_part false b c is has = absurd (cc has)

-- what is visible lies in what it divides
pub visible_inside : (bounds : Rectangle) (visible hidden : List Rectangle) → AreDivided bounds visible hidden → LieIn bounds visible
visible_inside bounds visible hidden divided x y has = first_part (covers visible x y) (covers hidden x y) _ (divided.cover x y) has

pub live_sound : (d : LiveDraft) → IsLiveDraft d → IsOrdered d.bounds → IsCanonical d.parts.visible → AreDivided d.bounds d.parts.visible (hidden_of d.bounds d.parts.visible) → IsSound (live_view d)
live_sound d ok ordered canonical divided = record {
  bits = live_bits d ok;
  off_kept = off_kept d;
  wide = λ plain. (plain_size d.kind _ _ d.superbits d.bounds plain ok.buffers.rest).0;
  high = λ plain. (plain_size d.kind _ _ d.superbits d.bounds plain ok.buffers.rest).1;
  ordered = ordered;
  inside = visible_inside d.bounds d.parts.visible _ divided;
  canonical = canonical;
  scrolled = ok.place.scrolled;
  hook = refl;
  frame = ok.frame;
}

-- the slot of a live cell has its layer
pub live_part : (c : CellView) (p : SlotPart) → c.state ≡ view.Live → StandsFor c p → IsLivePart c.live p
live_part c p live stands = let P : State → Type 0 = λ s. IsPartOf s c.live p in subst P live stands

-- what the cell of a slot says of it
pub slot_told : (s : State) (c : LiveView) (p : SlotPart) → IsPartOf s c p → p.slot ≡ slot_of s c
slot_told view.Unopened c p part = part.0
slot_told view.Live c p part = part.slot
slot_told view.Closed c p part = part.0
