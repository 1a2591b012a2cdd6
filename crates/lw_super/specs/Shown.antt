-- For private contracts.
-- A bitmap of which rectangles of the screen's plane show portions, each with a buffer of its size.
use Rattle.std.specs.Prelude.{◌≡◌, ℕ, ◌+◌, ◌<◌, Bool, true, ◌&&◌, List, [], length, map, ℤ, pos, ◌+ℤ◌, ◌-ℤ◌, ◌≤ℤ◌, int_le}
use Rattle.std.specs.Prelude.{Option, Some, None}
use Rattle.std.specs.List.{All, slice_index_or}
use Rattle.lw_strips.specs.Strips.{StripView, filled}
use Rattle.lw_region.specs.Rectangle.{Rectangle, IsOrdered, width, height}
use Rattle.lw_region.specs.Order.{natural}
use Rattle.lw_planes.specs.Bitmap.{Bitmap, bitmap, pen_at}
use Rattle.lw_calls.specs.Kinds.{is_super}
use Rattle.lw_machine.specs.Arrangement.{portion_fits}
use Rattle.lw_layer.specs.Drafts.{IsBuffer, IsLiveDraft, layout, live_view}
use Rattle.lw_layer.specs.declared.draft.DraftState.{DraftState}
use Rattle.lw_layer.specs.declared.draft.DraftState.TheVariants.{Unopened, Closed, Live}
use Rattle.lw_layer.specs.declared.draft.LiveDraft.{LiveDraft}

-- The rectangle lies on the bitmap, whose pixel (0, 0) lies on the place (left, top), and the buffer is of its size.
pub record IsShown (own : Bitmap) (left top : ℤ) (r : Rectangle) (b : Bitmap) : Type 0 where
  pub ordered : IsOrdered r
  pub left_edge : left ≤ℤ r.min_x
  pub top_edge : top ≤ℤ r.min_y
  pub right_edge : (r.max_x +ℤ pos 1) ≤ℤ (left +ℤ pos own.width)
  pub bottom_edge : (r.max_y +ℤ pos 1) ≤ℤ (top +ℤ pos own.height)
  pub buffer : IsBuffer own.depth r b

-- each rectangle does, with its buffer
pub record AreShown (own : Bitmap) (left top : ℤ) (rects : List Rectangle) (buffers : List Bitmap) : Type 0 where
  pub many : length buffers ≡ length rects
  pub each : (n : ℕ) (r : Rectangle) (b : Bitmap) → n < length rects
      → IsShown own left top (slice_index_or rects n r) (slice_index_or buffers n b)

-- the portion of the bitmap on a rectangle
unfoldable pub portion : Bitmap → ℤ → ℤ → Rectangle → Bitmap
portion own left top r =
    bitmap (width r) (height r) own.depth (λ x y. pen_at own (natural (r.min_x -ℤ left) + x) (natural (r.min_y -ℤ top) + y))

-- the portions on these rectangles
abbrev pub portions : Bitmap → ℤ → ℤ → List Rectangle → List Bitmap
portions own left top rects = map (λ r. portion own left top r) rects

-- strips that are solid and lie on the bitmap
abbrev pub AreShownStrips : Bitmap → ℤ → ℤ → List StripView → Type 0
AreShownStrips own left top strips = All (λ s. (s.solid ≡ true) × IsShown own left top s.rect s.planes) strips

-- the strip with its portion of the bitmap
abbrev pub refilled : Bitmap → ℤ → ℤ → StripView → StripView
refilled own left top s = filled (portion own left top s.rect) s

-- where the pixel (0, 0) of a draft's bits lies on the screen's plane
abbrev pub left_of : LiveDraft → ℤ
left_of d = d.bounds.min_x -ℤ d.scroll_x

abbrev pub top_of : LiveDraft → ℤ
top_of d = d.bounds.min_y -ℤ d.scroll_y

-- the strips with their portions of an own bitmap, if there is one
abbrev pub refilled_by : Option Bitmap → ℤ → ℤ → List StripView → List StripView
refilled_by None left top strips = []
refilled_by (Some own) left top strips = map (λ s. refilled own left top s) strips

-- Along one axis, so many places from a start on lie in as many as a bitmap has.
unfoldable pub axis_fits : ℤ → ℤ → ℕ → Bool
axis_fits start extent count = int_le (pos 0) start && int_le (start +ℤ extent) (pos count)

-- the portion that a super-bitmap layer's draft would show at another scroll lies in its bitmap
abbrev pub draft_fits : LiveDraft → ℤ → ℤ → Bool
draft_fits d dx dy = portion_fits (d.scroll_x +ℤ dx) (d.scroll_y +ℤ dy) (layout d).width (layout d).height d.bounds

-- a place that a bitmap may have
pub record IsNear (z : ℤ) : Type 0 where
  pub low : pos 0 ≤ℤ z
  pub high : z ≤ℤ pos 2048

-- the draft with all bits in its own bitmap, and scrolled so far
abbrev pub scrolled_by : LiveDraft → ℤ → ℤ → LiveDraft
scrolled_by d dx dy =
    record d { superbits = Some (live_view d).layer.bits; scroll_x = d.scroll_x +ℤ dx; scroll_y = d.scroll_y +ℤ dy }

-- a draft of a live super-bitmap layer whose portion may be moved so
abbrev pub MayScroll : DraftState → ℤ → ℤ → Type 0
MayScroll Unopened dx dy = ⊥
MayScroll Closed dx dy = ⊥
MayScroll (Live d) dx dy = IsLiveDraft d × (is_super d.kind ≡ true) × (draft_fits d dx dy ≡ true)
