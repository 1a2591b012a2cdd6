-- For private contracts.
-- Former strips and buffers that are handed over in the place of new ones, and an own bitmap that has all pens of its layer.
use Rattle.std.specs.Prelude.{◌≡◌, ℕ, ◌+◌, ◌<◌, List, [], ◌∷◌, length, slice_set, Option, Some, None}
use Rattle.std.specs.List.{slice_index_or}
use Rattle.lw_region.specs.Rectangle.{Rectangle}
use Rattle.lw_planes.specs.Bitmap.{Bitmap}
use Rattle.lw_strips.specs.Strips.{IsSizeOf}
use Rattle.lw_calls.specs.declared.make.Kind.{Kind}
use Rattle.lw_calls.specs.declared.make.Kind.TheVariants.{Simple, Smart, SuperBitmap}
use Rattle.lw_layer.specs.Drafts.{live_view}
use Rattle.lw_layer.specs.declared.draft.LiveDraft.{LiveDraft}

-- what the new rectangles hold, with this bitmap in the place to which it is handed over, if there is one
abbrev pub placed : Option ℕ → Bitmap → List (Option Bitmap) → List (Option Bitmap)
placed None b news = news
placed (Some i) b news = slice_set news i (Some b)

-- what they hold once each of the former bitmaps was handed over to its place, the last one first
abbrev pub handed_over : List (Option ℕ) → List Bitmap → List (Option Bitmap) → List (Option Bitmap)
handed_over [] bs news = news
handed_over (to ∷ tos) [] news = news
handed_over (to ∷ tos) (b ∷ bs) news = placed to b (handed_over tos bs news)

-- The new rectangles, of which these are visible and so many are hidden, have the place to which the bitmap is handed over, if
-- there is one. A visible rectangle there is of its size.
pub record HasPlace (to : Option ℕ) (b : Bitmap) (rects : List Rectangle) (hidden : ℕ) : Type 0 where
  pub inside : (i : ℕ) → to ≡ Some i → i < length rects + hidden
  pub size : (i : ℕ) (r : Rectangle) → to ≡ Some i → i < length rects → IsSizeOf (slice_index_or rects i r) b

-- and those of all bitmaps
abbrev pub HavePlaces : List (Option ℕ) → List Bitmap → List Rectangle → ℕ → Type 0
HavePlaces handed former rects hidden =
    (n : ℕ) (b : Bitmap) → n < length former → HasPlace (slice_index_or handed n None) (slice_index_or former n b) rects hidden

-- the own bitmap of a layer of this kind, if it has one, with all pens of the layer
abbrev pub own_whole : Kind → LiveDraft → Option Bitmap
own_whole Simple d = d.superbits
own_whole Smart d = d.superbits
own_whole SuperBitmap d = Some (live_view d).layer.bits
