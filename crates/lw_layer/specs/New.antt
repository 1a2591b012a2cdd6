-- New layers (the manual's Layers Library chapter: CreateUpfrontLayer and CreateBehindLayer; that all pens are 0 is this
-- project's own).
use Rattle.std.specs.Prelude.{◌≡◌, ℕ, ◌≤◌, true, false, List, [], map, All, Option, Some, None}
use Rattle.lw_region.specs.Rectangle.{Rectangle, width, height}
use Rattle.lw_planes.specs.Bitmap.{Bitmap, bitmap}
use Rattle.lw_planes.specs.Sizes.{AreSizes, IsPlanes}
use Rattle.lw_strips.specs.Strips.{StripView}
use Rattle.lw_calls.specs.declared.make.Kind.{Kind}
use Rattle.lw_calls.specs.declared.make.Kind.TheVariants.{Simple, Smart, SuperBitmap}
use Rattle.lw_calls.specs.declared.make.Make.{Make}
use Rattle.lw_calls.specs.Kinds.{is_super}
use Rattle.lw_machine.specs.Layer.{Window}
use Rattle.lw_machine.specs.Arrangement.{bounds_of, new_layer}
use Rattle.lw_layer.specs.View.{LiveView}

-- a buffer of a rectangle's size with pen 0 everywhere
abbrev pub blank_buffer : ℕ → Rectangle → Bitmap
blank_buffer depth r = bitmap (width r) (height r) depth (λ x y. 0)

-- The sizes of a new layer and of its own bitmap, if it has one, in which what the bounds show lies.
pub record IsNewSize (make : Make) (depth : ℕ) (bounds : Rectangle) : Type 0 where
  pub place : bounds ≡ bounds_of make
  pub sizes : AreSizes (width bounds) (height bounds) depth
  pub own : is_super make.kind ≡ true → AreSizes make.bits_w make.bits_h depth
  pub right : is_super make.kind ≡ true → width bounds ≤ make.bits_w
  pub lower : is_super make.kind ≡ true → height bounds ≤ make.bits_h

-- the new layer with these bounds and visible rectangles, with this window and this room in its port
abbrev pub new_live : Make → ℕ → Rectangle → List Rectangle → Option Window → ℕ → LiveView
new_live make depth bounds visible window room =
    record { bounds = bounds; visible = visible; active = false; room = room; layer = new_layer depth make None window }

-- the rectangles beside the visible ones for which a layer of this kind has a buffer of its own
abbrev pub kept_hidden : Kind → List Rectangle → List Rectangle
kept_hidden Simple hidden = []
kept_hidden Smart hidden = hidden
kept_hidden SuperBitmap hidden = []

-- a new layer's own bitmap, if it has one
abbrev pub own_blank : Kind → ℕ → Make → Option Bitmap
own_blank Simple depth m = None
own_blank Smart depth m = None
own_blank SuperBitmap depth m = Some (bitmap m.bits_w m.bits_h depth (λ x y. 0))

-- The buffers of a new layer are those of its rectangles, with pen 0 everywhere, and each has sizes for planes.
pub record AreBlank (depth : ℕ) (rects : List Rectangle) (buffers : List Bitmap) : Type 0 where
  pub blank : buffers ≡ map (λ r. blank_buffer depth r) rects
  pub sound : All (λ b. IsPlanes b) buffers

-- the solid strip of a rectangle with pen 0 everywhere
abbrev pub blank_strip : ℕ → Rectangle → StripView
blank_strip depth r = record { rect = r; planes = blank_buffer depth r; solid = true }

-- The strips of a new layer's visible rectangles, with pen 0 everywhere, and each has sizes for planes.
pub record AreBlankStrips (depth : ℕ) (rects : List Rectangle) (strips : List StripView) : Type 0 where
  pub blank : strips ≡ map (λ r. blank_strip depth r) rects
  pub sound : All (λ s. IsPlanes s.planes) strips
