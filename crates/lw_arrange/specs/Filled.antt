-- What backfill hooks make of an arrangement (the manual's Layers Library chapter: a hook fills what a layer gains; which pixels
-- these are, and that a hook turns, are this project's own). A cell has no hook of its own: its layer's hook lies beside it.
use Rattle.std.specs.Prelude.{◌≡◌, ℕ, Bool, false, not, ◌&&◌, ◌||◌, List, ℤ, Option, Some, None}
use Rattle.lw_region.specs.Rectangle.{Rectangle, width, height}
use Rattle.lw_region.specs.Bands.{covers}
use Rattle.lw_calls.specs.Kinds.{is_super}
use Rattle.lw_machine.specs.Hook.{Hook}
use Rattle.lw_machine.specs.Layer.{Layer, is_framed}
use Rattle.lw_machine.specs.Kept.{holds_at, in_inner}
use Rattle.lw_machine.specs.Paint.{with_pens}
use Rattle.lw_machine.specs.Arrangement.{hook_from}
use Rattle.lw_machine.specs.Reveal.{some_pixel, fill_pen, hook_after}
use Rattle.lw_layer.specs.View.{State, LiveView, CellView, keeps, with_layer, with_live}
use Rattle.lw_layer.specs.View as view
use Rattle.lw_arrange.specs.Prepared.{Created}

-- a live layer keeps the pixel
abbrev pub keeps_if_live : State → LiveView → ℕ → ℕ → Bool
keeps_if_live view.Unopened c x y = false
keeps_if_live view.Live c x y = keeps c x y
keeps_if_live view.Closed c x y = false

-- the pixel lies in the live layer's inner rectangle
abbrev pub is_inside : LiveView → ℕ → ℕ → Bool
is_inside c x y = in_inner (is_framed c.layer.window) (width c.bounds) (height c.bounds) x y

-- The pixel counts as kept before: a live layer kept it, and in a framed window whose size changes it isn't one of the old frame
-- that lies in the new inner rectangle.
abbrev pub counts_if_live : State → LiveView → LiveView → ℕ → ℕ → Bool
counts_if_live view.Unopened c to x y = false
counts_if_live view.Live c to x y = keeps c x y && (is_inside c x y || not (is_framed c.layer.window && is_inside to x y))
counts_if_live view.Closed c to x y = false

-- The layer pixels that an arrangement fills, which makes one cell of the other: those that the layer keeps afterwards and that
-- don't count as kept before, and none of a super-bitmap layer.
abbrev pub gains : CellView → CellView → ℕ → ℕ → Bool
gains from to x y =
    not (is_super to.live.layer.kind)
    && (keeps_if_live to.state to.live x y && not (counts_if_live from.state from.live to.live x y))

-- these rectangles have the pixels that it fills, in layer coordinates
abbrev pub AreGained : CellView → CellView → List Rectangle → Type 0
AreGained from to rects = (x y : ℤ) → covers rects x y ≡ holds_at (λ i j. gains from to i j) x y

-- it fills some pixel
abbrev pub gains_some : CellView → CellView → Bool
gains_some from to = some_pixel to.live.layer.bits.width to.live.layer.bits.height (λ x y. gains from to x y)

-- The layer with this hook, if it has one, once these pixels were filled: they have the hook's pens, or pen 0 without one, and if
-- some were filled the hook is turned.
abbrev pub filled_layer : Option Hook → (ℕ → ℕ → Bool) → Bool → Layer → Layer
filled_layer h on some l = record (with_pens on (λ x y. fill_pen l.bits.depth h x y) l) { hook = hook_after some h }

-- the cell whose layer has this hook, once the hook filled these pixels
abbrev pub filled_by : Option Hook → (ℕ → ℕ → Bool) → Bool → CellView → CellView
filled_by h on some c = with_live (λ k. with_layer (λ l. filled_layer h on some l) k) c

-- the hook on the shelf that a new layer asks for, if a layer is created and asks for one
abbrev pub hook_asked : (ℕ → Option Hook) → Option Created → Option Hook
hook_asked shelf None = None
hook_asked shelf (Some n) = hook_from shelf n.make.hook
