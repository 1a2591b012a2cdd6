-- Which pixels of a live layer count as kept once it has other bounds (the manual's Layers Library chapter: the damage list;
-- which pixels of a window's frame count is this project's own).
use Rattle.std.specs.Prelude.{◌≡◌, Bool, false, not, ◌&&◌, ◌||◌, List, ℤ, Option}
use Rattle.lw_region.specs.Rectangle.{Rectangle, width, height}
use Rattle.lw_region.specs.Bands.{covers}
use Rattle.lw_calls.specs.Kinds.{is_super}
use Rattle.lw_damage.specs.Damaged.{may_lie}
use Rattle.lw_machine.specs.Layer.{is_framed}
use Rattle.lw_machine.specs.Kept.{holds_at}
use Rattle.lw_machine.specs.Reveal.{counts_as_kept}
use Rattle.lw_layer.specs.View.{LiveView}
use Rattle.lw_layer.specs.Pieces.{inner_of}
use Rattle.lw_layer.specs.Keeping.{keeps_pixel}
use Rattle.lw_layer.specs.StandsFor.{IsSound}
use Rattle.lw_reveal.specs.Changed.{across_to}

-- where damage may lie in the layer once it has these bounds
abbrev pub inner_with : LiveView → Rectangle → Option Rectangle
inner_with c bounds = inner_of (is_super c.layer.kind) (is_framed c.layer.window) (width bounds) (height bounds)

-- The layer keeps its pixel at column x and row y, and it counts as kept once the layer has these bounds: in a framed window it
-- lies in the former inner rectangle, or not in the new one. Of a super-bitmap layer no pixel counts.
abbrev pub counts_pixel : LiveView → Rectangle → ℤ → ℤ → Bool
counts_pixel c bounds x y =
    keeps_pixel c.layer.kind c.bounds c.visible x y
    && (not (is_framed c.layer.window) || (may_lie (inner_with c c.bounds) x y || not (may_lie (inner_with c bounds) x y)))

-- these rectangles have the pixels that count as kept, in layer coordinates
abbrev pub AreCounted : LiveView → Rectangle → List Rectangle → Type 0
AreCounted c bounds rects = (x y : ℤ) → covers rects x y ≡ counts_pixel c bounds x y

-- Of a layer that isn't a super-bitmap layer these are the pixels that the machine counts as kept, whatever is visible
-- afterwards.
abbrev pub CountedLaw : Type 0
CountedLaw =
    (c : LiveView) (bounds : Rectangle) (visible : List Rectangle) (x y : ℤ) → IsSound c → is_super c.layer.kind ≡ false
    → counts_pixel c bounds x y ≡ holds_at (λ i j. counts_as_kept (across_to c bounds visible) c.layer i j) x y
