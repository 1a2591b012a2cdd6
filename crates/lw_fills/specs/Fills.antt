-- Fills that are made one after another, and one drawing of all their pixels.
use Rattle.std.specs.Prelude.{◌≡◌, ℕ, Bool, true, List, map, AllPairs, ℤ, pos}
use Rattle.lw_region.specs.Rectangle.{Rectangle, AreApart}
use Rattle.lw_region.specs.Bands.{covers}
use Rattle.lw_area.specs.declared.point.Point.{Point}
use Rattle.lw_area.specs.Areas.{is_in_area, area_rectangles}
use Rattle.lw_calls.specs.declared.call.Call.{Call}
use Rattle.lw_calls.specs.declared.call.Call.TheVariants.{Fill}
use Rattle.lw_machine.specs.Layer.{Layer}
use Rattle.lw_machine.specs.Desk.{Desk}
use Rattle.lw_machine.specs.Paint.{paint_where}
use Rattle.lw_machine.specs.Step.{drawn_on}
use Rattle.lw_machine.specs.Sound.{IsDesk}
use Rattle.lw_gzz.specs.Together.{after_all}

-- the fills of a slot's layer, one for each rectangle
abbrev pub fills : ℕ → List Rectangle → List Call
fills slot rs = map (λ r. Fill slot r) rs

-- One drawing of the pixels that a test has, in the foreground: what a fill is of its rectangle's pixels.
abbrev pub area_fill : (ℤ → ℤ → Bool) → (ℕ → ℕ → Bool) → Layer → Layer
area_fill has visible l = paint_where visible (λ x y. has (pos x) (pos y)) (λ x y. true) l

-- Fills of rectangles of which no two have a pixel in common are one drawing of their pixels, whatever the layer's mode and mask.
abbrev pub FillsAreOneDrawing : Type 0
FillsAreOneDrawing =
    (d : Desk) (task slot : ℕ) (rs : List Rectangle) → IsDesk d → AllPairs AreApart rs
    → after_all d task (fills slot rs) ≡ drawn_on d slot (area_fill (covers rs))

-- Fills of the rectangles of an area are one drawing of the area's pixels.
abbrev pub AreasAreOneDrawing : Type 0
AreasAreOneDrawing =
    (d : Desk) (task slot : ℕ) (points : List Point) (words : List ℕ) → IsDesk d
    → after_all d task (fills slot (area_rectangles points words)) ≡ drawn_on d slot (area_fill (is_in_area points words))
