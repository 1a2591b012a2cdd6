-- For private contracts.
-- Bounds that a call asks for, before they are known to lie where a layer may (the manual's
-- Layers Library chapter; which bounds a layer may have is this project's own).
use Rattle.std.specs.Prelude.{ℕ, Bool, true, false, ◌&&◌, if◌then◌else◌, ℤ, pos, ◌+ℤ◌, ◌-ℤ◌, int_le}
use Rattle.lw_region.specs.Rectangle.{Rectangle, IsOrdered, HasWords, within, moved_by}
use Rattle.lw_calls.specs.declared.sizes.Sizes.{Sizes}
use Rattle.lw_calls.specs.declared.make.Make.{Make}
use Rattle.lw_calls.specs.declared.call.Call.{Call}
use Rattle.lw_calls.specs.declared.call.Call.TheVariants.{MoveBy, SizeBy, SetBox}
use Rattle.lw_calls.specs.Kinds.{is_super}
use Rattle.lw_calls.specs.Limits.{is_coordinate, coordinates_fit, is_extent}
use Rattle.lw_machine.specs.Shapes.{box_at}
use Rattle.lw_machine.specs.Arrangement.{sized_by, may_lie_at, is_at_least, portion_fits}
use Rattle.lw_layer.specs.declared.look.Look.{Look}
use Rattle.lw_arrange.specs.declared.asked_bounds.Edges.{Edges}
use Rattle.lw_arrange.specs.declared.asked_bounds.Needs.{Needs}

-- the rectangle with these edges
abbrev pub rectangle_of : Edges → Rectangle
rectangle_of e = record { min_x = e.min_x; min_y = e.min_y; max_x = e.max_x; max_y = e.max_y }

-- along one axis, the places lie among the first of these
unfoldable pub axis_on : ℤ → ℤ → ℕ → Bool
axis_on low high limit = int_le (pos 0) low && int_le (high +ℤ pos 1) (pos limit)

-- along one axis, there are so many places at most
unfoldable pub axis_within : ℤ → ℤ → ℕ → Bool
axis_within low high limit = int_le ((high +ℤ pos 1) -ℤ low) (pos limit)

-- along one axis, there are so many places at least
unfoldable pub axis_has : ℤ → ℤ → ℤ → Bool
axis_has count low high = int_le count ((high +ℤ pos 1) -ℤ low)

-- along one axis, the portion that they show of so many places, from a place on, lies among these
unfoldable pub axis_shows : ℤ → ℤ → ℤ → ℕ → Bool
axis_shows from low high limit = int_le (pos 0) from && int_le (from +ℤ ((high +ℤ pos 1) -ℤ low)) (pos limit)

-- a frame has room in these bounds, if there is one
abbrev pub frame_has_room : Needs → Rectangle → Bool
frame_has_room n r = if n.framed then is_at_least (pos 9) (pos 14) r else true

-- what a super-bitmap layer shows in these bounds lies in its bitmap
abbrev pub bits_suffice : Needs → Rectangle → Bool
bits_suffice n r = if is_super n.kind then portion_fits n.scroll_x n.scroll_y n.bits_w n.bits_h r else true

-- a layer that needs so may have these bounds
abbrev pub may_lie : Sizes → Needs → Rectangle → Bool
may_lie s n r = (may_lie_at s r && is_at_least (pos 1) (pos 1) r) && (frame_has_room n r && bits_suffice n r)

-- what a layer of this look needs
abbrev pub needs_of : Look → Needs
needs_of k =
    record {
      framed = k.framed;
      kind = k.kind;
      scroll_x = k.scroll_x;
      scroll_y = k.scroll_y;
      bits_w = k.bits_w;
      bits_h = k.bits_h;
    }

-- what a new layer needs, with a frame or without
abbrev pub new_needs : Make → Bool → Needs
new_needs m framed =
    record { framed = framed; kind = m.kind; scroll_x = pos 0; scroll_y = pos 0; bits_w = m.bits_w; bits_h = m.bits_h }

-- the bounds that a call makes of its layer's
abbrev pub changed_by : Call → Rectangle → Rectangle
changed_by (MoveBy slot dx dy) r = moved_by r dx dy
changed_by (SizeBy slot dw dh) r = sized_by r dw dh
changed_by (SetBox slot x y w h) r = box_at x y w h
changed_by call r = r

-- the call changes its layer's bounds, by numbers in their ranges
abbrev pub change_fits : Call → Bool
change_fits (MoveBy slot dx dy) = coordinates_fit dx dy
change_fits (SizeBy slot dw dh) = coordinates_fit dw dh
change_fits (SetBox slot x y w h) = coordinates_fit x y && (is_extent w && is_extent h)
change_fits call = false

-- along one axis, a place that is a coordinate, and 1 to 65,536 places from it on
abbrev pub span_fits : ℤ → ℤ → Bool
span_fits from count = is_coordinate from && within (pos 1) count (pos 65536)

-- so are the bounds of a new layer
abbrev pub make_spans : Make → Bool
make_spans m = span_fits m.x m.w && span_fits m.y m.h

-- these are the bounds of a rectangle: they are in order, and signed words of 16 bits
pub record IsRect (r : Rectangle) : Type 0 where
  pub ordered : IsOrdered r
  pub words : HasWords r
