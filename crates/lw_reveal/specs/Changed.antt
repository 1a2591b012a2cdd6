-- What a layer that stays live becomes when its bounds or what is visible of it change (the manual's Layers Library chapter).
use Rattle.std.specs.Prelude.{◌≡◌, ◌+◌, ◌≤◌, true, List, Some, None}
use Rattle.lw_region.specs.Rectangle.{Rectangle, width, height}
use Rattle.lw_region.specs.Bands.{covers}
use Rattle.lw_planes.specs.Sizes.{AreSizes}
use Rattle.lw_calls.specs.Kinds.{is_super}
use Rattle.lw_cliprects.specs.Parts.{LieIn}
use Rattle.lw_machine.specs.Layer.{Layer, is_framed}
use Rattle.lw_machine.specs.Reveal.{Across, revealed}
use Rattle.lw_layer.specs.View.{LiveView}
use Rattle.lw_layer.specs.Pieces.{HasFrameRoom}

-- the layer across an arrangement after which it has these bounds and these visible rectangles
abbrev pub across_to : LiveView → Rectangle → List Rectangle → Across
across_to c bounds visible = record {
  bounds = Some c.bounds;
  new_bounds = Some bounds;
  shown = λ x y. covers c.visible x y;
  new_shown = λ x y. covers visible x y;
  active = c.active;
  new_active = c.active;
}

-- the layer without its window, of which every pixel that it kept counts as kept
abbrev pub windowless : Layer → Layer
windowless l = record l { window = None }

-- The live layer with these bounds and visible rectangles: each pixel that it kept before has its pen still, one that it gains
-- has pen 0, and its damage is that of the revealed layer. So in a framed window whose size changes the pixels of the old frame
-- that lie in the new inner rectangle have their pens so far: they have to be filled as those are that the layer gains.
abbrev pub carried_to : Rectangle → List Rectangle → LiveView → LiveView
carried_to bounds visible c =
    let a = across_to c bounds visible in
    record {
      bounds = bounds;
      visible = visible;
      active = c.active;
      room = c.room;
      layer = record (revealed a (windowless c.layer)) { damage = (revealed a c.layer).damage; window = c.layer.window };
    }

-- The layer may have these bounds, of which these rectangles are visible: they have sizes for planes, what they show of an own
-- bitmap lies in it, and a frame has room in them if there is one.
pub record MayHave (c : LiveView) (bounds : Rectangle) (visible : List Rectangle) : Type 0 where
  pub sizes : AreSizes (width bounds) (height bounds) c.layer.bits.depth
  pub inside : LieIn bounds visible
  pub right : is_super c.layer.kind ≡ true → c.layer.scroll_x + width bounds ≤ c.layer.bits.width
  pub lower : is_super c.layer.kind ≡ true → c.layer.scroll_y + height bounds ≤ c.layer.bits.height
  pub frame : is_framed c.layer.window ≡ true → HasFrameRoom bounds
