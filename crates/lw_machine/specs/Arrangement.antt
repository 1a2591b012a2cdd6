-- Arrangements: the calls that change which layers there are, their order and their bounds, and which window is active
-- (the manual's Layers Library and Intuition Windows chapters; which bounds a layer may have, where a new backdrop layer goes
-- among backdrop layers, and that closing the active window leaves none active are this project's own).
use Rattle.std.specs.Prelude.{ℕ, ◌==◌, Bool, true, false, not, ◌&&◌, if◌then◌else◌, List, [], ◌∷◌, ℤ, pos, ◌+ℤ◌, int_le}
use Rattle.std.specs.Prelude.{unsigned_abs, Option, Some, None, option_and_then}
use Rattle.std.specs.List.{filter}
use Rattle.lw_region.specs.Rectangle.{Rectangle, columns_of, rows_of, moved_by}
use Rattle.lw_planes.specs.Grid.{grid}
use Rattle.lw_planes.specs.Bitmap.{Bitmap, bitmap}
use Rattle.lw_calls.specs.declared.sizes.Sizes.{Sizes}
use Rattle.lw_calls.specs.declared.make.Kind.{Kind}
use Rattle.lw_calls.specs.declared.make.Kind.TheVariants.{Simple, Smart, SuperBitmap}
use Rattle.lw_calls.specs.declared.make.Place.{Place}
use Rattle.lw_calls.specs.declared.make.Place.TheVariants.{Front, Behind}
use Rattle.lw_calls.specs.declared.make.Make.{Make}
use Rattle.lw_calls.specs.declared.call.Call.{Call}
use Rattle.lw_calls.specs.declared.call.Call.TheVariants.{Create, OpenWindow, Close, ToFront, ToBack, InFrontOf, MoveBy, SizeBy}
use Rattle.lw_calls.specs.declared.call.Call.TheVariants.{SetBox, Activate}
use Rattle.lw_calls.specs.Limits.{may_leave_screen, coordinates_fit}
use Rattle.lw_machine.specs.Hook.{Hook}
use Rattle.lw_machine.specs.Layer.{Layer, Window, Live, Closed, new_raster, layer_is, is_framed}
use Rattle.lw_calls.specs.Kinds.{is_super}
use Rattle.lw_machine.specs.Shapes.{box_at}
use Rattle.lw_machine.specs.Desk.{Desk, with_value, is_the}

abbrev pub bounds_of : Make → Rectangle
bounds_of m = box_at m.x m.y m.w m.h

-- all pixels of the rectangle lie on the screen
unfoldable pub is_on_screen : Sizes → Rectangle → Bool
is_on_screen s r =
    (int_le (pos 0) r.min_x && int_le (r.max_x +ℤ pos 1) (pos s.width))
    && (int_le (pos 0) r.min_y && int_le (r.max_y +ℤ pos 1) (pos s.height))

-- a rectangle's first and last column and row are coordinates
unfoldable pub has_coordinates : Rectangle → Bool
has_coordinates r = coordinates_fit r.min_x r.min_y && coordinates_fit r.max_x r.max_y

-- a rectangle is no wider and no higher than the screen
unfoldable pub is_no_larger : Sizes → Rectangle → Bool
is_no_larger s r = int_le (columns_of r) (pos s.width) && int_le (rows_of r) (pos s.height)

-- A layer may lie there: its first and last column and row are coordinates; in version 1 no pixel is off the screen, and from
-- version 2 on pixels may be, but the layer is no wider and no higher than the screen.
unfoldable pub may_lie_at : Sizes → Rectangle → Bool
may_lie_at s r = has_coordinates r && (if may_leave_screen s.version then is_no_larger s r else is_on_screen s r)

-- a rectangle is at least this wide and this high
unfoldable pub is_at_least : ℤ → ℤ → Rectangle → Bool
is_at_least w h r = int_le w (columns_of r) && int_le h (rows_of r)

-- the portion that these bounds show of a bitmap of w by h pixels, from its place (x, y) on, lies in it
unfoldable pub portion_fits : ℤ → ℤ → ℕ → ℕ → Rectangle → Bool
portion_fits x y w h r =
    (int_le (pos 0) x && int_le (x +ℤ columns_of r) (pos w)) && (int_le (pos 0) y && int_le (y +ℤ rows_of r) (pos h))

-- The bounds r that a layer may have, by whether it has a frame, its kind, and the scroll (x, y) and the size w by h of a
-- bitmap of its own. They lie where a layer may lie, there is a column and a row, a framed window is at least 9 wide and 14 high,
-- and what a super-bitmap layer shows lies in its bitmap.
abbrev pub may_have_bounds : Sizes → Bool → Kind → ℕ → ℕ → ℕ → ℕ → Rectangle → Bool
may_have_bounds s framed kind x y w h r =
    (may_lie_at s r && is_at_least (pos 1) (pos 1) r)
    && ((if framed then is_at_least (pos 9) (pos 14) r else true)
    && (if is_super kind then portion_fits (pos x) (pos y) w h r else true))

-- a layer may have these bounds
abbrev pub layer_may_have_bounds : Sizes → Layer → Rectangle → Bool
layer_may_have_bounds s l r = may_have_bounds s (is_framed l.window) l.kind l.scroll_x l.scroll_y l.bits.width l.bits.height r

-- the bitmap of a new layer: of its bounds' size, or of the size that is asked for where it is a bitmap of its own
abbrev pub blank : Kind → ℕ → Make → Bitmap
blank Simple depth m = bitmap (unsigned_abs m.w) (unsigned_abs m.h) depth (λ x y. 0)
blank Smart depth m = bitmap (unsigned_abs m.w) (unsigned_abs m.h) depth (λ x y. 0)
blank SuperBitmap depth m = bitmap m.bits_w m.bits_h depth (λ x y. 0)

-- a new layer with this hook and window: pen 0 everywhere, no damage, and nothing scrolled
abbrev pub new_layer : ℕ → Make → Option Hook → Option Window → Layer
new_layer depth m hook window =
    let bits = blank m.kind depth m in
    record {
      kind = m.kind;
      backdrop = m.backdrop;
      scroll_x = 0;
      scroll_y = 0;
      bits = bits;
      damage = grid bits.width bits.height (λ x y. false);
      clip = None;
      raster = new_raster;
      updating = false;
      hook = hook;
      window = window;
    }

-- a window that a task opens: nothing was told to its port
abbrev pub new_window : ℕ → Bool → Bool → ℕ → List ℕ → Window
new_window owner framed nocare classes title =
    record { owner = owner; framed = framed; title = title; nocare = nocare; classes = classes; port = []; asked = false }

-- the hook that is asked for, where it is on the shelf
abbrev pub hook_from : (ℕ → Option Hook) → Option ℕ → Option Hook
hook_from shelf n = option_and_then shelf n

-- the shelf without the hook that is asked for
abbrev pub shelf_without : Option ℕ → (ℕ → Option Hook) → ℕ → Option Hook
shelf_without None shelf = shelf
shelf_without (Some n) shelf = with_value n None shelf

-- the list without a slot
abbrev pub without : ℕ → List ℕ → List ℕ
without s slots = filter (λ t. not (t == s)) slots

-- the list with a slot directly before the first of those that the test names, or at the end
abbrev pub put_before : (ℕ → Bool) → ℕ → List ℕ → List ℕ
put_before test s [] = s ∷ []
put_before test s (t ∷ ts) = if test t then s ∷ t ∷ ts else t ∷ put_before test s ts

-- a slot has a backdrop layer
abbrev pub has_backdrop : Desk → ℕ → Bool
has_backdrop d s = layer_is (λ l. l.backdrop) (d.slot s)

-- Where a new layer goes: in front of all others, or behind all others but the backdrop layers, which a backdrop layer
-- joins as their first or their last one.
abbrev pub placed : (ℕ → Bool) → Bool → Place → ℕ → List ℕ → List ℕ
placed backdrops false Front s slots = s ∷ slots
placed backdrops false Behind s slots = put_before backdrops s slots
placed backdrops true Front s slots = put_before backdrops s slots
placed backdrops true Behind s slots = put_before (λ t. false) s slots

-- the desk with a new layer in a slot
abbrev pub create_layer : Desk → ℕ → Make → Option Window → Desk
create_layer d slot make window =
    record d {
      front_to_back = placed (has_backdrop d) make.backdrop make.place slot d.front_to_back;
      bounds = with_value slot (Some (bounds_of make)) d.bounds;
      shelf = shelf_without make.hook d.shelf;
      slot = with_value slot (Live (new_layer d.sizes.depth make (hook_from d.shelf make.hook) window)) d.slot;
    }

-- the active window, unless it is this one
abbrev pub active_without : ℕ → Option ℕ → Option ℕ
active_without s active = if is_the active s then None else active

-- the desk without the layer in a slot: its hook, bits, clip region, port and messages go with it
abbrev pub delete_layer : Desk → ℕ → Desk
delete_layer d slot =
    record d {
      front_to_back = without slot d.front_to_back;
      bounds = with_value slot None d.bounds;
      active = active_without slot d.active;
      slot = with_value slot Closed d.slot;
    }

-- the bounds w columns wider and h rows higher
abbrev pub sized_by : Rectangle → ℤ → ℤ → Rectangle
sized_by r w h = record r { max_x = r.max_x +ℤ w; max_y = r.max_y +ℤ h }

-- a slot's bounds changed, where it has some
abbrev pub change_bounds : Desk → ℕ → (Rectangle → Rectangle) → Desk
change_bounds d slot change =
    record d { bounds = with_value slot (option_and_then (λ r. Some (change r)) (d.bounds slot)) d.bounds }

-- the desk with its layers in this list from front to back
abbrev pub reordered : Desk → List ℕ → Desk
reordered d slots = record d { front_to_back = slots }

-- UpfrontLayer, BehindLayer and MoveLayerInFrontOf; a layer put in front of itself stays
abbrev pub upfront_layer : Desk → ℕ → Desk
upfront_layer d slot = reordered d (slot ∷ without slot d.front_to_back)

abbrev pub behind_layer : Desk → ℕ → Desk
behind_layer d slot = reordered d (put_before (has_backdrop d) slot (without slot d.front_to_back))

abbrev pub move_layer_in_front_of : Desk → ℕ → ℕ → Desk
move_layer_in_front_of d slot other =
    if slot == other then d else reordered d (put_before (λ t. t == other) slot (without slot d.front_to_back))

-- the desk with another active window
abbrev pub with_active : Desk → ℕ → Desk
with_active d slot = record d { active = Some slot }

-- The desk with the new list, bounds, slots and active window, before any layer is settled; any call that isn't an arrangement
-- leaves it.
abbrev pub arranged : Desk → ℕ → Call → Desk
arranged d task (Create slot make) = create_layer d slot make None
arranged d task (OpenWindow slot make framed nocare asks title) =
    create_layer d slot make (Some (new_window task framed nocare asks title))
arranged d task (Close slot) = delete_layer d slot
arranged d task (ToFront slot) = upfront_layer d slot
arranged d task (ToBack slot) = behind_layer d slot
arranged d task (InFrontOf slot other) = move_layer_in_front_of d slot other
arranged d task (MoveBy slot dx dy) = change_bounds d slot (λ r. moved_by r dx dy)
arranged d task (SizeBy slot dw dh) = change_bounds d slot (λ r. sized_by r dw dh)
arranged d task (SetBox slot x y w h) = change_bounds d slot (λ r. box_at x y w h)
arranged d task (Activate slot) = with_active d slot
arranged d task call = d
