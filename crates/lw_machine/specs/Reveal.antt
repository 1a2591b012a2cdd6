-- What an arrangement makes of each layer: the pixels that it reveals, its frame, and the messages that its window is told
-- (the manual's Layers Library and Intuition Windows chapters; exactly which pixels are filled and damaged, how a frame
-- looks, and when each message is put are this project's own).
use Rattle.std.specs.Prelude.{ℕ, ◌+◌, ◌-◌, ◌/◌, ◌%◌, ◌==◌, Bool, true, false, not, ◌&&◌, ◌||◌, nat_lt, nat_le, if◌then◌else◌}
use Rattle.std.specs.Prelude.{List, [], ◌∷◌, ◌++◌, length, ℤ, pos, Option, Some, None}
use Rattle.std.specs.List.{list_any, range_with_len, slice_index_or}
use Rattle.std.specs.Ordering.{int_eq}
use Rattle.lw_region.specs.Rectangle.{Rectangle, width, height}
use Rattle.lw_planes.specs.Grid.{grid, at}
use Rattle.lw_planes.specs.Bitmap.{bitmap, pen_at}
use Rattle.lw_calls.specs.declared.message.Message.{Message}
use Rattle.lw_calls.specs.declared.message.Message.TheVariants.{Refresh, NewSize, Change, Active, Inactive}
use Rattle.lw_machine.specs.Hook.{Hook, hook_pen, turned}
use Rattle.lw_machine.specs.Layer.{Layer, Window, is_framed, changed_window, change_layer, wants}
use Rattle.lw_calls.specs.Kinds.{is_super}
use Rattle.lw_machine.specs.Desk.{Desk, change_each, is_the}
use Rattle.lw_machine.specs.Screen.{is_shown}
use Rattle.lw_machine.specs.Kept.{visible_within, is_kept, in_inner}
use Rattle.lw_machine.specs.Paint.{pen_within, with_pens}
use Rattle.lw_machine.specs.Shapes.{glyph_has, differ}

-- One layer across an arrangement: its bounds before, or none where it was created in this step, and after; on which places
-- it is shown before and after; and whether it is the active window before and after.
pub record Across : Type 0 where
  pub bounds : Option Rectangle
  pub new_bounds : Option Rectangle
  pub shown : ℤ → ℤ → Bool
  pub new_shown : ℤ → ℤ → Bool
  pub active : Bool
  pub new_active : Bool

-- the layer in slot s, across the arrangement of the desk d to the desk a
abbrev pub across : Desk → Desk → ℕ → Across
across d a s = record {
  bounds = d.bounds s;
  new_bounds = a.bounds s;
  shown = is_shown d s;
  new_shown = is_shown a s;
  active = is_the d.active s;
  new_active = is_the a.active s;
}

-- there are bounds
abbrev pub has_bounds : Option Rectangle → Bool
has_bounds None = false
has_bounds (Some r) = true

-- how many columns and rows bounds have, and none without bounds
abbrev pub width_in : Option Rectangle → ℕ
width_in None = 0
width_in (Some r) = width r

abbrev pub height_in : Option Rectangle → ℕ
height_in None = 0
height_in (Some r) = height r

-- the layer was live before
abbrev pub was_live : Across → Bool
was_live c = has_bounds c.bounds

-- the layer was live before and has another width or height now
abbrev pub is_resized : Across → Bool
is_resized c =
    was_live c && not ((width_in c.bounds == width_in c.new_bounds) && (height_in c.bounds == height_in c.new_bounds))

-- the pixel lies in the inner rectangle of the layer as it was, and as it is now
abbrev pub was_inner : Across → Layer → ℕ → ℕ → Bool
was_inner c before x y = in_inner (is_framed before.window) (width_in c.bounds) (height_in c.bounds) x y

abbrev pub is_inner : Across → Layer → ℕ → ℕ → Bool
is_inner c before x y = in_inner (is_framed before.window) (width_in c.new_bounds) (height_in c.new_bounds) x y

-- The pixel counts as kept before: the layer was live and kept it. Where the size of a framed window changes, a pixel of
-- its old frame that lies in its new inner rectangle doesn't count. (Where the size stays there is no such pixel.)
unfoldable pub counts_as_kept : Across → Layer → ℕ → ℕ → Bool
counts_as_kept c before x y =
    (was_live c && is_kept (visible_within c.shown c.bounds before.scroll_x before.scroll_y) before x y)
    && (was_inner c before x y || not (is_framed before.window && is_inner c before x y))

-- The layer, which isn't a super-bitmap layer, at its new size, with pen 0 everywhere and no damage: the reveal gives each
-- pixel what it has.
abbrev pub at_new_size : Across → Layer → Layer
at_new_size c before =
    record before {
      bits = bitmap (width_in c.new_bounds) (height_in c.new_bounds) before.bits.depth (λ x y. 0);
      damage = grid (width_in c.new_bounds) (height_in c.new_bounds) (λ x y. false);
    }

-- a layer of the new size keeps the pixel after the arrangement
abbrev pub keeps : Across → Layer → ℕ → ℕ → Bool
keeps c l x y = is_kept (visible_within c.new_shown c.new_bounds l.scroll_x l.scroll_y) l x y

-- The arrangement fills the pixel: the layer, which has its new size, keeps it then, and it doesn't count as kept before. It is
-- not asked of a super-bitmap layer, which is never filled.
abbrev pub fills : Across → Layer → Layer → ℕ → ℕ → Bool
fills c before l x y = keeps c l x y && not (counts_as_kept c before x y)

-- some pixel of a table of this width and height is such
unfoldable pub some_pixel : ℕ → ℕ → (ℕ → ℕ → Bool) → Bool
some_pixel w h test = list_any (λ y. list_any (λ x. test x y) (range_with_len 0 w)) (range_with_len 0 h)

-- some pixel of the layer, as it is now, is such
abbrev pub some_now : Across → (ℕ → ℕ → Bool) → Bool
some_now c test = some_pixel (width_in c.new_bounds) (height_in c.new_bounds) test

-- the pen with which a pixel is filled: the hook's, or 0 without a hook
abbrev pub fill_pen : ℕ → Option Hook → ℕ → ℕ → ℕ
fill_pen depth None x y = 0
fill_pen depth (Some h) x y = pen_within depth (hook_pen h (pos x) (pos y))

-- a hook that filled at least one pixel is turned once
abbrev pub hook_after : Bool → Option Hook → Option Hook
hook_after has_filled None = None
hook_after has_filled (Some h) = Some (if has_filled then turned h else h)

-- What the reveal makes of a layer that isn't a super-bitmap layer, which has its new size already. A pixel that counts as
-- kept before has its former pen and, where damage may lie, its former damage. Any other that is kept is filled, and damaged
-- where it lies in the inner rectangle, unless the layer was created in this step. Its hook, if it filled, is turned.
abbrev pub with_revealed : Across → Layer → Layer → Layer
with_revealed c before sized =
    record sized {
      bits = bitmap sized.bits.width sized.bits.height sized.bits.depth (λ x y.
          if keeps c sized x y
          then (if counts_as_kept c before x y then pen_at before.bits x y else fill_pen sized.bits.depth sized.hook x y)
          else 0);
      damage = grid sized.bits.width sized.bits.height (λ x y.
          (keeps c sized x y && is_inner c before x y)
          && (if counts_as_kept c before x y then at false before.damage x y else was_live c));
      hook = hook_after (some_now c (fills c before sized)) sized.hook;
    }

-- The layer after the reveal. A super-bitmap layer is never filled: it keeps its bits, and gets no damage.
unfoldable pub revealed : Across → Layer → Layer
revealed c before = if is_super before.kind then before else with_revealed c before (at_new_size c before)

-- the pixel lies in the frame of a window this wide and high: in its top, left, right or bottom fill
unfoldable pub in_frame : ℕ → ℕ → ℕ → ℕ → Bool
in_frame w h x y =
    (nat_le y 10 || (nat_le 11 y && nat_le x 3))
    || ((nat_le 11 y && nat_le w (x + 4)) || (nat_le h (y + 2) && (nat_le 4 x && nat_lt (x + 4) w)))

-- The pixel is one of the title's: its cells begin at column 4 and row 2, and are painted from column 4 on up to the fifth
-- from the right, where the glyphs have their foreground.
unfoldable pub in_title : List (List ℕ) → List ℕ → ℕ → ℕ → ℕ → Bool
in_title glyphs title w x y =
    (((nat_le 4 x && nat_lt (x + 4) w) && (nat_le 2 y && nat_le y 9)) && nat_lt ((x - 4) / 8) (length title))
    && glyph_has glyphs (slice_index_or title ((x - 4) / 8) 0) ((x - 4) % 8) (y - 2)

-- the pens of a frame and of its title: 1 and 0 of the active window, 2 and 1 of any other
abbrev pub frame_pen : Bool → ℕ
frame_pen active = if active then 1 else 2

abbrev pub title_pen : Bool → ℕ
title_pen active = if active then 0 else 1

-- the pen of a pixel of the frame
abbrev pub framing_pen : List (List ℕ) → List ℕ → Bool → ℕ → ℕ → ℕ → ℕ
framing_pen glyphs title active w x y = if in_title glyphs title w x y then title_pen active else frame_pen active

-- the layer with the whole frame of its window painted on the pixels that it keeps, in all planes, whatever its clip region
-- and whether it is updating
abbrev pub framed_by : List (List ℕ) → (ℕ → ℕ → Bool) → Bool → Option Window → Layer → Layer
framed_by glyphs kept active None l = l
framed_by glyphs kept active (Some w) l =
    if w.framed
    then with_pens (λ x y. kept x y && in_frame l.bits.width l.bits.height x y)
    (λ x y. pen_within l.bits.depth (framing_pen glyphs w.title active l.bits.width x y))
    l
    else l

abbrev pub with_frame : List (List ℕ) → (ℕ → ℕ → Bool) → Bool → Layer → Layer
with_frame glyphs kept active l = framed_by glyphs kept active l.window l

-- The frame of a revealed layer is due: the window was opened in this step, changed its size or its activity, or had a pixel
-- outside its inner rectangle filled.
abbrev pub frame_is_due : Across → Layer → Layer → Bool
frame_is_due c before shown =
    (not (was_live c) || is_resized c)
    || (differ c.active c.new_active || some_now c (λ x y. fills c before shown x y && not (is_inner c before x y)))

-- some damage is there
unfoldable pub is_damaged : Layer → Bool
is_damaged l = some_pixel l.bits.width l.bits.height (λ x y. at false l.damage x y)

-- both have the same bounds
unfoldable pub same_bounds : Option Rectangle → Option Rectangle → Bool
same_bounds None None = true
same_bounds None (Some s) = false
same_bounds (Some r) None = false
same_bounds (Some r) (Some s) =
    (int_eq r.min_x s.min_x && int_eq r.min_y s.min_y) && (int_eq r.max_x s.max_x && int_eq r.max_y s.max_y)

-- the message, where the case for it holds and the window wants its class
abbrev pub message_if : Window → Bool → Message → List Message
message_if w holds m = if holds && wants w m then m ∷ [] else []

-- a refresh message is put: some damage of the layer is there, the window wasn't asked to refresh since its last full refresh, it
-- wants such messages, and it cares
abbrev pub refresh_is_put : Layer → Window → Bool
refresh_is_put l w = (is_damaged l && not w.asked) && (wants w Refresh && not w.nocare)

-- The messages that a window gets, in this order: newsize where its width or height differs from before; change where it
-- was live before and its bounds differ from then; inactive where it ceased to be the active window; active where it became
-- it; and refresh.
abbrev pub messages_due : Across → Layer → Window → List Message
messages_due c l w =
    message_if w (is_resized c) NewSize
    ++ message_if w (was_live c && not (same_bounds c.bounds c.new_bounds)) Change
    ++ message_if w (c.active && not c.new_active) Inactive
    ++ message_if w (c.new_active && not c.active) Active
    ++ (if refresh_is_put l w then Refresh ∷ [] else [])

-- the window with the messages that are due at the end of its port
abbrev pub window_with_messages : Across → Layer → Window → Window
window_with_messages c l w = record w { port = w.port ++ messages_due c l w; asked = w.asked || refresh_is_put l w }

-- the layer with the messages that are due in its window's port
abbrev pub with_messages : Across → Layer → Layer
with_messages c l = record l { window = changed_window (window_with_messages c l) l.window }

-- The revealed layer with its frame painted, where it is due, on the pixels that it keeps.
abbrev pub with_due_frame : List (List ℕ) → Across → Layer → Layer → Layer
with_due_frame glyphs c before shown =
    if frame_is_due c before shown then with_frame glyphs (keeps c shown) c.new_active shown else shown

-- The layer after the arrangement: revealed, then framed where its frame is due, then with the messages that are due.
unfoldable pub settled_layer : List (List ℕ) → Across → Layer → Layer
settled_layer glyphs c before = with_messages c (with_due_frame glyphs c before (revealed c before))

-- The desk after the arrangement of the desk d to the desk a: each layer of the list settled.
abbrev pub settled : Desk → Desk → Desk
settled d a =
    record a {
      slot = change_each a.front_to_back (λ s layer. change_layer (settled_layer d.assets.glyphs (across d a s)) layer) a.slot;
    }
