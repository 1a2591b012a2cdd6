-- Worked cases.
-- Calls of the first task on slot 1, and the same calls of the second task on slot 0, and what their runs leave.
use Rattle.std.specs.Prelude.{ℕ, true, false, List, [], ◌∷◌, ◌++◌, replicate, pos, Option, Some, None, codes}
use Rattle.lw_planes.specs.Bitmap.{Bitmap}
use Rattle.lw_calls.specs.declared.operation.RectOp.TheVariants.{Or as OrRect}
use Rattle.lw_calls.specs.declared.make.Kind.TheVariants.{Simple, Smart, SuperBitmap}
use Rattle.lw_calls.specs.declared.make.Place.TheVariants.{Front}
use Rattle.lw_calls.specs.declared.call.Call.{Call}
use Rattle.lw_calls.specs.declared.call.Call.TheVariants.{RegRect, OpenWindow, Close, ToFront, ToBack, InFrontOf, MoveBy}
use Rattle.lw_calls.specs.declared.call.Call.TheVariants.{SizeBy, SetBox, Activate, SetHook, Which, SetA, SetB, SetMode, SetMask}
use Rattle.lw_calls.specs.declared.call.Call.TheVariants.{At, WritePixel, ReadPixel, DrawTo, Letters, SetRast, Clip, Unclip}
use Rattle.lw_calls.specs.declared.call.Call.TheVariants.{BeginRefresh, EndRefresh, Scroll, SetTitle, TakeMessage}
use Rattle.lw_calls.specs.declared.message.Message.TheVariants.{NewSize, Change, Active}
use Rattle.lw_calls.specs.declared.reply.Reply.{Reply}
use Rattle.lw_calls.specs.declared.reply.Reply.TheVariants.{Done, Pen, Outside, Nothing, Layer, Rects, Got, AlreadyOpen}
use Rattle.lw_calls.specs.declared.reply.Reply.TheVariants.{Backdrop, NotSuper, InUpdate, NotInUpdate, OutOfBounds}
use Rattle.lw_calls.specs.declared.last.Seen.{Seen}
use Rattle.lw_calls.specs.declared.group.Hold.TheVariants.{Slot}
use Rattle.lw_calls.specs.declared.group.Group.{Group}
use Rattle.lw_calls.specs.Final.{Final}
use Rattle.lw_calls.specs.Plan.{Plan}
use Rattle.lw_machine.specs.Hook.{Hook}
use Rattle.lw_cases.specs.Plans.{one_task, with_bitmap, with_second_task, rect, box, create, create_backdrop, open_window, fill}
use Rattle.lw_cases.specs.Plans.{scroll_left, blit_row, put_row, of_version, with_hooks, solid}
use Rattle.lw_cases.specs.Modes.{with_low_letter}

-- a pixel of pen 1
abbrev pub dot : Bitmap
dot = record { width = 1; height = 1; depth = 1; rows = (1 ∷ []) ∷ [] }

-- the names of slots 0 to 2
abbrev pub three_names : List (List ℕ)
three_names = codes "u" ∷ codes "v" ∷ codes "x" ∷ []

-- the plan where the first task makes such calls on slot 1, with such groups, and that where the second makes them on slot 0
abbrev pub by_the_first : (ℕ → List Call) → (ℕ → List Group) → Plan
by_the_first calls groups =
    record (with_bitmap (codes "dot") dot (with_low_letter (one_task 16 1 2 three_names (calls 1)))) { groups = groups 1 ∷ [] }

abbrev pub by_the_second : (ℕ → List Call) → (ℕ → List Group) → Plan
by_the_second calls groups =
    with_bitmap (codes "dot") dot (with_low_letter (with_second_task (calls 0) (groups 0) (one_task 16 1 2 three_names [])))

abbrev pub no_groups : ℕ → List Group
no_groups s = []

-- what a run leaves on a screen of one row of 16 pixels and two planes
abbrev pub left_with : List ℕ → List (Option Seen) → List (List Reply) → Final
left_with row slots replies =
    record { planes = record { width = 16; height = 1; depth = 2; rows = row ∷ [] }; slots = slots; replies = replies }

-- A simple window of eight columns. All is set to pen 1; a pixel is written and a line of two is drawn with pen 3, the next one
-- is complemented, the next filled with pen 2 through the mask of the second plane, and a letter drawn over the last three with
-- the pens 2 and 3. The third is scrolled from the fourth, the sixth comes from a bitmap, and the seventh from the sixth. In an
-- update nothing is drawable, and then of the first five pixels the one in the clip region is filled.
abbrev pub drawn : ℕ → List Call
drawn s =
    open_window s Simple 0 0 8 1 false 4 [] ∷ SetRast s 1 ∷ SetA s 3 ∷ WritePixel s (pos 0) (pos 0) ∷ At s (pos 1) (pos 0) ∷
    DrawTo s (pos 2) (pos 0) ∷ SetMode s 2 ∷ fill s 3 0 3 0 ∷ SetMode s 1 ∷ SetA s 2 ∷ SetMask s 2 ∷ fill s 4 0 4 0 ∷
    SetMask s 255 ∷ SetB s 3 ∷ At s (pos 5) (pos 0) ∷ Letters s (codes "A") ∷ scroll_left s 1 2 0 3 0 ∷
    put_row (pos 0) s 5 1 192 ∷ blit_row s 5 6 1 192 ∷ BeginRefresh s ∷ WritePixel s (pos 0) (pos 0) ∷
    EndRefresh s true ∷ RegRect OrRect 0 (rect 3 0 3 0) ∷ Clip s 0 ∷ fill s 0 0 4 0 ∷ Unclip s ∷ Unclip s ∷
    Scroll s (pos 1) (pos 0) ∷ SetTitle s (codes "T") ∷ MoveBy s (pos 1) (pos 0) ∷ TakeMessage s ∷ TakeMessage s ∷
    ReadPixel s (pos 7) (pos 0) ∷ Which (pos 1) (pos 0) ∷ []

abbrev pub drawn_groups : ℕ → List Group
drawn_groups s = record { first = 19; last = 21; hold = Slot s } ∷ []

abbrev pub drawn_row : List ℕ
drawn_row = 0 ∷ 3 ∷ 3 ∷ 2 ∷ 2 ∷ 3 ∷ 1 ∷ 1 ∷ 3 ∷ replicate 7 0

abbrev pub drawn_seen : Seen
drawn_seen = record { visible = rect 1 0 8 0 ∷ []; damage = []; messages = Some [] }

abbrev pub drawn_replies : ℕ → List Reply
drawn_replies s =
    replicate 20 Done ++ Outside ∷ Done ∷ Done ∷ Nothing ∷ Done ∷ Rects (rect 3 0 3 0 ∷ []) ∷ Nothing ∷ NotSuper ∷ Done ∷
    Done ∷ Got Change ∷ Nothing ∷ Pen 3 ∷ Layer s ∷ []

-- A window with a bitmap of its own, and a layer before its first columns. A pixel of the bitmap is filled and the portion
-- scrolled. The window is put in front, behind and before the layer, with a look each time, gets a column more, another box and
-- another place, and is made active.
abbrev pub arranged : ℕ → List Call
arranged s =
    OpenWindow s (record (box SuperBitmap 0 0 4 1) { bits_w = 8; bits_h = 1 }) false false 14 [] ∷ create 2 Smart 0 0 1 0 ∷
    fill s 4 0 4 0 ∷ Scroll s (pos 2) (pos 0) ∷ ToFront s ∷ Which (pos 0) (pos 0) ∷ ToBack s ∷ Which (pos 0) (pos 0) ∷
    InFrontOf s 2 ∷ Which (pos 0) (pos 0) ∷ SizeBy s (pos 1) (pos 0) ∷ SetBox s (pos 2) (pos 0) (pos 5) (pos 1) ∷
    MoveBy s (pos 1) (pos 0) ∷ Activate s ∷ TakeMessage s ∷ []

abbrev pub arranged_row : List ℕ
arranged_row = replicate 5 0 ++ 1 ∷ replicate 10 0

abbrev pub arranged_seen : Seen
arranged_seen = record { visible = rect 3 0 7 0 ∷ []; damage = []; messages = Some (Change ∷ Change ∷ Change ∷ Active ∷ []) }

abbrev pub beside_seen : Seen
beside_seen = record { visible = rect 0 0 1 0 ∷ []; damage = []; messages = None }

abbrev pub arranged_replies : ℕ → List Reply
arranged_replies s =
    replicate 5 Done ++ Layer s ∷ Done ∷ Layer 2 ∷ Done ∷ Layer s ∷ Done ∷ Done ∷ Done ∷ Done ∷ Got NewSize ∷ []

-- A layer that is created, clipped twice by an empty register, deleted and to be created again.
abbrev pub deleted : ℕ → List Call
deleted s = create s Smart 0 0 3 0 ∷ Clip s 0 ∷ Clip s 0 ∷ Close s ∷ Which (pos 0) (pos 0) ∷ create s Smart 0 0 3 0 ∷ []

abbrev pub deleted_replies : List Reply
deleted_replies = Done ∷ Nothing ∷ Rects [] ∷ Done ∷ Nothing ∷ AlreadyOpen ∷ []

-- A window that is to be opened again. A letter passes the last coordinate. An update is to end before it begins, and to begin
-- twice, and the clip region to change within it. (No script spells these updates.) A backdrop layer is to go before the window,
-- and the window before it.
abbrev pub refused : ℕ → List Call
refused s =
    open_window s Smart 0 0 4 1 false 0 [] ∷ open_window s Smart 4 0 4 1 false 0 [] ∷ At s (pos 32760) (pos 0) ∷
    Letters s (codes "A") ∷ EndRefresh s true ∷ BeginRefresh s ∷ BeginRefresh s ∷ Clip s 0 ∷ Unclip s ∷
    EndRefresh s false ∷ create_backdrop 2 Smart Front 8 0 11 0 ∷ InFrontOf 2 s ∷ InFrontOf s 2 ∷ []

abbrev pub refused_seen : Seen
refused_seen = record { visible = rect 0 0 3 0 ∷ []; damage = []; messages = Some [] }

abbrev pub backdrop_seen : Seen
backdrop_seen = record { visible = rect 8 0 11 0 ∷ []; damage = []; messages = None }

abbrev pub refused_replies : List Reply
refused_replies =
    Done ∷ AlreadyOpen ∷ Done ∷ OutOfBounds ∷ NotInUpdate ∷ Done ∷ InUpdate ∷ InUpdate ∷ InUpdate ∷ Done ∷ Done ∷
    Backdrop ∷ Backdrop ∷ []

-- one hook of pen 1, and the plan of version 2 with it
abbrev pub one_hook : List Hook
one_hook = solid 1 ∷ []

abbrev pub with_one_hook : Plan → Plan
with_one_hook plan = of_version 2 (with_hooks one_hook plan)

-- a layer that gets the hook, and then a column more
abbrev pub hooked : ℕ → List Call
hooked s = create s Smart 0 0 3 0 ∷ SetHook s 0 ∷ SizeBy s (pos 1) (pos 0) ∷ []

abbrev pub hooked_row : List ℕ
hooked_row = replicate 4 0 ++ 1 ∷ replicate 11 0

abbrev pub hooked_seen : Seen
hooked_seen = record { visible = rect 0 0 4 0 ∷ []; damage = rect 4 0 4 0 ∷ []; messages = None }

abbrev pub hooked_replies : List Reply
hooked_replies = replicate 3 Done
