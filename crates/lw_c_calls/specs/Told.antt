-- How a reply is told to C.
use Rattle.std.specs.Prelude.{ℕ, nat_le, if◌then◌else◌, List, length, map, drop, ◌++◌}
use Rattle.lw_region.specs.Rectangle.{Rectangle}
use Rattle.lw_calls.specs.declared.message.Message.{Message}
use Rattle.lw_calls.specs.declared.message.Message.TheVariants.{Refresh, NewSize, Change, Active, Inactive}
use Rattle.lw_calls.specs.declared.reply.Reply.{Reply}
use Rattle.lw_calls.specs.declared.reply.Reply.TheVariants.{Done, Pen, Outside, Nothing, Layer, Rects, Got, NotOpen, AlreadyOpen}
use Rattle.lw_calls.specs.declared.reply.Reply.TheVariants.{NotWindow, NotOwner, Backdrop, NotSuper, InUpdate, NotInUpdate}
use Rattle.lw_calls.specs.declared.reply.Reply.TheVariants.{OutOfBounds, TooManyRects}
use Rattle.lw_c_rectangles.specs.declared.bounds.Bounds.{Bounds}
use Rattle.lw_c_calls.specs.declared.replies.ReplyWords.{ReplyWords}
use Rattle.lw_c_rectangles.specs.Bounds.{bounds_of}

abbrev pub message_number : Message → ℕ
message_number Refresh = 0
message_number NewSize = 1
message_number Change = 2
message_number Active = 3
message_number Inactive = 4

abbrev pub words : ℕ → ℕ → ReplyWords
words kind number = record { kind = kind; number = number }

-- a reply's number and what it says: a pen, a slot, how many rectangles, a message
abbrev pub told : Reply → ReplyWords
told Done = words 0 0
told (Pen pen) = words 1 pen
told Outside = words 2 0
told Nothing = words 3 0
told (Layer slot) = words 4 slot
told (Rects list) = words 5 (length list)
told (Got message) = words 6 (message_number message)
told NotOpen = words 7 0
told AlreadyOpen = words 8 0
told NotWindow = words 9 0
told NotOwner = words 10 0
told Backdrop = words 11 0
told NotSuper = words 12 0
told InUpdate = words 13 0
told NotInUpdate = words 14 0
told OutOfBounds = words 15 0
told TooManyRects = words 16 0

-- an array after a list of rectangles is written at its head, where there is room for it
abbrev pub list_written : List Rectangle → List Bounds → List Bounds
list_written list old = if nat_le (length list) (length old) then map bounds_of list ++ drop (length list) old else old

-- so of a reply's rectangles, if it has any
abbrev pub rects_written : Reply → List Bounds → List Bounds
rects_written (Rects list) old = list_written list old
rects_written Done old = old
rects_written (Pen pen) old = old
rects_written Outside old = old
rects_written Nothing old = old
rects_written (Layer slot) old = old
rects_written (Got message) old = old
rects_written NotOpen old = old
rects_written AlreadyOpen old = old
rects_written NotWindow old = old
rects_written NotOwner old = old
rects_written Backdrop old = old
rects_written NotSuper old = old
rects_written InUpdate old = old
rects_written NotInUpdate old = old
rects_written OutOfBounds old = old
rects_written TooManyRects old = old
