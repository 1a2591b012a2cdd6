-- The report of a run (docs/FORMATS.md has it with an example).
use Rattle.std.specs.Prelude.{ℕ, ◌+◌, ◌%◌, ◌==◌, Bool, true, false, ◌||◌, if◌then◌else◌, List, [], ◌∷◌, ◌++◌, length, codes}
use Rattle.std.specs.Prelude.{Option, Some, None}
use Rattle.std.specs.List.{flat_map, range_with_len, slice_index_or}
use Rattle.std.specs.Fmt.{decimal, signed_decimal}
use Rattle.lw_region.specs.Rectangle.{Rectangle}
use Rattle.lw_planes.specs.Bitmap.{Bitmap, plane_row}
use Rattle.lw_calls.specs.declared.message.Message.{Message}
use Rattle.lw_calls.specs.declared.message.Message.TheVariants.{Refresh, NewSize, Change, Active, Inactive}
use Rattle.lw_calls.specs.declared.reply.Reply.{Reply}
use Rattle.lw_calls.specs.declared.reply.Reply.TheVariants.{Done, Pen, Outside, Nothing, Layer, Rects, Got, NotOpen, AlreadyOpen}
use Rattle.lw_calls.specs.declared.reply.Reply.TheVariants.{NotWindow, NotOwner, Backdrop, NotSuper, InUpdate, NotInUpdate}
use Rattle.lw_calls.specs.declared.reply.Reply.TheVariants.{OutOfBounds, TooManyRects}
use Rattle.lw_calls.specs.declared.last.Seen.{Seen}
use Rattle.lw_calls.specs.Final.{Final}
use Rattle.lw_calls.specs.Written.{line_of, spaced, hex_byte, spaced_signed, spaced_bounds}
use Rattle.lw_machine.specs.Hook.{Hook}
use Rattle.lw_calls.specs.Plan.{Plan}
use Rattle.lw_machine.specs.Finals.{run_final}

abbrev pub is_empty : List ℕ → Bool
is_empty [] = true
is_empty (t ∷ ts) = false

-- after the k-th number of an order, with these still to come: a line feed where none is or its line has 64, else a space
abbrev pub separator : ℕ → List ℕ → ℕ
separator k rest = if is_empty rest || (k % 64 == 0) then 10 else 32

-- the numbers of an order, of which k stand above
abbrev pub order_numbers : ℕ → List ℕ → List ℕ
order_numbers k [] = []
order_numbers k (t ∷ ts) = decimal t ++ separator (k + 1) ts ∷ order_numbers (k + 1) ts

-- The first part: how many calls were made, and the tasks' numbers in the order of their calls.
unfoldable pub order_part : List ℕ → List ℕ
order_part order = line_of (codes "order" ++ spaced (length order)) ++ order_numbers 0 order

-- plane k, row by row in hexadecimal digits
unfoldable pub plane_lines : Bitmap → ℕ → List ℕ
plane_lines b k =
    line_of (codes "plane" ++ spaced k)
    ++ flat_map (λ y. line_of (flat_map hex_byte (plane_row b k y))) (range_with_len 0 b.height)

-- The second part: the sizes of the screen and its planes.
unfoldable pub planes_part : Bitmap → List ℕ
planes_part b =
    line_of (codes "planes" ++ spaced b.width ++ spaced b.height ++ spaced b.depth)
    ++ flat_map (plane_lines b) (range_with_len 0 b.depth)

-- a rectangle on a line of its own: its four bounds with single spaces
abbrev pub rectangle_line : Rectangle → List ℕ
rectangle_line r = line_of (signed_decimal r.min_x ++ spaced_signed r.min_y ++ spaced_signed r.max_x ++ spaced_signed r.max_y)

-- a named list of rectangles: how many, and then a line for each
abbrev pub rectangles_part : List ℕ → List ℕ → List Rectangle → List ℕ
rectangles_part word name rects = line_of (word ++ name ++ spaced (length rects)) ++ flat_map rectangle_line rects

-- how a message is printed
abbrev pub message_text : Message → List ℕ
message_text Refresh = codes "refresh"
message_text NewSize = codes "newsize"
message_text Change = codes "change"
message_text Active = codes "active"
message_text Inactive = codes "inactive"

-- what is said of a layer that is seen, and nothing of a slot without one
abbrev pub of_seen : (Seen → List ℕ) → Option Seen → List ℕ
of_seen say None = []
of_seen say (Some seen) = say seen

-- What is said of each layer with its name, in rising number of its slot.
unfoldable pub of_slots : (List ℕ → Seen → List ℕ) → List (List ℕ) → List (Option Seen) → List ℕ
of_slots say names slots =
    flat_map (λ s. of_seen (say (slice_index_or names s [])) (slice_index_or slots s None)) (range_with_len 0 (length slots))

-- The third part, of each layer: where it is shown on the screen.
abbrev pub visible_text : List ℕ → Seen → List ℕ
visible_text name seen = rectangles_part (codes "visible ") name seen.visible

-- The fourth part, of each layer: the damage, in layer coordinates.
abbrev pub damage_text : List ℕ → Seen → List ℕ
damage_text name seen = rectangles_part (codes "damage ") name seen.damage

-- the messages of a port, from the oldest
abbrev pub message_lines : List ℕ → List Message → List ℕ
message_lines name messages =
    line_of (codes "messages " ++ name ++ spaced (length messages)) ++ flat_map (λ m. line_of (message_text m)) messages

-- the messages of a window's port, and nothing of a layer that isn't a window
abbrev pub port_text : List ℕ → Option (List Message) → List ℕ
port_text name None = []
port_text name (Some messages) = message_lines name messages

-- The fifth part, of each window: the messages of its port.
abbrev pub messages_text : List ℕ → Seen → List ℕ
messages_text name seen = port_text name seen.messages

-- how a reply is printed, where the layers have these names by slot
abbrev pub reply_text : List (List ℕ) → Reply → List ℕ
reply_text names Done = codes "ok"
reply_text names (Pen n) = codes "pen" ++ spaced n
reply_text names Outside = codes "outside"
reply_text names Nothing = codes "none"
reply_text names (Layer s) = codes "layer " ++ slice_index_or names s []
reply_text names (Rects rects) = codes "region" ++ spaced (length rects) ++ flat_map spaced_bounds rects
reply_text names (Got m) = codes "message " ++ message_text m
reply_text names NotOpen = codes "not-open"
reply_text names AlreadyOpen = codes "already-open"
reply_text names NotWindow = codes "not-window"
reply_text names NotOwner = codes "not-owner"
reply_text names Backdrop = codes "backdrop"
reply_text names NotSuper = codes "not-super"
reply_text names InUpdate = codes "in-update"
reply_text names NotInUpdate = codes "not-in-update"
reply_text names OutOfBounds = codes "out-of-bounds"
reply_text names TooManyRects = codes "too-many-rects"

-- one task's replies, each on a line
unfoldable pub reply_lines : List (List ℕ) → List ℕ → List Reply → List ℕ
reply_lines names task replies =
    line_of (codes "replies " ++ task ++ spaced (length replies)) ++ flat_map (λ r. line_of (reply_text names r)) replies

-- The sixth part: the replies of each task in rising number.
unfoldable pub replies_part : List (List ℕ) → List (List ℕ) → List (List Reply) → List ℕ
replies_part names tasks replies =
    flat_map (λ t. reply_lines names (slice_index_or tasks t []) (slice_index_or replies t []))
    (range_with_len 0 (length replies))

-- The report of a plan after an order, where the run left this: the order, the planes of the screen, where each layer is
-- shown and what of it is damaged, each window's messages, the replies of each task, and "done".
unfoldable pub report : Plan → List ℕ → Final → List ℕ
report plan order last =
    order_part order ++ planes_part last.planes ++ of_slots visible_text plan.slot_names last.slots
    ++ of_slots damage_text plan.slot_names last.slots ++ of_slots messages_text plan.slot_names last.slots
    ++ replies_part plan.slot_names plan.task_names last.replies ++ line_of (codes "done")

-- The report of the machine's run of a plan in an order, with these hooks.
abbrev pub run_report : Plan → List Hook → List ℕ → List ℕ
run_report plan hooks order = report plan order (run_final plan hooks order)
