-- What the calls answer, and what a call on a desk leaves.
use Rattle.std.specs.Prelude.{◌≡◌, Bool, true, false, ◌&&◌, ◌||◌, if◌then◌else◌, List, ℤ, pos, negsuc, Option, Some, None}
use Rattle.lw_calls.specs.declared.sizes.Sizes.{Sizes}
use Rattle.lw_calls.specs.declared.call.Call.{Call}
use Rattle.lw_calls.specs.declared.reply.Reply.{Reply}
use Rattle.lw_calls.specs.Limits.{call_fits}
use Rattle.lw_engine_trait.specs.Memory.{takes_memory}
use Rattle.lw_changes.specs.Refusing.{is_refusal}
use Rattle.lw_changes.specs.Touched.{touched_slot}
use Rattle.lw_program_desk.specs.Views.{DeskView}
use Rattle.lw_program_desk.specs.Standing.{IsStep, StandsStill}
use Rattle.lw_program_desk.specs.Noting.{IsNoted}
use Rattle.lw_c_rectangles.specs.declared.bounds.Bounds.{Bounds}
use Rattle.lw_c_calls.specs.declared.replies.ReplyWords.{ReplyWords}
use Rattle.lw_c_calls.specs.Meant.{has_text}
use Rattle.lw_c_calls.specs.Told.{told, rects_written}

-- All was done; memory ran out; a maximum of a rectangle is below its minimum; the array for the result is too short; the
-- rectangle isn't on the screen; the handle has no desk; the call doesn't fit the desk; the sizes are no desk's; the handle has a
-- desk already; the slot has no layer; the layer is no window; the numbers of a bitmap, or of a hook, describe none: they are out
-- of range, or past its array.
abbrev pub done : ℤ
done = pos 0

abbrev pub no_memory : ℤ
no_memory = negsuc 0

abbrev pub bad_rectangle : ℤ
bad_rectangle = negsuc 1

abbrev pub no_room : ℤ
no_room = negsuc 2

abbrev pub outside : ℤ
outside = negsuc 4

abbrev pub closed : ℤ
closed = negsuc 5

abbrev pub unfit : ℤ
unfit = negsuc 6

abbrev pub bad_sizes : ℤ
bad_sizes = negsuc 7

abbrev pub is_open : ℤ
is_open = negsuc 8

abbrev pub no_layer : ℤ
no_layer = negsuc 9

abbrev pub no_window : ℤ
no_window = negsuc 10

abbrev pub bad_bitmap : ℤ
bad_bitmap = negsuc 11

abbrev pub bad_hook : ℤ
bad_hook = negsuc 12

-- the numbers mean a call, and it fits the sizes
abbrev pub fits : Sizes → Option Call → Bool
fits sizes None = false
fits sizes (Some call) = call_fits sizes call

-- making it takes memory: for its text, whether it fits or not, or as a call that fits
abbrev pub takes_some : Sizes → Option Call → Bool
takes_some sizes None = false
takes_some sizes (Some call) = has_text call || (call_fits sizes call && takes_memory call)

-- The desk made the step of this call, and its reply is told. Its list notes where the screen changed; a call that is refused, or
-- that touches no layer, leaves it.
pub record IsStepTold (call : Call) (old new : DeskView) (reply : ReplyWords) (old_rects new_rects : List Bounds) : Type 0 where
  pub said : Reply
  pub step : IsStep old call said new
  pub is_told : reply ≡ told said
  pub written : new_rects ≡ rects_written said old_rects
  pub noted : IsNoted old call new
  pub refused : is_refusal said ≡ true → new.changes ≡ old.changes
  pub untouched : touched_slot call ≡ None → new.changes ≡ old.changes

abbrev pub IsDone : Option Call → DeskView → DeskView → ReplyWords → List Bounds → List Bounds → Type 0
IsDone None old new reply old_rects new_rects = ⊥
IsDone (Some call) old new reply old_rects new_rects = IsStepTold call old new reply old_rects new_rects

-- nothing that C sees changed, nor the list, and the desk stands for what it stood for
pub record IsKept (old new : DeskView) (old_reply new_reply : ReplyWords) (old_rects new_rects : List Bounds) : Type 0 where
  pub desk : StandsStill old new
  pub changes : new.changes ≡ old.changes
  pub reply : new_reply ≡ old_reply
  pub rects : new_rects ≡ old_rects

-- What a call on a desk leaves. Unless memory runs out it is done exactly where it fits the desk's sizes. Memory runs out of no
-- call that takes none.
pub record IsMade (call : Option Call) (old new : DeskView) (old_reply new_reply : ReplyWords) (old_rects new_rects : List Bounds)
    (answer : ℤ) : Type 0 where
  pub answered : (answer ≡ no_memory → ⊥) → answer ≡ (if fits old.sizes call then done else unfit)
  pub memory : takes_some old.sizes call ≡ false → answer ≡ no_memory → ⊥
  pub step : answer ≡ done → IsDone call old new new_reply old_rects new_rects
  pub kept : (answer ≡ done → ⊥) → IsKept old new old_reply new_reply old_rects new_rects
  pub sizes : new.sizes ≡ old.sizes

-- a call on a handle that has no desk
pub record IsClosed (new : Option DeskView) (old_reply new_reply : ReplyWords) (old_rects new_rects : List Bounds)
    (answer : ℤ) : Type 0 where
  pub answered : answer ≡ closed
  pub desk : new ≡ None
  pub reply : new_reply ≡ old_reply
  pub rects : new_rects ≡ old_rects

-- a call on a handle that has one
pub record IsMadeOnIt (call : Option Call) (old : DeskView) (new : Option DeskView) (old_reply new_reply : ReplyWords)
    (old_rects new_rects : List Bounds) (answer : ℤ) : Type 0 where
  pub desk : DeskView
  pub held : new ≡ Some desk
  pub made : IsMade call old desk old_reply new_reply old_rects new_rects answer

-- what a call on a handle leaves
abbrev pub IsAnswered : Option Call → Option DeskView → Option DeskView → ReplyWords → ReplyWords → List Bounds → List Bounds → ℤ
    → Type 0
IsAnswered call None new old_reply new_reply old_rects new_rects answer =
    IsClosed new old_reply new_reply old_rects new_rects answer
IsAnswered call (Some old) new old_reply new_reply old_rects new_rects answer =
    IsMadeOnIt call old new old_reply new_reply old_rects new_rects answer
