-- A task's region registers: the sets that they stand for, and what a call leaves of them.
use Rattle.std.specs.Prelude.{◌≡◌, ℕ, ◌<◌, Bool, nat_le, if◌then◌else◌, List, [], length, slice_set}
use Rattle.std.specs.List.{slice_index_or}
use Rattle.lw_region.specs.Rectangle.{Rectangle}
use Rattle.lw_region.specs.Pixels.{Pixel, pixels_of}
use Rattle.lw_region.specs.Bands.{bands}
use Rattle.lw_calls.specs.declared.reply.Reply.{Reply}
use Rattle.lw_calls.specs.declared.reply.Reply.TheVariants.{Done, TooManyRects}
use Rattle.lw_machine.specs.Registers.{has_too_many, rect_limit}

-- a task's registers have these sets of pixels
pub record StandForRegisters (regs : List (List Rectangle)) (part : ℕ → List Pixel) : Type 0 where
  pub sets : (r : ℕ) → r < 8 → part r ≡ pixels_of (slice_index_or regs r [])

-- the set of pixels in a register
abbrev pub set_in : List (List Rectangle) → ℕ → List Pixel
set_in regions reg = pixels_of (slice_index_or regions reg [])

-- the registers with a set of pixels in one of them, unless it has too many rectangles for a register
abbrev pub with_set : List (List Rectangle) → ℕ → List Pixel → List (List Rectangle)
with_set regions reg set = if has_too_many set then regions else slice_set regions reg (bands set)

-- what a call answers that puts a set of pixels into a register
abbrev pub set_reply : List Pixel → Reply
set_reply set = if has_too_many set then TooManyRects else Done

-- A word of this crate's private contracts alone: the list has no more rectangles than a register may have
abbrev pub is_short : List Rectangle → Bool
is_short rects = nat_le (length rects) rect_limit
