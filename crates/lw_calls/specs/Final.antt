-- What a run leaves, as contracts see it.
use Rattle.std.specs.Prelude.{List, Option}
use Rattle.lw_planes.specs.Bitmap.{Bitmap}
use Rattle.lw_calls.specs.declared.last.Seen.{Seen}
use Rattle.lw_calls.specs.declared.reply.Reply.{Reply}

-- The screen, what is seen of each slot, and each task's replies.
pub record Final : Type 0 where
  pub planes : Bitmap
  pub slots : List (Option Seen)
  pub replies : List (List Reply)
