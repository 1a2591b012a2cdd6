-- Replies that refuse a call.
use Rattle.std.specs.Prelude.{Bool, true, false}
use Rattle.lw_calls.specs.declared.reply.Reply.{Reply}
use Rattle.lw_calls.specs.declared.reply.Reply.TheVariants.{Done, Pen, Outside, Nothing, Layer, Rects, Got}

abbrev pub is_refusal : Reply → Bool
is_refusal Done = false
is_refusal (Pen pen) = false
is_refusal Outside = false
is_refusal Nothing = false
is_refusal (Layer slot) = false
is_refusal (Rects region) = false
is_refusal (Got message) = false
is_refusal reply = true
