-- For private contracts.
-- A window of another task, and the answer that gives a message away.
use Rattle.std.specs.Prelude.{ℕ, ◌==◌, Bool, false, not, Option, Some, None}
use Rattle.lw_calls.specs.declared.message.Message.{Message}
use Rattle.lw_calls.specs.declared.reply.Reply.{Reply}
use Rattle.lw_calls.specs.declared.reply.Reply.TheVariants.{Nothing, Got}

-- a window's owner, if there is a window, is another task
abbrev pub is_other : ℕ → Option ℕ → Bool
is_other task None = false
is_other task (Some owner) = not (owner == task)

-- the answer that gives a message away, or none
abbrev pub got : Option Message → Reply
got None = Nothing
got (Some m) = Got m
