use Rattle.std.proofs.Common.{◌≡◌, ◌++◌, map, take, drop}
use Rattle.lw_c_calls.specs.Told.{message_number}
use Rattle.lw_c_desk.proofs.writing.copy_messages.Given as goal

abbrev pub invariant-loop-place : goal.invariant-loop-place
invariant-loop-place l = l.out ≡ map message_number (take l.place l.list) ++ drop l.place l.initial.out
