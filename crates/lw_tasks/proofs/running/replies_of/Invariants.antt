use Rattle.std.proofs.Common.{◌≡◌, map}
use Rattle.lw_tasks.proofs.running.replies_of.Given as goal

abbrev pub invariant-loop-told : goal.invariant-loop-told
invariant-loop-told l = l.replies.items ≡ map (λ told. told.replies) l.yielded
