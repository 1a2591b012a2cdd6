use Rattle.std.proofs.Common.{◌≡◌, map}
use Rattle.lw_runs.proofs.answers.TaskAnswers.of.Given as goal

abbrev pub invariant-loop-answer : goal.invariant-loop-answer
invariant-loop-answer l = (l.told.replies ≡ map (λ a. a.reply) l.yielded) × (l.told.tickets.items ≡ map (λ a. a.ticket) l.yielded)
