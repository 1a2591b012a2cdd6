use Rattle.std.proofs.Common.{◌≡◌, take}
use Rattle.lw_runs.specs.Whole.{put}
use Rattle.lw_runs.proofs.tickets.place.Given as goal

abbrev pub invariant-loop-ticket : goal.invariant-loop-ticket
invariant-loop-ticket l = l.order ≡ put l.task l.initial.order (take l.ticket-index l.tickets)
