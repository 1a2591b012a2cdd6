use Rattle.std.proofs.Common.{Err, ap, refl}
use Rattle.lw_top.specs.Displays.{IsDisplayOutcome}
use Rattle.lw_top.proofs.Unread.{unread}
use Rattle.lw_top.proofs.displays.display_cmd.Goals as goal

pub returns-clause-answered : goal.returns-clause-answered
returns-clause-answered g c =
    unread IsDisplayOutcome (λ input long. (long, refl)) c.in-Err.stop c.say_stop.result _ _
    (λ e. c.in-Err.ensures.too_long (ap Err e)) (λ e. c.in-Err.ensures.fault (ap Err e)) (λ other. c.in-Err.ensures.no_fault (λ e. other (cc)))
    c.say_stop.ensures.long c.say_stop.ensures.fault c.say_stop.ensures.memory c.in-Err.ensures.taken c.in-Err.ensures.count c.say_stop.ensures.count
