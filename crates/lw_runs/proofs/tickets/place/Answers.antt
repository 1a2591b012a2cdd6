use Rattle.lw_runs.proofs.Placing.{put_more}
use Rattle.lw_runs.proofs.tickets.place.Goals as goal

pub loop-ticket-preserved : goal.loop-ticket-preserved
loop-ticket-preserved c = put_more c.args.task c.args.order.now c.loop-ticket.order c.args.tickets.now c.loop-ticket.ticket-index c.loop-ticket-test.true c.loop-ticket.invariant
