use Rattle.lw_report_order.proofs.OrderAnswers.{only_order, only_place}
use Rattle.lw_report_order.proofs.order.read_order.Goals as goal

pub returns-clause-only_found : goal.returns-clause-only_found
returns-clause-only_found c = λ numbers has. only_order c.args.count c.args.bytes.now numbers c.order_at.result c.order_at.ensures has

pub returns-clause-only_place : goal.returns-clause-only_place
returns-clause-only_place c = λ n stops. only_place c.args.count c.args.bytes.now n c.order_at.result c.order_at.ensures stops
