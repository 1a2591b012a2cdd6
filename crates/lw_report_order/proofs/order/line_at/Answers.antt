use Rattle.lw_report_order.proofs.OrderSections.{text_found, same_found}
use Rattle.lw_report_order.proofs.order.line_at.Goals as goal

pub returns-in_default-clause-begins : goal.returns-in_default-clause-begins
returns-in_default-clause-begins c = same_found c.args.bytes.now c.args.line.now c.in_default.ensures.same

pub returns-clause-begins : goal.returns-clause-begins
returns-clause-begins c = text_found c.args.bytes.now c.args.line.now c.in-Some.place c.in-Some.ensures.differs c.if-place-line.false
