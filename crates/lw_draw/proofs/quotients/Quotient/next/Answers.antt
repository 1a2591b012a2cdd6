use Rattle.std.proofs.Common.{◌∙◌, arith}
use Rattle.lw_draw.proofs.QuotientLaws.{next_total, carried_total}
use Rattle.lw_draw.proofs.quotients.Quotient.next.Goals as goal

pub returns-then-rest-self : goal.returns-then-rest-self
returns-then-rest-self c =
    let q = c.args.self in
    record {
      total_is = c.at.ensures.total_is ∙ next_total q.divisor q.value q.rest q.whole q.part;
      gain_is = c.at.ensures.gain_is;
      divisor_is = c.at.ensures.divisor_is;
    }

pub returns-else-rest-self : goal.returns-else-rest-self
returns-else-rest-self c =
    let q = c.args.self in
    let at = c.at-else-rest-self.ensures in
    record {
      total_is = at.total_is ∙ carried_total q.divisor q.value q.rest q.whole q.part (omega arith);
      gain_is = at.gain_is;
      divisor_is = at.divisor_is;
    }
