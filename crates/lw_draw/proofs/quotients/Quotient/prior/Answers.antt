use Rattle.std.proofs.Common.{◌∙◌}
use Rattle.lw_draw.proofs.QuotientLaws.{whole_small, whole_less, prior_total, borrowed_total}
use Rattle.lw_draw.proofs.quotients.Quotient.prior.Goals as goal

pub returns-then-self : goal.returns-then-self
returns-then-self c =
    let q = c.args.self in
    let least = whole_small q.divisor q.value q.rest q.whole q.part q.rest_below c.requires in
    record {
      total_is = c.at.ensures.total_is ∙ prior_total q.divisor q.value q.rest q.whole q.part least c.if-self.true;
      gain_is = c.at.ensures.gain_is;
      divisor_is = c.at.ensures.divisor_is;
    }

pub returns-else-self : goal.returns-else-self
returns-else-self c =
    let q = c.args.self in
    let at = c.at-else-self.ensures in
    let less = whole_less q.divisor q.value q.rest q.whole q.part c.if-self.false c.requires in
    record {
      total_is = at.total_is ∙ borrowed_total q.divisor q.value q.rest q.whole q.part less c.if-self.false q.part_below;
      gain_is = at.gain_is;
      divisor_is = at.divisor_is;
    }
