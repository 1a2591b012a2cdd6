use Rattle.std.proofs.Common.{refl, rules}
use Rattle.atomic_table.specs.Table.{keeps}
use Rattle.lw_order.proofs.Steps.{learns}
use Rattle.lw_order.proofs.order.Order.learn.Goals as goal

pub load-requires : goal.load-requires
load-requires g c = (
  search rules,
  search rules,
  λ s holds homes at fits.
      let t = learns _ s.words s.views _ _ g.N.Learning.sizes (search rules) holds at in
      (_, keeps, tt, t.0, (refl, t.1)),
)
