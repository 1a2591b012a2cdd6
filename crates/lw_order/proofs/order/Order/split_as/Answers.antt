use Rattle.std.proofs.Common.{rules}
use Rattle.lw_order.proofs.Steps.{splits}
use Rattle.lw_order.proofs.order.Order.split_as.Goals as goal

pub split_seat-token-requires : goal.split_seat-token-requires
split_seat-token-requires g c =
    (search rules, search rules, λ s holds at. splits _ s.words s.views _ _ g.N.Parting.off (search rules) holds at)
