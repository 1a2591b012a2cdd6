use Rattle.std.proofs.Common.{rules}
use Rattle.lw_order.proofs.Steps.{starts}
use Rattle.lw_order.proofs.order.Order.start.Goals as goal

pub of_words-requires : goal.of_words-requires
of_words-requires c = starts _ (search rules)
