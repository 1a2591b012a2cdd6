use Rattle.lw_arrange.proofs.ExchangeLaws.{piece_sizes}
use Rattle.lw_arrange.proofs.exchange.lose.Goals as goal

pub blank-requires : goal.blank-requires
blank-requires c = piece_sizes c.args.sizes.now c.args.piece.now.rect c.requires.sizes c.min_x.ensures.ordered c.requires.inside
