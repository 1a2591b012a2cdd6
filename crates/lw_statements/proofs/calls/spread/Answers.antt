use Rattle.lw_statements.proofs.RectRanges.{axis, spread_32}
use Rattle.lw_statements.proofs.calls.spread.Goals as goal

pub returns : goal.returns
returns c = spread_32 c.args.low c.args.high (axis c.args.low c.args.high c.requires)
