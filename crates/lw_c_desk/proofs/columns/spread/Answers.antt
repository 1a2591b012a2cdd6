use Rattle.std.proofs.Common.{rules, ap, ◌∙◌}
use Rattle.lw_c_desk.proofs.ColumnLaws.{spread_word, spread_bits}
use Rattle.lw_c_desk.proofs.columns.spread.Goals as goal

pub returns : goal.returns
returns c = ap spread_word c.from.ensures ∙ spread_bits c.args.byte (search rules)
