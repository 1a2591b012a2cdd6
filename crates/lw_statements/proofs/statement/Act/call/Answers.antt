use Rattle.std.proofs.Common.{[], ◌∷◌}
use Rattle.lw_statements.proofs.ActNumbers.{number_act_call, pair_act_call}
use Rattle.lw_statements.proofs.statement.Act.call.Goals as goal

pub returns-in-Number : goal.returns-in-Number
returns-in-Number c = λ bitmaps place.
    number_act_call bitmaps c.args.self.now c.in-Number.verb c.in-Number.number c.args.slot (c.args.other ∷ []) c.number_call.result c.in-Number.is c.requires c.number_call.ensures

pub returns-in-Pair : goal.returns-in-Pair
returns-in-Pair c = λ bitmaps place.
    pair_act_call bitmaps c.args.self.now c.in-Pair.verb c.in-Pair.x c.in-Pair.y c.args.slot (c.args.other ∷ []) c.pair_call.result c.in-Pair.is c.requires c.pair_call.ensures
