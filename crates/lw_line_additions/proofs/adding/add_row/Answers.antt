use Rattle.std.proofs.Common.{refl}
use Rattle.lw_grammar.specs.Statements.{RowLine}
use Rattle.lw_words.specs.Digits.{decoded}
use Rattle.lw_line_additions.proofs.Addable.{row_due, row_begun, row_long}
use Rattle.lw_line_additions.proofs.Passing.{with_assets, on_done}
use Rattle.lw_line_additions.proofs.adding.add_row.Goals as goal

pub add_row-requires-clause-due : goal.add_row-requires-clause-due
add_row-requires-clause-due c = row_due c.args.reader.now (decoded c.args.digits.now.digits.now) c.requires

pub add_row-requires-clause-begun : goal.add_row-requires-clause-begun
add_row-requires-clause-begun c = row_begun c.args.reader.now (decoded c.args.digits.now.digits.now) c.requires

pub add_row-requires-clause-long : goal.add_row-requires-clause-long
add_row-requires-clause-long c = row_long c.args.reader.now (decoded c.args.digits.now.digits.now) c.requires

pub returns : goal.returns
returns c = λ s above k.
    let f = RowLine (decoded c.args.digits.now.digits.now) in
    on_done c.add_row.result _ _ (with_assets s c.args.reader.now above f c.add_row.new.self refl refl k) (c.add_row.ensures above k.assets)
