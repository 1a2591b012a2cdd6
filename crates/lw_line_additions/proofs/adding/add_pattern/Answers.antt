use Rattle.std.proofs.Common.{refl}
use Rattle.lw_grammar.specs.Statements.{PatternLine}
use Rattle.lw_line_additions.proofs.Addable.{here_of, due_of, pattern_new}
use Rattle.lw_line_additions.proofs.Passing.{with_assets, on_done}
use Rattle.lw_line_additions.proofs.adding.add_pattern.Goals as goal

pub add_pattern-requires-clause-new : goal.add_pattern-requires-clause-new
add_pattern-requires-clause-new c = pattern_new c.args.reader.now c.args.name.now c.args.pattern.now c.requires

pub add_pattern-requires-clause-due : goal.add_pattern-requires-clause-due
add_pattern-requires-clause-due c =
    let f = PatternLine c.args.name.now c.args.pattern.now in
    due_of c.args.reader.now f c.requires (here_of c.args.reader.now f c.requires).0

pub returns : goal.returns
returns c = λ s above k.
    let f = PatternLine c.args.name.now c.args.pattern.now in
    on_done c.add_pattern.result _ _ (with_assets s c.args.reader.now above f c.add_pattern.new.self refl refl k) (c.add_pattern.ensures above k.assets)
