use Rattle.std.proofs.Common.{List, subst, sym}
use Rattle.lw_grammar.specs.Statements.{Statement}
use Rattle.lw_grammar.specs.Script.{added}
use Rattle.lw_grammar.specs.GoodLines.{AreGoodLines}
use Rattle.lw_grammar.proofs.ScriptOutcome.{lines_more}
use Rattle.lw_reader.specs.Represents.{Represents}
use Rattle.lw_script.proofs.PatternLists.{patterns_named}
use Rattle.lw_script.proofs.taking.take.Goals as goal

pub read_line-requires-clause-wide : goal.read_line-requires-clause-wide
read_line-requires-clause-wide c = c.requires.2.assets.narrow

pub read_line-requires-clause-lists : goal.read_line-requires-clause-lists
read_line-requires-clause-lists c = patterns_named c.requires.0 c.args.reader.now c.requires.1 c.requires.2

pub add_read-requires : goal.add_read-requires
add_read-requires c =
    let h = c.requires in
    let e = c.in-Ok.ensures h.0 h.1 h.2 in
    let P : List Statement → Type 0 = λ fs. AreGoodLines h.0 (added fs h.1) in
    (h.0, h.1, h.2, subst P e.2 (lines_more h.0 h.1 c.args.line.now e.0 e.1 h.3))

pub returns-in_ok-add_read-in-Ok : goal.returns-in_ok-add_read-in-Ok
returns-in_ok-add_read-in-Ok c = λ s above k.
    let e = c.in-Ok.ensures s above k in
    let P : List Statement → Type 0 = λ fs. Represents s c.add_read.new.reader (added fs above) in
    (e.0, e.1, subst P (sym e.2) (c.in_ok-add_read-in-Ok.ensures s above k))
