use Rattle.std.proofs.Common.{List, [], ◌∷◌, ◌++◌, map, Option, Some, OnOk, sym, subst}
use Rattle.lw_grammar.specs.Statements.{Statement}
use Rattle.lw_grammar.specs.Script.{added}
use Rattle.lw_grammar.specs.GoodLines.{AreGoodLines}
use Rattle.lw_grammar.proofs.AreaLines.{added_parts, front_good}
use Rattle.lw_statements.specs.StatementMeaning.{statement_meaning}
use Rattle.lw_reader.specs.declared.state.NamedPair.{NamedPair}
use Rattle.lw_reader.specs.LinesRead.{opened_lines}
use Rattle.lw_reader.specs.Represents.{Represents}
use Rattle.lw_line_additions.proofs.Passing.{on_done}
use Rattle.lw_line_additions.proofs.pairs.add_gzz.Goals as goal

pub add_statements-requires : goal.add_statements-requires
add_statements-requires c =
    let h = c.requires in
    (h.0, h.1, h.2, front_good h.0 (map statement_meaning c.args.statements.now) (opened_lines c.args.opened.now) h.1 h.3)

pub returns-in-None : goal.returns-in-None
returns-in-None c = λ s above k.
    let fs = map statement_meaning c.args.statements.now in
    let P : Option NamedPair → Type 0 = λ o. Represents s c.add_statements.new.reader (added (fs ++ opened_lines o) above) in
    let Q : List Statement → Type 0 = Represents s c.add_statements.new.reader in
    subst P (sym c.in-None.is) (subst Q (sym (added_parts fs [] above)) (c.in_ok-add_statements.ensures s above k))

pub returns-in-Some : goal.returns-in-Some
returns-in-Some c = λ s above k.
    let fs = map statement_meaning c.args.statements.now in
    let P : Option NamedPair → Type 0 = λ o. OnOk c.add_pair.result (Represents s c.add_pair.new.reader (added (fs ++ opened_lines o) above)) in
    let Q : List Statement → Type 0 = Represents s c.add_pair.new.reader in
    subst P (sym c.in-Some.is) (on_done c.add_pair.result _ _ (subst Q (sym (added_parts fs (opened_lines (Some c.in-Some.pair)) above))) (c.add_pair.ensures s (added fs above) (c.in_ok-add_statements.ensures s above k)))
