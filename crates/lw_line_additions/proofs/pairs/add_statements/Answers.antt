use Rattle.std.proofs.Common.{List, ◌∷◌, refl, subst, arith}
use Rattle.lw_grammar.specs.Statements.{Statement}
use Rattle.lw_statements.specs.StatementMeaning.{statement_meaning}
use Rattle.lw_reader.specs.Represents.{Represents}
use Rattle.lw_line_additions.proofs.AreasAdded.{next_addable, rest_addable, same_added, all_added}
use Rattle.lw_line_additions.proofs.pairs.add_statements.Goals as goal

pub loop-statement-init : goal.loop-statement-init
loop-statement-init c = record { can = c.requires; left = λ s above k. (above, k, refl) }

pub add-requires : goal.add-requires
add-requires c =
    let i = c.loop-statement.invariant in
    next_addable statement_meaning c.args.statements.now c.loop-statement.reader c.loop-statement.statement-index c.statement-item.result c.loop-statement-test.true c.statement-item.is i.can

pub loop-statement-preserved : goal.loop-statement-preserved
loop-statement-preserved c =
    let i = c.loop-statement.invariant in
    let fs = c.args.statements.now in
    let n = c.loop-statement.statement-index in
    let f = c.statement-item.result in
    record {
      can = rest_addable statement_meaning fs c.loop-statement.reader c.add.new.reader n f c.loop-statement-test.true c.statement-item.is c.in_ok-add.ensures i.can;
      left = λ s above k.
          let j = i.left s above k in
          (statement_meaning f ∷ j.0, c.in_ok-add.ensures s j.0 j.1, same_added statement_meaning fs n f j.0 _ c.loop-statement-test.true c.statement-item.is j.2);
    }

pub returns : goal.returns
returns c = λ s above k.
    let j = c.loop-statement.invariant.left s above k in
    let P : List Statement → Type 0 = Represents s c.loop-statement.reader in
    subst P (all_added statement_meaning c.args.statements.now c.loop-statement.statement-index j.0 _ (omega (arith, c.loop-statement-test.false)) j.2) j.1
