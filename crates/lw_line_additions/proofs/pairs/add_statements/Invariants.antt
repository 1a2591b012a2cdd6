use Rattle.std.proofs.Common.{◌≡◌, List, map, drop}
use Rattle.lw_grammar.specs.Statements.{Statement}
use Rattle.lw_grammar.specs.Script.{Setting, added}
use Rattle.lw_statements.specs.StatementMeaning.{statement_meaning}
use Rattle.lw_reader.specs.Represents.{Represents, CanAddAll}
use Rattle.lw_line_additions.proofs.pairs.add_statements.Given as goal

-- The statements that are left can be added, and give with those so far what all of them give.
abbrev pub invariant-loop-statement : goal.invariant-loop-statement
invariant-loop-statement l =
    record {
      can : CanAddAll l.reader (map statement_meaning (drop l.statement-index l.statements));
      left : (s : Setting) (above : List Statement) → Represents s l.initial.reader above → (new : List Statement) × Represents s l.reader new × (added (map statement_meaning (drop l.statement-index l.statements)) new ≡ added (map statement_meaning l.statements) above);
    }
