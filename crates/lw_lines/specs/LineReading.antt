-- What reading a line answers.
use Rattle.std.specs.Prelude.{◌≡◌, Result, Ok, Err}
use Rattle.lw_grammar.specs.declared.reason.Reason.{Reason}
use Rattle.lw_grammar.specs.Statements.{Line as Meaning}
use Rattle.lw_statements.specs.declared.statement.Line.{Line}
use Rattle.lw_words.specs.declared.stop.Stop.{Stop}
use Rattle.lw_statements.specs.StatementMeaning.{line_meaning}
use Rattle.lw_words.specs.Stops.{Tells}

-- a line is what the grammar gives; a stop tells its reason, or that memory ran out
abbrev pub Reads : Result Line Stop → Result Meaning Reason → Type 0
Reads (Ok line) r = r ≡ Ok (line_meaning line)
Reads (Err stop) r = Tells stop r
