use Rattle.std.proofs.Common.{Result, sym, subst}
use Rattle.lw_grammar.specs.declared.reason.Reason.{Reason}
use Rattle.lw_grammar.specs.Demands.{◌>>=◌}
use Rattle.lw_grammar.specs.Statements.{Line}
use Rattle.lw_words.proofs.Binds.{stops_before}
use Rattle.lw_line_demands.specs.AreasRead.{ReadsBelow, if_passed}
use Rattle.lw_reader.specs.ReaderKnows.{known, setting_of}
use Rattle.lw_script.proofs.reading.known_words.Goals as goal

pub returns-in-Err : goal.returns-in-Err
returns-in-Err c = stops_before c.in-Err.stop _ _ c.in-Err.ensures

pub returns-in-Ok : goal.returns-in-Ok
returns-in-Ok c =
    let r = c.args.reader.now in
    let P : Result Line Reason → Type 0 = λ o. ReadsBelow (known r) c.tested_line.result (o >>= if_passed (setting_of r) (known r)) in
    subst P (sym c.in-Ok.ensures) c.tested_line.ensures
