use Rattle.std.proofs.Common.{List, ℕ, Result, Ok, sym, ap, subst, ◌∙◌}
use Rattle.lw_grammar.specs.declared.reason.Reason.{Reason}
use Rattle.lw_grammar.specs.Demands.{◌>>=◌}
use Rattle.lw_grammar.specs.Script.{line_of_words}
use Rattle.lw_words.proofs.Binds.{stops_before}
use Rattle.lw_words.specs.Cuts.{targets}
use Rattle.lw_line_demands.specs.AreasRead.{ReadsBelow}
use Rattle.lw_reader.specs.ReaderKnows.{known, setting_of}
use Rattle.lw_script.proofs.reading.known_line.Goals as goal

pub returns-in-Err : goal.returns-in-Err
returns-in-Err c = stops_before c.in-Err.stop _ _ c.in-Err.ensures.stopped

pub returns-in-Ok : goal.returns-in-Ok
returns-in-Ok c =
    let P : Result (List (List ℕ)) Reason → Type 0 = λ o. ReadsBelow (known c.args.reader.now) c.known_words.result (o >>= line_of_words (setting_of c.args.reader.now) (known c.args.reader.now)) in
    subst P (sym (c.in-Ok.ensures.found ∙ ap (λ ws. Ok (targets ws)) (sym c.as_slice.ensures.value))) c.known_words.ensures
