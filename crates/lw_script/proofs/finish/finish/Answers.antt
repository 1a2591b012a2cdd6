use Rattle.std.proofs.Common.{◌≡◌, true, Ok, sym, ap, ◌∙◌}
use Rattle.lw_grammar.specs.Told.{told}
use Rattle.lw_grammar.specs.Script.{may_end, input_from}
use Rattle.lw_grammar.specs.Reading.{at_number}
use Rattle.lw_grammar.specs.Demands.{◌>>=◌, demand}
use Rattle.lw_grammar.specs.declared.reason.Reason.TheVariants.{Missing}
use Rattle.lw_script.proofs.ReadPlans.{ends_alike, ended_early}
use Rattle.lw_script.proofs.finish.finish.Goals as goal

pub returns-in-Err : goal.returns-in-Err
returns-in-Err c = λ s p n k. ended_early s c.args.reader p c.args.number c.args.rest c.in-Err.stop n k c.in-Err.ensures

pub returns-in-Ok : goal.returns-in-Ok
returns-in-Ok c = λ s p n k.
    (let whole : may_end s.form (told p.statements).section ≡ true = sym (ends_alike s c.args.reader p.statements k) ∙ c.in-Ok.ensures.0 in
    ap (λ b. (at_number p.number (demand b Missing) >>= (λ _. Ok p)) >>= (λ q. Ok (input_from s (told q.statements) c.args.rest))) whole ∙ ap Ok (sym (c.input.ensures s p.statements k)))
