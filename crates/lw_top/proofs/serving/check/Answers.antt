use Rattle.std.proofs.Common.{◌≡◌, List, [], length, replicate, Err, ap, refl, sym, subst}
use Rattle.std.proofs.lemmas.List.{length-replicate}
use Rattle.lw_io.specs.Streams.{change}
use Rattle.lw_machine.specs.Hook.{Hook}
use Rattle.lw_top.specs.declared.words.ScriptCommand.TheVariants.{Check}
use Rattle.lw_top.specs.Outcome.{IsOutcome}
use Rattle.lw_top.proofs.AnswerLaws.{script_outcomes}
use Rattle.lw_top.proofs.OutcomeLaws.{said_not_stopped}
use Rattle.lw_top.proofs.Unread.{unread}
use Rattle.lw_top.proofs.serving.check.Goals as goal

pub returns-in-Ok-check_outcome-clause-untouched : goal.returns-in-Ok-check_outcome-clause-untouched
returns-in-Ok-check_outcome-clause-untouched g c =
    let hook : Hook = record { tiles = []; place = 0 } in
    let given : List Hook = replicate c.args.hooks hook in
    let many : length given ≡ c.args.hooks = length-replicate c.args.hooks hook in
    let due = c.in-Ok-check_outcome.checked.status in
    let text = c.as_slice-in-Ok-check_outcome.result.now in
    let outcome : IsOutcome given Check c.as_slice.result.now due text = subst (λ t. IsOutcome given Check c.as_slice.result.now due t) (sym c.as_slice-in-Ok-check_outcome.ensures.value) (c.in-Ok-check_outcome.ensures given many) in
    λ stopped. absurd (said_not_stopped due c.say.result text (change g.K.Sink.written g.K.Sink.faults c.args.sink.now c.say.new.sink) ((script_outcomes given Check).no_stop c.as_slice.result.now due text outcome) c.say.ensures.said stopped)

pub returns-clause-answered : goal.returns-clause-answered
returns-clause-answered g c =
    λ given same. unread (IsOutcome given Check) (λ input long. (long, refl)) c.in-Err.stop c.say_stop.result _ _
    (λ e. c.in-Err.ensures.too_long (ap Err e)) (λ e. c.in-Err.ensures.fault (ap Err e)) (λ other. c.in-Err.ensures.no_fault (λ e. other (cc)))
    c.say_stop.ensures.long c.say_stop.ensures.fault c.say_stop.ensures.memory c.in-Err.ensures.taken c.in-Err.ensures.count c.say_stop.ensures.count
