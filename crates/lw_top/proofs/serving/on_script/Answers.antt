use Rattle.std.proofs.Common.{◌≡◌, ℕ, List, length, sym, ◌∙◌, subst, arith}
use Rattle.std.proofs.lemmas.List.{length-map}
use Rattle.lw_io.specs.Streams.{StreamChange}
use Rattle.lw_machine.specs.Hook.{Hook}
use Rattle.lw_top.specs.declared.status.Status.{Status}
use Rattle.lw_top.specs.declared.words.ScriptCommand.{ScriptCommand}
use Rattle.lw_top.specs.declared.words.ScriptCommand.TheVariants.{Check}
use Rattle.lw_top.specs.Outcome.{Answered, IsOutcome}
use Rattle.lw_top.proofs.serving.on_script.Goals as goal

-- what is promised of any hooks of a number
of_these : (command : ScriptCommand) (count : ℕ) (r : Status) (source sink : StreamChange) → command ≡ Check
    → ((given : List Hook) → length given ≡ count → Answered (IsOutcome given Check) r source sink)
    → (hooks : List Hook) → length hooks ≡ count → Answered (IsOutcome hooks command) r source sink
of_these command count r source sink is each hooks many = subst (λ k. Answered (IsOutcome hooks k) r source sink) (sym is) (each hooks many)

pub returns-in-Check-clause-answered : goal.returns-in-Check-clause-answered
returns-in-Check-clause-answered g c =
    let same : length c.args.hooks.items ≡ c.len.result = (let k = c.args.hooks.ok.0 in let n = c.len.ensures in omega (arith, k, n)) in
    of_these c.args.command c.len.result c.check.result _ _ c.in-Check.is c.check.ensures.answered _ (length-map c.args.hooks.items _ ∙ same)
