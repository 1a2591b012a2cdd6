use Rattle.std.proofs.Common.{ap, ◌∙◌}
use Rattle.lw_script.specs.Answers.{input_meaning}
use Rattle.lw_top.proofs.Outcomes.{checked_outcome}
use Rattle.lw_top.proofs.outcome.check_outcome.Goals as goal

pub returns-in_ok-print-in-Ok : goal.returns-in_ok-print-in-Ok
returns-in_ok-print-in-Ok c =
    λ given same. checked_outcome given c.args.hooks c.args.input.now (input_meaning c.in-Ok.script) _ _ same c.requires c.in-Ok.ensures.found (ap (λ o. o.status) c.done.ensures) (ap (λ o. o.text.items) c.done.ensures ∙ c.in_ok-print-in-Ok.ensures)
