use Rattle.std.proofs.Common.{◌*◌, ◌++◌, ◌∙◌}
use Rattle.lw_gen.specs.Generator.{calls_from}
use Rattle.lw_gen.proofs.plan.calls_in_band.Goals as goal

pub returns : goal.returns
returns c =
    c.in_ok-push_calls.ensures ∙
    (λ i. c.in_ok-calls.ensures i ++ calls_from 497 (3 * c.args.task) c.args.columns (c.start_word.ensures i))
