use Rattle.std.proofs.Common.{ap, ◌∙◌}
use Rattle.lw_calls.specs.declared.sizes.Sizes.{Sizes}
use Rattle.lw_desk_tests.proofs.Passes.{two_are_each, two_are_many}
use Rattle.lw_desk_tests.proofs.tests_closing.close_again.Goals as goal

pub close-requires-clause-many : goal.close-requires-clause-many
close-requires-clause-many g c κs within =
    c.in_ok-passes.passes.ok.0
    ∙ two_are_many c.in_ok-passes.passes.items g.N.Opening.desk.sizes.tasks (ap (λ (s : Sizes). s.tasks) c.requires.sizes) (c.in_ok-passes.ensures {u = tt})

pub close-requires-clause-each : goal.close-requires-clause-each
close-requires-clause-each g c κs within =
    two_are_each c.in_ok-passes.passes.items g.N.Opening.desk.sizes.tasks (ap (λ (s : Sizes). s.tasks) c.requires.sizes) (c.in_ok-passes.ensures {u = tt})
