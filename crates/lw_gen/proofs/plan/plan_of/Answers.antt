use Rattle.std.proofs.Common.{sym, subst}
use Rattle.lw_calls.specs.Plan.{IsPlan}
use Rattle.lw_gen.specs.Demo.{demo_sizes}
use Rattle.lw_gen.proofs.Plans.{are_plans}
use Rattle.lw_gen.proofs.plan.plan_of.Goals as goal

pub new-requires-3 : goal.new-requires-3
new-requires-3 c =
    subst IsPlan
    (λ i. record {
      sizes = demo_sizes c.args.tasks;
      slot_names = sym c.in_ok-slot_names.ensures i;
      task_names = sym c.in_ok-task_names.ensures i;
      bitmap_names = sym c.new.ensures.items i;
      calls = sym c.in_ok-call_lists.ensures i;
      groups = sym c.in_ok-no_groups.ensures i;
      pairs = sym c.new-2.ensures.items i;
      assets = sym c.no_assets.ensures i;
    })
    (are_plans c.args.number c.args.tasks c.requires.some c.requires.few)
