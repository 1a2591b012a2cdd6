-- A role split off a task's seat.
use Rattle.std.proofs.Common.{◌≡◌, false, ap, ◌∙◌}
use Rattle.lw_calls.specs.declared.touch.Role.TheVariants.{Task}
use Rattle.lw_order.specs.Roles.{same_role}
use Rattle.lw_locks.specs.Seen.{SeenHolder}
use Rattle.lw_locks.proofs.Passes.{holding_given}
use Rattle.lw_locks.proofs.steps.Steps.give.Goals as goal

pub invariant_of-holder : goal.invariant_of-holder
invariant_of-holder g c =
    let own = c.holder.inside in
    let e = c.split.ensures in
    let apart : same_role c.args.off (Task own.task) ≡ false = ap (λ (h : SeenHolder). same_role c.args.off (Task h.task)) c.holder.view_is ∙ c.requires.other in
    holding_given g.E.Engine.relations g.N.Opening.word g.N.Opening.desk c.args.off own.task own.made own.seat c.split.new.seat own.regs e.words.0 e.histories.0 e.left apart c.holder.invariant
