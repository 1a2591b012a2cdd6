use Rattle.std.proofs.Common.{sym, ap, subst, ◌∙◌}
use Rattle.lw_stack.specs.Sets.{set_of, AreOfSlots}
use Rattle.lw_stack.proofs.SetsLaws.{sets_many, set_in}
use Rattle.lw_stack.proofs.sets.SlotSets.new.Goals as goal

pub returns-clause-many : goal.returns-clause-many
returns-clause-many c = sets_many c.args.count c.new.result.items

pub returns-clause-none : goal.returns-clause-none
returns-clause-none c = λ s.
    set_in c.args.count c.new.result.items s (subst (AreOfSlots c.args.count) (sym c.new.ensures.items) tt)
    ∙ ap (λ ps. set_of ps s) c.new.ensures.items
