use Rattle.std.proofs.Common.{None, replicate, rules, ap, ◌∙◌, arith}
use Rattle.lw_stack.proofs.ListLaws.{empty_is_stack}
use Rattle.lw_stack.proofs.DesktopLaws.{screen_may, one_desktop}
use Rattle.lw_stack.proofs.info.Info.new.Goals as goal

pub blank-requires : goal.blank-requires
blank-requires c = screen_may c.args.sizes.now c.screen_of_sizes.result c.screen_of_sizes.ensures c.requires

pub invariant_of-result : goal.invariant_of-result
invariant_of-result c = (
  empty_is_stack c.args.sizes.now c.new.result.items c.loop-slot.bounds.items c.requires c.new.ensures.items
      (c.loop-slot.invariant ∙ ap (λ n. replicate n None) (omega arith)),
  one_desktop _ c.push-2.new.self.items c.screen_of_sizes.result c.new.ensures.items c.screen_of_sizes.ensures
      (search rules),
)
