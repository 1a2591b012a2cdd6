use Rattle.std.proofs.Common.{◌∙◌, ap}
use Rattle.lw_region.specs.Rectangle.{Rectangle}
use Rattle.lw_strips.specs.Pools.{same_rectangle}
use Rattle.lw_strips.proofs.pool.is_of.Goals as goal

pub returns : goal.returns
unfolding same_rectangle
returns c = c.eq.ensures ∙ ap (λ (r : Rectangle). same_rectangle c.args.rect.now r) c.rect.ensures.value
