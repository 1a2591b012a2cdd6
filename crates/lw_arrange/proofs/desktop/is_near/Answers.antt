use Rattle.std.proofs.Common.{None, refl, subst, ◌∙◌}
use Rattle.std.proofs.lemmas.List.{take_all}
use Rattle.lw_stack.specs.Stack.{LieApart}
use Rattle.lw_stack.proofs.AreaLaws.{none_meets, more_apart}
use Rattle.lw_arrange.proofs.desktop.is_near.Goals as goal

pub loop-part-init : goal.loop-part-init
loop-part-init c = none_meets c.args.rect.now

pub loop-part-preserved : goal.loop-part-preserved
loop-part-preserved c =
    more_apart c.rects-parts.result.now c.loop-part.part-index c.part-item.result c.args.rect.now None
    c.loop-part-test.true c.part-item.is c.loop-part.invariant (λ _. c.touch.ensures c.if-touch.false, λ _. refl) refl

pub returns : goal.returns
returns c = λ _. subst (λ rects. LieApart rects c.args.rect.now) (take_all c.loop-part.part-index c.rects-parts.result.now c.loop-part-test.false ∙ c.rects-parts.ensures.value) c.loop-part.invariant
