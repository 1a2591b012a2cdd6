use Rattle.std.proofs.Common.{sym, subst, ◌∙◌}
use Rattle.std.proofs.lemmas.Bool.{false≢true}
use Rattle.lw_stack.specs.Stack.{LieApart}
use Rattle.lw_stack.proofs.AreaLaws.{none_meets, more_apart, entry_meets}
use Rattle.lw_stack.proofs.shown.meets.Goals as goal

pub loop-part-init : goal.loop-part-init
loop-part-init c = none_meets c.args.rect.now

pub loop-part-preserved : goal.loop-part-preserved
loop-part-preserved c =
    more_apart c.rects-rects.result.now c.loop-part.part-index c.part-item.result c.args.rect.now c.meet.result
    c.loop-part-test.true c.part-item.is c.loop-part.invariant c.meet.ensures.none (sym c.is_some.ensures ∙ c.if-is_some.false)

pub returns-then-is_some : goal.returns-then-is_some
returns-then-is_some c =
    let meets =
    entry_meets c.rects-rects.result.now c.loop-part.part-index c.part-item.result c.args.rect.now c.meet.result
    c.loop-part-test.true c.part-item.is c.meet.ensures.none (sym c.is_some.ensures ∙ c.if-is_some.true)
    in (
      λ no_part. absurd (false≢true (sym no_part)),
      λ apart. absurd (meets (subst (λ rects. LieApart rects c.args.rect.now) (sym c.rects-rects.ensures.value) apart)),
    )
