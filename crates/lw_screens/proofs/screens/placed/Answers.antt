use Rattle.std.proofs.Common.{◌≡◌, ◌+◌, suc, take, ◌++◌, ◌∷◌, [], get_or, sym, ap, ◌∙◌, arith}
use Rattle.lw_screens.specs.Display.{placed}
use Rattle.lw_screens.proofs.Changes.{placed_more}
use Rattle.lw_screens.proofs.screens.placed.Goals as goal

pub loop-number-preserved : goal.loop-number-preserved
loop-number-preserved c =
    let n = c.loop-number.number in
    let tops = c.args.tops.now in
    let heights = c.args.heights.now in
    let next : n + 1 ≡ suc n = omega arith in
    c.in_ok-push.ensures.items ∙ (ap (λ ss. ss ++ record { top = get_or tops n 0; height = get_or heights n 0 } ∷ []) c.loop-number.invariant
    ∙ (sym (placed_more tops heights n (omega arith) c.requires) ∙ ap (λ k. placed (take k tops) (take k heights)) (sym next)))
