use Rattle.std.proofs.Common.{List, ℤ, ◌≡◌, not, ◌&&◌}
use Rattle.std.proofs.lemmas.Result.{IfOk-weaker}
use Rattle.lw_region.specs.Rectangle.{Rectangle}
use Rattle.lw_region.specs.Bands.{covers}
use Rattle.lw_machine.specs.Screen.{bounds_have}
use Rattle.lw_stack.proofs.ShownLaws.{covers_left, covers_nothing}
use Rattle.lw_stack.proofs.shown.uncovered.Goals as goal

pub returns-in-None : goal.returns-in-None
returns-in-None c = covers_nothing c.args.bounds c.args.covered.now c.new.result c.in-None.is c.new.ensures

pub returns-in-Some : goal.returns-in-Some
returns-in-Some c =
    IfOk-weaker c.difference.result _ (λ (left : List Rectangle). (x y : ℤ) → covers left x y ≡ (bounds_have c.args.bounds x y && not (covers c.args.covered.now x y)))
    (λ left e x y. rw c.in-Some.is (covers_left c.in-Some.rect c.args.covered.now left e x y)) (rw (c.as_list.ensures.value, c.rects.ensures.value) at c.difference.ensures)
