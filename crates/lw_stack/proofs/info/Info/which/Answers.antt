use Rattle.std.proofs.Common.{w32, sym, ap, ◌∙◌}
use Rattle.std.proofs.lemmas.Int.{to_z-of_z}
use Rattle.lw_region.specs.Rectangle.{has_pixel}
use Rattle.lw_machine.specs.Screen.{screen_bounds}
use Rattle.lw_stack.proofs.FirstLaws.{top_on_screen, top_off_screen}
use Rattle.lw_stack.proofs.info.Info.which.Goals as goal

pub returns-then-not-has : goal.returns-then-not-has
returns-then-not-has c =
    let x = c.args.x in
    let y = c.args.y in
    let has = rw (to_z-of_z w32 c.args.x c.ranges.x, to_z-of_z w32 c.args.y c.ranges.y) at c.has.ensures in
    let on = has ∙ ap (λ r. has_pixel r x y) (c.screen_of_sizes.ensures ∙ ap screen_bounds c.sizes.ensures.value) in
    sym (top_off_screen c.args.self.now x y (sym on ∙ c.if-not-has.true))

pub returns : goal.returns
returns c =
    let x = c.args.x in
    let y = c.args.y in
    let has = rw (to_z-of_z w32 c.args.x c.ranges.x, to_z-of_z w32 c.args.y c.ranges.y) at c.has.ensures in
    let on = has ∙ ap (λ r. has_pixel r x y) (c.screen_of_sizes.ensures ∙ ap screen_bounds c.sizes.ensures.value) in
    (rw (to_z-of_z w32 c.args.x c.ranges.x, to_z-of_z w32 c.args.y c.ranges.y) at c.first.ensures)
    ∙ sym (top_on_screen c.args.self.now x y (sym on ∙ c.if-not-has.false))
