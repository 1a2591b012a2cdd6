use Rattle.std.proofs.Common.{◌&&◌, sym, ap, ◌∙◌}
use Rattle.lw_machine.specs.Screen.{bounds_have, screen_bounds}
use Rattle.lw_region.specs.Rectangle.{has_pixel}
use Rattle.lw_stack.specs.Stack.{stack_of}
use Rattle.lw_arrange.proofs.ElsewhereLaws.{no_area, some_area}
use Rattle.lw_arrange.proofs.plan.area_of.Goals as goal

pub returns-in_default : goal.returns-in_default
returns-in_default c =
    let v = c.args.info.now in
    no_area v (stack_of v.sizes c.args.after.now) c.args.call.now c.new-area.result (sym c.slot_arranged.ensures ∙ c.in_default.is)
    c.new-area.ensures

pub returns : goal.returns
returns c =
    let v = c.args.info.now in
    let sizes = c.sizes-sizes.ensures.value in
    some_area v (stack_of v.sizes c.args.after.now) c.args.call.now c.in-Some.slot c.on_screen.result c.on_screen-2.result c.new-area.result
    c.cover.new.covered c.cover-2.new.covered (sym c.slot_arranged.ensures ∙ c.in-Some.is) c.new-area.ensures
    (λ x y. c.on_screen.ensures x y
    ∙ (ap (λ z. has_pixel (screen_bounds z) x y && bounds_have c.bounds.result x y) sizes
    ∙ ap (λ o. has_pixel (screen_bounds v.sizes) x y && bounds_have o x y) c.bounds.ensures))
    (λ x y. c.on_screen-2.ensures x y
    ∙ (ap (λ z. has_pixel (screen_bounds z) x y && bounds_have c.bounds_after.result x y) sizes
    ∙ ap (λ o. has_pixel (screen_bounds v.sizes) x y && bounds_have o x y) c.bounds_after.ensures))
    c.in_ok-cover.ensures.ok c.in_ok-cover-2.ensures.ok
