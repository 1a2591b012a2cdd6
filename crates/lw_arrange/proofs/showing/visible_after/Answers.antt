use Rattle.std.proofs.Common.{[], slice_index_or, ap, ◌∙◌}
use Rattle.lw_region.specs.Pixels.{pixels_of, difference}
use Rattle.lw_region.specs.Bands.{bands}
use Rattle.lw_layer.specs.View.{LiveView}
use Rattle.lw_arrange.proofs.VisibleLaws.{live_shown}
use Rattle.lw_arrange.proofs.showing.visible_after.Goals as goal

pub returns : goal.returns
returns c =
    let a = c.args.arrangement.now in
    live_shown a c.args.cell.now c.in_ok-visible.visible c.shown.result.now c.or_region.new.into c.sizes.ensures.planned
    c.requires.slot c.requires.live c.requires.elsewhere
    (rw (c.visible.ensures.value, c.rects.ensures.value, c.area.ensures) at c.in_ok-visible.ensures ∙ ap (λ (v : LiveView). bands (difference (pixels_of v.visible) (pixels_of a.area))) c.requires.layer)
    (c.shown.ensures ∙ ap (λ n. slice_index_or a.shown n []) c.slot.ensures) c.in_ok-or_region.ensures.list
