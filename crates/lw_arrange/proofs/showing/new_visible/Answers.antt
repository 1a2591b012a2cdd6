use Rattle.std.proofs.Common.{[], slice_index_or, ap, ◌∙◌}
use Rattle.lw_arrange.proofs.VisibleLaws.{new_shown}
use Rattle.lw_arrange.proofs.showing.new_visible.Goals as goal

pub returns : goal.returns
returns c =
    let a = c.args.arrangement.now in
    new_shown a c.args.cell.now c.shown-visible.result.now c.sizes.ensures.planned c.requires.slot c.requires.idle c.requires.elsewhere
    (c.shown-visible.ensures ∙ ap (λ n. slice_index_or a.shown n []) c.slot.ensures) c.rects.ensures.canonical
