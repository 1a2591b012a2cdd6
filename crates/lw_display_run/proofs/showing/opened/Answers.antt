use Rattle.std.proofs.Common.{◌∙◌}
use Rattle.lw_display.specs.ShowAnswers.{show_meaning}
use Rattle.lw_display_run.proofs.Fits.{tops_low, heights_high}
use Rattle.lw_display_run.proofs.showing.opened.Goals as goal

pub new-requires-clause-tops : goal.new-requires-clause-tops
new-requires-clause-tops c = tops_low (show_meaning c.args.show.now) c.deref.result.now c.requires.showable (c.deref.ensures.value ∙ c.requires.ran.tops)

pub new-requires-clause-heights : goal.new-requires-clause-heights
new-requires-clause-heights c = heights_high (show_meaning c.args.show.now) c.deref-2.result.now c.requires.showable (c.deref-2.ensures.value ∙ c.requires.ran.heights)
