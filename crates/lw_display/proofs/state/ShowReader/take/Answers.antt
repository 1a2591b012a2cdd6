use Rattle.lw_display.specs.ShowMeaning.{outer_meaning, told_of}
use Rattle.lw_display.proofs.LinesPass.{line_passes}
use Rattle.lw_display.proofs.state.ShowReader.take.Goals as goal

pub take_line-requires-clause-passes : goal.take_line-requires-clause-passes
take_line-requires-clause-passes c =
    line_passes (told_of c.args.self.now) c.args.line.now (outer_meaning c.in-Ok.said) c.in-Ok.ensures
