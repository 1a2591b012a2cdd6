use Rattle.std.proofs.Common.{sym, arith}
use Rattle.lw_layer.proofs.BufferLaws.{buffer_is}
use Rattle.lw_layer.proofs.draft.LiveDraft.buffer_pen.Goals as goal

pub pen-requires-clause-row : goal.pen-requires-clause-row
pen-requires-clause-row c =
    let is = buffer_is c.args.self.now c.args.buffer c.buffer.result.now c.requires.sound c.requires.line.buffer (sym c.buffer.ensures) in
    omega (arith, is.height, c.requires.line.below)
