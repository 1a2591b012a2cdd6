use Rattle.std.proofs.Common.{ap, sym, ◌∙◌, arith}
use Rattle.lw_planes.specs.Bitmap.{row_bytes}
use Rattle.lw_layer.proofs.BufferLaws.{buffer_is}
use Rattle.lw_layer.proofs.draft.LiveDraft.step.Goals as goal

pub returns-clause-value : goal.returns-clause-value
returns-clause-value c =
    let is = buffer_is c.args.self.now c.args.number c.buffer.result.now c.requires.sound c.requires.there (sym c.buffer.ensures) in
    ap row_bytes (c.width.ensures.value ∙ is.width)

pub returns-clause-wide : goal.returns-clause-wide
returns-clause-wide c =
    let is = buffer_is c.args.self.now c.args.number c.buffer.result.now c.requires.sound c.requires.there (sym c.buffer.ensures) in
    omega (arith, is.width, is.sound.sizes.columns.1)

pub returns-clause-high : goal.returns-clause-high
returns-clause-high c =
    let is = buffer_is c.args.self.now c.args.number c.buffer.result.now c.requires.sound c.requires.there (sym c.buffer.ensures) in
    omega (arith, is.height, is.sound.sizes.rows.1)
