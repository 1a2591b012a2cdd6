use Rattle.std.proofs.Common.{subst}
use Rattle.lw_layer.specs.View.{LiveView}
use Rattle.lw_layer.specs.Pieces.{HaveLinesBits}
use Rattle.lw_layer.proofs.BitsLaws.{layer_bits}
use Rattle.lw_layer.proofs.StateLaws.{lines_bits_of}
use Rattle.lw_layer.proofs.layer.Layer.lines.Goals as goal

pub returns-clause-bits : goal.returns-clause-bits
returns-clause-bits c =
    let B : LiveView → Type 0 = λ v. HaveLinesBits v c.args.plane c.args.buffer c.args.line c.args.rows c.lines.result.now in
    subst B c.self.view_is (lines_bits_of c.self.inside.draft c.args.plane c.args.buffer c.args.line c.args.rows c.lines.result.now c.self.invariant c.lines.ensures.bits)

pub returns-clause-planes : goal.returns-clause-planes
returns-clause-planes c = layer_bits c.self.inside.draft c.args.self.now c.self.invariant c.self.view_is
