use Rattle.std.proofs.Common.{true, false, refl}
use Rattle.lw_layer_calls.proofs.OneLayerLaws.{letters_step}
use Rattle.lw_layer_calls.proofs.drawing.letters.Goals as goal

pub returns-then-not-letters : goal.returns-then-not-letters
returns-then-not-letters c =
    λ task slot.
    letters_step slot c.args.layer.now c.letters.new.layer c.args.assets.now c.args.text.now c.letters.result false _ c.if-not-letters.true c.letters.ensures.answer c.letters.ensures.layer refl task

pub returns : goal.returns
returns c =
    λ task slot.
    letters_step slot c.args.layer.now c.letters.new.layer c.args.assets.now c.args.text.now c.letters.result true _ c.if-not-letters.false c.letters.ensures.answer c.letters.ensures.layer refl task
