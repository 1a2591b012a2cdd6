use Rattle.std.proofs.Common.{◌*◌, ◌%◌, ◌^◌, ◌∙◌, refl, arith}
use Rattle.lw_kernels.proofs.WideLaws.{masks_are, near_bit, repeated_bit}
use Rattle.lw_kernels.proofs.wide.masks_of.Goals as goal

pub returns : goal.returns
returns c = λ test names.
    masks_are c.args.named c.word_of-near.result c.args.shift test _ c.ranges.named.fits c.word_of-near.type_inv names
    (λ j low. c.word_of-near.ensures j low ∙ (repeated_bit ((255 * 2 ^ c.args.shift) % 2 ^ 8) j low ∙ near_bit c.args.shift (j % 8) (omega arith)))
    refl refl refl
