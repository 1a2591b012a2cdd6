use Rattle.std.proofs.Common.{◌∙◌, ◌-◌, ◌*◌, ◌/◌, ◌%◌, ◌^◌}
use Rattle.lw_kernels.proofs.WordLaws.{restored, mask_bit}
use Rattle.lw_kernels.proofs.words.word_mask.Goals as goal

pub returns : goal.returns
returns c = λ j low.
    restored (((2 ^ 64 - 1) * 2 ^ (64 - c.args.count)) % 2 ^ 64 / 2 ^ c.args.lead) c.swap_bytes.result j c.swap_bytes.ensures low ∙
    mask_bit c.args.lead c.args.count j c.requires.some c.requires.inside low
