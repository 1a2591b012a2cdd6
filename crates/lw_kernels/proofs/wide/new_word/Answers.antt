use Rattle.std.proofs.Common.{◌-◌, ◌*◌, ◌/◌, ◌%◌, ◌^◌}
use Rattle.lw_kernels.proofs.WideLaws.{word_made, bit_left, bit_right}
use Rattle.lw_kernels.proofs.wide.new_word.Goals as goal

pub returns : goal.returns
returns c = λ test masks j low.
    word_made ((c.word_at.result * 2 ^ c.args.shift) % 2 ^ 64) (c.word_at-2.result / 2 ^ (8 - c.args.shift)) c.word_at-old.result c.args.shift c.args.masks test _ _ j low masks
    (bit_left c.word_at.result c.args.shift c.args.source.now c.args.start j low c.word_at.ensures)
    (bit_right c.word_at-2.result c.args.shift c.args.source.now c.args.start j low c.requires.low c.word_at-2.ensures)
    (c.word_at-old.ensures j low)
