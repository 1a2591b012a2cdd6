use Rattle.std.proofs.Common.{◌∙◌, sym}
use Rattle.lw_ilbm.proofs.ChunkSteps.{past_end}
use Rattle.lw_ilbm.proofs.decoding.name_fault.Goals as goal

pub returns-then-at-bytes : goal.returns-then-at-bytes
returns-then-at-bytes c =
    sym (c.loop-letter.invariant.rest ∙ past_end c.args.bytes.now c.loop-letter.at c.loop-letter.letter-index c.args.name.now c.if-at-bytes.true c.loop-letter-test.true)
