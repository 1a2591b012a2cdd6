use Rattle.std.proofs.Common.{◌+◌, arith}
use Rattle.lw_text.proofs.TextLaws.{rows_moved}
use Rattle.lw_text.proofs.glyphs.align_rows.Goals as goal

pub returns-then-source-gt0-clause-bits : goal.returns-then-source-gt0-clause-bits
returns-then-source-gt0-clause-bits c k n low near =
    let to = c.args.bit in
    rows_moved c.args.bytes.now c.combine_rows_within.new.bytes c.args.source.row c.args.source.bit to c.args.rows c.args.count k n c.requires.inside (c.combine_rows_within.ensures k (to + n) (omega (arith, near, c.requires.inside))) low near
