use Rattle.std.proofs.Common.{◌∙◌, sym, rules}
use Rattle.lw_blit.proofs.SourceLaws.{cleared, kept_past}
use Rattle.lw_blit.proofs.sources.copy_pixels.Goals as goal

pub returns-else-plane-depth-clause-bits : goal.returns-else-plane-depth-clause-bits
returns-else-plane-depth-clause-bits c i low =
    cleared c.fill.new.row _ i _ (c.fill.ensures.each i) (search rules) ∙
    sym (kept_past c.args.source.now c.args.plane _ c.args.y c.depth.ensures.bits.bitmap (search rules))
