use Rattle.std.proofs.Common.{sym, ◌∙◌}
use Rattle.lw_line_demands.proofs.lines.tested_gzz.Goals as goal

pub gzz_read-requires : goal.gzz_read-requires
gzz_read-requires c = sym c.gzz_tested.ensures ∙ c.in-Ok.is
