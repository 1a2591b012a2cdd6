use Rattle.std.proofs.lemmas.Bool.{true≢false}
use Rattle.lw_lines.proofs.lines_asked.open_sized.Goals as goal

pub invariant_of-asked : goal.invariant_of-asked
invariant_of-asked c = record { bits = λ plain. absurd (true≢false plain) }
