use Rattle.std.proofs.Common.{refl}
use Rattle.lw_statements.proofs.statement.NewLayer.without_bitmap.Goals as goal

pub invariant_of-result : goal.invariant_of-result
invariant_of-result c = record { bits = λ plain. (refl, refl) }
