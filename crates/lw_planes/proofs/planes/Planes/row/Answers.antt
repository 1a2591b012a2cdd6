use Rattle.std.proofs.Common.{arith}
use Rattle.lw_planes.proofs.planes.Planes.row.Goals as goal
use Rattle.lw_planes.proofs.StorageLaws.{first_row}

pub returns-clause-bits : goal.returns-clause-bits
returns-clause-bits c = λ x left. first_row c.args.self.now c.rows.result.now c.args.plane c.args.y x (c.rows.ensures.bits x 0 left (omega arith))
