use Rattle.std.proofs.Common.{arith, refl}
use Rattle.lw_planes.proofs.planes.Planes.row_mut.Goals as goal
use Rattle.lw_planes.proofs.StorageLaws.{first_row}

pub returns : goal.returns
returns c = (
  (refl, λ w. refl),
  record {
    writes_back = tt;
    long = omega (arith, c.rows_mut.ensures.long);
    wide = omega (arith, c.rows_mut.ensures.long);
    bits = λ x left. first_row c.args.self.now c.rows_mut.result.now c.args.plane c.args.y x (c.rows_mut.ensures.bits x 0 left (omega arith));
    planes = c.rows_mut.ensures.planes;
  },
)
