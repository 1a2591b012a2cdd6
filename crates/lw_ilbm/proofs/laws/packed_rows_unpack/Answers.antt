use Rattle.lw_ilbm.proofs.Unpacking.{row_unpacks}
use Rattle.lw_ilbm.proofs.laws.packed_rows_unpack.Goals as goal

pub returns : goal.returns
returns c row codes = row_unpacks row codes 0
