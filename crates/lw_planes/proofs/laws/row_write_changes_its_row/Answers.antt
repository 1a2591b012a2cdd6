use Rattle.lw_planes.proofs.DefinitionLaws as laws
use Rattle.lw_planes.proofs.laws.row_write_changes_its_row.Goals as goal

pub returns : goal.returns
returns c = laws.row_write_changes_its_row
