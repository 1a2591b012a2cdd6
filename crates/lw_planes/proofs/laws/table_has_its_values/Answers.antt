use Rattle.lw_planes.proofs.DefinitionLaws as laws
use Rattle.lw_planes.proofs.laws.table_has_its_values.Goals as goal

pub returns : goal.returns
returns c = laws.table_has_its_values
