use Rattle.lw_planes.proofs.DefinitionLaws as laws
use Rattle.lw_planes.proofs.laws.plane_row_has_its_bits.Goals as goal

pub returns : goal.returns
returns c = laws.plane_row_has_its_bits
