use Rattle.lw_planes.proofs.DefinitionLaws as laws
use Rattle.lw_planes.proofs.laws.bitmap_is_its_pens.Goals as goal

pub returns : goal.returns
returns c = laws.bitmap_is_its_pens
