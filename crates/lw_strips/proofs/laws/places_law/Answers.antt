use Rattle.lw_strips.proofs.PlaceLaws.{places}
use Rattle.lw_strips.proofs.laws.places_law.Goals as goal

pub returns : goal.returns
returns c = places
