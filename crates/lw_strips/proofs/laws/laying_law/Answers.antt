use Rattle.lw_strips.proofs.PlaceLaws.{laying}
use Rattle.lw_strips.proofs.laws.laying_law.Goals as goal

pub returns : goal.returns
returns c = laying
