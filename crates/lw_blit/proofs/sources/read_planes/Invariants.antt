use Rattle.lw_blit.specs.Blitting.{AreRead}
use Rattle.lw_blit.proofs.sources.read_planes.Given as goal

abbrev pub invariant-loop-plane : goal.invariant-loop-plane
invariant-loop-plane l = AreRead l.source l.mask l.plane l.x l.y l.count l.rows
