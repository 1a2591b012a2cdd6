use Rattle.lw_strips.proofs.LayingLaws.{made_composed}
use Rattle.lw_strips.proofs.laying.compose.Goals as goal

pub returns : goal.returns
returns c =
    made_composed c.args.window.now c.width.result c.height.result c.args.depth c.args.strips.now c.in_ok-made.made c.lay_all.new.planes
    c.width.ensures.value c.height.ensures.value c.in_ok-made.ensures c.lay_all.ensures
