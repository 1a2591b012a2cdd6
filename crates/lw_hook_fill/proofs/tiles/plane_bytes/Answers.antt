use Rattle.lw_hook_fill.proofs.TileLaws.{eight_planes}
use Rattle.lw_hook_fill.proofs.tiles.plane_bytes.Goals as goal

pub returns : goal.returns
returns c = eight_planes c.args.pens.now _ _ _ _ _ _ _ _ c.plane_byte.ensures c.plane_byte-2.ensures c.plane_byte-3.ensures c.plane_byte-4.ensures c.plane_byte-5.ensures c.plane_byte-6.ensures c.plane_byte-7.ensures c.plane_byte-8.ensures
