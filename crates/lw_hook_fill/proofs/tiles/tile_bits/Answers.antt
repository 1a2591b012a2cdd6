use Rattle.std.proofs.Common.{pos}
use Rattle.lw_hook_fill.proofs.TileLaws.{row_told, tile_told}
use Rattle.lw_hook_fill.proofs.tiles.tile_bits.Goals as goal

pub returns : goal.returns
returns g c =
    tile_told _ _ _ _ _ _ _ _ _
    (row_told _ (pos 0) _ _ c.row_of.ensures c.plane_bytes.ensures)
    (row_told _ (pos 1) _ _ c.row_of-2.ensures c.plane_bytes-2.ensures)
    (row_told _ (pos 2) _ _ c.row_of-3.ensures c.plane_bytes-3.ensures)
    (row_told _ (pos 3) _ _ c.row_of-4.ensures c.plane_bytes-4.ensures)
    (row_told _ (pos 4) _ _ c.row_of-5.ensures c.plane_bytes-5.ensures)
    (row_told _ (pos 5) _ _ c.row_of-6.ensures c.plane_bytes-6.ensures)
    (row_told _ (pos 6) _ _ c.row_of-7.ensures c.plane_bytes-7.ensures)
    (row_told _ (pos 7) _ _ c.row_of-8.ensures c.plane_bytes-8.ensures)
