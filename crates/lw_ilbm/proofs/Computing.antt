-- What a proof unfolds to compute on a picture that is written out.
use Rattle.lw_planes.specs.Grid.{grid, at}
use Rattle.lw_planes.specs.Pen.{pen_of, byte_of}
use Rattle.lw_planes.specs.Row.{row_bit}
use Rattle.lw_planes.specs.Bitmap.{plane_row}

unfoldable pub computing : Unit {0}
unfolding grid at pen_of byte_of row_bit plane_row
computing = tt
