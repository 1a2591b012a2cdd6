-- What a proof unfolds to compute the text of a display that is written out.
use Rattle.std.specs.Fmt.{digits}
use Rattle.lw_planes.specs.Grid.{grid, at}
use Rattle.lw_planes.specs.Pen.{pen_of, byte_of}
use Rattle.lw_planes.specs.Bitmap.{plane_row}
use Rattle.lw_machine.specs.Report.{plane_lines, planes_part}

unfoldable pub computing : Unit {0}
unfolding digits grid at pen_of byte_of plane_row plane_lines planes_part
computing = tt
