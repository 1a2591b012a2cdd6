-- What a proof unfolds to read a script, and to write the canonical text of a plan, that is written out.
use Rattle.std.specs.Fmt.{digits}
use Rattle.lw_region.specs.Rectangle.{within}
use Rattle.lw_region.specs.Pixels.{pixels_of}
use Rattle.lw_region.specs.Bands.{bands}
use Rattle.lw_area.specs.Polygons.{passes, holds_of_odd}
use Rattle.lw_area.specs.Patterns.{word_has}
use Rattle.lw_area.specs.Areas.{area_set}
use Rattle.lw_planes.specs.Row.{row_bit}
use Rattle.lw_planes.specs.Grid.{grid, at}
use Rattle.lw_planes.specs.Pen.{pen_of, byte_of}
use Rattle.lw_planes.specs.Bitmap.{plane_row}
use Rattle.lw_calls.specs.Limits.{axis_fits}
use Rattle.lw_grammar.specs.Verbs.{verb_of}

unfoldable pub computing : Unit {0}
unfolding digits within grid at pen_of byte_of plane_row
computing = tt

-- the same for lines of a script
unfoldable pub reading : Unit {0}
unfolding digits within row_bit axis_fits verb_of
reading = tt

-- the same where some are areas
unfoldable pub reading_areas : Unit {0}
unfolding digits within row_bit axis_fits verb_of area_set passes holds_of_odd word_has bands pixels_of
reading_areas = tt
