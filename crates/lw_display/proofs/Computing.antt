-- What a proof unfolds to read a show that is written out, and to compute its text.
use Rattle.std.specs.Fmt.{digits}
use Rattle.lw_region.specs.Rectangle.{within}
use Rattle.lw_region.specs.Pixels.{contains_pixel, pixels_of}
use Rattle.lw_region.specs.Bands.{bands}
use Rattle.lw_planes.specs.Grid.{grid, at}
use Rattle.lw_planes.specs.Pen.{pen_of, byte_of}
use Rattle.lw_planes.specs.Bitmap.{plane_row}
use Rattle.lw_planes.specs.Row.{row_bit}
use Rattle.lw_calls.specs.Limits.{axis_fits}
use Rattle.lw_machine.specs.Screen.{top, screen}
use Rattle.lw_machine.specs.Kept.{is_visible, is_kept, is_drawable, in_inner}
use Rattle.lw_machine.specs.Paint.{through_mask, with_pens}
use Rattle.lw_machine.specs.Arrangement.{is_on_screen, has_coordinates, is_no_larger, may_lie_at, is_at_least, portion_fits}
use Rattle.lw_machine.specs.Reveal.{counts_as_kept, some_pixel, revealed, in_frame, in_title, is_damaged, same_bounds, settled_layer}
use Rattle.lw_machine.specs.Step.{after, reply}
use Rattle.lw_machine.specs.Report.{plane_lines, planes_part}
use Rattle.lw_machine.specs.Finals.{shown_set, damage_set}
use Rattle.lw_grammar.specs.Verbs.{verb_of}
use Rattle.lw_display.specs.ShowTexts.{show_text}

unfoldable pub reading : Unit {0}
unfolding digits within row_bit axis_fits verb_of
reading = tt

unfoldable pub computing : Unit {0}
unfolding digits within row_bit axis_fits verb_of contains_pixel pixels_of bands grid at pen_of byte_of plane_row top screen is_visible is_kept is_drawable in_inner through_mask with_pens is_on_screen has_coordinates is_no_larger may_lie_at is_at_least portion_fits counts_as_kept some_pixel revealed in_frame in_title is_damaged same_bounds settled_layer after reply plane_lines planes_part shown_set damage_set show_text
computing = tt
