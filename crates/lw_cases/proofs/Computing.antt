-- What a proof unfolds to compute the machine and its report on a plan that is written out.
use Rattle.std.specs.Fmt.{digits}
use Rattle.lw_region.specs.Rectangle.{within}
use Rattle.lw_region.specs.Pixels.{contains_pixel, pixels_of, union, intersection, difference, symmetric_difference}
use Rattle.lw_region.specs.Bands.{bands}
use Rattle.lw_planes.specs.Grid.{grid, at}
use Rattle.lw_planes.specs.Pen.{pen_of, byte_of}
use Rattle.lw_planes.specs.Bitmap.{plane_row}
use Rattle.lw_machine.specs.Hook.{hook_pen}
use Rattle.lw_machine.specs.Screen.{top, screen}
use Rattle.lw_machine.specs.Kept.{is_visible, is_kept, is_drawable, in_inner}
use Rattle.lw_machine.specs.Paint.{through_mask, with_pens}
use Rattle.lw_machine.specs.Shapes.{line_offset, is_on_line, glyph_has, in_cells, cell_has}
use Rattle.lw_machine.specs.Registers.{has_too_many}
use Rattle.lw_machine.specs.Arrangement.{is_on_screen, has_coordinates, is_no_larger, may_lie_at, is_at_least, portion_fits}
use Rattle.lw_machine.specs.Reveal.{counts_as_kept, some_pixel, revealed, in_frame, in_title, is_damaged, same_bounds, settled_layer}
use Rattle.lw_calls.specs.Limits.{axis_fits}
use Rattle.lw_machine.specs.Step.{after, reply}
use Rattle.lw_machine.specs.Report.{order_part, plane_lines, planes_part, of_slots, reply_lines, replies_part, report}
use Rattle.lw_machine.specs.Finals.{shown_set, damage_set}

unfoldable pub computing : Unit {0}
unfolding digits within contains_pixel pixels_of union intersection difference symmetric_difference bands grid at pen_of byte_of plane_row hook_pen top screen is_visible is_kept is_drawable in_inner through_mask with_pens line_offset is_on_line glyph_has in_cells cell_has has_too_many is_on_screen has_coordinates is_no_larger may_lie_at is_at_least portion_fits counts_as_kept some_pixel revealed in_frame in_title is_damaged same_bounds settled_layer axis_fits after reply order_part plane_lines planes_part shown_set damage_set of_slots reply_lines replies_part report
computing = tt
