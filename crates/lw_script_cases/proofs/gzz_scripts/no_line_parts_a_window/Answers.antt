use Rattle.std.specs.Fmt.{digits}
use Rattle.lw_region.specs.Rectangle.{within}
use Rattle.lw_region.specs.Pixels.{pixels_of}
use Rattle.lw_region.specs.Bands.{bands}
use Rattle.lw_planes.specs.Row.{row_bit}
use Rattle.lw_area.specs.Polygons.{passes, holds_of_odd}
use Rattle.lw_area.specs.Patterns.{word_has}
use Rattle.lw_area.specs.Areas.{area_set}
use Rattle.lw_calls.specs.Limits.{axis_fits}
use Rattle.lw_grammar.specs.Verbs.{verb_of}
use Rattle.lw_script_cases.specs.GzzScripts.{moved_outer, parting, free_lines}
use Rattle.lw_script_cases.proofs.Decided.{all_decided, all_allowed}
use Rattle.lw_script_cases.proofs.gzz_scripts.no_line_parts_a_window.Goals as goal

pub returns-clause-moved : goal.returns-clause-moved
unfolding digits within row_bit axis_fits verb_of area_set passes holds_of_odd word_has bands pixels_of
returns-clause-moved c = all_decided moved_outer

pub returns-clause-refused : goal.returns-clause-refused
unfolding digits within row_bit axis_fits verb_of area_set passes holds_of_odd word_has bands pixels_of
returns-clause-refused c = all_decided parting

pub returns-clause-free : goal.returns-clause-free
unfolding digits within row_bit axis_fits verb_of area_set passes holds_of_odd word_has bands pixels_of
returns-clause-free c = all_allowed free_lines
