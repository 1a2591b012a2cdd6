use Rattle.std.proofs.Common.{◌++◌, codes}
use Rattle.std.specs.Fmt.{digits}
use Rattle.lw_region.specs.Rectangle.{within}
use Rattle.lw_region.specs.Pixels.{pixels_of}
use Rattle.lw_region.specs.Bands.{bands}
use Rattle.lw_planes.specs.Row.{row_bit}
use Rattle.lw_area.specs.Polygons.{passes, holds_of_odd}
use Rattle.lw_area.specs.Patterns.{word_has}
use Rattle.lw_area.specs.Areas.{area_set}
use Rattle.lw_calls.specs.Limits.{axis_fits}
use Rattle.lw_grammar.specs.Verbs.{verb_of}
use Rattle.lw_script_cases.specs.WholeScripts.{alone, script, in_version_2}
use Rattle.lw_script_cases.specs.AreaScripts.{all_patterns, thirty_two_points}
use Rattle.lw_script_cases.proofs.Decided.{decided}
use Rattle.lw_script_cases.proofs.area_scripts.patterns_and_points_are_counted.Goals as goal

pub returns-clause-patterns : goal.returns-clause-patterns
unfolding digits within row_bit axis_fits verb_of area_set passes holds_of_odd word_has bands pixels_of
returns-clause-patterns c = decided (alone 0) all_patterns

pub returns-clause-points : goal.returns-clause-points
unfolding digits within row_bit axis_fits verb_of area_set passes holds_of_odd word_has bands pixels_of
returns-clause-points c = decided (alone 0) (in_version_2 ++ script (codes "area w") ++ thirty_two_points ++ script (codes "/end/"))
