use Rattle.std.proofs.Common.{refl}
use Rattle.std.specs.Fmt.{digits}
use Rattle.lw_region.specs.Rectangle.{within}
use Rattle.lw_region.specs.Pixels.{pixels_of}
use Rattle.lw_region.specs.Bands.{bands}
use Rattle.lw_planes.specs.Row.{row_bit}
use Rattle.lw_area.specs.Polygons.{passes, holds_of_odd}
use Rattle.lw_area.specs.Patterns.{word_has}
use Rattle.lw_area.specs.Areas.{area_set}
use Rattle.lw_calls.specs.Limits.{axis_fits}
use Rattle.lw_grammar.specs.Verbs.{verb_of}
use Rattle.lw_grammar.proofs.ScriptOutcome.{outcome_spells}
use Rattle.lw_script_cases.specs.WholeScripts.{alone}
use Rattle.lw_script_cases.specs.SpelledPlans.{input_of}
use Rattle.lw_script_cases.specs.AreaScripts.{triangle_script, triangle, square_script, square, empty_script, empty_plan, pattern_script, checkered}
use Rattle.lw_script_cases.proofs.area_scripts.areas_are_fills.Goals as goal

pub returns-clause-triangle : goal.returns-clause-triangle
unfolding digits within row_bit axis_fits verb_of area_set passes holds_of_odd word_has bands pixels_of
returns-clause-triangle c = outcome_spells (alone 0) triangle_script (input_of triangle 83) refl

pub returns-clause-square : goal.returns-clause-square
unfolding digits within row_bit axis_fits verb_of area_set passes holds_of_odd word_has bands pixels_of
returns-clause-square c = outcome_spells (alone 0) square_script (input_of square 87) refl

pub returns-clause-empty : goal.returns-clause-empty
unfolding digits within row_bit axis_fits verb_of area_set passes holds_of_odd word_has bands pixels_of
returns-clause-empty c = outcome_spells (alone 0) empty_script (input_of empty_plan 83) refl

pub returns-clause-pattern : goal.returns-clause-pattern
unfolding digits within row_bit axis_fits verb_of area_set passes holds_of_odd word_has bands pixels_of
returns-clause-pattern c = outcome_spells (alone 0) pattern_script (input_of checkered 112) refl
