use Rattle.std.specs.Fmt.{digits}
use Rattle.lw_region.specs.Rectangle.{within}
use Rattle.lw_region.specs.Pixels.{pixels_of}
use Rattle.lw_region.specs.Bands.{bands}
use Rattle.lw_planes.specs.Row.{row_bit}
use Rattle.lw_area.specs.Polygons.{passes, holds_of_odd}
use Rattle.lw_area.specs.Patterns.{word_has}
use Rattle.lw_area.specs.Areas.{area_set}
use Rattle.lw_calls.specs.Limits.{axis_fits}
use Rattle.lw_grammar.specs.Verbs.{verb_of}
use Rattle.lw_script_cases.specs.AreaScripts.{unknown_areas, misplaced_areas, bad_area_forms, far_areas, unknown_patterns, patterns_again, misgrouped_areas, many_patterns}
use Rattle.lw_script_cases.proofs.Decided.{all_decided}
use Rattle.lw_script_cases.proofs.area_scripts.bad_areas_are_refused.Goals as goal

pub returns-clause-unknown : goal.returns-clause-unknown
unfolding digits within row_bit axis_fits verb_of area_set passes holds_of_odd word_has bands pixels_of
returns-clause-unknown c = all_decided unknown_areas

pub returns-clause-misplaced : goal.returns-clause-misplaced
unfolding digits within row_bit axis_fits verb_of area_set passes holds_of_odd word_has bands pixels_of
returns-clause-misplaced c = all_decided misplaced_areas

pub returns-clause-forms : goal.returns-clause-forms
unfolding digits within row_bit axis_fits verb_of area_set passes holds_of_odd word_has bands pixels_of
returns-clause-forms c = all_decided bad_area_forms

pub returns-clause-far : goal.returns-clause-far
unfolding digits within row_bit axis_fits verb_of area_set passes holds_of_odd word_has bands pixels_of
returns-clause-far c = all_decided far_areas

pub returns-clause-patterns : goal.returns-clause-patterns
unfolding digits within row_bit axis_fits verb_of area_set passes holds_of_odd word_has bands pixels_of
returns-clause-patterns c = all_decided unknown_patterns

pub returns-clause-again : goal.returns-clause-again
unfolding digits within row_bit axis_fits verb_of area_set passes holds_of_odd word_has bands pixels_of
returns-clause-again c = all_decided patterns_again

pub returns-clause-groups : goal.returns-clause-groups
unfolding digits within row_bit axis_fits verb_of area_set passes holds_of_odd word_has bands pixels_of
returns-clause-groups c = all_decided misgrouped_areas

pub returns-clause-many : goal.returns-clause-many
unfolding digits within row_bit axis_fits verb_of area_set passes holds_of_odd word_has bands pixels_of
returns-clause-many c = all_decided many_patterns
