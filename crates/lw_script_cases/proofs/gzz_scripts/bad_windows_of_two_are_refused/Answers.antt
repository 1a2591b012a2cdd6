use Rattle.std.specs.Fmt.{digits}
use Rattle.lw_region.specs.Rectangle.{within}
use Rattle.lw_region.specs.Pixels.{pixels_of}
use Rattle.lw_region.specs.Bands.{bands}
use Rattle.lw_planes.specs.Row.{row_bit}
use Rattle.lw_area.specs.Polygons.{passes, holds_of_odd}
use Rattle.lw_area.specs.Patterns.{word_has}
use Rattle.lw_area.specs.Areas.{area_set}
use Rattle.lw_calls.specs.Limits.{axis_fits}
use Rattle.lw_grammar.specs.Verbs.{verb_of}
use Rattle.lw_script_cases.specs.GzzScripts.{unknown_gzz, misplaced_gzz, bad_gopen_forms, bad_gzz_forms, far_boxes, far_on_paired, closed_unknown, unknown_pairs, names_again, misgrouped_gzz}
use Rattle.lw_script_cases.proofs.Decided.{all_decided}
use Rattle.lw_script_cases.proofs.gzz_scripts.bad_windows_of_two_are_refused.Goals as goal

pub returns-clause-unknown : goal.returns-clause-unknown
unfolding digits within row_bit axis_fits verb_of area_set passes holds_of_odd word_has bands pixels_of
returns-clause-unknown c = all_decided unknown_gzz

pub returns-clause-misplaced : goal.returns-clause-misplaced
unfolding digits within row_bit axis_fits verb_of area_set passes holds_of_odd word_has bands pixels_of
returns-clause-misplaced c = all_decided misplaced_gzz

pub returns-clause-openings : goal.returns-clause-openings
unfolding digits within row_bit axis_fits verb_of area_set passes holds_of_odd word_has bands pixels_of
returns-clause-openings c = all_decided bad_gopen_forms

pub returns-clause-forms : goal.returns-clause-forms
unfolding digits within row_bit axis_fits verb_of area_set passes holds_of_odd word_has bands pixels_of
returns-clause-forms c = all_decided bad_gzz_forms

pub returns-clause-boxes : goal.returns-clause-boxes
unfolding digits within row_bit axis_fits verb_of area_set passes holds_of_odd word_has bands pixels_of
returns-clause-boxes c = all_decided far_boxes

pub returns-clause-numbers : goal.returns-clause-numbers
unfolding digits within row_bit axis_fits verb_of area_set passes holds_of_odd word_has bands pixels_of
returns-clause-numbers c = all_decided far_on_paired

pub returns-clause-closed : goal.returns-clause-closed
unfolding digits within row_bit axis_fits verb_of area_set passes holds_of_odd word_has bands pixels_of
returns-clause-closed c = all_decided closed_unknown

pub returns-clause-names : goal.returns-clause-names
unfolding digits within row_bit axis_fits verb_of area_set passes holds_of_odd word_has bands pixels_of
returns-clause-names c = all_decided unknown_pairs

pub returns-clause-again : goal.returns-clause-again
unfolding digits within row_bit axis_fits verb_of area_set passes holds_of_odd word_has bands pixels_of
returns-clause-again c = all_decided names_again

pub returns-clause-groups : goal.returns-clause-groups
unfolding digits within row_bit axis_fits verb_of area_set passes holds_of_odd word_has bands pixels_of
returns-clause-groups c = all_decided misgrouped_gzz
