use Rattle.std.proofs.Common.{refl}
use Rattle.std.specs.Fmt.{digits}
use Rattle.lw_region.specs.Rectangle.{within}
use Rattle.lw_region.specs.Pixels.{pixels_of}
use Rattle.lw_region.specs.Bands.{bands}
use Rattle.lw_planes.specs.Row.{row_bit}
use Rattle.lw_area.specs.Polygons.{passes, holds_of_odd}
use Rattle.lw_area.specs.Patterns.{word_has}
use Rattle.lw_area.specs.Areas.{area_set}
use Rattle.lw_calls.specs.Limits.{axis_fits}
use Rattle.lw_grammar.specs.Verbs.{verb_of}
use Rattle.lw_grammar.proofs.ScriptOutcome.{outcome_spells}
use Rattle.lw_script_cases.specs.WholeScripts.{alone}
use Rattle.lw_script_cases.specs.SpelledPlans.{input_of}
use Rattle.lw_script_cases.specs.GzzScripts.{filled_script, filled, boxed_script, boxed, all_lines_script, all_lines}
use Rattle.lw_script_cases.proofs.gzz_scripts.windows_of_two_are_groups.Goals as goal

pub returns-clause-filled : goal.returns-clause-filled
unfolding digits within row_bit axis_fits verb_of area_set passes holds_of_odd word_has bands pixels_of
returns-clause-filled c = outcome_spells (alone 0) filled_script (input_of filled 89) refl

pub returns-clause-boxed : goal.returns-clause-boxed
unfolding digits within row_bit axis_fits verb_of area_set passes holds_of_odd word_has bands pixels_of
returns-clause-boxed c = outcome_spells (alone 0) boxed_script (input_of boxed 106) refl

pub returns-clause-all : goal.returns-clause-all
unfolding digits within row_bit axis_fits verb_of area_set passes holds_of_odd word_has bands pixels_of
returns-clause-all c = outcome_spells (alone 0) all_lines_script (input_of all_lines 186) refl
