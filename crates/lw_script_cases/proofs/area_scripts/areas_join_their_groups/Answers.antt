use Rattle.std.proofs.Common.{refl}
use Rattle.std.specs.Fmt.{digits}
use Rattle.lw_region.specs.Rectangle.{within}
use Rattle.lw_region.specs.Pixels.{pixels_of}
use Rattle.lw_region.specs.Bands.{bands}
use Rattle.lw_planes.specs.Row.{row_bit}
use Rattle.lw_area.specs.Polygons.{passes, holds_of_odd}
use Rattle.lw_area.specs.Patterns.{word_has}
use Rattle.lw_area.specs.Areas.{area_set}
use Rattle.lw_calls.specs.Limits.{axis_fits}
use Rattle.lw_grammar.specs.Verbs.{verb_of}
use Rattle.lw_grammar.proofs.ScriptOutcome.{outcome_spells}
use Rattle.lw_script_cases.specs.WholeScripts.{alone}
use Rattle.lw_script_cases.specs.SpelledPlans.{input_of}
use Rattle.lw_script_cases.specs.AreaScripts.{locked_script, locked, updated_script, updated, first_named_script, first_named}
use Rattle.lw_script_cases.proofs.area_scripts.areas_join_their_groups.Goals as goal

pub returns-clause-locked : goal.returns-clause-locked
unfolding digits within row_bit axis_fits verb_of area_set passes holds_of_odd word_has bands pixels_of
returns-clause-locked c = outcome_spells (alone 0) locked_script (input_of locked 118) refl

pub returns-clause-updated : goal.returns-clause-updated
unfolding digits within row_bit axis_fits verb_of area_set passes holds_of_odd word_has bands pixels_of
returns-clause-updated c = outcome_spells (alone 0) updated_script (input_of updated 134) refl

pub returns-clause-first_named : goal.returns-clause-first_named
unfolding digits within row_bit axis_fits verb_of area_set passes holds_of_odd word_has bands pixels_of
returns-clause-first_named c = outcome_spells (alone 0) first_named_script (input_of first_named 106) refl
