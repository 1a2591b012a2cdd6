use Rattle.std.specs.Fmt.{digits}
use Rattle.lw_region.specs.Rectangle.{within}
use Rattle.lw_planes.specs.Row.{row_bit}
use Rattle.lw_calls.specs.Limits.{axis_fits}
use Rattle.lw_grammar.specs.Verbs.{verb_of}
use Rattle.std.proofs.Common.{refl}
use Rattle.lw_cases.specs.Versions.{wide_screen, hook_replaced}
use Rattle.lw_grammar.proofs.ScriptOutcome.{outcome_spells}
use Rattle.lw_script_cases.specs.WholeScripts.{alone}
use Rattle.lw_script_cases.specs.SpelledPlans.{input_of}
use Rattle.lw_script_cases.specs.VersionLines.{without_version, wide_screen_script, wide_screen_below_comments, hook_replaced_script, hook_replaced_in_version_1, version_behind_screen, own_hook_again}
use Rattle.lw_script_cases.proofs.Decided.{decided}
use Rattle.lw_script_cases.proofs.version_lines.first_lines_tell_the_version.Goals as goal

pub returns-clause-wide : goal.returns-clause-wide
unfolding digits within row_bit axis_fits verb_of
returns-clause-wide c = outcome_spells (alone 0) wide_screen_script (input_of wide_screen 36) refl

pub returns-clause-below_comments : goal.returns-clause-below_comments
unfolding digits within row_bit axis_fits verb_of
returns-clause-below_comments c = outcome_spells (alone 0) wide_screen_below_comments (input_of wide_screen 54) refl

pub returns-clause-not_wide : goal.returns-clause-not_wide
unfolding digits within row_bit axis_fits verb_of
returns-clause-not_wide c = decided (alone 0) (without_version wide_screen_script)

pub returns-clause-replaced : goal.returns-clause-replaced
unfolding digits within row_bit axis_fits verb_of
returns-clause-replaced c = outcome_spells (alone 6) hook_replaced_script (input_of hook_replaced 117) refl

pub returns-clause-not_replaced : goal.returns-clause-not_replaced
unfolding digits within row_bit axis_fits verb_of
returns-clause-not_replaced c = decided (alone 6) (without_version hook_replaced_script)

pub returns-clause-version_1 : goal.returns-clause-version_1
unfolding digits within row_bit axis_fits verb_of
returns-clause-version_1 c = decided (alone 6) hook_replaced_in_version_1

pub returns-clause-behind_screen : goal.returns-clause-behind_screen
unfolding digits within row_bit axis_fits verb_of
returns-clause-behind_screen c = decided (alone 6) version_behind_screen

pub returns-clause-own_again : goal.returns-clause-own_again
unfolding digits within row_bit axis_fits verb_of
returns-clause-own_again c = decided (alone 6) own_hook_again
