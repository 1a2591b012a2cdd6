use Rattle.std.specs.Fmt.{digits}
use Rattle.lw_region.specs.Rectangle.{within}
use Rattle.lw_planes.specs.Row.{row_bit}
use Rattle.lw_calls.specs.Limits.{axis_fits}
use Rattle.lw_grammar.specs.Verbs.{verb_of}
use Rattle.std.proofs.Common.{refl}
use Rattle.lw_grammar.proofs.ScriptOutcome.{outcome_spells}
use Rattle.lw_script_cases.specs.WholeScripts.{alone}
use Rattle.lw_script_cases.specs.SpelledPlans.{input_of, windows_script, windows_plan}
use Rattle.lw_script_cases.proofs.spelled.windows_have_their_optional_words.Goals as goal

pub returns : goal.returns
unfolding digits within row_bit axis_fits verb_of
returns c = outcome_spells (alone 1) windows_script (input_of windows_plan 439) refl
