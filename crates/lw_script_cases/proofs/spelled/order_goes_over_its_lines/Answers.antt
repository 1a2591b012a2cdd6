use Rattle.std.specs.Fmt.{digits}
use Rattle.lw_region.specs.Rectangle.{within}
use Rattle.lw_planes.specs.Row.{row_bit}
use Rattle.lw_calls.specs.Limits.{axis_fits}
use Rattle.lw_grammar.specs.Verbs.{verb_of}
use Rattle.std.proofs.Common.{refl}
use Rattle.lw_grammar.proofs.ScriptOutcome.{outcome_spells}
use Rattle.lw_script_cases.specs.WholeScripts.{with_order}
use Rattle.lw_script_cases.specs.SpelledPlans.{ordered_script, ordered_input}
use Rattle.lw_script_cases.proofs.spelled.order_goes_over_its_lines.Goals as goal

pub returns : goal.returns
unfolding digits within row_bit axis_fits verb_of
returns c = outcome_spells (with_order 0) ordered_script ordered_input refl
