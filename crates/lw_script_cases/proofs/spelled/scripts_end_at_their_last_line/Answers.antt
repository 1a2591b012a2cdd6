use Rattle.std.specs.Fmt.{digits}
use Rattle.lw_region.specs.Rectangle.{within}
use Rattle.lw_planes.specs.Row.{row_bit}
use Rattle.lw_calls.specs.Limits.{axis_fits}
use Rattle.lw_grammar.specs.Verbs.{verb_of}
use Rattle.std.proofs.Common.{refl}
use Rattle.lw_grammar.proofs.ScriptOutcome.{outcome_spells}
use Rattle.lw_script_cases.specs.WholeScripts.{alone, with_report}
use Rattle.lw_script_cases.specs.SpelledPlans.{input_of, idle_plan, reported_script, report_at_end, report_without_feed, comment_at_end, comment_without_feed}
use Rattle.lw_script_cases.proofs.spelled.scripts_end_at_their_last_line.Goals as goal

pub returns-clause-reported : goal.returns-clause-reported
unfolding digits within row_bit axis_fits verb_of
returns-clause-reported c = outcome_spells (with_report 0) reported_script (input_of idle_plan 32) refl

pub returns-clause-at_end : goal.returns-clause-at_end
unfolding digits within row_bit axis_fits verb_of
returns-clause-at_end c = outcome_spells (with_report 0) report_at_end (input_of idle_plan 32) refl

pub returns-clause-without_feed : goal.returns-clause-without_feed
unfolding digits within row_bit axis_fits verb_of
returns-clause-without_feed c = outcome_spells (with_report 0) report_without_feed (input_of idle_plan 31) refl

pub returns-clause-comment : goal.returns-clause-comment
unfolding digits within row_bit axis_fits verb_of
returns-clause-comment c = outcome_spells (alone 0) comment_at_end (input_of idle_plan 32) refl

pub returns-clause-comment_without_feed : goal.returns-clause-comment_without_feed
unfolding digits within row_bit axis_fits verb_of
returns-clause-comment_without_feed c = outcome_spells (alone 0) comment_without_feed (input_of idle_plan 31) refl
