use Rattle.std.specs.Fmt.{digits}
use Rattle.lw_region.specs.Rectangle.{within}
use Rattle.lw_planes.specs.Row.{row_bit}
use Rattle.lw_calls.specs.Limits.{axis_fits}
use Rattle.lw_grammar.specs.Verbs.{verb_of}
use Rattle.lw_script_cases.proofs.Decided.{decided}
use Rattle.lw_script_cases.specs.WholeScripts.{alone, with_order, with_report, order_in_plain, order_before_task, order_in_task, order_again, order_missing, numbers_64, numbers_65, number_16, number_below_0, no_numbers, order_in_audited, report, report_missing, report_in_task, unlock_between, endrefresh_between}
use Rattle.lw_script_cases.proofs.scripts.orders_and_reports.Goals as goal

pub returns-clause-order_in_plain : goal.returns-clause-order_in_plain
unfolding digits within row_bit axis_fits verb_of
returns-clause-order_in_plain c = decided (alone 0) order_in_plain

pub returns-clause-order_before_task : goal.returns-clause-order_before_task
unfolding digits within row_bit axis_fits verb_of
returns-clause-order_before_task c = decided (with_order 0) order_before_task

pub returns-clause-order_in_task : goal.returns-clause-order_in_task
unfolding digits within row_bit axis_fits verb_of
returns-clause-order_in_task c = decided (with_order 0) order_in_task

pub returns-clause-order_again : goal.returns-clause-order_again
unfolding digits within row_bit axis_fits verb_of
returns-clause-order_again c = decided (with_order 0) order_again

pub returns-clause-order_missing : goal.returns-clause-order_missing
unfolding digits within row_bit axis_fits verb_of
returns-clause-order_missing c = decided (with_order 0) order_missing

pub returns-clause-numbers_64 : goal.returns-clause-numbers_64
unfolding digits within row_bit axis_fits verb_of
returns-clause-numbers_64 c = decided (with_order 0) numbers_64

pub returns-clause-numbers_65 : goal.returns-clause-numbers_65
unfolding digits within row_bit axis_fits verb_of
returns-clause-numbers_65 c = decided (with_order 0) numbers_65

pub returns-clause-number_16 : goal.returns-clause-number_16
unfolding digits within row_bit axis_fits verb_of
returns-clause-number_16 c = decided (with_order 0) number_16

pub returns-clause-number_below_0 : goal.returns-clause-number_below_0
unfolding digits within row_bit axis_fits verb_of
returns-clause-number_below_0 c = decided (with_order 0) number_below_0

pub returns-clause-no_numbers : goal.returns-clause-no_numbers
unfolding digits within row_bit axis_fits verb_of
returns-clause-no_numbers c = decided (with_order 0) no_numbers

pub returns-clause-order_in_audited : goal.returns-clause-order_in_audited
unfolding digits within row_bit axis_fits verb_of
returns-clause-order_in_audited c = decided (with_report 0) order_in_audited

pub returns-clause-report : goal.returns-clause-report
unfolding digits within row_bit axis_fits verb_of
returns-clause-report c = decided (with_report 0) report

pub returns-clause-report_missing : goal.returns-clause-report_missing
unfolding digits within row_bit axis_fits verb_of
returns-clause-report_missing c = decided (with_report 0) report_missing

pub returns-clause-report_in_task : goal.returns-clause-report_in_task
unfolding digits within row_bit axis_fits verb_of
returns-clause-report_in_task c = decided (with_report 0) report_in_task

pub returns-clause-unlock_between : goal.returns-clause-unlock_between
unfolding digits within row_bit axis_fits verb_of
returns-clause-unlock_between c = decided (alone 0) unlock_between

pub returns-clause-endrefresh_between : goal.returns-clause-endrefresh_between
unfolding digits within row_bit axis_fits verb_of
returns-clause-endrefresh_between c = decided (alone 0) endrefresh_between
