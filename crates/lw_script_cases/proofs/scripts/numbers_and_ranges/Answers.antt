use Rattle.std.specs.Fmt.{digits}
use Rattle.lw_region.specs.Rectangle.{within}
use Rattle.lw_planes.specs.Row.{row_bit}
use Rattle.lw_calls.specs.Limits.{axis_fits}
use Rattle.lw_grammar.specs.Verbs.{verb_of}
use Rattle.lw_script_cases.proofs.Decided.{decided}
use Rattle.lw_script_cases.specs.WholeScripts.{alone, form_before_range, number_too_large, number_of_101_digits, maximum_below_minimum, leading_zero, minus_zero, negative_number}
use Rattle.lw_script_cases.proofs.scripts.numbers_and_ranges.Goals as goal

pub returns-clause-form_before_range : goal.returns-clause-form_before_range
unfolding digits within row_bit axis_fits verb_of
returns-clause-form_before_range c = decided (alone 0) form_before_range

pub returns-clause-number_too_large : goal.returns-clause-number_too_large
unfolding digits within row_bit axis_fits verb_of
returns-clause-number_too_large c = decided (alone 0) number_too_large

pub returns-clause-number_of_101_digits : goal.returns-clause-number_of_101_digits
unfolding digits within row_bit axis_fits verb_of
returns-clause-number_of_101_digits c = decided (alone 0) number_of_101_digits

pub returns-clause-maximum_below_minimum : goal.returns-clause-maximum_below_minimum
unfolding digits within row_bit axis_fits verb_of
returns-clause-maximum_below_minimum c = decided (alone 0) maximum_below_minimum

pub returns-clause-leading_zero : goal.returns-clause-leading_zero
unfolding digits within row_bit axis_fits verb_of
returns-clause-leading_zero c = decided (alone 0) leading_zero

pub returns-clause-minus_zero : goal.returns-clause-minus_zero
unfolding digits within row_bit axis_fits verb_of
returns-clause-minus_zero c = decided (alone 0) minus_zero

pub returns-clause-negative_number : goal.returns-clause-negative_number
unfolding digits within row_bit axis_fits verb_of
returns-clause-negative_number c = decided (alone 0) negative_number
