use Rattle.std.specs.Fmt.{digits}
use Rattle.lw_region.specs.Rectangle.{within}
use Rattle.lw_planes.specs.Row.{row_bit}
use Rattle.lw_calls.specs.Limits.{axis_fits}
use Rattle.lw_grammar.specs.Verbs.{verb_of}
use Rattle.lw_script_cases.proofs.Decided.{decided}
use Rattle.lw_script_cases.specs.WholeScripts.{alone, hook_0_of_none, simple_layer, hook_above_32_bits, hook_below_0, hook_2_of_2, hook_1_of_2, hook_of_super, super_backdrop, super_of_2049, hook_before_backdrop, open_with_all, open_out_of_order, set_out_of_order, set_with_one_twice, super_borderless, super_with_set, open_of_no_columns}
use Rattle.lw_script_cases.proofs.scripts.layers_and_windows.Goals as goal

pub returns-clause-hook_above_32_bits : goal.returns-clause-hook_above_32_bits
unfolding digits within row_bit axis_fits verb_of
returns-clause-hook_above_32_bits c = decided (alone 2) hook_above_32_bits

pub returns-clause-hook_below_0 : goal.returns-clause-hook_below_0
unfolding digits within row_bit axis_fits verb_of
returns-clause-hook_below_0 c = decided (alone 2) hook_below_0

pub returns-clause-hook_2_of_2 : goal.returns-clause-hook_2_of_2
unfolding digits within row_bit axis_fits verb_of
returns-clause-hook_2_of_2 c = decided (alone 2) hook_2_of_2

pub returns-clause-hook_1_of_2 : goal.returns-clause-hook_1_of_2
unfolding digits within row_bit axis_fits verb_of
returns-clause-hook_1_of_2 c = decided (alone 2) hook_1_of_2

pub returns-clause-hook_of_super : goal.returns-clause-hook_of_super
unfolding digits within row_bit axis_fits verb_of
returns-clause-hook_of_super c = decided (alone 2) hook_of_super

pub returns-clause-super_backdrop : goal.returns-clause-super_backdrop
unfolding digits within row_bit axis_fits verb_of
returns-clause-super_backdrop c = decided (alone 2) super_backdrop

pub returns-clause-super_of_2049 : goal.returns-clause-super_of_2049
unfolding digits within row_bit axis_fits verb_of
returns-clause-super_of_2049 c = decided (alone 2) super_of_2049

pub returns-clause-hook_before_backdrop : goal.returns-clause-hook_before_backdrop
unfolding digits within row_bit axis_fits verb_of
returns-clause-hook_before_backdrop c = decided (alone 2) hook_before_backdrop

pub returns-clause-open_with_all : goal.returns-clause-open_with_all
unfolding digits within row_bit axis_fits verb_of
returns-clause-open_with_all c = decided (alone 2) open_with_all

pub returns-clause-open_out_of_order : goal.returns-clause-open_out_of_order
unfolding digits within row_bit axis_fits verb_of
returns-clause-open_out_of_order c = decided (alone 2) open_out_of_order

pub returns-clause-set_out_of_order : goal.returns-clause-set_out_of_order
unfolding digits within row_bit axis_fits verb_of
returns-clause-set_out_of_order c = decided (alone 2) set_out_of_order

pub returns-clause-set_with_one_twice : goal.returns-clause-set_with_one_twice
unfolding digits within row_bit axis_fits verb_of
returns-clause-set_with_one_twice c = decided (alone 2) set_with_one_twice

pub returns-clause-super_borderless : goal.returns-clause-super_borderless
unfolding digits within row_bit axis_fits verb_of
returns-clause-super_borderless c = decided (alone 2) super_borderless

pub returns-clause-super_with_set : goal.returns-clause-super_with_set
unfolding digits within row_bit axis_fits verb_of
returns-clause-super_with_set c = decided (alone 2) super_with_set

pub returns-clause-open_of_no_columns : goal.returns-clause-open_of_no_columns
unfolding digits within row_bit axis_fits verb_of
returns-clause-open_of_no_columns c = decided (alone 2) open_of_no_columns

pub returns-clause-hook_0_of_none : goal.returns-clause-hook_0_of_none
unfolding digits within row_bit axis_fits verb_of
returns-clause-hook_0_of_none c = decided (alone 0) hook_0_of_none

pub returns-clause-simple_layer : goal.returns-clause-simple_layer
unfolding digits within row_bit axis_fits verb_of
returns-clause-simple_layer c = decided (alone 0) simple_layer
