use Rattle.std.specs.Fmt.{digits}
use Rattle.lw_region.specs.Rectangle.{within}
use Rattle.lw_planes.specs.Row.{row_bit}
use Rattle.lw_calls.specs.Limits.{axis_fits}
use Rattle.lw_grammar.specs.Verbs.{verb_of}
use Rattle.lw_script_cases.proofs.Decided.{decided}
use Rattle.lw_script_cases.specs.WholeScripts.{alone, with_order, all_parts, task_missing, layer_named_front, name_of_16, name_of_17, name_with_underscore, name_from_a_digit, screen_of_1025, screen_again, task_before_screen, end_before_task, end_missing, two_tasks, task_again, verb_in_capitals}
use Rattle.lw_script_cases.proofs.scripts.names_and_parts.Goals as goal

pub returns-clause-layer_named_front : goal.returns-clause-layer_named_front
unfolding digits within row_bit axis_fits verb_of
returns-clause-layer_named_front c = decided (alone 0) layer_named_front

pub returns-clause-name_of_16 : goal.returns-clause-name_of_16
unfolding digits within row_bit axis_fits verb_of
returns-clause-name_of_16 c = decided (alone 0) name_of_16

pub returns-clause-name_of_17 : goal.returns-clause-name_of_17
unfolding digits within row_bit axis_fits verb_of
returns-clause-name_of_17 c = decided (alone 0) name_of_17

pub returns-clause-name_with_underscore : goal.returns-clause-name_with_underscore
unfolding digits within row_bit axis_fits verb_of
returns-clause-name_with_underscore c = decided (alone 0) name_with_underscore

pub returns-clause-name_from_a_digit : goal.returns-clause-name_from_a_digit
unfolding digits within row_bit axis_fits verb_of
returns-clause-name_from_a_digit c = decided (alone 0) name_from_a_digit

pub returns-clause-screen_of_1025 : goal.returns-clause-screen_of_1025
unfolding digits within row_bit axis_fits verb_of
returns-clause-screen_of_1025 c = decided (alone 0) screen_of_1025

pub returns-clause-screen_again : goal.returns-clause-screen_again
unfolding digits within row_bit axis_fits verb_of
returns-clause-screen_again c = decided (alone 0) screen_again

pub returns-clause-task_before_screen : goal.returns-clause-task_before_screen
unfolding digits within row_bit axis_fits verb_of
returns-clause-task_before_screen c = decided (alone 0) task_before_screen

pub returns-clause-end_before_task : goal.returns-clause-end_before_task
unfolding digits within row_bit axis_fits verb_of
returns-clause-end_before_task c = decided (alone 0) end_before_task

pub returns-clause-end_missing : goal.returns-clause-end_missing
unfolding digits within row_bit axis_fits verb_of
returns-clause-end_missing c = decided (alone 0) end_missing

pub returns-clause-two_tasks : goal.returns-clause-two_tasks
unfolding digits within row_bit axis_fits verb_of
returns-clause-two_tasks c = decided (with_order 0) two_tasks

pub returns-clause-task_again : goal.returns-clause-task_again
unfolding digits within row_bit axis_fits verb_of
returns-clause-task_again c = decided (with_order 0) task_again

pub returns-clause-verb_in_capitals : goal.returns-clause-verb_in_capitals
unfolding digits within row_bit axis_fits verb_of
returns-clause-verb_in_capitals c = decided (alone 0) verb_in_capitals

pub returns-clause-task_missing : goal.returns-clause-task_missing
unfolding digits within row_bit axis_fits verb_of
returns-clause-task_missing c = decided (alone 0) task_missing

pub returns-clause-all_parts : goal.returns-clause-all_parts
unfolding digits within row_bit axis_fits verb_of
returns-clause-all_parts c = decided (alone 0) all_parts
