use Rattle.std.specs.Fmt.{digits}
use Rattle.lw_region.specs.Rectangle.{within}
use Rattle.lw_planes.specs.Row.{row_bit}
use Rattle.lw_calls.specs.Limits.{axis_fits}
use Rattle.lw_grammar.specs.Verbs.{verb_of}
use Rattle.lw_script_cases.proofs.Decided.{decided}
use Rattle.lw_script_cases.specs.WholeScripts.{alone, screened, empty, plus_sign, zeros_before_7, maximum_of_5_below_9, maximum_of_40000, zero_apart, text_before_a_word, unknown_verb, glyph_in_task, blit_by_c1, put_without_bitmap, unlock_at_once, hook_6, lock_and_unlock}
use Rattle.lw_script_cases.proofs.scripts.stated_refusals.Goals as goal

pub returns-clause-plus_sign : goal.returns-clause-plus_sign
unfolding digits within row_bit axis_fits verb_of
returns-clause-plus_sign c = decided (alone 0) plus_sign

pub returns-clause-zeros_before_7 : goal.returns-clause-zeros_before_7
unfolding digits within row_bit axis_fits verb_of
returns-clause-zeros_before_7 c = decided (alone 0) zeros_before_7

pub returns-clause-maximum_of_5_below_9 : goal.returns-clause-maximum_of_5_below_9
unfolding digits within row_bit axis_fits verb_of
returns-clause-maximum_of_5_below_9 c = decided (alone 0) maximum_of_5_below_9

pub returns-clause-maximum_of_40000 : goal.returns-clause-maximum_of_40000
unfolding digits within row_bit axis_fits verb_of
returns-clause-maximum_of_40000 c = decided (alone 0) maximum_of_40000

pub returns-clause-zero_apart : goal.returns-clause-zero_apart
unfolding digits within row_bit axis_fits verb_of
returns-clause-zero_apart c = decided (alone 0) zero_apart

pub returns-clause-text_before_a_word : goal.returns-clause-text_before_a_word
unfolding digits within row_bit axis_fits verb_of
returns-clause-text_before_a_word c = decided (alone 0) text_before_a_word

pub returns-clause-unknown_verb : goal.returns-clause-unknown_verb
unfolding digits within row_bit axis_fits verb_of
returns-clause-unknown_verb c = decided (alone 0) unknown_verb

pub returns-clause-glyph_in_task : goal.returns-clause-glyph_in_task
unfolding digits within row_bit axis_fits verb_of
returns-clause-glyph_in_task c = decided (alone 0) glyph_in_task

pub returns-clause-blit_by_c1 : goal.returns-clause-blit_by_c1
unfolding digits within row_bit axis_fits verb_of
returns-clause-blit_by_c1 c = decided (alone 0) blit_by_c1

pub returns-clause-put_without_bitmap : goal.returns-clause-put_without_bitmap
unfolding digits within row_bit axis_fits verb_of
returns-clause-put_without_bitmap c = decided (alone 0) put_without_bitmap

pub returns-clause-unlock_at_once : goal.returns-clause-unlock_at_once
unfolding digits within row_bit axis_fits verb_of
returns-clause-unlock_at_once c = decided (alone 0) unlock_at_once

pub returns-clause-hook_6 : goal.returns-clause-hook_6
unfolding digits within row_bit axis_fits verb_of
returns-clause-hook_6 c = decided (alone 0) hook_6

pub returns-clause-lock_and_unlock : goal.returns-clause-lock_and_unlock
unfolding digits within row_bit axis_fits verb_of
returns-clause-lock_and_unlock c = decided (alone 0) lock_and_unlock

pub returns-clause-hook_6_of_6 : goal.returns-clause-hook_6_of_6
unfolding digits within row_bit axis_fits verb_of
returns-clause-hook_6_of_6 c = decided (alone 6) hook_6

pub returns-clause-task_missing : goal.returns-clause-task_missing
unfolding digits within row_bit axis_fits verb_of
returns-clause-task_missing c = decided (alone 0) screened

pub returns-clause-screen_missing : goal.returns-clause-screen_missing
unfolding digits within row_bit axis_fits verb_of
returns-clause-screen_missing c = decided (alone 0) empty
