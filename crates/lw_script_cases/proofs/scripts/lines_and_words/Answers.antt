use Rattle.std.specs.Fmt.{digits}
use Rattle.lw_region.specs.Rectangle.{within}
use Rattle.lw_planes.specs.Row.{row_bit}
use Rattle.lw_calls.specs.Limits.{axis_fits}
use Rattle.lw_grammar.specs.Verbs.{verb_of}
use Rattle.lw_script_cases.proofs.Decided.{decided}
use Rattle.lw_script_cases.specs.WholeScripts.{alone, comment_in_task, word_after_end, two_spaces, line_feed, empty, carriage_return, one_space, long_comment, line_of_512, line_of_513, second_task, second_task_apart, task_in_task, text_with_spaces, text_then_space, text_then_word, space_before_text, spaces_before_quote, quote_in_word, quote_alone, space_at_end, text_as_verb, empty_text, text_as_row}
use Rattle.lw_script_cases.proofs.scripts.lines_and_words.Goals as goal

pub returns-clause-line_feed : goal.returns-clause-line_feed
unfolding digits within row_bit axis_fits verb_of
returns-clause-line_feed c = decided (alone 0) line_feed

pub returns-clause-empty : goal.returns-clause-empty
unfolding digits within row_bit axis_fits verb_of
returns-clause-empty c = decided (alone 0) empty

pub returns-clause-carriage_return : goal.returns-clause-carriage_return
unfolding digits within row_bit axis_fits verb_of
returns-clause-carriage_return c = decided (alone 0) carriage_return

pub returns-clause-one_space : goal.returns-clause-one_space
unfolding digits within row_bit axis_fits verb_of
returns-clause-one_space c = decided (alone 0) one_space

pub returns-clause-long_comment : goal.returns-clause-long_comment
unfolding digits within row_bit axis_fits verb_of
returns-clause-long_comment c = decided (alone 0) long_comment

pub returns-clause-line_of_512 : goal.returns-clause-line_of_512
unfolding digits within row_bit axis_fits verb_of
returns-clause-line_of_512 c = decided (alone 0) line_of_512

pub returns-clause-line_of_513 : goal.returns-clause-line_of_513
unfolding digits within row_bit axis_fits verb_of
returns-clause-line_of_513 c = decided (alone 0) line_of_513

pub returns-clause-second_task : goal.returns-clause-second_task
unfolding digits within row_bit axis_fits verb_of
returns-clause-second_task c = decided (alone 0) second_task

pub returns-clause-second_task_apart : goal.returns-clause-second_task_apart
unfolding digits within row_bit axis_fits verb_of
returns-clause-second_task_apart c = decided (alone 0) second_task_apart

pub returns-clause-task_in_task : goal.returns-clause-task_in_task
unfolding digits within row_bit axis_fits verb_of
returns-clause-task_in_task c = decided (alone 0) task_in_task

pub returns-clause-text_with_spaces : goal.returns-clause-text_with_spaces
unfolding digits within row_bit axis_fits verb_of
returns-clause-text_with_spaces c = decided (alone 0) text_with_spaces

pub returns-clause-text_then_space : goal.returns-clause-text_then_space
unfolding digits within row_bit axis_fits verb_of
returns-clause-text_then_space c = decided (alone 0) text_then_space

pub returns-clause-text_then_word : goal.returns-clause-text_then_word
unfolding digits within row_bit axis_fits verb_of
returns-clause-text_then_word c = decided (alone 0) text_then_word

pub returns-clause-space_before_text : goal.returns-clause-space_before_text
unfolding digits within row_bit axis_fits verb_of
returns-clause-space_before_text c = decided (alone 0) space_before_text

pub returns-clause-spaces_before_quote : goal.returns-clause-spaces_before_quote
unfolding digits within row_bit axis_fits verb_of
returns-clause-spaces_before_quote c = decided (alone 0) spaces_before_quote

pub returns-clause-quote_in_word : goal.returns-clause-quote_in_word
unfolding digits within row_bit axis_fits verb_of
returns-clause-quote_in_word c = decided (alone 0) quote_in_word

pub returns-clause-quote_alone : goal.returns-clause-quote_alone
unfolding digits within row_bit axis_fits verb_of
returns-clause-quote_alone c = decided (alone 0) quote_alone

pub returns-clause-space_at_end : goal.returns-clause-space_at_end
unfolding digits within row_bit axis_fits verb_of
returns-clause-space_at_end c = decided (alone 0) space_at_end

pub returns-clause-text_as_verb : goal.returns-clause-text_as_verb
unfolding digits within row_bit axis_fits verb_of
returns-clause-text_as_verb c = decided (alone 0) text_as_verb

pub returns-clause-empty_text : goal.returns-clause-empty_text
unfolding digits within row_bit axis_fits verb_of
returns-clause-empty_text c = decided (alone 0) empty_text

pub returns-clause-text_as_row : goal.returns-clause-text_as_row
unfolding digits within row_bit axis_fits verb_of
returns-clause-text_as_row c = decided (alone 0) text_as_row

pub returns-clause-comment_in_task : goal.returns-clause-comment_in_task
unfolding digits within row_bit axis_fits verb_of
returns-clause-comment_in_task c = decided (alone 0) comment_in_task

pub returns-clause-word_after_end : goal.returns-clause-word_after_end
unfolding digits within row_bit axis_fits verb_of
returns-clause-word_after_end c = decided (alone 0) word_after_end

pub returns-clause-two_spaces : goal.returns-clause-two_spaces
unfolding digits within row_bit axis_fits verb_of
returns-clause-two_spaces c = decided (alone 0) two_spaces
