use Rattle.std.specs.Fmt.{digits}
use Rattle.lw_region.specs.Rectangle.{within}
use Rattle.lw_planes.specs.Row.{row_bit}
use Rattle.lw_calls.specs.Limits.{axis_fits}
use Rattle.lw_grammar.specs.Verbs.{verb_of}
use Rattle.lw_script_cases.proofs.Decided.{decided}
use Rattle.lw_script_cases.specs.WholeScripts.{alone, lock_of_nothing, lock_of_a_fill, lock_of_another, lock_in_lock, hold_in_lock, end_in_lock, end_with_a_word, unlock_of_another, unlock_alone, which_in_lock, region_in_lock, blit_in_lock, blit_of_two_in_lock, refresh_in_lock, endrefresh_in_lock, endrefresh_alone, endrefresh_fully, update_of_a_fill, update_of_nothing, update_in_update, update_without_end, create_in_lock, hold_of_a_create, hold_of_nothing, fill_in_hold, which_in_hold, move_in_hold, release_alone}
use Rattle.lw_script_cases.proofs.scripts.groups_of_calls.Goals as goal

pub returns-clause-lock_of_nothing : goal.returns-clause-lock_of_nothing
unfolding digits within row_bit axis_fits verb_of
returns-clause-lock_of_nothing c = decided (alone 0) lock_of_nothing

pub returns-clause-lock_of_a_fill : goal.returns-clause-lock_of_a_fill
unfolding digits within row_bit axis_fits verb_of
returns-clause-lock_of_a_fill c = decided (alone 0) lock_of_a_fill

pub returns-clause-lock_of_another : goal.returns-clause-lock_of_another
unfolding digits within row_bit axis_fits verb_of
returns-clause-lock_of_another c = decided (alone 0) lock_of_another

pub returns-clause-lock_in_lock : goal.returns-clause-lock_in_lock
unfolding digits within row_bit axis_fits verb_of
returns-clause-lock_in_lock c = decided (alone 0) lock_in_lock

pub returns-clause-hold_in_lock : goal.returns-clause-hold_in_lock
unfolding digits within row_bit axis_fits verb_of
returns-clause-hold_in_lock c = decided (alone 0) hold_in_lock

pub returns-clause-end_in_lock : goal.returns-clause-end_in_lock
unfolding digits within row_bit axis_fits verb_of
returns-clause-end_in_lock c = decided (alone 0) end_in_lock

pub returns-clause-end_with_a_word : goal.returns-clause-end_with_a_word
unfolding digits within row_bit axis_fits verb_of
returns-clause-end_with_a_word c = decided (alone 0) end_with_a_word

pub returns-clause-unlock_of_another : goal.returns-clause-unlock_of_another
unfolding digits within row_bit axis_fits verb_of
returns-clause-unlock_of_another c = decided (alone 0) unlock_of_another

pub returns-clause-unlock_alone : goal.returns-clause-unlock_alone
unfolding digits within row_bit axis_fits verb_of
returns-clause-unlock_alone c = decided (alone 0) unlock_alone

pub returns-clause-which_in_lock : goal.returns-clause-which_in_lock
unfolding digits within row_bit axis_fits verb_of
returns-clause-which_in_lock c = decided (alone 0) which_in_lock

pub returns-clause-region_in_lock : goal.returns-clause-region_in_lock
unfolding digits within row_bit axis_fits verb_of
returns-clause-region_in_lock c = decided (alone 0) region_in_lock

pub returns-clause-blit_in_lock : goal.returns-clause-blit_in_lock
unfolding digits within row_bit axis_fits verb_of
returns-clause-blit_in_lock c = decided (alone 0) blit_in_lock

pub returns-clause-blit_of_two_in_lock : goal.returns-clause-blit_of_two_in_lock
unfolding digits within row_bit axis_fits verb_of
returns-clause-blit_of_two_in_lock c = decided (alone 0) blit_of_two_in_lock

pub returns-clause-refresh_in_lock : goal.returns-clause-refresh_in_lock
unfolding digits within row_bit axis_fits verb_of
returns-clause-refresh_in_lock c = decided (alone 0) refresh_in_lock

pub returns-clause-endrefresh_in_lock : goal.returns-clause-endrefresh_in_lock
unfolding digits within row_bit axis_fits verb_of
returns-clause-endrefresh_in_lock c = decided (alone 0) endrefresh_in_lock

pub returns-clause-endrefresh_alone : goal.returns-clause-endrefresh_alone
unfolding digits within row_bit axis_fits verb_of
returns-clause-endrefresh_alone c = decided (alone 0) endrefresh_alone

pub returns-clause-endrefresh_fully : goal.returns-clause-endrefresh_fully
unfolding digits within row_bit axis_fits verb_of
returns-clause-endrefresh_fully c = decided (alone 0) endrefresh_fully

pub returns-clause-update_of_a_fill : goal.returns-clause-update_of_a_fill
unfolding digits within row_bit axis_fits verb_of
returns-clause-update_of_a_fill c = decided (alone 0) update_of_a_fill

pub returns-clause-update_of_nothing : goal.returns-clause-update_of_nothing
unfolding digits within row_bit axis_fits verb_of
returns-clause-update_of_nothing c = decided (alone 0) update_of_nothing

pub returns-clause-update_in_update : goal.returns-clause-update_in_update
unfolding digits within row_bit axis_fits verb_of
returns-clause-update_in_update c = decided (alone 0) update_in_update

pub returns-clause-update_without_end : goal.returns-clause-update_without_end
unfolding digits within row_bit axis_fits verb_of
returns-clause-update_without_end c = decided (alone 0) update_without_end

pub returns-clause-create_in_lock : goal.returns-clause-create_in_lock
unfolding digits within row_bit axis_fits verb_of
returns-clause-create_in_lock c = decided (alone 0) create_in_lock

pub returns-clause-hold_of_a_create : goal.returns-clause-hold_of_a_create
unfolding digits within row_bit axis_fits verb_of
returns-clause-hold_of_a_create c = decided (alone 0) hold_of_a_create

pub returns-clause-hold_of_nothing : goal.returns-clause-hold_of_nothing
unfolding digits within row_bit axis_fits verb_of
returns-clause-hold_of_nothing c = decided (alone 0) hold_of_nothing

pub returns-clause-fill_in_hold : goal.returns-clause-fill_in_hold
unfolding digits within row_bit axis_fits verb_of
returns-clause-fill_in_hold c = decided (alone 0) fill_in_hold

pub returns-clause-which_in_hold : goal.returns-clause-which_in_hold
unfolding digits within row_bit axis_fits verb_of
returns-clause-which_in_hold c = decided (alone 0) which_in_hold

pub returns-clause-move_in_hold : goal.returns-clause-move_in_hold
unfolding digits within row_bit axis_fits verb_of
returns-clause-move_in_hold c = decided (alone 0) move_in_hold

pub returns-clause-release_alone : goal.returns-clause-release_alone
unfolding digits within row_bit axis_fits verb_of
returns-clause-release_alone c = decided (alone 0) release_alone
