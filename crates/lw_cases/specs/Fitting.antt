-- Worked cases.
-- The worked plans, and the test that a plan's calls and groups fit its sizes.
use Rattle.std.specs.Prelude.{Bool, ◌&&◌, List, [], ◌∷◌, ◌++◌}
use Rattle.std.specs.List.{list_all, range_with_len}
use Rattle.lw_calls.specs.Limits.{call_fits}
use Rattle.lw_calls.specs.Plan.{Plan, task_calls, task_groups, groups_fit}
use Rattle.lw_cases.specs.Plans.{fill}
use Rattle.lw_cases.specs.Arranging.{simple_move, which_in_front, drawn_after_arrangements}
use Rattle.lw_cases.specs.Copying.{put_deep, put_flat, put_beyond, blit_to_hidden, put_masked}
use Rattle.lw_cases.specs.Directions.{flat_lines, steep_lines, lines_from_outside}
use Rattle.lw_cases.specs.Drawing.{first_fill, padded_row, fill_outside, line_complemented_twice, inverse_text, blit_away}
use Rattle.lw_cases.specs.Frames.{first_activated_again, frame_uncovered, frame_narrowed, frame_painted_again, frame_covered}
use Rattle.lw_cases.specs.Frames.{activated_twice, inverse_title, updated_title}
use Rattle.lw_cases.specs.Hooks.{refreshed_in_full, hook_turned, checkered_again, tiled, created_covered, hooks_cut}
use Rattle.lw_cases.specs.Hooks.{grown_under_a_cover, grown_twice}
use Rattle.lw_cases.specs.Modes.{masked_fills, masked_raster, letters_jam1, letters_complemented, letters_at_edges}
use Rattle.lw_cases.specs.Modes.{letters_far_off, inverse_shapes, masked_shapes, pixels_complemented, read_while_masked}
use Rattle.lw_cases.specs.Orders.{two_layers, locked_fills, beside_a_hold, beside_a_lock, beside_two_locks, blit_of}
use Rattle.lw_cases.specs.Owners.{foreign_window, own_registers}
use Rattle.lw_cases.specs.Refusals.{refused_calls, backdrop_closed, first_causes, made_too_small}
use Rattle.lw_cases.specs.Registers.{clipped, joined, joined_to_itself, filled_up}
use Rattle.lw_cases.specs.Scrolling.{scroll_past_all, scroll_damage, portion_scrolled, scroll_right_down, scroll_masked}
use Rattle.lw_cases.specs.Scrolling.{scroll_updated, scroll_in_frame, scroll_from_damage, scroll_by_nothing}
use Rattle.lw_cases.specs.Scrolling.{scroll_beside_damage, scroll_in_column}
use Rattle.lw_cases.specs.SlotsAndTasks.{by_the_second, no_groups, drawn, drawn_groups, arranged, hooked, with_one_hook}
use Rattle.lw_cases.specs.Strokes.{line_of_no_length}
use Rattle.lw_cases.specs.Stacking.{put_first, backdrop_in_front, put_behind, backdrops_created}
use Rattle.lw_cases.specs.SuperBitmaps.{scrolls_refused, super_updated, super_uncovered, super_window, portion_clipped}
use Rattle.lw_cases.specs.SuperBitmaps.{hidden_part_copied, hidden_part_drawn, hidden_part_painted, one_scrolled}
use Rattle.lw_cases.specs.SuperBitmaps.{scrolled_both_ways}
use Rattle.lw_cases.specs.Reading.{pixels_covered, fill_from_outside}
use Rattle.lw_cases.specs.Updates.{updated_in_full, asked_after_scroll, damaged_untold, updated_in_clip}
use Rattle.lw_cases.specs.Windows.{uncovered_again, active_title, frame_too_narrow, box_told, activated_behind}

-- worked plans that draw
abbrev pub drawing_plans : List Plan
drawing_plans =
    first_fill ∷ padded_row ∷ fill_outside ∷ line_complemented_twice ∷ inverse_text ∷ blit_away ∷ put_deep ∷ put_flat ∷
    put_beyond ∷ blit_to_hidden ∷ put_masked ∷ pixels_covered ∷ fill_from_outside ∷ flat_lines ∷ steep_lines ∷
    lines_from_outside ∷ masked_fills ∷ masked_raster ∷ letters_jam1 ∷ letters_complemented ∷ letters_at_edges ∷
    letters_far_off ∷ inverse_shapes ∷ masked_shapes ∷ pixels_complemented ∷ read_while_masked ∷ line_of_no_length ∷ []

-- worked plans with registers, scrolls and super-bitmap layers
abbrev pub scrolling_plans : List Plan
scrolling_plans =
    clipped ∷ joined ∷ joined_to_itself ∷ filled_up ∷ scroll_past_all ∷ scroll_damage ∷ portion_scrolled ∷
    scroll_right_down ∷ scroll_masked ∷ scroll_updated ∷ scroll_in_frame ∷ scroll_from_damage ∷ scroll_by_nothing ∷
    scroll_beside_damage ∷ scroll_in_column ∷ scrolls_refused ∷ super_updated ∷ super_uncovered ∷ super_window ∷ portion_clipped ∷
    hidden_part_copied ∷ hidden_part_drawn ∷ hidden_part_painted ∷ one_scrolled ∷ scrolled_both_ways ∷ []

-- worked plans that arrange layers
abbrev pub arranging_plans : List Plan
arranging_plans =
    simple_move ∷ which_in_front ∷ put_first ∷ backdrop_in_front ∷ put_behind ∷ backdrops_created ∷ refused_calls ∷
    backdrop_closed ∷ first_causes ∷ made_too_small ∷ refreshed_in_full ∷ hook_turned ∷ checkered_again ∷ tiled ∷
    created_covered ∷ hooks_cut ∷ grown_under_a_cover ∷ grown_twice ∷ drawn_after_arrangements ∷ []

-- worked plans with windows, and with two tasks
abbrev pub window_plans : List Plan
window_plans =
    uncovered_again ∷ active_title ∷ frame_too_narrow ∷ box_told ∷ first_activated_again ∷ frame_uncovered ∷
    updated_in_full ∷ asked_after_scroll ∷ damaged_untold ∷ updated_in_clip ∷ frame_narrowed ∷ frame_painted_again ∷
    frame_covered ∷ activated_behind ∷ activated_twice ∷ inverse_title ∷ updated_title ∷ []

abbrev pub plans_of_two_tasks : List Plan
plans_of_two_tasks =
    two_layers ∷ locked_fills ∷ foreign_window ∷ own_registers ∷ beside_a_hold (fill 1 0 0 0 0) ∷
    beside_a_lock (blit_of 0 1) ∷ beside_two_locks (blit_of 1 0) ∷ by_the_second drawn drawn_groups ∷
    by_the_second arranged no_groups ∷ with_one_hook (by_the_second hooked no_groups) ∷ []

-- the worked plans that scripts spell, but those of which another has all calls and more
abbrev pub worked_plans : List Plan
worked_plans = drawing_plans ++ scrolling_plans ++ arranging_plans ++ window_plans ++ plans_of_two_tasks

-- every call of the plan fits its sizes, and each task's groups fit
abbrev pub fits_its_sizes : Plan → Bool
fits_its_sizes p =
    list_all (λ t. list_all (call_fits p.sizes) (task_calls p t)
    && groups_fit (task_calls p t) (task_groups p t)) (range_with_len 0 p.sizes.tasks)
