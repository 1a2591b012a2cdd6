use Rattle.std.specs.Fmt.{digits}
use Rattle.lw_region.specs.Rectangle.{within}
use Rattle.lw_planes.specs.Row.{row_bit}
use Rattle.lw_calls.specs.Limits.{axis_fits}
use Rattle.lw_grammar.specs.Verbs.{verb_of}
use Rattle.lw_script_cases.proofs.Decided.{decided}
use Rattle.lw_script_cases.specs.WholeScripts.{alone, with_order, mode_8, mask_256, mask_255, register_8, regions_joined, names_64, names_65, names_65_by_blit, unlock_before_65, supers_16, supers_17, bitmaps_17, tasks_17}
use Rattle.lw_script_cases.proofs.scripts.limits_of_counts.Goals as goal

pub returns-clause-mode_8 : goal.returns-clause-mode_8
unfolding digits within row_bit axis_fits verb_of
returns-clause-mode_8 c = decided (alone 0) mode_8

pub returns-clause-mask_256 : goal.returns-clause-mask_256
unfolding digits within row_bit axis_fits verb_of
returns-clause-mask_256 c = decided (alone 0) mask_256

pub returns-clause-mask_255 : goal.returns-clause-mask_255
unfolding digits within row_bit axis_fits verb_of
returns-clause-mask_255 c = decided (alone 0) mask_255

pub returns-clause-register_8 : goal.returns-clause-register_8
unfolding digits within row_bit axis_fits verb_of
returns-clause-register_8 c = decided (alone 0) register_8

pub returns-clause-regions_joined : goal.returns-clause-regions_joined
unfolding digits within row_bit axis_fits verb_of
returns-clause-regions_joined c = decided (alone 0) regions_joined

pub returns-clause-names_64 : goal.returns-clause-names_64
unfolding digits within row_bit axis_fits verb_of
returns-clause-names_64 c = decided (alone 0) names_64

pub returns-clause-names_65 : goal.returns-clause-names_65
unfolding digits within row_bit axis_fits verb_of
returns-clause-names_65 c = decided (alone 0) names_65

pub returns-clause-names_65_by_blit : goal.returns-clause-names_65_by_blit
unfolding digits within row_bit axis_fits verb_of
returns-clause-names_65_by_blit c = decided (alone 0) names_65_by_blit

pub returns-clause-unlock_before_65 : goal.returns-clause-unlock_before_65
unfolding digits within row_bit axis_fits verb_of
returns-clause-unlock_before_65 c = decided (alone 0) unlock_before_65

pub returns-clause-supers_16 : goal.returns-clause-supers_16
unfolding digits within row_bit axis_fits verb_of
returns-clause-supers_16 c = decided (alone 0) supers_16

pub returns-clause-supers_17 : goal.returns-clause-supers_17
unfolding digits within row_bit axis_fits verb_of
returns-clause-supers_17 c = decided (alone 0) supers_17

pub returns-clause-bitmaps_17 : goal.returns-clause-bitmaps_17
unfolding digits within row_bit axis_fits verb_of
returns-clause-bitmaps_17 c = decided (alone 0) bitmaps_17

pub returns-clause-tasks_17 : goal.returns-clause-tasks_17
unfolding digits within row_bit axis_fits verb_of
returns-clause-tasks_17 c = decided (with_order 0) tasks_17
