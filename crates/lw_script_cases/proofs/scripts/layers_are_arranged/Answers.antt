use Rattle.std.specs.Fmt.{digits}
use Rattle.lw_region.specs.Rectangle.{within}
use Rattle.lw_planes.specs.Row.{row_bit}
use Rattle.lw_calls.specs.Limits.{axis_fits}
use Rattle.lw_grammar.specs.Verbs.{verb_of}
use Rattle.lw_script_cases.proofs.Decided.{decided}
use Rattle.lw_script_cases.specs.WholeScripts.{alone, creations, arrangements, arrangements_in_hold, look_and_scroll, scroll_in_lock}
use Rattle.lw_script_cases.proofs.scripts.layers_are_arranged.Goals as goal

pub returns-clause-creations : goal.returns-clause-creations
unfolding digits within row_bit axis_fits verb_of
returns-clause-creations c = decided (alone 0) creations

pub returns-clause-arrangements : goal.returns-clause-arrangements
unfolding digits within row_bit axis_fits verb_of
returns-clause-arrangements c = decided (alone 0) arrangements

pub returns-clause-arrangements_in_hold : goal.returns-clause-arrangements_in_hold
unfolding digits within row_bit axis_fits verb_of
returns-clause-arrangements_in_hold c = decided (alone 0) arrangements_in_hold

pub returns-clause-look_and_scroll : goal.returns-clause-look_and_scroll
unfolding digits within row_bit axis_fits verb_of
returns-clause-look_and_scroll c = decided (alone 0) look_and_scroll

pub returns-clause-scroll_in_lock : goal.returns-clause-scroll_in_lock
unfolding digits within row_bit axis_fits verb_of
returns-clause-scroll_in_lock c = decided (alone 0) scroll_in_lock
