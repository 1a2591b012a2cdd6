use Rattle.std.specs.Fmt.{digits}
use Rattle.lw_region.specs.Rectangle.{within}
use Rattle.lw_planes.specs.Row.{row_bit}
use Rattle.lw_calls.specs.Limits.{axis_fits}
use Rattle.lw_grammar.specs.Verbs.{verb_of}
use Rattle.lw_script_cases.proofs.Decided.{decided}
use Rattle.lw_script_cases.specs.WholeScripts.{alone, raster_changes, drawing, drawing_in_lock}
use Rattle.lw_script_cases.proofs.scripts.layers_are_drawn_on.Goals as goal

pub returns-clause-raster_changes : goal.returns-clause-raster_changes
unfolding digits within row_bit axis_fits verb_of
returns-clause-raster_changes c = decided (alone 0) raster_changes

pub returns-clause-drawing : goal.returns-clause-drawing
unfolding digits within row_bit axis_fits verb_of
returns-clause-drawing c = decided (alone 0) drawing

pub returns-clause-drawing_in_lock : goal.returns-clause-drawing_in_lock
unfolding digits within row_bit axis_fits verb_of
returns-clause-drawing_in_lock c = decided (alone 0) drawing_in_lock
