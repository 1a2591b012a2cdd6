use Rattle.std.specs.Fmt.{digits}
use Rattle.lw_region.specs.Rectangle.{within}
use Rattle.lw_planes.specs.Row.{row_bit}
use Rattle.lw_calls.specs.Limits.{axis_fits}
use Rattle.lw_grammar.specs.Verbs.{verb_of}
use Rattle.lw_script_cases.proofs.Decided.{decided}
use Rattle.lw_script_cases.specs.WholeScripts.{alone, bitmap_unknown, minterm_c1, minterm_in_capitals, put_of_a_bitmap, put_of_no_columns}
use Rattle.lw_script_cases.proofs.scripts.bitmaps_and_minterms.Goals as goal

pub returns-clause-bitmap_unknown : goal.returns-clause-bitmap_unknown
unfolding digits within row_bit axis_fits verb_of
returns-clause-bitmap_unknown c = decided (alone 0) bitmap_unknown

pub returns-clause-minterm_c1 : goal.returns-clause-minterm_c1
unfolding digits within row_bit axis_fits verb_of
returns-clause-minterm_c1 c = decided (alone 0) minterm_c1

pub returns-clause-minterm_in_capitals : goal.returns-clause-minterm_in_capitals
unfolding digits within row_bit axis_fits verb_of
returns-clause-minterm_in_capitals c = decided (alone 0) minterm_in_capitals

pub returns-clause-put_of_a_bitmap : goal.returns-clause-put_of_a_bitmap
unfolding digits within row_bit axis_fits verb_of
returns-clause-put_of_a_bitmap c = decided (alone 0) put_of_a_bitmap

pub returns-clause-put_of_no_columns : goal.returns-clause-put_of_no_columns
unfolding digits within row_bit axis_fits verb_of
returns-clause-put_of_no_columns c = decided (alone 0) put_of_no_columns
