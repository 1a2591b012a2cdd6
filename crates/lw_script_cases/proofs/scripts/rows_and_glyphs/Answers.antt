use Rattle.std.specs.Fmt.{digits}
use Rattle.lw_region.specs.Rectangle.{within}
use Rattle.lw_planes.specs.Row.{row_bit}
use Rattle.lw_calls.specs.Limits.{axis_fits}
use Rattle.lw_grammar.specs.Verbs.{verb_of}
use Rattle.lw_script_cases.proofs.Decided.{decided}
use Rattle.lw_script_cases.specs.WholeScripts.{alone, row, row_too_short, row_of_32, padding_bit, rows_apart, rows_missing, row_in_capitals, bitmap_again, bitmap_of_9_planes, bitmap_without_columns, glyph_in_capitals, glyph_of_7f, glyph_again, glyph_too_short}
use Rattle.lw_script_cases.proofs.scripts.rows_and_glyphs.Goals as goal

pub returns-clause-row : goal.returns-clause-row
unfolding digits within row_bit axis_fits verb_of
returns-clause-row c = decided (alone 0) row

pub returns-clause-row_too_short : goal.returns-clause-row_too_short
unfolding digits within row_bit axis_fits verb_of
returns-clause-row_too_short c = decided (alone 0) row_too_short

pub returns-clause-row_of_32 : goal.returns-clause-row_of_32
unfolding digits within row_bit axis_fits verb_of
returns-clause-row_of_32 c = decided (alone 0) row_of_32

pub returns-clause-padding_bit : goal.returns-clause-padding_bit
unfolding digits within row_bit axis_fits verb_of
returns-clause-padding_bit c = decided (alone 0) padding_bit

pub returns-clause-rows_apart : goal.returns-clause-rows_apart
unfolding digits within row_bit axis_fits verb_of
returns-clause-rows_apart c = decided (alone 0) rows_apart

pub returns-clause-rows_missing : goal.returns-clause-rows_missing
unfolding digits within row_bit axis_fits verb_of
returns-clause-rows_missing c = decided (alone 0) rows_missing

pub returns-clause-row_in_capitals : goal.returns-clause-row_in_capitals
unfolding digits within row_bit axis_fits verb_of
returns-clause-row_in_capitals c = decided (alone 0) row_in_capitals

pub returns-clause-bitmap_again : goal.returns-clause-bitmap_again
unfolding digits within row_bit axis_fits verb_of
returns-clause-bitmap_again c = decided (alone 0) bitmap_again

pub returns-clause-bitmap_of_9_planes : goal.returns-clause-bitmap_of_9_planes
unfolding digits within row_bit axis_fits verb_of
returns-clause-bitmap_of_9_planes c = decided (alone 0) bitmap_of_9_planes

pub returns-clause-bitmap_without_columns : goal.returns-clause-bitmap_without_columns
unfolding digits within row_bit axis_fits verb_of
returns-clause-bitmap_without_columns c = decided (alone 0) bitmap_without_columns

pub returns-clause-glyph_in_capitals : goal.returns-clause-glyph_in_capitals
unfolding digits within row_bit axis_fits verb_of
returns-clause-glyph_in_capitals c = decided (alone 0) glyph_in_capitals

pub returns-clause-glyph_of_7f : goal.returns-clause-glyph_of_7f
unfolding digits within row_bit axis_fits verb_of
returns-clause-glyph_of_7f c = decided (alone 0) glyph_of_7f

pub returns-clause-glyph_again : goal.returns-clause-glyph_again
unfolding digits within row_bit axis_fits verb_of
returns-clause-glyph_again c = decided (alone 0) glyph_again

pub returns-clause-glyph_too_short : goal.returns-clause-glyph_too_short
unfolding digits within row_bit axis_fits verb_of
returns-clause-glyph_too_short c = decided (alone 0) glyph_too_short
