use Rattle.std.proofs.Common.{◌≡◌, ◌+◌, ◌-◌, ◌≤◌, length, min}
use Rattle.lw_grammar.specs.Script.{reading_with}
use Rattle.lw_grammar.specs.Reading.{Reached, at_the_top, lines_read}
use Rattle.lw_grammar.specs.GoodLines.{AreGoodLines}
use Rattle.lw_grammar.specs.Lines.{lines}
use Rattle.lw_reader.specs.Represents.{Represents}
use Rattle.lw_script.proofs.script.read_lines.Given as goal

-- the reader represents good lines, and this is how far they were read: all lines give what those that are left give below
-- these
abbrev pub invariant-loop-line : goal.invariant-loop-line
invariant-loop-line l =
    record {
      reached : Reached;
      stands : Represents (reading_with l.fn.hooks l.fn.form) l.reader reached.statements;
      good : AreGoodLines (reading_with l.fn.hooks l.fn.form) reached.statements;
      number : reached.number ≡ l.number;
      left : lines_read (reading_with l.fn.hooks l.fn.form) at_the_top (lines l.bytes) ≡ lines_read (reading_with l.fn.hooks l.fn.form) reached (lines l.rest);
      place : min (length l.bytes) reached.place ≡ length l.bytes - length l.rest;
      short : length l.rest ≤ length l.bytes;
      count : l.number + length l.rest ≤ length l.bytes + 1;
    }

abbrev pub decreases-loop-line : goal.decreases-loop-line
decreases-loop-line l = length l.rest
