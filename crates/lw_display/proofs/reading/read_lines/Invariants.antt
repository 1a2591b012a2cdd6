use Rattle.std.proofs.Common.{◌≡◌, ◌+◌, ◌≤◌, length}
use Rattle.lw_grammar.specs.Lines.{lines}
use Rattle.lw_display.specs.ShowRule.{show_of, shown_by}
use Rattle.lw_display.specs.ShowMeaning.{told_of, IsNamed}
use Rattle.lw_display.proofs.reading.read_lines.Given as goal

-- all lines give what those that are left give below what was read
abbrev pub invariant-loop-line : goal.invariant-loop-line
invariant-loop-line l =
    record {
      left : show_of l.bytes ≡ shown_by l.number (told_of l.reader) (lines l.rest);
      named : IsNamed l.reader;
      count : l.number + length l.rest ≤ length l.bytes + 1;
      short : length l.rest ≤ length l.bytes;
    }

abbrev pub decreases-loop-line : goal.decreases-loop-line
decreases-loop-line l = length l.rest
