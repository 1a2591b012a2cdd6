use Rattle.std.proofs.Common.{◌≡◌, ℕ, ◌+◌, ◌<◌, ◌≤◌, List, length, []}
use Rattle.lw_grammar.specs.Lines.{lines}
use Rattle.lw_display.specs.Shows.{ShowInput}
use Rattle.lw_display.specs.ShowRule.{bytes_of, shown_by}
use Rattle.lw_display.specs.ShowMeaning.{begun, in_scene}
use Rattle.lw_display.proofs.ScriptLines.{AreLines}
use Rattle.lw_display.proofs.scene.read_scene.Given as goal

-- these lines of the script were read: all lines from its first give what those that are left give below these
abbrev pub invariant-loop-line : goal.invariant-loop-line
invariant-loop-line l =
    record {
      read : List (List ℕ);
      whole : AreLines read;
      left : (name : List ℕ) (top : ℕ) (v : ShowInput) → shown_by (l.fn.above + 1) (in_scene (begun name top l.fn.above []) v) (lines l.bytes) ≡ shown_by l.number (in_scene (begun name top l.fn.above read) v) (lines l.rest);
      script : l.script.items ≡ bytes_of read;
      number : l.number ≡ l.fn.above + 1 + length read;
      count : l.number + length l.rest ≤ l.fn.above + 1 + length l.bytes;
      room : length (bytes_of read) ≤ length l.bytes + 1;
      fed : 0 < length l.rest → length (bytes_of read) + length l.rest ≤ length l.bytes;
      short : length l.rest ≤ length l.bytes;
    }

abbrev pub decreases-loop-line : goal.decreases-loop-line
decreases-loop-line l = length l.rest
