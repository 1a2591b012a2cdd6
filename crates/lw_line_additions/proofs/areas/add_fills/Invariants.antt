use Rattle.std.proofs.Common.{◌≡◌, List, drop}
use Rattle.lw_grammar.specs.Statements.{Statement}
use Rattle.lw_grammar.specs.Told.{fill_lines}
use Rattle.lw_grammar.specs.Script.{Setting, added}
use Rattle.lw_reader.specs.Represents.{Represents, CanAddAll}
use Rattle.lw_line_additions.proofs.areas.add_fills.Given as goal

-- The fills that are left can be added, and give with those so far what all of them give.
abbrev pub invariant-loop-rect : goal.invariant-loop-rect
invariant-loop-rect l =
    record {
      can : CanAddAll l.reader (fill_lines l.layer (drop l.rect-index l.rects));
      left : (s : Setting) (above : List Statement) → Represents s l.initial.reader above → (new : List Statement) × Represents s l.reader new × (added (fill_lines l.layer (drop l.rect-index l.rects)) new ≡ added (fill_lines l.layer l.rects) above);
    }
