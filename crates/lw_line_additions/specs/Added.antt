-- What is added of a line that was read.
use Rattle.std.specs.Prelude.{ℕ, List, [], ◌∷◌, ◌++◌}
use Rattle.lw_region.specs.Rectangle.{Rectangle}
use Rattle.lw_grammar.specs.Statements.{Statement, LockLine, UnlockLine}
use Rattle.lw_grammar.specs.Told.{fill_lines, told}
use Rattle.lw_grammar.specs.Script.{Setting, added}
use Rattle.lw_grammar.specs.GoodLines.{AreGoodLines}
use Rattle.lw_reader.specs.declared.read_line.ReadLine.{ReadLine}
use Rattle.lw_reader.specs.declared.state.Reader.{Reader}
use Rattle.lw_reader.specs.Represents.{Represents}
use Rattle.lw_reader.specs.LinesRead.{lines_of}

-- the fills of a layer as a lock group
abbrev pub locked_fills : List ℕ → List Rectangle → List Statement
locked_fills layer rects = LockLine layer ∷ fill_lines layer rects ++ UnlockLine layer ∷ []

-- the reader represents lines below which all that the line adds is good
abbrev pub CanAddRead : Reader → ReadLine → Type 0
CanAddRead r read =
    (s : Setting) × (above : List Statement) × Represents s r above × AreGoodLines s (added (lines_of (told above) read) above)
