-- What a line adds that was read.
use Rattle.std.specs.Prelude.{List, [], ◌∷◌, ◌++◌, map, Option, Some, None}
use Rattle.lw_grammar.specs.Statements.{Statement, PairMade}
use Rattle.lw_grammar.specs.Told.{Told, area_lines}
use Rattle.lw_statements.specs.StatementMeaning.{statement_meaning}
use Rattle.lw_reader.specs.declared.read_line.ReadLine.{ReadLine}
use Rattle.lw_reader.specs.declared.read_line.ReadLine.TheVariants.{Statement as StatementRead, Area as AreaRead, Gzz as GzzRead}
use Rattle.lw_reader.specs.declared.state.NamedPair.{NamedPair}

-- the window that was opened, if one was, is made
abbrev pub opened_lines : Option NamedPair → List Statement
opened_lines None = []
opened_lines (Some p) = PairMade p.outer.now p.inner.now ∷ []

-- the statements that a line adds that was read
abbrev pub lines_of : Told → ReadLine → List Statement
lines_of t (StatementRead f) = statement_meaning f ∷ []
lines_of t (AreaRead layer rects) = area_lines t.group layer.now rects.items
lines_of t (GzzRead statements opened) = map statement_meaning statements.items ++ opened_lines opened
