use Rattle.std.proofs.Common.{List, ◌++◌, map, sym, subst, OnOk}
use Rattle.lw_region.specs.Rectangle.{Rectangle}
use Rattle.lw_grammar.specs.Told.{area_lines, told}
use Rattle.lw_grammar.specs.Script.{added}
use Rattle.lw_grammar.specs.GoodLines.{AreGoodLines}
use Rattle.lw_statements.specs.declared.statement.Statement.{Statement}
use Rattle.lw_statements.specs.StatementMeaning.{statement_meaning}
use Rattle.lw_reader.specs.declared.read_line.ReadLine.{ReadLine}
use Rattle.lw_line_additions.specs.Added.{CanAddRead}
use Rattle.lw_reader.specs.LinesRead.{lines_of}
use Rattle.lw_reader.specs.LinesRead.{opened_lines}
use Rattle.lw_reader.specs.Represents.{Represents}
use Rattle.lw_line_additions.proofs.AreasAdded.{area_addable}
use Rattle.lw_line_additions.proofs.lines.add_read.Goals as goal

pub add-requires : goal.add-requires
add-requires c = subst (CanAddRead c.args.reader.now) c.in-Statement.is c.requires

pub add_area-requires : goal.add_area-requires
add_area-requires c =
    let h = subst (CanAddRead c.args.reader.now) c.in-Area.is c.requires in
    area_addable c.args.reader.now c.in-Area.layer.now c.as_slice.result.now c.in-Area.rects.items h.0 h.1 c.as_slice.ensures.value h.2 h.3

pub returns-in-Statement : goal.returns-in-Statement
returns-in-Statement c = λ s above k.
    let P : ReadLine → Type 0 = λ read. OnOk c.add.result (Represents s c.add.new.reader (added (lines_of (told above) read) above)) in
    subst P (sym c.in-Statement.is) (c.add.ensures s above k)

pub returns-in-Area : goal.returns-in-Area
returns-in-Area c = λ s above k.
    let P : ReadLine → Type 0 = λ read. OnOk c.add_area.result (Represents s c.add_area.new.reader (added (lines_of (told above) read) above)) in
    let Q : List Rectangle → Type 0 = λ rs. OnOk c.add_area.result (Represents s c.add_area.new.reader (added (area_lines (told above).group c.in-Area.layer.now rs) above)) in
    subst P (sym c.in-Area.is) (subst Q c.as_slice.ensures.value (c.add_area.ensures s above k))

pub add_gzz-requires : goal.add_gzz-requires
add_gzz-requires c =
    let h = subst (CanAddRead c.args.reader.now) c.in-Gzz.is c.requires in
    let P : List Statement → Type 0 = λ fs. AreGoodLines h.0 (added (map statement_meaning fs ++ opened_lines c.in-Gzz.opened) h.1) in
    (h.0, h.1, h.2, subst P (sym c.as_slice-in-Gzz.ensures.value) h.3)

pub returns-in-Gzz : goal.returns-in-Gzz
returns-in-Gzz c = λ s above k.
    let P : ReadLine → Type 0 = λ read. OnOk c.add_gzz.result (Represents s c.add_gzz.new.reader (added (lines_of (told above) read) above)) in
    let Q : List Statement → Type 0 = λ fs. OnOk c.add_gzz.result (Represents s c.add_gzz.new.reader (added (map statement_meaning fs ++ opened_lines c.in-Gzz.opened) above)) in
    subst P (sym c.in-Gzz.is) (subst Q c.as_slice-in-Gzz.ensures.value (c.add_gzz.ensures s above k))
