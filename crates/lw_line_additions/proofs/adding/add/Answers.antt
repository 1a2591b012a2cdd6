use Rattle.std.proofs.Common.{refl, sym, subst, ◌∷◌, arith, List}
use Rattle.lw_grammar.specs.Script.{Setting}
use Rattle.lw_grammar.specs.Statements.{Statement as StatementValue, EndLine, OrderLine, ReportLine}
use Rattle.lw_statements.specs.declared.statement.Statement.{Statement}
use Rattle.lw_statements.specs.declared.section.Section.TheVariants.{Tasks, Numbers, Nothing}
use Rattle.lw_statements.specs.StatementMeaning.{statement_meaning}
use Rattle.lw_reader.specs.declared.state.Reader.{Reader}
use Rattle.lw_reader.specs.Represents.{Represents, CanAdd}
use Rattle.lw_line_additions.proofs.Addable.{in_64, screen_ranged, bitmap_ranged}
use Rattle.lw_line_additions.proofs.Passing.{same_screen, same_bitmap, on_done, turned_to, turned, in_version_2, version_told}
use Rattle.lw_line_additions.proofs.adding.add.Goals as goal

-- the reader represents the statement put on the lines above
abbrev Put : Setting → Reader → List StatementValue → Statement → Type 0
Put s r above f = Represents s r (statement_meaning f ∷ above)

pub returns-in-Layers : goal.returns-in-Layers
returns-in-Layers c = λ s above k.
    subst (Put s (in_version_2 c.args.reader.now) above) (sym c.in-Layers.is) (version_told s c.args.reader.now above k)

pub returns-in-End : goal.returns-in-End
returns-in-End c = λ s above k.
    subst (Put s (turned_to Tasks c.args.reader.now) above) (sym c.in-End.is) (turned s c.args.reader.now above EndLine Tasks refl (refl, refl, refl, refl, refl) refl refl k)

pub returns-in-Order : goal.returns-in-Order
returns-in-Order c = λ s above k.
    subst (Put s (turned_to Numbers c.args.reader.now) above) (sym c.in-Order.is) (turned s c.args.reader.now above OrderLine Numbers refl (refl, refl, refl, refl, refl) refl refl k)

pub returns-in-Report : goal.returns-in-Report
returns-in-Report c = λ s above k.
    subst (Put s (turned_to Nothing c.args.reader.now) above) (sym c.in-Report.is) (turned s c.args.reader.now above ReportLine Nothing refl (refl, refl, refl, refl, refl) refl refl k)

pub returns-in-Hold : goal.returns-in-Hold
returns-in-Hold c = λ s above k. subst (Put s c.add_hold.new.reader above) (sym c.in-Hold.is) (c.add_hold.ensures s above k)

pub returns-in-Glyph : goal.returns-in-Glyph
returns-in-Glyph c = λ s above k. subst (Put s c.add_glyph.new.reader above) (sym c.in-Glyph.is) (c.add_glyph.ensures s above k)

-- a line that can be added, by the statement that was read
abbrev Adds : Reader → Statement → Type 0
Adds r f = CanAdd r (statement_meaning f)

pub returns-in-Screen : goal.returns-in-Screen
returns-in-Screen c = λ s above k.
    let w = c.in-Screen.width in
    let h = c.in-Screen.height in
    let d = c.in-Screen.depth in
    let q = screen_ranged c.args.reader.now w h d (subst (Adds c.args.reader.now) c.in-Screen.is c.requires) in
    let new = c.add_screen.new.reader in
    subst (Put s new above) (sym c.in-Screen.is) (same_screen s new above w h d _ _ _ (in_64 w 2048 (omega arith) q.width) (in_64 h 2048 (omega arith) q.height) (in_64 d 8 (omega arith) q.depth) (c.add_screen.ensures s above k))

pub returns-in-Bitmap : goal.returns-in-Bitmap
returns-in-Bitmap c = λ s above k.
    let name = c.in-Bitmap.name.now in
    let w = c.in-Bitmap.width in
    let h = c.in-Bitmap.height in
    let d = c.in-Bitmap.depth in
    let q = bitmap_ranged c.args.reader.now name w h d (subst (Adds c.args.reader.now) c.in-Bitmap.is c.requires) in
    let new = c.add_bitmap.new.reader in
    on_done c.add_bitmap.result _ _ (subst (Put s new above) (sym c.in-Bitmap.is)) (same_bitmap c.add_bitmap.result s new above name w h d _ _ _ (in_64 w 1024 (omega arith) q.width) (in_64 h 1024 (omega arith) q.height) (in_64 d 8 (omega arith) q.depth) (c.add_bitmap.ensures s above k))
