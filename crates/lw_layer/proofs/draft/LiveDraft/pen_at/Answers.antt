use Rattle.std.proofs.Common.{◌≡◌, sym, ◌∙◌, refl, pos, None}
use Rattle.lw_cliprects.specs.Parts.{hidden_of, AreDivided}
use Rattle.lw_layer.specs.Drafts.{layout, live_view}
use Rattle.lw_layer.specs.Pieces.{buffer_at}
use Rattle.lw_layer.proofs.ViewLaws.{has_place}
use Rattle.lw_layer.proofs.KeptLaws.{keeps_missing}
use Rattle.lw_layer.proofs.ReadLaws.{unkept_unread, read_line, read_column, read_pen}
use Rattle.lw_layer.proofs.draft.LiveDraft.pen_at.Goals as goal

pub returns-in_default : goal.returns-in_default
returns-in_default c =
    let d = c.args.self.now in
    let divided : AreDivided d.bounds d.parts.visible (hidden_of d.bounds d.parts.visible) = rw (sym c.requires.sound.place.bounds) (rw c.hidden.ensures.value at c.hidden.ensures.divided) in
    let missing : buffer_at (layout d) c.args.x c.args.y ≡ None = sym c.buffer_at.ensures ∙ c.in_default.is in
    unkept_unread (live_view d) (pos c.args.x) (pos c.args.y) (keeps_missing d c.args.x c.args.y d.kind refl c.requires.sound c.min_x.ensures.ordered divided c.requires.column c.requires.row missing)

pub column_in-column-requires-clause-pixel : goal.column_in-column-requires-clause-pixel
column_in-column-requires-clause-pixel c = has_place (layout c.args.self.now) c.args.x c.args.y c.in-Some.number (sym c.buffer_at.ensures ∙ c.in-Some.is)

pub line_in-line-requires-clause-pixel : goal.line_in-line-requires-clause-pixel
line_in-line-requires-clause-pixel c = has_place (layout c.args.self.now) c.args.x c.args.y c.in-Some.number (sym c.buffer_at.ensures ∙ c.in-Some.is)

pub buffer_pen-requires-clause-line : goal.buffer_pen-requires-clause-line
buffer_pen-requires-clause-line c = read_line c.args.self.now c.args.x c.args.y c.in-Some.number c.line_in-line.result (sym c.buffer_at.ensures ∙ c.in-Some.is) c.line_in-line.ensures

pub buffer_pen-requires-clause-column : goal.buffer_pen-requires-clause-column
buffer_pen-requires-clause-column c = read_column c.args.self.now c.args.x c.args.y c.in-Some.number c.column_in-column.result c.requires.sound (sym c.buffer_at.ensures ∙ c.in-Some.is) c.column_in-column.ensures

pub returns : goal.returns
returns c =
    rw c.buffer_pen.ensures (read_pen c.args.self.now c.args.x c.args.y c.in-Some.number c.column_in-column.result c.line_in-line.result (sym c.buffer_at.ensures ∙ c.in-Some.is) c.column_in-column.ensures c.line_in-line.ensures)
