use Rattle.std.proofs.Common.{◌≡◌, sym, ◌∙◌, refl, arith, None}
use Rattle.lw_cliprects.specs.Parts.{hidden_of, AreDivided}
use Rattle.lw_layer.specs.Drafts.{layout}
use Rattle.lw_layer.specs.Pieces.{buffer_at}
use Rattle.lw_layer.proofs.ViewLaws.{has_place}
use Rattle.lw_layer.proofs.KeptLaws.{keeps_missing, unkept_undrawn, run_some, run_none}
use Rattle.lw_layer.proofs.draft.LiveDraft.run_at.Goals as goal

pub returns-in_default : goal.returns-in_default
returns-in_default c =
    let d = c.args.self.now in
    let divided : AreDivided d.bounds d.parts.visible (hidden_of d.bounds d.parts.visible) = rw (sym c.requires.sound.place.bounds) (rw c.hidden.ensures.value at c.hidden.ensures.divided) in
    let missing : buffer_at (layout d) c.args.x c.args.y ≡ None = sym c.buffer_at.ensures ∙ c.in_default.is in
    unkept_undrawn d c.args.x c.args.y (keeps_missing d c.args.x c.args.y d.kind refl c.requires.sound c.min_x.ensures.ordered divided c.requires.column c.requires.row missing)

pub kept_reach-kept-requires-clause-pixel : goal.kept_reach-kept-requires-clause-pixel
kept_reach-kept-requires-clause-pixel c = has_place (layout c.args.self.now) c.args.x c.args.y c.in-Some.number (sym c.buffer_at.ensures ∙ c.in-Some.is)

pub returns-then-len-eq0 : goal.returns-then-len-eq0
returns-then-len-eq0 c =
    run_none c.args.self.now c.args.x c.args.y c.in-Some.number c.kept_reach-kept.result c.drawn_reach-len.result (sym c.buffer_at.ensures ∙ c.in-Some.is) c.kept_reach-kept.ensures c.drawn_reach-len.ensures c.if-len-eq0.true

pub line_in-requires-clause-pixel : goal.line_in-requires-clause-pixel
line_in-requires-clause-pixel c = has_place (layout c.args.self.now) c.args.x c.args.y c.in-Some.number (sym c.buffer_at.ensures ∙ c.in-Some.is)

pub column_in-requires-clause-pixel : goal.column_in-requires-clause-pixel
column_in-requires-clause-pixel c = has_place (layout c.args.self.now) c.args.x c.args.y c.in-Some.number (sym c.buffer_at.ensures ∙ c.in-Some.is)

pub returns : goal.returns
returns c =
    run_some c.args.self.now c.args.x c.args.y c.in-Some.number c.kept_reach-kept.result c.drawn_reach-len.result c.column_in.result c.line_in.result (sym c.buffer_at.ensures ∙ c.in-Some.is) c.kept_reach-kept.ensures c.drawn_reach-len.ensures (omega (arith, c.if-len-eq0.false)) c.column_in.ensures c.line_in.ensures
