use Rattle.std.proofs.Common.{◌≡◌, Some, None, sym, ◌∙◌}
use Rattle.lw_layer.specs.Pieces.{found_in, rest_of}
use Rattle.lw_layer.specs.Drafts.{layout}
use Rattle.lw_layer.proofs.FoundLaws.{found_front, found_rest}
use Rattle.lw_layer.proofs.draft.LiveDraft.buffer_at.Goals as goal

pub returns-in-Some : goal.returns-in-Some
returns-in-Some c =
    let l = layout c.args.self.now in
    let e : found_in l l.visible c.args.x c.args.y ≡ Some c.in-Some.number = rw (sym c.visible.ensures.value) (sym c.find.ensures ∙ c.in-Some.is) in
    found_front l c.args.x c.args.y c.in-Some.number c.requires.column c.requires.row e

pub returns : goal.returns
returns c =
    let l = layout c.args.self.now in
    let none : found_in l l.visible c.args.x c.args.y ≡ None = rw (sym c.visible.ensures.value) (sym c.find.ensures ∙ c.in_default.is) in
    let rest : found_in l (rest_of l) c.args.x c.args.y ≡ Some c.in_ok-number.number = sym c.find_rest.ensures ∙ c.in_ok-number.was in
    rw c.visible-2.ensures.value (found_rest l c.args.x c.args.y c.in_ok-number.number c.requires.column c.requires.row none rest)
