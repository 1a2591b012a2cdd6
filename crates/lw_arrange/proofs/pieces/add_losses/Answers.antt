use Rattle.std.proofs.Common.{◌==◌, ◌≡◌, true, length, sym, ap, ◌∙◌}
use Rattle.std.proofs.lemmas.Bool.{eqb-true}
use Rattle.std.proofs.lemmas.List.{nil_from_length}
use Rattle.lw_arrange.specs.Pieces.{with_desktop}
use Rattle.lw_arrange.proofs.PieceLaws.{no_losses, none_more}
use Rattle.lw_arrange.proofs.pieces.add_losses.Goals as goal

pub returns-then-is_empty : goal.returns-then-is_empty
returns-then-is_empty c =
    let lost = c.args.lost.now in
    let none : (length lost == 0) ≡ true =
    ap (λ l. length l == 0) (sym c.rects.ensures.value) ∙ (sym c.is_empty.ensures ∙ c.if-is_empty.true) in
    none_more c.args.pieces.now.items _
    (no_losses c.args.from lost (with_desktop c.args.slots c.args.gaining.now c.args.rest.now)
    (nil_from_length lost (eqb-true (length lost) 0 none)))
