use Rattle.std.proofs.Common.{w32, of_z, to_z, ◌∙◌, sym}
use Rattle.std.proofs.lemmas.Int.{to_z-of_z}
use Rattle.lw_super.proofs.ScrollLaws.{fits_told, scroll_may}
use Rattle.lw_super.proofs.scrolling.scroll.Goals as goal

pub returns-then-not-look_fits-clause-answer : goal.returns-then-not-look_fits-clause-answer
returns-then-not-look_fits-clause-answer c =
    let fits = rw (to_z-of_z w32 c.args.dx c.ranges.dx, to_z-of_z w32 c.args.dy c.ranges.dy) at c.if-not-look_fits.ensures in
    fits ∙ fits_told c.args.cell.now c.in-Some.look c.args.dx c.args.dy c.requires.own c.in-Some.ensures.look

pub scroll_draft-requires : goal.scroll_draft-requires
scroll_draft-requires c =
    let dx = to_z w32 (of_z w32 c.args.dx) in
    let dy = to_z w32 (of_z w32 c.args.dy) in
    scroll_may c.take_up-draft.result c.args.cell.now dx dy c.take_up-draft.ensures.draft c.take_up-draft.ensures.former c.requires.own
    (sym (c.if-not-look_fits.ensures ∙ fits_told c.args.cell.now c.in-Some.look dx dy c.requires.own c.in-Some.ensures.look))
