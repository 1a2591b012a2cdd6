use Rattle.std.proofs.Common.{ℤ, w32, FitsSigned, subst, ◌∙◌, rules}
use Rattle.std.proofs.lemmas.Int.{to_z-of_z}
use Rattle.lw_layer.specs.Code.{AreRowsAlike}
use Rattle.lw_layer.proofs.draft.LiveDraft.screen_rows.Goals as goal

pub returns : goal.returns
returns c =
    let fits : FitsSigned w32 c.down.result = search rules in
    let P : ℤ → Type 0 = λ z. AreRowsAlike c.args.rects.now z c.args.most c.rows_by.result in
    subst P (to_z-of_z w32 c.down.result fits ∙ c.down.ensures) c.rows_by.ensures
