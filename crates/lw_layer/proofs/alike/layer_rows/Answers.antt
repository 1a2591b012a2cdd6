use Rattle.std.proofs.Common.{◌≡◌, ℤ, pos, to_z, w32, subst, arith}
use Rattle.std.proofs.lemmas.Int.{ints}
use Rattle.lw_layer.specs.Code.{AreRowsAlike}
use Rattle.lw_layer.proofs.alike.layer_rows.Goals as goal

pub returns : goal.returns
returns c =
    let cast : to_z w32 c.args.y ≡ pos c.args.y = omega (arith, ints, c.requires.row) in
    let P : ℤ → Type 0 = λ z. AreRowsAlike c.args.rects.now z c.args.most c.rows_by.result in
    subst P cast c.rows_by.ensures
