use Rattle.std.proofs.Common.{◌≡◌, ℤ, to_z, of_z, w32, subst, rules}
use Rattle.lw_blit.specs.Moves.{AreMoved}
use Rattle.lw_blit.proofs.MoveLaws.{move_is}
use Rattle.lw_blit.proofs.moving.move_of.Goals as goal

pub returns : goal.returns
returns c =
    let t = c.args.transfer in
    let rows = c.args.rows in
    let columns = c.args.columns in
    let dy : to_z w32 (of_z w32 t.dy) ≡ t.dy = search rules in
    let dx : to_z w32 (of_z w32 t.dx) ≡ t.dx = search rules in
    let P : ℤ → Type 0 = λ z. AreMoved rows z c.in-Some-moved_places.down in
    let Q : ℤ → Type 0 = λ z. AreMoved columns z c.in-Some-moved_places-2.across in
    move_is c.args.layer.now t rows columns c.in-Some-moved_places.down c.in-Some-moved_places-2.across c.in-Some.to c.in-Some-whole_kept_block.source c.in-Some.ensures c.in-Some-whole_kept_block.ensures
    (subst P dy c.in-Some-moved_places.ensures) (subst Q dx c.in-Some-moved_places-2.ensures) c.if-source-to.false
