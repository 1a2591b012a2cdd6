use Rattle.std.proofs.Common.{◌≡◌, to_z, of_z, w32, refl, rules}
use Rattle.lw_blit.specs.Blitting.{masked}
use Rattle.lw_blit.proofs.ShapeLaws.{layer_shifted}
use Rattle.lw_blit.proofs.within_layer.shift_rows.Goals as goal

pub returns : goal.returns
returns c =
    let across : to_z w32 (of_z w32 c.args.dx) ≡ c.args.dx = search rules in
    let down : to_z w32 (of_z w32 c.args.dy) ≡ c.args.dy = search rules in
    layer_shifted c.args.layer.now c.transfer_rows.new.layer _ c.args.dx c.args.dy (λ q. masked c.args.mask q c.args.rows.from c.args.rows.end c.args.columns.from c.args.columns.end) across down refl refl c.transfer_rows.ensures
