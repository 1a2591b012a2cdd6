use Rattle.std.proofs.Common.{◌^◌, ◌<◌, length, ap, ◌∙◌, arith}
use Rattle.lw_planes.specs.Storage.{stored}
use Rattle.lw_planes.specs.Change.{with_pen}
use Rattle.lw_planes.proofs.planes.Planes.set_pen.Goals as goal
use Rattle.std.proofs.lemmas.List.{with_items_is}
use Rattle.lw_planes.proofs.StorageLaws.{step_inside, pen_scattered}

pub scatter_pen-requires-clause-inside : goal.scatter_pen-requires-clause-inside
scatter_pen-requires-clause-inside c =
    let left : c.args.x < c.self.inside.width = omega (arith, ap (λ b. b.width) c.self.view_is) in
    let low : c.args.y < c.self.inside.height = omega (arith, ap (λ b. b.height) c.self.view_is) in
    λ k deep. step_inside c.self.inside.width c.self.inside.height c.self.inside.depth k c.args.x c.args.y c.row_length-2.result c.row_length.result (length c.as_mut_slice.result.now)
    c.row_length-2.ensures c.row_length.ensures (ap length c.as_mut_slice.ensures.value ∙ c.self.invariant.long) deep left low

pub returns : goal.returns
returns c =
    let left : c.args.x < c.self.inside.width = omega (arith, ap (λ b. b.width) c.self.view_is) in
    let low : c.args.y < c.self.inside.height = omega (arith, ap (λ b. b.height) c.self.view_is) in
    let small : c.args.pen < 2 ^ c.self.inside.depth = rw (ap (λ b. b.depth) c.self.view_is) c.requires.small in
    let items = with_items_is c.self.inside.bytes c.scatter_pen.new.bytes (omega arith) in
    ap (λ bytes. stored c.self.inside.width c.self.inside.height c.self.inside.depth bytes) items ∙
    (pen_scattered c.self.inside.width c.self.inside.height c.self.inside.depth c.self.inside.bytes.items c.as_mut_slice.result.now c.scatter_pen.new.bytes c.args.x c.args.y c.row_length-2.result c.row_length.result c.args.pen
    c.row_length-2.ensures c.row_length.ensures c.as_mut_slice.ensures.value small left low c.scatter_pen.ensures.pen c.scatter_pen.ensures.others ∙
    ap (λ b. with_pen b c.args.x c.args.y c.args.pen) c.self.view_is)
