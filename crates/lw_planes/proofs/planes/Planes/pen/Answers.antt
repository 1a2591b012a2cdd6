use Rattle.std.proofs.Common.{◌<◌, length, ap, ◌∙◌, arith}
use Rattle.lw_planes.specs.Bitmap.{pen_at}
use Rattle.lw_planes.proofs.planes.Planes.pen.Goals as goal
use Rattle.lw_planes.proofs.StorageLaws.{step_inside, pen_gathered, pen_at_stored_lt}

pub gathered_pen-requires-clause-inside : goal.gathered_pen-requires-clause-inside
gathered_pen-requires-clause-inside c =
    let left : c.args.x < c.self.inside.width = omega (arith, ap (λ b. b.width) c.self.view_is) in
    let low : c.args.y < c.self.inside.height = omega (arith, ap (λ b. b.height) c.self.view_is) in
    λ k deep. step_inside c.self.inside.width c.self.inside.height c.self.inside.depth k c.args.x c.args.y c.row_length-2.result c.row_length.result (length c.deref.result.now)
    c.row_length-2.ensures c.row_length.ensures (ap length c.deref.ensures.value ∙ c.self.invariant.long) deep left low

pub returns-clause-value : goal.returns-clause-value
returns-clause-value c =
    let left : c.args.x < c.self.inside.width = omega (arith, ap (λ b. b.width) c.self.view_is) in
    let low : c.args.y < c.self.inside.height = omega (arith, ap (λ b. b.height) c.self.view_is) in
    pen_gathered c.self.inside.width c.self.inside.height c.self.inside.depth c.self.inside.bytes.items c.deref.result.now c.args.x c.args.y c.row_length-2.result c.row_length.result c.gathered_pen.result
    c.row_length-2.ensures c.row_length.ensures c.deref.ensures.value left low c.gathered_pen.ensures ∙
    ap (λ b. pen_at b c.args.x c.args.y) c.self.view_is

pub returns-clause-small : goal.returns-clause-small
returns-clause-small c =
    let left : c.args.x < c.self.inside.width = omega (arith, ap (λ b. b.width) c.self.view_is) in
    let low : c.args.y < c.self.inside.height = omega (arith, ap (λ b. b.height) c.self.view_is) in
    let is = pen_gathered c.self.inside.width c.self.inside.height c.self.inside.depth c.self.inside.bytes.items c.deref.result.now c.args.x c.args.y c.row_length-2.result c.row_length.result c.gathered_pen.result
    c.row_length-2.ensures c.row_length.ensures c.deref.ensures.value left low c.gathered_pen.ensures in
    let small = pen_at_stored_lt c.self.inside.width c.self.inside.height c.self.inside.depth c.self.inside.bytes.items c.args.x c.args.y left low in
    rw (← ap (λ b. b.depth) c.self.view_is) (rw is small)
