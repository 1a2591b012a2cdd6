use Rattle.std.proofs.Common.{◌≡◌, ℕ, ◌+◌, ◌*◌, ◌<◌, ◌≤◌, List, length, ap, subst, arith}
use Rattle.std.specs.Int.{bit_at}
use Rattle.std.specs.List.{between}
use Rattle.lw_planes.specs.Row.{row_bit}
use Rattle.lw_planes.specs.Bitmap.{Bitmap, pen_at, row_bytes}
use Rattle.lw_planes.specs.Storage.{row_start}
use Rattle.lw_planes.proofs.planes.Planes.rows.Goals as goal
use Rattle.lw_planes.proofs.StorageLaws.{rows_inside, rows_lent}

pub slice_bounds-result-end : goal.slice_bounds-result-end
slice_bounds-result-end c =
    let p = c.self.inside in
    let deep : c.args.plane < p.depth = omega (arith, c.requires.plane, ap (λ b. b.depth) c.self.view_is) in
    let low : c.args.y + c.args.rows ≤ p.height = omega (arith, c.requires.inside, ap (λ b. b.height) c.self.view_is) in
    let whole : row_start p.height (row_bytes p.width) c.args.plane c.args.y + c.args.rows * row_bytes p.width ≤ p.depth * p.height * row_bytes p.width = rows_inside p.height (row_bytes p.width) p.depth c.args.plane c.args.y c.args.rows deep low in
    let inside : c.row_start-start.result + c.args.rows * c.row_length-length.result ≤ length c.deref.result.now = rw (c.row_start-start.ensures, c.row_length-length.ensures, ap length c.deref.ensures.value, c.self.invariant.long) whole in
    omega (arith, inside)

pub returns-clause-bits : goal.returns-clause-bits
returns-clause-bits c =
    let p = c.self.inside in
    let deep : c.args.plane < p.depth = omega (arith, c.requires.plane, ap (λ b. b.depth) c.self.view_is) in
    let low : c.args.y + c.args.rows ≤ p.height = omega (arith, c.requires.inside, ap (λ b. b.height) c.self.view_is) in
    let start : ℕ = c.row_start-start.result in
    let n : ℕ = c.row_length-length.result in
    let part : List ℕ = between start (start + c.args.rows * n) c.deref.result.now in
    let P : Bitmap → Type 0 = λ b. (x j : ℕ) → x < b.width → j < c.args.rows → row_bit part (8 * (j * row_bytes b.width) + x) ≡ bit_at (pen_at b x (c.args.y + j)) c.args.plane in
    subst P c.self.view_is
    (rows_lent p.width p.height p.depth p.bytes.items part c.args.plane c.args.y c.args.rows start n c.row_start-start.ensures c.row_length-length.ensures
    (ap (λ q. between start (start + c.args.rows * n) q) c.deref.ensures.value) deep low)
