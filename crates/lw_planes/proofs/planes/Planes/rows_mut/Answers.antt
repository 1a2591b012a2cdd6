use Rattle.std.proofs.Common.{◌≡◌, ℕ, ◌+◌, ◌*◌, ◌<◌, ◌≤◌, length, ap, refl, subst, ◌∙◌, arith}
use Rattle.std.specs.Int.{bit_at}
use Rattle.lw_planes.specs.Row.{row_bit}
use Rattle.lw_planes.specs.Bitmap.{Bitmap, pen_at, row_bytes}
use Rattle.lw_planes.specs.Sizes.{IsPlanes}
use Rattle.lw_planes.specs.Storage.{row_start}
use Rattle.lw_planes.specs.Change.{with_row}
use Rattle.lw_planes.proofs.planes.Planes.rows_mut.Goals as goal
use Rattle.lw_planes.proofs.StorageLaws.{rows_inside, rows_lent, rows_near, IsPlanes_stored}
use Rattle.lw_planes.proofs.ChangeLaws.{row_written}

pub slice_mut-requires-clause-in_bounds : goal.slice_mut-requires-clause-in_bounds
slice_mut-requires-clause-in_bounds c =
    let p = c.self.inside in
    let deep : c.args.plane < p.depth = omega (arith, c.requires.plane, ap (λ b. b.depth) c.self.view_is) in
    let low : c.args.y + c.args.rows ≤ p.height = omega (arith, c.requires.inside, ap (λ b. b.height) c.self.view_is) in
    let whole : row_start p.height (row_bytes p.width) c.args.plane c.args.y + c.args.rows * row_bytes p.width ≤ p.depth * p.height * row_bytes p.width = rows_inside p.height (row_bytes p.width) p.depth c.args.plane c.args.y c.args.rows deep low in
    let inside : c.row_start-start.result + c.args.rows * c.row_length-length.result ≤ length p.bytes.items = rw (c.row_start-start.ensures, c.row_length-length.ensures, c.self.invariant.long) whole in
    omega (arith, inside, p.bytes.ok.0)

pub returns : goal.returns
returns c =
    let p = c.self.inside in
    let deep : c.args.plane < p.depth = omega (arith, c.requires.plane, ap (λ b. b.depth) c.self.view_is) in
    let low : c.args.y + c.args.rows ≤ p.height = omega (arith, c.requires.inside, ap (λ b. b.height) c.self.view_is) in
    let start : ℕ = c.row_start-start.result in
    let n : ℕ = c.row_length-length.result in
    let part = c.slice_mut.result.now in
    let long : length part ≡ c.args.rows * n = omega (arith, c.slice_mut.ensures.len) in
    let is : length part ≡ c.args.rows * row_bytes p.width = long ∙ ap (λ m. c.args.rows * m) c.row_length-length.ensures in
    let P : Bitmap → Type 0 = λ b. (x j : ℕ) → x < b.width → j < c.args.rows → row_bit part (8 * (j * row_bytes b.width) + x) ≡ bit_at (pen_at b x (c.args.y + j)) c.args.plane in (
      (
        refl,
        λ w. row_written p.width p.height p.depth p.bytes.items c.args.plane c.args.y start n p.bytes.len w
            p.bytes.ok.0 c.row_start-start.ensures c.row_length-length.ensures deep (omega (arith, low, c.requires.some)) c.self.invariant.long ∙
            ap (λ b. with_row b c.args.plane c.args.y w) c.self.view_is,
      ),
      record {
        writes_back = tt;
        long = is ∙ ap (λ (b : Bitmap). c.args.rows * row_bytes b.width) c.self.view_is;
        near = rows_near p.width p.height p.depth c.args.rows c.args.y (length part) c.self.invariant.sizes low is;
        bits = subst P c.self.view_is (rows_lent p.width p.height p.depth p.bytes.items part c.args.plane c.args.y c.args.rows start n c.row_start-start.ensures c.row_length-length.ensures c.slice_mut.ensures.value deep low);
        planes = subst (λ b. IsPlanes b) c.self.view_is (IsPlanes_stored _ _ _ _ c.self.invariant);
      },
    )
