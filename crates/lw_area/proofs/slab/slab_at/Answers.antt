use Rattle.std.proofs.Common.{◌≡◌, ℤ, pos, ◌+ℤ◌, to_z, of_z, w32, sym, subst, arith}
use Rattle.std.proofs.lemmas.Int.{ints}
use Rattle.lw_area.specs.Rows.{IsSlab}
use Rattle.lw_area.proofs.Sweeps.{slab_made}
use Rattle.lw_area.proofs.slab.slab_at.Goals as goal

pub returns-clause-slab : goal.returns-clause-slab
returns-clause-slab c =
    let points = c.args.points.now in
    let edges = c.in_ok-edges.edges.items in
    let row = to_z w32 (of_z w32 c.args.row) in
    let top = to_z w32 (of_z w32 c.slab_top-top.result) in
    let least = c.slab_top-top.ensures.least in
    let most = c.slab_top-top.ensures.most in
    let same : row ≡ c.args.row = omega (arith, ints) in
    let first : top ≡ c.slab_top-top.result = omega (arith, ints) in
    let made : IsSlab points c.slab_top-top.result (row +ℤ pos 1) edges = slab_made points c.slab_top-top.result row edges c.requires.range c.slab_top-top.ensures.none c.in_ok-edges.ensures in
    subst (λ w. IsSlab points top (w +ℤ pos 1) edges) same (subst (λ w. IsSlab points w (row +ℤ pos 1) edges) (sym first) made)
