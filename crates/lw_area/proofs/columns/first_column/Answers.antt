use Rattle.std.proofs.Common.{◌≡◌, ℕ, ◌+◌, ◌-◌, ◌*◌, ◌/◌, ◌≤◌, ℤ, pos, ◌-ℤ◌, ◌+ℤ◌, to_z, of_z, w32, ap, sym, ◌∙◌, subst, arith}
use Rattle.std.specs.Prelude.{int_le}
use Rattle.std.proofs.lemmas.Int.{ints}
use Rattle.lw_area.proofs.Passing.{passes_from}
use Rattle.lw_area.proofs.columns.first_column.Goals as goal

pub returns-clause-value : goal.returns-clause-value
returns-clause-value c =
    let e = c.args.edge.now in
    let u = c.distance-upper_x.result in
    let v = c.distance-lower_x.result in
    let t = c.distance-done.result in
    let h = c.distance-height.result in
    let q = c.meeting_column-column.result in
    let most = c.meeting_column-column.ensures.most in
    let begun = c.requires.begun in
    let ahead = c.requires.ahead in
    let fu = c.distance-upper_x.ensures in
    let fv = c.distance-lower_x.ensures in
    let ft = c.distance-done.ensures in
    let fh = c.distance-height.ensures in
    let parts : (h - t) + t ≡ h = omega (arith, ints) in
    let is : to_z w32 (of_z w32 (to_z w32 q -ℤ pos 2048)) ≡ pos q -ℤ pos 2048 = omega (arith, ints) in
    λ x. passes_from e.upper e.lower x c.args.row (h - t) t u v q (omega (arith, ints)) (omega (arith, ints)) (omega (arith, ints)) (omega (arith, ints)) (omega (arith, ints))
    (subst (λ w. q ≡ (((h - t) * u + t * v) + (w - 1)) / w) (sym parts) c.meeting_column-column.ensures.value)
    ∙ ap (λ w. int_le w x) (sym is)

pub returns-clause-range : goal.returns-clause-range
returns-clause-range c = let most = c.meeting_column-column.ensures.most in (omega (arith, ints), omega (arith, ints))
