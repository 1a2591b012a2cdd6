use Rattle.std.proofs.Common.{◌≡◌, ◌∙◌, ap, arith, map, take, drop, ◌-◌, length, to_z, of_z, w16}
use Rattle.std.proofs.lemmas.Int.{ints}
use Rattle.lw_region.specs.Rows.{down_to}
use Rattle.lw_region.proofs.Rows.{stretched}
use Rattle.lw_region.proofs.band.stretch_from.Goals as goal

pub returns-clause-items : goal.returns-clause-items
returns-clause-items c =
    let s = c.as_mut_slice.result.now in
    let from = c.args.from in
    let b : to_z w16 (of_z w16 c.args.bottom) ≡ c.args.bottom = omega (arith, ints) in
    let t : c.stretch.new.rects ≡ map (λ r. down_to r (to_z w16 (of_z w16 c.args.bottom))) (take (length s - from) (drop from s)) = c.stretch.ensures in
    let v = c.args.rects.now.ok.0 in
    stretched (λ r. down_to r c.args.bottom) c.args.rects.now.items s c.stretch.new.rects from c.args.rects.now.len _ _ c.as_mut_slice.ensures.value
    (omega arith) (omega arith) (t ∙ ap (λ w. map (λ r. down_to r w) (take (length s - from) (drop from s))) b)
