use Rattle.std.proofs.Common.{◌<◌, ◌∙◌, List, subst, ap, arith}
use Rattle.lw_strips.specs.Strips.{StripView}
use Rattle.lw_strips.specs.Pools.{PoolView, copies_in}
use Rattle.lw_strips.proofs.PoolLaws.{place_counted}
use Rattle.lw_strips.proofs.pool.Pool.claim.Goals as goal

pub returns-clause-none : goal.returns-clause-none
returns-clause-none c =
    let P : List StripView → Type 0 = λ ss. 0 < copies_in c.args.rect.now ss in
    let list = c.deref.ensures.value ∙ ap (λ (p : PoolView). p.strips) c.self.view_is in
    let some : 0 < copies_in c.args.rect.now c.args.self.now.strips = subst P list (place_counted c.args.rect.now c.in_ok-place.place c.deref.result.now c.in_ok-place.ensures) in
    (λ is. absurd (cc is), λ none. absurd (omega (arith, none, some)))
