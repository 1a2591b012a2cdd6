use Rattle.std.proofs.Common.{◌≡◌, ◌≤◌, ◌+◌, List, sym, subst}
use Rattle.lw_region.specs.Rectangle.{Rectangle}
use Rattle.lw_strips.specs.Pools.{copies, copies_in}
use Rattle.lw_arrange.proofs.exchange.Exchange.claim.Goals as goal

pub claim_all-requires : goal.claim_all-requires
claim_all-requires c = λ r.
    let P : List Rectangle → Type 0 = λ l. copies r l ≤ copies_in r c.args.pool.now.strips in
    subst P (sym c.deref.ensures.value) (c.requires r)

pub returns : goal.returns
returns c = λ r.
    let P : List Rectangle → Type 0 = λ l. copies_in r c.args.pool.now.strips ≡ copies_in r c.claim_all.new.self.strips + copies r l in
    subst P c.deref.ensures.value (c.claim_all.ensures.numbers r)
