use Rattle.std.proofs.Common.{◌≡◌, ◌≤◌, ◌+◌, option_map, sym, subst}
use Rattle.lw_strips.specs.Pools.{copies, copies_in}
use Rattle.lw_arrange.specs.declared.preparing.Becomes.{Becomes}
use Rattle.lw_engine.specs.Slots.{ReadyView, IsSettled, IsSettledBy}
use Rattle.lw_engine.proofs.slot.Slot.settle.Goals as goal

pub returns-in-Stays-clause-settled : goal.returns-in-Stays-clause-settled
returns-in-Stays-clause-settled g c =
    λ to is.
    let glyphs = c.args.assets.now.glyphs in
    let f = c.ready.inside in
    let R : ReadyView → Type 0 = λ r. IsSettled glyphs c.args.self.now to r in
    let P : Becomes → Type 0 = λ p. IsSettledBy glyphs c.args.self.now to f.gained (option_map g.B.Backfill.hook f.taken) f.window p in
    c.stay.ensures to (subst P c.in-Stays.is (subst P (sym c.replace.ensures.value) (subst R (sym c.ready.view_is) is)))

pub claim-requires : goal.claim-requires
claim-requires g c = λ r.
    let P : ReadyView → Type 0 = λ v. copies r v.claims ≤ copies_in r c.args.pool.now.strips in
    subst P (sym c.ready.view_is) (c.requires.pool r)

pub returns-in-Stays-clause-numbers : goal.returns-in-Stays-clause-numbers
returns-in-Stays-clause-numbers g c = λ r.
    let P : ReadyView → Type 0 = λ v. copies_in r c.args.pool.now.strips ≡ copies_in r c.claim.new.pool.strips + copies r v.claims in
    subst P c.ready.view_is (c.claim.ensures r)

pub returns-in-Closes-clause-numbers : goal.returns-in-Closes-clause-numbers
returns-in-Closes-clause-numbers g c = λ r.
    let P : ReadyView → Type 0 = λ v. copies_in r c.args.pool.now.strips ≡ copies_in r c.claim.new.pool.strips + copies r v.claims in
    subst P c.ready.view_is (c.claim.ensures r)

pub returns-in-Opens-clause-numbers : goal.returns-in-Opens-clause-numbers
returns-in-Opens-clause-numbers g c = λ r.
    let P : ReadyView → Type 0 = λ v. copies_in r c.args.pool.now.strips ≡ copies_in r c.claim.new.pool.strips + copies r v.claims in
    subst P c.ready.view_is (c.claim.ensures r)

pub returns-in-Changes-clause-numbers : goal.returns-in-Changes-clause-numbers
returns-in-Changes-clause-numbers g c = λ r.
    let P : ReadyView → Type 0 = λ v. copies_in r c.args.pool.now.strips ≡ copies_in r c.claim.new.pool.strips + copies r v.claims in
    subst P c.ready.view_is (c.claim.ensures r)
