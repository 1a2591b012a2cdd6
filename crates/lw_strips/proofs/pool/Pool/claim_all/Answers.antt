use Rattle.std.proofs.Common.{ℕ, ◌+◌, ◌∙◌, List, length, ap, arith}
use Rattle.std.proofs.lemmas.List.{take_all, length-take-le}
use Rattle.lw_region.specs.Rectangle.{Rectangle}
use Rattle.lw_strips.specs.Pools.{copies, copies_in}
use Rattle.lw_strips.proofs.PoolLaws.{claim_made, next_there, claimed_count, claimed_more, claimed_others, no_other_twice}
use Rattle.lw_strips.proofs.pool.Pool.claim_all.Goals as goal

pub loop-rect-preserved : goal.loop-rect-preserved
loop-rect-preserved c =
    let k = c.loop-rect.rect-index in
    let q = c.rect-item.result in
    let rects = c.args.rects.now in
    let first = c.args.self.now in
    let old = c.loop-rect.self in
    let new = c.claim-strip.new.self in
    let inside = c.loop-rect-test.true in
    let before = c.loop-rect.invariant in
    let some = next_there rects k q first.strips old.strips inside c.rect-item.is (c.requires q) (before.numbers q) in
    let one = claim_made c.claim-strip.result q old new c.claim-strip.ensures.claimed c.claim-strip.ensures.none some in
    let so_far = length-take-le k rects (omega (arith, inside)) in
    let next = length-take-le (k + 1) rects (omega (arith, inside)) in
    let room = one.1.spare in
    let spare = before.spare in
    record {
      numbers = λ r. claimed_more r rects k q first.strips old.strips new.strips inside c.rect-item.is (before.numbers r) (claimed_count r q one.0 old new one.1);
      others = no_other_twice first old new before.others (claimed_others q one.0 old new one.1);
      spare = omega (arith, so_far, next, room, spare);
    }

pub returns-clause-numbers : goal.returns-clause-numbers
returns-clause-numbers c r =
    let shown : List Rectangle → ℕ = λ rs. copies_in r c.loop-rect.self.strips + copies r rs in
    c.loop-rect.invariant.numbers r ∙ ap shown (take_all c.loop-rect.rect-index c.args.rects.now c.loop-rect-test.false)

pub returns-clause-spare : goal.returns-clause-spare
returns-clause-spare c =
    let shown : List Rectangle → ℕ = λ rs. c.args.self.now.spare + length rs in
    c.loop-rect.invariant.spare ∙ ap shown (take_all c.loop-rect.rect-index c.args.rects.now c.loop-rect-test.false)
