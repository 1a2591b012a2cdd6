use Rattle.std.proofs.Common.{◌≤◌, ℕ, ◌+◌, length, take, get_or, sym, ap, ◌∙◌, arith}
use Rattle.std.specs.List.{sum_by}
use Rattle.std.proofs.lemmas.List.Sums.{sum_by-take-le}
use Rattle.lw_strips.specs.Pools.{copies_in}
use Rattle.lw_engine.specs.Slots.{ReadyView}
use Rattle.lw_engine.proofs.ExchangeSums.{none_given, given_more, all_given, given_numbers, given_spare, sum_next, sum_end}
use Rattle.lw_engine.proofs.all_layers.give_up_all.Goals as goal

pub loop-place-init : goal.loop-place-init
loop-place-init g c = record {
  numbers = λ r. ap (copies_in r) c.requires.empty;
  spare = omega arith;
  given = none_given c.args.ready.now;
}

pub give_up-requires : goal.give_up-requires
give_up-requires g c =
    let k = c.loop-place.place in
    let ready = c.args.ready.now in
    let many : ReadyView → ℕ = λ q. length q.lost in
    let next = sum_next many k ready c.loop-place.ready c.index-ready-place.result c.loop-place.invariant.given c.loop-place-test.true in
    let all = sum_by-take-le many ready (k + 1) in
    omega (arith, next, all, c.loop-place.invariant.spare, c.requires.room)

pub loop-place-preserved : goal.loop-place-preserved
loop-place-preserved g c =
    let k = c.loop-place.place in
    let ready = c.args.ready.now in
    let now = c.loop-place.ready in
    let d = c.index-ready-place.result in
    let old = c.loop-place.pool in
    let new = c.give_up.new.pool in
    let before = c.loop-place.invariant in
    let many : ReadyView → ℕ = λ q. length q.lost in
    let next = sum_next many k ready now d before.given c.loop-place-test.true in
    let all = sum_by-take-le many ready (k + 1) in
    let room : length (get_or now k d).lost ≤ old.spare = omega (arith, next, all, before.spare, c.requires.room) in
    record {
      numbers = λ r.
          given_numbers r (get_or now k d).lost old new (sum_by (λ (q : ReadyView). copies_in r q.lost) (take k ready)) c.give_up.ensures.pool (before.numbers r)
          ∙ sym (sum_next (λ q. copies_in r q.lost) k ready now d before.given c.loop-place-test.true);
      spare =
          ap (λ n. new.spare + n) next
          ∙ given_spare (get_or now k d).lost old new c.args.pool.now.spare (sum_by many (take k ready)) c.give_up.ensures.pool room before.spare;
      given = given_more k ready now d c.give_up.new.self before.given c.loop-place-test.true c.give_up.ensures.given;
    }

pub give_up_info-requires : goal.give_up_info-requires
give_up_info-requires g c =
    let many : ReadyView → ℕ = λ q. length q.lost in
    let whole = sum_end many c.loop-place.place c.args.ready.now c.loop-place-test.false in
    omega (arith, whole, c.loop-place.invariant.spare, c.requires.room)

pub returns-clause-numbers : goal.returns-clause-numbers
returns-clause-numbers g c = λ r.
    let f : ReadyView → ℕ = λ q. copies_in r q.lost in
    given_numbers r c.args.next.now.exchange.lost.items c.loop-place.pool c.give_up_info.new.pool (sum_by f c.args.ready.now)
    c.give_up_info.ensures.pool
    (c.loop-place.invariant.numbers r ∙ sum_end f c.loop-place.place c.args.ready.now c.loop-place-test.false)

pub returns-clause-ready : goal.returns-clause-ready
returns-clause-ready g c =
    all_given c.loop-place.place c.args.ready.now c.loop-place.ready c.loop-place.invariant.given c.loop-place-test.false
