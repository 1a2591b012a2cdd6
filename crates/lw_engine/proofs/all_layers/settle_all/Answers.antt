use Rattle.std.proofs.Common.{◌+◌, ℕ, List, get_or, set, ap, sym, subst, ◌∙◌, arith}
use Rattle.std.proofs.lemmas.List.Sums.{sum_by_more, sum_by_more_le}
use Rattle.lw_strips.specs.Pools.{copies, copies_in}
use Rattle.lw_layer.specs.View.{CellView}
use Rattle.lw_engine.specs.Desks.{cell_at}
use Rattle.lw_engine.specs.Slots.{ReadyView, nothing_ready}
use Rattle.lw_engine.specs.Arranging.{AreUnder}
use Rattle.lw_engine.proofs.ArrangingLists.{nothing_settled, next_ready, settle_ready, settle_step, all_settled}
use Rattle.lw_engine.proofs.ExchangeSums.{sum_end}
use Rattle.lw_engine.proofs.all_layers.settle_all.Goals as goal

pub loop-place-init : goal.loop-place-init
loop-place-init g c = record {
  cells = λ becomes all. nothing_settled becomes c.args.slots.now c.args.ready.now;
  pool = λ r. omega arith;
}

pub settle_one-requires-clause-low : goal.settle_one-requires-clause-low
settle_one-requires-clause-low g c =
    let becomes : CellView → CellView = c.requires.settled.0 in
    (settle_ready c.args.assets.now.glyphs becomes c.loop-place.place c.args.slots.now c.loop-place.slots c.args.ready.now c.loop-place.ready
    c.index-ready-place.result c.requires.settled.1 c.requires.once (c.loop-place.invariant.cells becomes c.requires.settled.1) c.loop-place-test.true).0

pub settle_one-requires-clause-settled : goal.settle_one-requires-clause-settled
settle_one-requires-clause-settled g c =
    let becomes : CellView → CellView = c.requires.settled.0 in
    let made = c.args.ready.now in (
      becomes (cell_at c.args.slots.now (get_or made c.loop-place.place nothing_ready).slot),
      (settle_ready c.args.assets.now.glyphs becomes c.loop-place.place c.args.slots.now c.loop-place.slots made c.loop-place.ready
          c.index-ready-place.result c.requires.settled.1 c.requires.once (c.loop-place.invariant.cells becomes c.requires.settled.1) c.loop-place-test.true).1,
    )

pub settle_one-requires-clause-pool : goal.settle_one-requires-clause-pool
settle_one-requires-clause-pool g c = λ r.
    let f : ReadyView → ℕ = λ q. copies r q.claims in
    let under = c.loop-place.invariant.cells c.requires.settled.0 c.requires.settled.1 in
    let same = ap f (next_ready c.requires.settled.0 c.loop-place.place c.args.slots.now c.loop-place.slots c.args.ready.now c.loop-place.ready c.index-ready-place.result under c.loop-place-test.true) in
    let part = sum_by_more_le f c.args.ready.now c.loop-place.place nothing_ready c.loop-place-test.true in
    let enough = c.requires.pool r in
    let so_far = c.loop-place.invariant.pool r in
    omega (arith, same, part, enough, so_far)

pub loop-place-preserved : goal.loop-place-preserved
loop-place-preserved g c =
    let k = c.loop-place.place in
    let made = c.args.ready.now in
    let slots = c.args.slots.now in
    let d = c.index-ready-place.result in
    let becomes : CellView → CellView = c.requires.settled.0 in
    let under = c.loop-place.invariant.cells becomes c.requires.settled.1 in
    let same = next_ready becomes k slots c.loop-place.slots made c.loop-place.ready d under c.loop-place-test.true in
    record {
      cells = λ after all.
          let one = settle_ready c.args.assets.now.glyphs after k slots c.loop-place.slots made c.loop-place.ready d all c.requires.once (c.loop-place.invariant.cells after all) c.loop-place-test.true in
          let q = (get_or made k nothing_ready).slot in
          let N : List CellView → Type 0 = λ l. AreUnder after (k + 1) slots l made (set c.loop-place.ready k c.settle_one.new.ready) in
          subst N (sym (c.settle_one.ensures.settled (after (cell_at slots q)) one.1))
          (settle_step after k slots c.loop-place.slots made c.loop-place.ready (get_or c.loop-place.ready k d).slot (after (cell_at slots q)) c.settle_one.new.ready
          (c.loop-place.invariant.cells after all) c.loop-place-test.true (ap (λ (r : ReadyView). r.slot) same) one.0
          (ap (λ (r : ReadyView). after (cell_at slots r.slot)) (sym same)));
      pool = λ r.
          let f : ReadyView → ℕ = λ q. copies r q.claims in
          let is = ap f same in
          let more = sum_by_more f made k nothing_ready c.loop-place-test.true in
          let so_far = c.loop-place.invariant.pool r in
          let step = c.settle_one.ensures.numbers r in
          omega (arith, is, more, so_far, step);
    }

pub returns-clause-settled : goal.returns-clause-settled
returns-clause-settled g c = λ becomes all.
    all_settled becomes c.loop-place.place c.args.slots.now c.loop-place.slots c.args.ready.now c.loop-place.ready
    (c.loop-place.invariant.cells becomes all) c.loop-place-test.false

pub returns-clause-numbers : goal.returns-clause-numbers
returns-clause-numbers g c = λ r.
    let f : ReadyView → ℕ = λ q. copies r q.claims in
    c.loop-place.invariant.pool r ∙ ap (λ n. copies_in r c.loop-place.pool.strips + n) (sum_end f c.loop-place.place c.args.ready.now c.loop-place-test.false)
