use Rattle.std.proofs.Common.{◌≡◌, ◌≢◌, ◌==◌, false, true, refl, get_or, set, option_map, sym, ap, ◌∙◌, ⊎_elim, arith}
use Rattle.std.proofs.lemmas.Bool.{cases_eq}
use Rattle.std.proofs.lemmas.List.{get_or_default}
use Rattle.lw_engine.specs.Slots.{ReadyView, nothing_ready}
use Rattle.lw_engine.proofs.ReadyLists.{given_at, given_none}
use Rattle.lw_engine.proofs.all_layers.give_to.Goals as goal

pub loop-place-init : goal.loop-place-init
loop-place-init g c = (refl, λ k low. absurd (omega (arith, low)))

pub loop-place-preserved : goal.loop-place-preserved
loop-place-preserved g c =
    let ready = c.args.ready.now in
    let i = c.loop-place.place in
    let d = c.index-ready-place.result in
    let here : ((get_or ready i nothing_ready).slot == c.args.slot) ≡ false =
    ap (λ (r : ReadyView). r.slot == c.args.slot) (sym (get_or_default ready i d nothing_ready c.loop-place-test.true))
    ∙ (ap (λ l. (get_or l i d).slot == c.args.slot) (sym c.loop-place.invariant.0) ∙ (sym c.is_for.ensures ∙ c.if-is_for.false)) in (
      c.loop-place.invariant.0,
      λ k low.
          ⊎_elim
          (λ (same : k ≡ i). ap (λ n. (get_or ready n nothing_ready).slot == c.args.slot) same ∙ here)
          (λ (other : k ≢ i). c.loop-place.invariant.1 k (omega (arith, other, low)))
          (cases_eq k i),
    )

pub returns-then-is_for : goal.returns-then-is_for
returns-then-is_for g c =
    let ready = c.args.ready.now in
    let i = c.loop-place.place in
    let h = option_map g.B.Backfill.hook c.args.hook in
    let d = c.index-ready-place-then-is_for.result in
    let first = c.index-ready-place.result in
    let now = c.loop-place.invariant.0 in
    let here : ((get_or ready i d).slot == c.args.slot) ≡ true =
    ap (λ (r : ReadyView). r.slot == c.args.slot) (get_or_default ready i d first c.loop-place-test.true)
    ∙ (ap (λ l. (get_or l i first).slot == c.args.slot) (sym now) ∙ (sym c.is_for.ensures ∙ c.if-is_for.true)) in
    let taken : ReadyView → ReadyView = λ r. record r { taken = h } in
    ap (set c.loop-place.ready i) c.receive.ensures
    ∙ (ap (λ l. set l i (taken (get_or l i d))) now ∙ given_at ready i c.args.slot h d c.loop-place-test.true c.loop-place.invariant.1 here)

pub returns : goal.returns
returns g c =
    c.loop-place.invariant.0
    ∙ given_none c.args.ready.now c.args.slot (option_map g.B.Backfill.hook c.args.hook) (λ k low. c.loop-place.invariant.1 k (omega (arith, low, c.loop-place-test.false)))
