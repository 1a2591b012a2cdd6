use Rattle.std.proofs.Common.{◌≡◌, ℕ, ◌-◌, drop, ◌∙◌, ap, arith, subst, sym}
use Rattle.lw_planes.specs.Sizes.{AreSizes}
use Rattle.lw_strips.specs.Laying.{screen, assembled}
use Rattle.lw_calls.specs.declared.sizes.Sizes.{Sizes}
use Rattle.lw_engine.specs.Owners.{IsAssembled}
use Rattle.lw_engine.proofs.FinishedLast.{cell_read}
use Rattle.lw_engine.proofs.FinishedScreen.{slot_deep, desktop_deep, screen_may, laid_size, laid_depth, laid_none, laid_more}
use Rattle.lw_engine.proofs.finishing.screen.Goals as goal

pub assemble-requires-clause-sizes : goal.assemble-requires-clause-sizes
assemble-requires-clause-sizes g c =
    let P : Sizes → Type 0 = λ z. AreSizes z.width z.height z.depth in
    subst P (sym c.sizes-sizes.ensures.value) (screen_may c.args.info.now.sizes c.sizes-sizes.ensures.stack.limits)

pub assemble-requires-clause-planes : goal.assemble-requires-clause-planes
assemble-requires-clause-planes g c =
    desktop_deep c.args.info.now c.desktop-desktop.result.now _ c.desktop-desktop.ensures (ap (λ (z : Sizes). z.depth) c.sizes-sizes.ensures.value)

pub loop-index-init : goal.loop-index-init
loop-index-init g c =
    let desktop = c.desktop-desktop.result.now in
    let P : Sizes → Type 0 = λ z. c.in_ok-planes.planes ≡ assembled z.width z.height z.depth desktop in
    laid_none c.args.info.now c.args.slots.now _ desktop c.in_ok-planes.planes (omega arith) c.desktop-desktop.ensures
    (subst P c.sizes-sizes.ensures.value c.in_ok-planes.ensures)

pub lay_all-requires-clause-size : goal.lay_all-requires-clause-size
lay_all-requires-clause-size g c =
    laid_size c.args.info.now (drop c.loop-index.index c.args.slots.now) c.loop-index.planes c.screen_of-window.result
    (c.screen_of-window.ensures ∙ ap (λ (z : Sizes). screen z.width z.height) c.sizes-sizes.ensures.value) c.loop-index.invariant

pub lay_all-requires-clause-planes : goal.lay_all-requires-clause-planes
lay_all-requires-clause-planes g c =
    let cells = c.args.slots.now in
    let k : ℕ = c.loop-index.index - 1 in
    slot_deep c.args.info.now cells c.requires.desk.0 k c.index-slots-index.result c.strips.result.now c.loop-index.planes.depth c.requires.desk.1
    (omega (arith, c.requires.many)) (cell_read cells k c.index-slots-index.result (omega arith) c.index-slots-index.is) c.strips.ensures
    (laid_depth c.args.info.now (drop c.loop-index.index cells) c.loop-index.planes c.loop-index.invariant)

pub loop-index-preserved : goal.loop-index-preserved
loop-index-preserved g c =
    laid_more c.args.info.now c.args.slots.now (c.loop-index.index - 1) c.loop-index.index c.index-slots-index.result c.strips.result.now
    c.loop-index.planes c.lay_all.new.planes c.screen_of-window.result (omega arith) (omega arith) c.index-slots-index.is c.strips.ensures
    (c.screen_of-window.ensures ∙ ap (λ (z : Sizes). screen z.width z.height) c.sizes-sizes.ensures.value) c.loop-index.invariant c.lay_all.ensures

pub returns : goal.returns
returns g c =
    let first : c.loop-index.index ≡ 0 = omega arith in
    subst (λ n. IsAssembled c.args.info.now (drop n c.args.slots.now) c.loop-index.planes) first c.loop-index.invariant
