use Rattle.std.proofs.Common.{◌≡◌, sym, ap, subst, ◌∙◌}
use Rattle.lw_layer.specs.View.{LiveView}
use Rattle.lw_layer.specs.StandsFor.{IsSound}
use Rattle.lw_reveal.proofs.PairingLaws.{edges_same}
use Rattle.lw_stack.specs.Stack.{LieApart}
use Rattle.lw_reveal.proofs.SameRects.{same_list}
use Rattle.lw_arrange.proofs.VisibleLaws.{apart_shown}
use Rattle.lw_arrange.proofs.showing.changed_visible.Goals as goal

pub returns-then-not-meets : goal.returns-then-not-meets
returns-then-not-meets c =
    let a = c.args.arrangement.now in
    let cell = c.args.cell.now in
    let bounds = c.args.bounds.now in
    let place : cell.live.bounds ≡ bounds =
    sym (c.look.ensures.look.bounds ∙ ap (λ (v : LiveView). v.bounds) c.requires.layer)
    ∙ edges_same c.look.result.bounds bounds (sym c.eq-stays.ensures ∙ c.if-stays.true)
    in
    let apart : LieApart a.area bounds = subst (λ l. LieApart l bounds) c.area.ensures (c.meets.ensures.0 c.if-not-meets.true) in (
      place,
      apart_shown a cell bounds (subst IsSound c.requires.layer c.look.ensures.sound) c.requires.live c.requires.bounds place apart
          c.requires.elsewhere,
    )

pub returns-then-eq : goal.returns-then-eq
returns-then-eq c =
    let cell = c.args.cell.now in
    let bounds = c.args.bounds.now in
    let shown = c.visible-then-stays-2.result.now in
    let listed = c.rects.result.now in (
      sym (c.look.ensures.look.bounds ∙ ap (λ (v : LiveView). v.bounds) c.requires.layer)
          ∙ edges_same c.look.result.bounds bounds (sym c.eq-stays.ensures ∙ c.if-stays-2.true),
      sym (c.visible-then-stays-2.ensures.value ∙ ap (λ (v : LiveView). v.visible) c.requires.layer)
          ∙ (same_list shown listed c.eq.result c.eq.ensures c.if-eq.true ∙ (c.rects.ensures.value ∙ c.in_ok-visible.ensures)),
    )
