use Rattle.std.proofs.Common.{[], refl}
use Rattle.std.proofs.lemmas.Result.{IfOk-weaker}
use Rattle.lw_damage.specs.Damaged.{IsDamageWith}
use Rattle.lw_layer.specs.Pieces.{IsDamageOf}
use Rattle.lw_reveal.specs.Changed.{carried_to}
use Rattle.lw_reveal.proofs.GainedView.{damage_gained}
use Rattle.lw_reveal.proofs.GainedSteps.{IsRead, made_gained, no_damage, none_gained}
use Rattle.lw_reveal.proofs.damage.damage_after.Goals as goal

pub returns : goal.returns
returns c =
    let layer = c.args.layer.now in
    let bounds = c.args.bounds.now in
    let visible = c.args.visible.now in
    let look = c.look-look.result in
    let sees = c.look-look.ensures.look in
    let former = c.damage.result.now in
    let inner = c.inner_rectangle-inner.result in
    let read : IsRead layer visible former look.kind look.framed c.rects.result.now c.region.result.now look.updating = record {
      kind_is = sees.kind;
      framed_is = sees.framed;
      new_is = c.rects.ensures.value;
      damaged_is = c.region.ensures.value;
      updating_is = sees.updating;
    } in
    IfOk-weaker c.of_region.result (λ d. IsDamageWith inner c.in_ok-due.due look.updating d) (λ d. IsDamageOf (carried_to bounds visible layer) d)
    (λ d made.
    damage_gained layer bounds visible former d c.look-look.ensures.sound c.in_ok-kept.ensures.ordered c.requires.may.inside c.damage.ensures c.region.ensures.inside
    (made_gained layer bounds visible former d look.kind look.framed c.rects.result.now c.region.result.now _ _ c.in_ok-due.due inner look.updating
    read c.in_ok-was.ensures c.in_ok-kept.ensures.kept c.in_ok-due.ensures c.inner_rectangle-inner.ensures made))
    c.of_region.ensures

pub returns-then-stays_undamaged : goal.returns-then-stays_undamaged
returns-then-stays_undamaged c =
    let layer = c.args.layer.now in
    let bounds = c.args.bounds.now in
    let visible = c.args.visible.now in
    let look = c.look-look.result in
    let sees = c.look-look.ensures.look in
    let inner = c.inner_rectangle-inner.result in
    let read : IsRead layer visible (no_damage layer) look.kind look.framed visible [] look.updating = record {
      kind_is = sees.kind;
      framed_is = sees.framed;
      new_is = refl;
      damaged_is = refl;
      updating_is = sees.updating;
    } in
    none_gained layer bounds visible c.undamaged.result look.kind look.framed inner look.updating c.look-look.ensures.sound c.requires.may.inside
    (c.stays_undamaged.ensures c.if-stays_undamaged.true) read c.inner_rectangle-inner.ensures c.undamaged.ensures
