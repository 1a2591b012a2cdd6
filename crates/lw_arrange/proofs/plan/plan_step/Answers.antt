use Rattle.std.proofs.Common.{◌≡◌, length, refl, sym, ap, subst, ◌∙◌}
use Rattle.std.specs.List.{All}
use Rattle.lw_calls.specs.declared.sizes.Sizes.{Sizes}
use Rattle.lw_cliprects.specs.Parts.{LieIn}
use Rattle.lw_machine.specs.Screen.{screen_bounds}
use Rattle.lw_strips.specs.Laying.{screen, LiesIn}
use Rattle.lw_stack.specs.Stack.{Stack, IsStack, StandsForInfo, stack_of}
use Rattle.lw_machine.specs.Parts.{info_part}
use Rattle.lw_arrange.specs.Arrangements.{ArrangementView}
use Rattle.lw_machine.specs.Arrangement.{arranged}
use Rattle.lw_arrange.specs.Arranged.{IsArrangementOf}
use Rattle.lw_arrange.specs.Areas.{HasArea}
use Rattle.lw_stack.proofs.ListLaws.{entries_within_bounds}
use Rattle.lw_arrange.proofs.StackLaws.{below_along}
use Rattle.lw_arrange.proofs.RefusalLaws.{refused_is_refusal}
use Rattle.lw_arrange.proofs.SoundLaws.{new_rect, after_sound}
use Rattle.lw_arrange.proofs.ArrangedLaws.{after_stands}
use Rattle.lw_arrange.specs.Pieces.{ArePieces}
use Rattle.lw_arrange.specs.Planning.{stack_after}
use Rattle.lw_arrange.proofs.ElsewhereLaws.{top_elsewhere, plan_area, area_on_screen}
use Rattle.lw_arrange.proofs.PieceLaws.{are_pieces, pieces_on_screen}
use Rattle.lw_arrange.proofs.plan.plan_step.Goals as goal

pub returns-in-Some-clause-step : goal.returns-in-Some-clause-step
returns-in-Some-clause-step c = λ d are.
    let a = c.args in
    sym (refused_is_refusal d a.info.now a.looks.now a.fresh a.task a.call.now c.requires.all c.requires.fits are)
    ∙ (sym c.refused.ensures ∙ c.in-Some.is)

pub after-requires-clause-placed : goal.after-requires-clause-placed
after-requires-clause-placed c =
    let a = c.args in
    new_rect a.info.now a.looks.now a.fresh a.task a.call.now
    (sym c.refused.ensures ∙ c.in_default.is)

pub shown_in-requires : goal.shown_in-requires
shown_in-requires c =
    let a = c.args in
    let sound =
    subst IsStack (sym (c.in_ok-after.ensures {u = tt}))
    (after_sound a.info.now a.looks.now a.fresh a.task a.call.now c.sizes-sizes.ensures.stack c.requires.fits
    (sym c.refused.ensures ∙ c.in_default.is)) in
    let all = entries_within_bounds (stack_of a.info.now.sizes c.in_ok-after.after) sound in
    below_along _ c.as_slice.result.now _ (length c.as_slice-2.result.now) c.as_slice.ensures.value
    (ap length c.as_slice-2.ensures.value) all

pub new-requires-clause-stack : goal.new-requires-clause-stack
new-requires-clause-stack c =
    let a = c.args in
    let sound =
    subst IsStack (sym (c.in_ok-after.ensures {u = tt}))
    (after_sound a.info.now a.looks.now a.fresh a.task a.call.now c.sizes-sizes.ensures.stack c.requires.fits
    (sym c.refused.ensures ∙ c.in_default.is)) in
    subst (λ (sizes : Sizes). IsStack (stack_of sizes c.in_ok-after.after)) (sym c.sizes-sizes.ensures.value) sound

pub returns-clause-step : goal.returns-clause-step
returns-clause-step c = λ d are.
    let a = c.args in
    let refusal = refused_is_refusal d a.info.now a.looks.now a.fresh a.task a.call.now c.requires.all c.requires.fits are in
    let P : Stack → Type 0 = λ v. StandsForInfo v (info_part (arranged d a.task a.call.now)) in
    let stands =
    subst P (sym (c.in_ok-after.ensures {u = tt}))
    (after_stands d a.info.now a.looks.now a.fresh a.task a.call.now c.sizes-sizes.ensures.stack c.requires.all c.requires.fits
    are) in
    let Q : ArrangementView → Type 0 = λ p. IsArrangementOf d a.task a.call.now p in (
      sym refusal ∙ (sym c.refused.ensures ∙ c.in_default.is),
      subst Q (sym c.new.ensures)
          (record {
            task = refl;
            call = c.in_ok-call.ensures {u = tt};
            info = record { front_to_back = stands.front_to_back; bounds = stands.bounds; active = stands.active };
          }),
    )

pub returns-clause-area : goal.returns-clause-area
returns-clause-area c =
    let a = c.args in
    let v = a.info.now in
    let sizes = c.sizes-sizes.result.now in
    let after = c.in_ok-after.after in
    let Q : ArrangementView → Type 0 = λ p. HasArea v p in
    subst Q (sym c.new.ensures)
    (plan_area v (stack_of sizes after) a.looks.now a.task a.call.now c.in_ok-call.call c.in_ok-area.area c.in_ok-shown.shown.sets.items
    c.in_ok-shown.shown.rest c.in_ok-pieces.pieces.items
    (ap (λ (z : Sizes). stack_of z after) c.sizes-sizes.ensures.value ∙ c.in_ok-after.ensures {u = tt}) (c.in_ok-call.ensures {u = tt})
    (c.in_ok-area.ensures {u = tt}))

pub new-requires-clause-area : goal.new-requires-clause-area
new-requires-clause-area c =
    let v = c.args.info.now in
    let P : Sizes → Type 0 = λ z. LieIn (screen_bounds z) c.in_ok-area.area in
    subst P (sym c.sizes-sizes.ensures.value)
    (area_on_screen v (stack_of v.sizes c.in_ok-after.after) c.args.call.now c.in_ok-area.area (c.in_ok-area.ensures {u = tt}))

pub new-requires-clause-pieces : goal.new-requires-clause-pieces
new-requires-clause-pieces c =
    let v = c.args.info.now in
    let slots = ap (λ (z : Sizes). z.slots) c.sizes-sizes.ensures.value in
    let P : Sizes → Type 0 = λ z. All (λ p. LiesIn p.rect (screen z.width z.height)) c.in_ok-pieces.pieces.items in
    subst P (sym c.sizes-sizes.ensures.value)
    (pieces_on_screen v c.in_ok-area.area c.in_ok-were.were.sets.items c.in_ok-were.were.rest c.in_ok-shown.shown.sets.items
    c.in_ok-shown.shown.rest _ c.in_ok-pieces.pieces.items slots
    (record { many = c.sizes-sizes.ensures.stack.many; shown = c.in_ok-were.ensures.sets; left = c.in_ok-were.ensures.rest }) (area_on_screen v (stack_of v.sizes c.in_ok-after.after) c.args.call.now c.in_ok-area.area (c.in_ok-area.ensures {u = tt}))
    c.in_ok-pieces.ensures)

pub pieces_of-requires-clause-before : goal.pieces_of-requires-clause-before
pieces_of-requires-clause-before c =
    c.in_ok-were.ensures.sets.many
    ∙ (c.sizes-sizes.ensures.stack.many ∙ sym (ap (λ (z : Sizes). z.slots) c.sizes-sizes.ensures.value))

pub pieces_of-requires-clause-after : goal.pieces_of-requires-clause-after
pieces_of-requires-clause-after c =
    let sound = subst IsStack (sym (c.in_ok-after.ensures {u = tt}))
    (after_sound c.args.info.now c.args.looks.now c.args.fresh c.args.task c.args.call.now c.sizes-sizes.ensures.stack c.requires.fits
    (sym c.refused.ensures ∙ c.in_default.is)) in
    c.in_ok-shown.ensures.sets.many
    ∙ (ap length c.as_slice-2.ensures.value ∙ (sound.many ∙ sym (ap (λ (z : Sizes). z.slots) c.sizes-sizes.ensures.value)))

pub returns-clause-pieces : goal.returns-clause-pieces
returns-clause-pieces c =
    let a = c.args in
    let v = a.info.now in
    let after = c.in_ok-after.after in
    let slots = ap (λ (z : Sizes). z.slots) c.sizes-sizes.ensures.value in
    let made : stack_of v.sizes after ≡ stack_after v a.looks.now a.call.now = c.in_ok-after.ensures {u = tt} in
    let sound = subst IsStack (sym (c.in_ok-after.ensures {u = tt}))
    (after_sound c.args.info.now c.args.looks.now c.args.fresh c.args.task c.args.call.now c.sizes-sizes.ensures.stack c.requires.fits
    (sym c.refused.ensures ∙ c.in_default.is)) in
    let Q : ArrangementView → Type 0 = λ p. ArePieces v p.stack p.pieces in
    let R : Sizes → Type 0 = λ z. ArePieces v (stack_of z after) c.in_ok-pieces.pieces.items in
    subst Q (sym c.new.ensures)
    (subst R (sym c.sizes-sizes.ensures.value)
    (are_pieces v (stack_of v.sizes after) c.in_ok-area.area c.in_ok-were.were.sets.items c.in_ok-were.were.rest c.in_ok-shown.shown.sets.items
    c.in_ok-shown.shown.rest _ c.in_ok-pieces.pieces.items slots refl
    (record { many = c.sizes-sizes.ensures.stack.many; shown = c.in_ok-were.ensures.sets; left = c.in_ok-were.ensures.rest })
    (record {
      many = sound.many;
      shown = rw (c.as_slice-2.ensures.value, c.as_slice.ensures.value) at c.in_ok-shown.ensures.sets;
      left = rw (c.as_slice-2.ensures.value, c.as_slice.ensures.value) at c.in_ok-shown.ensures.rest;
    }) (area_on_screen v (stack_of v.sizes c.in_ok-after.after) c.args.call.now c.in_ok-area.area (c.in_ok-area.ensures {u = tt}))
    (top_elsewhere v (stack_of v.sizes after) a.looks.now a.call.now c.in_ok-area.area made (c.in_ok-area.ensures {u = tt}))
    c.in_ok-pieces.ensures))
