use Rattle.std.proofs.Common.{Option, ◌∙◌, sym, subst, to_z, of_z, w32}
use Rattle.std.proofs.lemmas.Int.{to_z-of_z}
use Rattle.lw_damage.specs.Damaged.{Damaged}
use Rattle.lw_scroll.specs.Marks.{IsDamageAfter}
use Rattle.lw_scroll.proofs.PenLaws.{pens_inner, pens_updating, pens_keep, damage_set, damage_left}
use Rattle.lw_scroll.proofs.scrolling.scroll_raster.Goals as goal

pub set_damage-requires-clause-inner : goal.set_damage-requires-clause-inner
set_damage-requires-clause-inner c =
    let P : Option Damaged → Type 0 =
    λ o. IsDamageAfter c.args.layer.now c.args.rect.now (to_z w32 (of_z w32 c.args.dx)) (to_z w32 (of_z w32 c.args.dy)) o
    in
    (subst P c.in-Some.is c.in_ok-damage.ensures).inner
    ∙ sym (pens_inner c.args.layer.now c.scroll_pens.new.layer c.args.rect.now _ _ c.scroll_pens.ensures)

pub set_damage-requires-clause-updating : goal.set_damage-requires-clause-updating
set_damage-requires-clause-updating c =
    let P : Option Damaged → Type 0 =
    λ o. IsDamageAfter c.args.layer.now c.args.rect.now (to_z w32 (of_z w32 c.args.dx)) (to_z w32 (of_z w32 c.args.dy)) o
    in
    (subst P c.in-Some.is c.in_ok-damage.ensures).updating
    ∙ sym (pens_updating c.args.layer.now c.scroll_pens.new.layer c.args.rect.now _ _ c.scroll_pens.ensures)

pub set_damage-requires-clause-kept : goal.set_damage-requires-clause-kept
set_damage-requires-clause-kept c = λ x y has.
    let P : Option Damaged → Type 0 =
    λ o. IsDamageAfter c.args.layer.now c.args.rect.now (to_z w32 (of_z w32 c.args.dx)) (to_z w32 (of_z w32 c.args.dy)) o
    in
    pens_keep c.args.layer.now c.scroll_pens.new.layer c.args.rect.now _ _ c.scroll_pens.ensures _ x y
    ∙ (subst P c.in-Some.is c.in_ok-damage.ensures).kept x y has

pub returns-in-Some-clause-done : goal.returns-in-Some-clause-done
returns-in-Some-clause-done c =
    let P : Option Damaged → Type 0 =
    λ o. IsDamageAfter c.args.layer.now c.args.rect.now (to_z w32 (of_z w32 c.args.dx)) (to_z w32 (of_z w32 c.args.dy)) o
    in
    let done =
    damage_set c.args.layer.now c.scroll_pens.new.layer c.set_damage.new.self c.args.rect.now _ _ c.in-Some.damage
    c.scroll_pens.ensures c.set_damage.ensures
    (subst P c.in-Some.is c.in_ok-damage.ensures).pixels
    in
    rw (to_z-of_z w32 c.args.dx c.ranges.dx, to_z-of_z w32 c.args.dy c.ranges.dy) at done

pub returns-in_default-clause-done : goal.returns-in_default-clause-done
returns-in_default-clause-done c =
    let P : Option Damaged → Type 0 =
    λ o. IsDamageAfter c.args.layer.now c.args.rect.now (to_z w32 (of_z w32 c.args.dx)) (to_z w32 (of_z w32 c.args.dy)) o
    in
    let done =
    damage_left c.args.layer.now c.scroll_pens.new.layer c.args.rect.now _ _ c.scroll_pens.ensures
    (subst P c.in_default.is c.in_ok-damage.ensures)
    in
    rw (to_z-of_z w32 c.args.dx c.ranges.dx, to_z-of_z w32 c.args.dy c.ranges.dy) at done
