use Rattle.std.proofs.Common.{sym, subst, ◌∙◌}
use Rattle.std.proofs.lemmas.List.{get_or_default}
use Rattle.lw_layer.specs.View.{CellView}
use Rattle.lw_engine.specs.Desks.{no_cell}
use Rattle.lw_engine.specs.Slots.{IsLeft, MayBeReady}
use Rattle.lw_engine.proofs.all_layers.is_left.Goals as goal

pub is_left-requires : goal.is_left-requires
is_left-requires g c =
    let k = c.args.slot in
    let here = c.index-slots-slot.is ∙ get_or_default c.args.slots.now k c.index-slots-slot.result no_cell c.requires.low in
    let P : CellView → Type 0 = λ v. MayBeReady c.args.arrangement.now v in
    subst P (sym here) (c.requires.may k c.requires.low)

pub returns : goal.returns
returns g c =
    λ yes.
    let k = c.args.slot in
    let here = c.index-slots-slot.is ∙ get_or_default c.args.slots.now k c.index-slots-slot.result no_cell c.requires.low in
    let P : CellView → Type 0 = λ v. IsLeft c.args.arrangement.now v in
    subst P here (c.is_left.ensures yes)
