use Rattle.std.proofs.Common.{set, sym, ap, subst, ◌∙◌}
use Rattle.std.proofs.lemmas.List.{get_or_default, get_or-set_same}
use Rattle.std.proofs.lemmas.Result.{on_ok_weaker}
use Rattle.lw_layer.specs.View.{CellView}
use Rattle.lw_layer.specs.Windows.{without_room, HasRoom}
use Rattle.lw_engine.specs.Desks.{no_cell}
use Rattle.lw_engine.proofs.all_layers.reserve_one.Goals as goal

pub returns-clause-slots : goal.returns-clause-slots
returns-clause-slots g c =
    let slots = c.args.slots.now in
    ap (set slots c.args.slot) (sym (get_or-set_same slots c.args.slot c.reserve.new.self no_cell c.requires))

pub returns-clause-cell : goal.returns-clause-cell
returns-clause-cell g c =
    let slots = c.args.slots.now in
    ap without_room (get_or-set_same slots c.args.slot c.reserve.new.self no_cell c.requires)
    ∙ (c.reserve.ensures.cell ∙ ap without_room (get_or_default slots c.args.slot c.index-slots-slot.result no_cell c.requires))

pub returns-clause-room : goal.returns-clause-room
returns-clause-room g c =
    let P : CellView → Type 0 = λ v. HasRoom 5 v in
    on_ok_weaker c.reserve.result
    (subst P (sym (get_or-set_same c.args.slots.now c.args.slot c.reserve.new.self no_cell c.requires))) c.reserve.ensures.room
