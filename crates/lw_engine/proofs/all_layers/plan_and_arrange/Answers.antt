use Rattle.std.proofs.Common.{◌<◌, List, length, Option, sym, subst, arith}
use Rattle.lw_calls.specs.Assets.{Assets}
use Rattle.lw_calls.specs.declared.reply.Reply.{Reply}
use Rattle.lw_machine.specs.Hook.{Hook}
use Rattle.lw_machine.specs.Desk.{Desk}
use Rattle.lw_layer.specs.declared.look.Look.{Look}
use Rattle.lw_stack.specs.Stack.{Stack}
use Rattle.lw_arrange.specs.declared.arrangement.Step.{Step}
use Rattle.lw_arrange.specs.Arranged.{IsStepOf}
use Rattle.lw_arrange.specs.Areas.{StepHasArea}
use Rattle.lw_arrange.specs.Pieces.{StepHasPieces}
use Rattle.lw_arrange.specs.Steps.{KeepsSizes}
use Rattle.lw_engine.specs.Desks.{cell_at}
use Rattle.lw_engine.specs.Slots.{slot_after}
use Rattle.lw_engine.specs.Arranging.{AreLooks, AreChanged, IsAllStep}
use Rattle.lw_engine.proofs.RoomLaws.{same_cell, same_length, sound_roomed, numbered_roomed, of_desk_roomed, listed_roomed, listed_cells}
use Rattle.lw_engine.proofs.ArrangingDesks.{told_desk, plan_done, refused_step, done_step, cells_may, numbered_after, dropped_after, dropped_none, kept_after, step_after}
use Rattle.lw_engine.proofs.all_layers.plan_and_arrange.Goals as goal

pub looks_of-requires-clause-listed : goal.looks_of-requires-clause-listed
looks_of-requires-clause-listed g c =
    listed_cells c.args.info.now c.args.slots.now c.requires.desk.0 c.requires.desk.1 c.requires.cells

pub reserve_all-requires-clause-listed : goal.reserve_all-requires-clause-listed
reserve_all-requires-clause-listed g c =
    listed_cells c.args.info.now c.args.slots.now c.requires.desk.0 c.requires.desk.1 c.requires.cells

pub returns-in-Refused-clause-step : goal.returns-in-Refused-clause-step
returns-in-Refused-clause-step g c =
    λ d are hooks handed.
    let v = c.args.info.now in
    let cells = c.args.slots.now in
    let L : List (Option Look) → Type 0 = λ l. AreLooks cells l in
    let truth : L c.deref.result.now = subst L (sym c.deref.ensures.value) c.in_ok-looks.ensures in
    let P : Step → Type 0 = λ q. IsStepOf d c.args.task c.args.call.now q in
    let step = c.in_ok-reply.ensures.step d (told_desk d v cells c.deref.result.now c.is_fresh-fresh.result c.args.call.now are c.requires.cells truth c.is_fresh-fresh.ensures c.requires.fits) in
    refused_step d v c.args.shelf.now cells c.args.task c.args.call.now c.in-Refused.reply are hooks (subst P c.in-Refused.is step)

pub returns-in_err-reserve_all-in-Arranged-clause-cells : goal.returns-in_err-reserve_all-in-Arranged-clause-cells
returns-in_err-reserve_all-in-Arranged-clause-cells g c =
    numbered_roomed c.args.info.now.sizes.slots c.args.slots.now c.reserve_all.new.slots c.reserve_all.ensures.cells c.requires.cells

pub returns-in_err-reserve_all-in-Arranged-clause-dropped : goal.returns-in_err-reserve_all-in-Arranged-clause-dropped
returns-in_err-reserve_all-in-Arranged-clause-dropped g c = dropped_none c.args.slots.now c.reserve_all.new.slots c.reserve_all.ensures.cells

pub arrange-requires-clause-cells : goal.arrange-requires-clause-cells
arrange-requires-clause-cells g c =
    numbered_roomed c.args.info.now.sizes.slots c.args.slots.now c.reserve_all.new.slots c.reserve_all.ensures.cells c.requires.cells

pub arrange-requires-clause-area : goal.arrange-requires-clause-area
arrange-requires-clause-area g c =
    let A : Step → Type 0 = λ q. StepHasArea c.args.info.now q in
    subst A c.in-Arranged.is c.in_ok-reply.ensures.area

pub arrange-requires-clause-pieces : goal.arrange-requires-clause-pieces
arrange-requires-clause-pieces g c =
    let A : Step → Type 0 = λ q. StepHasPieces c.args.info.now q in
    subst A c.in-Arranged.is c.in_ok-reply.ensures.pieces

pub arrange-requires-clause-may : goal.arrange-requires-clause-may
arrange-requires-clause-may g c =
    let v = c.args.info.now in
    let cells = c.args.slots.now in
    let roomy = c.reserve_all.new.slots in
    let before = c.reserve_all.ensures.cells in
    let d : Desk = c.requires.desk.0 in
    let L : List (Option Look) → Type 0 = λ l. AreLooks cells l in
    let truth : L c.deref.result.now = subst L (sym c.deref.ensures.value) c.in_ok-looks.ensures in
    let A : Step → Type 0 = λ q. StepHasArea v q in
    let B : Step → Type 0 = λ q. StepHasPieces v q in
    let K : Step → Type 0 = λ q. KeepsSizes v.sizes q in
    cells_may d v roomy c.args.task c.args.call.now c.in-Arranged.arrangement (of_desk_roomed v cells roomy d before c.requires.cells c.requires.desk.1)
    (numbered_roomed v.sizes.slots cells roomy before c.requires.cells)
    (plan_done d v cells c.deref.result.now c.is_fresh-fresh.result c.args.task c.args.call.now c.in_ok-reply.field-0 c.in-Arranged.arrangement c.requires.desk.1 c.requires.cells truth c.is_fresh-fresh.ensures
    c.requires.all c.requires.fits c.in_ok-reply.ensures.step c.in_ok-reply.ensures.sizes c.in-Arranged.is c.sizes.ensures.planned)
    (subst A c.in-Arranged.is c.in_ok-reply.ensures.area) (subst B c.in-Arranged.is c.in_ok-reply.ensures.pieces)
    c.sizes-in-Arranged.ensures.stack c.sizes.ensures.planned.stack (subst K c.in-Arranged.is c.in_ok-reply.ensures.sizes)
    (λ s low.
    let inside : s < length cells = omega (arith, low, same_length cells roomy before) in
    sound_roomed (cell_at cells s) (cell_at roomy s) (same_cell cells roomy s before inside) (truth.each s inside).sound)
    (c.in_ok-reserve_all-in-Arranged.ensures {u = tt}).room

pub arrange-requires-clause-listed : goal.arrange-requires-clause-listed
arrange-requires-clause-listed g c =
    let v = c.args.info.now in
    listed_roomed v c.args.slots.now c.reserve_all.new.slots c.reserve_all.ensures.cells
    (listed_cells v c.args.slots.now c.requires.desk.0 c.requires.desk.1 c.requires.cells)

pub returns-clause-step : goal.returns-clause-step
returns-clause-step g c =
    let v = c.args.info.now in
    let shelf = c.args.shelf.now in
    let cells = c.args.slots.now in
    let roomy = c.reserve_all.new.slots in
    let before = c.reserve_all.ensures.cells in
    let new = c.arrange.new.slots in
    let a = c.in-Arranged.arrangement in
    let assets = c.args.assets.now in
    let L : List (Option Look) → Type 0 = λ l. AreLooks cells l in
    let truth : L c.deref.result.now = subst L (sym c.deref.ensures.value) c.in_ok-looks.ensures in
    let K : Step → Type 0 = λ q. KeepsSizes v.sizes q in
    let R : Reply → Stack → List (Option Hook) → Type 0 = λ r w l. IsAllStep assets v shelf cells c.args.task c.args.call.now r w l new in
    step_after assets.glyphs a c.arrange.new.info shelf c.arrange.new.shelf roomy new c.arrange.result R c.arrange.ensures.reply c.arrange.ensures.info c.arrange.ensures.shelf c.arrange.ensures.cells
    (λ changed d are hooks handed.
    let G : Assets → Type 0 = λ x. AreChanged (slot_after x.glyphs a shelf) roomy new in
    done_step d v shelf roomy new c.args.task c.args.call.now a (of_desk_roomed v cells roomy d before c.requires.cells are) hooks
    (numbered_roomed v.sizes.slots cells roomy before c.requires.cells)
    (plan_done d v cells c.deref.result.now c.is_fresh-fresh.result c.args.task c.args.call.now c.in_ok-reply.field-0 a are c.requires.cells truth c.is_fresh-fresh.ensures
    c.requires.all c.requires.fits c.in_ok-reply.ensures.step c.in_ok-reply.ensures.sizes c.in-Arranged.is c.sizes.ensures.planned)
    (subst K c.in-Arranged.is c.in_ok-reply.ensures.sizes) (subst G (sym handed) changed))

pub returns-clause-cells : goal.returns-clause-cells
returns-clause-cells g c =
    let v = c.args.info.now in
    let roomy = c.reserve_all.new.slots in
    let K : Step → Type 0 = λ q. KeepsSizes v.sizes q in
    numbered_after c.args.assets.now.glyphs c.in-Arranged.arrangement c.args.shelf.now c.arrange.new.shelf v c.arrange.new.info roomy c.arrange.new.slots c.arrange.result
    (numbered_roomed v.sizes.slots c.args.slots.now roomy c.reserve_all.ensures.cells c.requires.cells) (subst K c.in-Arranged.is c.in_ok-reply.ensures.sizes)
    c.arrange.ensures.info c.arrange.ensures.cells c.arrange.ensures.unchanged

pub returns-clause-dropped : goal.returns-clause-dropped
returns-clause-dropped g c =
    dropped_after c.args.assets.now.glyphs c.in-Arranged.arrangement c.args.shelf.now c.arrange.new.shelf c.args.info.now c.arrange.new.info c.args.slots.now c.reserve_all.new.slots c.arrange.new.slots c.arrange.result
    c.reserve_all.ensures.cells c.arrange.ensures.cells c.arrange.ensures.unchanged

pub returns-clause-unchanged : goal.returns-clause-unchanged
returns-clause-unchanged g c =
    kept_after c.args.info.now c.arrange.new.info c.args.shelf.now c.arrange.new.shelf c.args.slots.now c.reserve_all.new.slots c.arrange.new.slots c.arrange.result
    c.reserve_all.ensures.cells c.arrange.ensures.unchanged
