use Rattle.std.proofs.Common.{◌≡◌, length, Some, refl}
use Rattle.std.specs.List.{slice_get}
use Rattle.std.proofs.lemmas.Option.{slice_get_read}
use Rattle.lw_runs.proofs.PartsLaws.{one_step, one_still}
use Rattle.lw_runs.proofs.parts.Parts.on_layer.Goals as goal

pub returns-clause-step : goal.returns-clause-step
returns-clause-step g c =
    let e = g.E.Engine in
    let a = c.args in
    let p = a.self.now in
    let cells = p.cells.items in
    let all = p.registers.items in
    let old = c.index_mut.result.now in
    let held = c.index-held.result.now in
    let got : slice_get cells a.slot ≡ Some old = slice_get_read cells (length cells) a.slot old refl c.requires.slot c.index_mut.ensures.value in
    let read : slice_get all a.task ≡ Some held = slice_get_read all (length all) a.task held refl c.requires.task c.index-held.ensures in
    one_step e.relations (e.sizes a.engine.now) (e.assets a.engine.now) c.one.result p.info cells all a.task a.slot a.call.now old c.one.new.cell held
    c.requires.fits c.requires.class got (c.requires.numbers a.slot old got) c.one.ensures.number read c.one.ensures.step

pub returns-clause-unchanged : goal.returns-clause-unchanged
returns-clause-unchanged g c =
    let e = g.E.Engine in
    let a = c.args in
    let p = a.self.now in
    let cells = p.cells.items in
    let old = c.index_mut.result.now in
    let got : slice_get cells a.slot ≡ Some old = slice_get_read cells (length cells) a.slot old refl c.requires.slot c.index_mut.ensures.value in
    one_still e.relations (e.sizes a.engine.now) (e.assets a.engine.now) c.one.result p.info cells p.registers.items a.slot old c.one.new.cell
    got c.one.ensures.unchanged
