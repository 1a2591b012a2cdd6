use Rattle.std.proofs.Common.{◌≡◌, length, Some, refl}
use Rattle.std.specs.List.{slice_get}
use Rattle.std.proofs.lemmas.Option.{slice_get_read}
use Rattle.lw_runs.proofs.PartsLaws.{regs_step, regs_still}
use Rattle.lw_runs.proofs.parts.Parts.on_registers.Goals as goal

pub returns-clause-step : goal.returns-clause-step
returns-clause-step g c =
    let e = g.E.Engine in
    let a = c.args in
    let p = a.self.now in
    let all = p.registers.items in
    let got : slice_get all a.task ≡ Some c.index_mut.result.now = slice_get_read all (length all) a.task c.index_mut.result.now refl c.requires.task c.index_mut.ensures.value in
    regs_step e.relations (e.sizes a.engine.now) (e.assets a.engine.now) c.regs.result p.info p.cells.items all a.task a.call.now c.index_mut.result.now c.regs.new.regs
    c.requires.fits c.requires.class got c.regs.ensures.step

pub returns-clause-unchanged : goal.returns-clause-unchanged
returns-clause-unchanged g c =
    let e = g.E.Engine in
    let a = c.args in
    let p = a.self.now in
    let all = p.registers.items in
    let got : slice_get all a.task ≡ Some c.index_mut.result.now = slice_get_read all (length all) a.task c.index_mut.result.now refl c.requires.task c.index_mut.ensures.value in
    regs_still e.relations (e.sizes a.engine.now) (e.assets a.engine.now) c.regs.result p.info p.cells.items all a.task c.index_mut.result.now c.regs.new.regs
    got c.regs.ensures.unchanged
