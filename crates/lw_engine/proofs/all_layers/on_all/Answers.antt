use Rattle.std.proofs.Common.{◌<◌, length, arith}
use Rattle.lw_engine.specs.Desks.{cell_at}
use Rattle.lw_engine.proofs.HookSetting.{set_low, numbered_set, dropped_set, set_step}
use Rattle.lw_engine.proofs.all_layers.on_all.Goals as goal

pub returns-in-SetHook-clause-step : goal.returns-in-SetHook-clause-step
returns-in-SetHook-clause-step g c =
    λ d are hooks handed.
    let a = c.args in
    let i = c.in-SetHook in
    let low = set_low a.info.now.sizes a.call.now i.slot i.hook i.is c.requires.fits in
    let inside : i.slot < length a.slots.now = omega (arith, low, c.requires.cells.many) in
    set_step d a.info.now a.shelf.now c.set_hook.new.shelf a.slots.now c.set_hook.new.slots a.task a.call.now i.slot i.hook c.set_hook.result i.is are hooks c.requires.fits inside c.set_hook.ensures

pub returns-in-SetHook-clause-cells : goal.returns-in-SetHook-clause-cells
returns-in-SetHook-clause-cells g c =
    let a = c.args in
    let i = c.in-SetHook in
    let low = set_low a.info.now.sizes a.call.now i.slot i.hook i.is c.requires.fits in
    let inside : i.slot < length a.slots.now = omega (arith, low, c.requires.cells.many) in
    numbered_set (cell_at a.slots.now i.slot).state a.shelf.now c.set_hook.new.shelf a.slots.now c.set_hook.new.slots i.slot i.hook a.info.now.sizes.slots c.set_hook.result inside c.set_hook.ensures c.requires.cells

pub returns-in-SetHook-clause-dropped : goal.returns-in-SetHook-clause-dropped
returns-in-SetHook-clause-dropped g c =
    let a = c.args in
    let i = c.in-SetHook in
    let low = set_low a.info.now.sizes a.call.now i.slot i.hook i.is c.requires.fits in
    let inside : i.slot < length a.slots.now = omega (arith, low, c.requires.cells.many) in
    dropped_set (cell_at a.slots.now i.slot).state a.shelf.now c.set_hook.new.shelf a.slots.now c.set_hook.new.slots i.slot i.hook c.set_hook.result inside c.set_hook.ensures
