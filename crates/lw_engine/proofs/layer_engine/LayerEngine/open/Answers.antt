use Rattle.std.proofs.Common.{map}
use Rattle.lw_machine.specs.Desk.{shelf_of}
use Rattle.lw_engine.proofs.OpenedLaws.{opened_layers, opened_registers}
use Rattle.lw_engine.proofs.layer_engine.LayerEngine.open.Goals as goal

pub returns-clause-layers : goal.returns-clause-layers
returns-clause-layers g c =
    let sizes = c.args.self.now.sizes in
    let shelf = shelf_of (map g.B.Backfill.hook c.args.hooks.items) in
    opened_layers sizes c.args.self.now.assets.now shelf c.in_ok-info.info c.in_ok-shelf.shelf c.in_ok-slots.slots.items c.requires (c.in_ok-info.ensures {u = tt}) c.in_ok-shelf.ensures (c.in_ok-slots.ensures {u = tt})

pub returns-clause-registers : goal.returns-clause-registers
returns-clause-registers g c =
    let sizes = c.args.self.now.sizes in
    let shelf = shelf_of (map g.B.Backfill.hook c.args.hooks.items) in
    opened_registers sizes c.args.self.now.assets.now shelf c.in_ok-registers.registers.items (c.in_ok-registers.ensures {u = tt})
