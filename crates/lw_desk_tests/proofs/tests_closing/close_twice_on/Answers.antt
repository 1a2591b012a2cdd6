use Rattle.std.proofs.Common.{[], refl, subst, rules}
use Rattle.lw_machine.specs.Desk.{Desk}
use Rattle.lw_engine_trait.specs.Steps.{AreCells}
use Rattle.lw_engine.specs.Layers.{layer_relations, AreRegisters}
use Rattle.lw_desk_tests.proofs.Opened.{same_desk}
use Rattle.lw_desk_tests.proofs.tests_closing.close_twice_on.Goals as goal

pub start-requires-clause-cells : goal.start-requires-clause-cells
start-requires-clause-cells g c κs within =
    let o = c.in_ok-opened.opened in
    let first = c.in_ok-opened.ensures {u = tt} in
    subst (λ (d : Desk). AreCells layer_relations o.slots.items d)
    (same_desk g.N.Opening.desk c.args.assets.now _ c.new-engine.result.sizes c.new-engine.result.assets.now _ c.requires.desk c.new-engine.ensures.sizes c.new-engine.ensures.assets (search rules)) first.layers.cells

pub start-requires-clause-regs : goal.start-requires-clause-regs
start-requires-clause-regs g c κs within =
    let o = c.in_ok-opened.opened in
    let first = c.in_ok-opened.ensures {u = tt} in
    subst (λ (d : Desk). AreRegisters o.registers.items d)
    (same_desk g.N.Opening.desk c.args.assets.now _ c.new-engine.result.sizes c.new-engine.result.assets.now [] c.requires.desk c.new-engine.ensures.sizes c.new-engine.ensures.assets refl) first.registers
