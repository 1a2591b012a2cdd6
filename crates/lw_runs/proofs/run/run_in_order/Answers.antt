use Rattle.std.proofs.Common.{◌≡◌, List, [], replicate, ap, ◌∙◌}
use Rattle.lw_calls.specs.declared.sizes.Sizes.{Sizes}
use Rattle.lw_machine.specs.Hook.{Hook}
use Rattle.lw_runs.specs.Standing.{StandForDesk}
use Rattle.lw_runs.proofs.Next.{has_run_first}
use Rattle.lw_runs.proofs.run.run_in_order.Goals as goal

pub make_all-requires-clause-opened : goal.make_all-requires-clause-opened
make_all-requires-clause-opened g c κs within =
    let e = g.E.Engine in
    let engine = c.args.engine.now in
    let p = c.args.parts in
    let standing = StandForDesk e.relations (e.sizes engine) (e.assets engine) p.info p.cells.items p.registers.items in
    let none : c.in_ok-told.told.items ≡ replicate c.args.plan.now.sizes.tasks [] = c.in_ok-told.ensures {u = tt} ∙ ap (λ (s : Sizes). replicate s.tasks []) c.sizes.ensures.value in
    let hooks : List Hook = c.requires.opened.0 in
    (hooks, has_run_first c.args.plan.now hooks standing c.in_ok-told.told.items none c.requires.opened.1)

pub returns : goal.returns
returns g c =
    let e = g.E.Engine in
    let engine = c.args.engine.now in
    let p = c.args.parts in
    let standing = StandForDesk e.relations (e.sizes engine) (e.assets engine) p.info p.cells.items p.registers.items in
    let none : c.in_ok-told.told.items ≡ replicate c.args.plan.now.sizes.tasks [] = c.in_ok-told.ensures {u = tt} ∙ ap (λ (s : Sizes). replicate s.tasks []) c.sizes.ensures.value in
    λ hooks opened. c.in_ok-make_all.ensures {u = tt} hooks (has_run_first c.args.plan.now hooks standing c.in_ok-told.told.items none opened)
