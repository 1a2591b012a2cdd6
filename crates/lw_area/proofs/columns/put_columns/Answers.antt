use Rattle.std.proofs.Common.{◌≡◌, ℤ, pos, to_z, of_z, w32, arith, subst, take}
use Rattle.std.proofs.lemmas.Int.{ints}
use Rattle.std.proofs.lemmas.List.{take_all}
use Rattle.lw_area.specs.Rows.{AreColumns}
use Rattle.lw_area.proofs.Toggles.{columns_none, columns_more}
use Rattle.lw_area.proofs.columns.put_columns.Goals as goal

pub loop-edge-init : goal.loop-edge-init
loop-edge-init c = columns_none (to_z w32 (of_z w32 c.args.row)) c.clear.new.self.items c.clear.ensures.items

pub loop-edge-preserved : goal.loop-edge-preserved
loop-edge-preserved c =
    let range = c.first_column.ensures.range in
    let same : to_z w32 (of_z w32 c.first_column.result) ≡ c.first_column.result = omega (arith, ints) in
    columns_more c.args.edges.now c.loop-edge.edge-index
    (record { upper = record { x = pos 0; y = pos 0 }; lower = record { x = pos 0; y = pos 0 } })
    (to_z w32 (of_z w32 c.args.row)) c.first_column.result (to_z w32 (of_z w32 c.first_column.result)) c.loop-edge.columns.items c.toggle.new.columns.items
    c.loop-edge-test.true c.loop-edge.invariant c.first_column.ensures.value range same c.in_ok-toggle.ensures

pub returns : goal.returns
returns c =
    let same : to_z w32 (of_z w32 c.args.row) ≡ c.args.row = omega (arith, ints) in
    let all : AreColumns c.args.edges.now (to_z w32 (of_z w32 c.args.row)) c.loop-edge.columns.items =
    subst (λ w. AreColumns w (to_z w32 (of_z w32 c.args.row)) c.loop-edge.columns.items) (take_all c.loop-edge.edge-index c.args.edges.now c.loop-edge-test.false) c.loop-edge.invariant in
    subst (λ w. AreColumns c.args.edges.now w c.loop-edge.columns.items) same all
