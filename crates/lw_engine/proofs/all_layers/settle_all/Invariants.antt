use Rattle.std.proofs.Common.{◌≡◌, ◌+◌, take}
use Rattle.std.specs.List.{sum_by}
use Rattle.lw_region.specs.Rectangle.{Rectangle}
use Rattle.lw_strips.specs.Pools.{copies, copies_in}
use Rattle.lw_layer.specs.View.{CellView}
use Rattle.lw_engine.specs.Arranging.{AreSettled, AreUnder}
use Rattle.lw_engine.proofs.all_layers.settle_all.Given as goal

abbrev pub invariant-loop-place : goal.invariant-loop-place
invariant-loop-place g l = record {
  cells : (becomes : CellView → CellView) → AreSettled l.assets.glyphs becomes l.initial.slots l.initial.ready
      → AreUnder becomes l.place l.initial.slots l.slots l.initial.ready l.ready;
  pool : (r : Rectangle) → copies_in r l.initial.pool.strips
      ≡ copies_in r l.pool.strips + sum_by (λ q. copies r q.claims) (take l.place l.initial.ready);
}
