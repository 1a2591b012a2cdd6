use Rattle.std.proofs.Common.{◌≡◌, ◌+◌, length, take}
use Rattle.std.specs.List.{sum_by}
use Rattle.lw_region.specs.Rectangle.{Rectangle}
use Rattle.lw_strips.specs.Pools.{copies_in}
use Rattle.lw_engine.specs.Arranging.{HaveGiven}
use Rattle.lw_engine.proofs.all_layers.give_up_all.Given as goal

abbrev pub invariant-loop-place : goal.invariant-loop-place
invariant-loop-place g l = record {
  numbers : (r : Rectangle) → copies_in r l.pool.strips ≡ sum_by (λ q. copies_in r q.lost) (take l.place l.initial.ready);
  spare : l.pool.spare + sum_by (λ q. length q.lost) (take l.place l.initial.ready) ≡ l.initial.pool.spare;
  given : HaveGiven l.place l.initial.ready l.ready;
}
