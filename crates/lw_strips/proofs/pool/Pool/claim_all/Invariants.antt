use Rattle.std.proofs.Common.{◌≡◌, ◌+◌, length, take}
use Rattle.lw_region.specs.Rectangle.{Rectangle}
use Rattle.lw_strips.specs.Pools.{copies, copies_in, HasNoOther}
use Rattle.lw_strips.proofs.pool.Pool.claim_all.Given as goal

abbrev pub invariant-loop-rect : goal.invariant-loop-rect
invariant-loop-rect l = record {
  numbers : (r : Rectangle) → copies_in r l.initial.self.strips ≡ copies_in r l.self.strips + copies r (take l.rect-index l.rects);
  others : HasNoOther l.initial.self l.self;
  spare : l.self.spare ≡ l.initial.self.spare + length (take l.rect-index l.rects);
}
