use Rattle.std.proofs.Common.{◌≡◌, false, ◌&&◌, ℤ, take}
use Rattle.lw_region.specs.Bands.{covers}
use Rattle.lw_arrange.proofs.pieces.share_places.Given as goal

abbrev pub invariant-loop-rect : goal.invariant-loop-rect
invariant-loop-rect l = (x y : ℤ) → (covers l.lost x y && covers (take l.rect-index l.rects) x y) ≡ false
