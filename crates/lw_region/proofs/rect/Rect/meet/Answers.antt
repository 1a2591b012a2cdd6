use Rattle.std.proofs.Common.{arith}
use Rattle.std.specs.Option.{SomeIff}
use Rattle.std.proofs.lemmas.Int.{ints, clamps}
use Rattle.lw_region.specs.Rectangle.{IsOrdered, common_part}
use Rattle.lw_region.proofs.Meet.{meet_bounds, meet_pixels, meet_none}
use Rattle.lw_region.proofs.rect.Rect.meet.Goals as goal

-- the rectangle that is made has the common part's bounds
bounds : (c : goal.After-new) → SomeIff c.new.result (IsOrdered (common_part c.args.self.now c.args.other.now)) (common_part c.args.self.now c.args.other.now)
bounds c =
    meet_bounds c.new.result c.args.self.now c.args.other.now _ _ _ _
    (omega (arith, ints, clamps)) (omega (arith, ints, clamps)) (omega (arith, ints, clamps)) (omega (arith, ints, clamps))
    c.new.ensures

pub returns-clause-bounds : goal.returns-clause-bounds
returns-clause-bounds c = bounds c

pub returns-clause-pixels : goal.returns-clause-pixels
returns-clause-pixels c = meet_pixels c.new.result c.args.self.now c.args.other.now (bounds c)

pub returns-clause-none : goal.returns-clause-none
returns-clause-none c = meet_none c.new.result c.args.self.now c.args.other.now (bounds c)
