use Rattle.std.proofs.Common.{true, false, arith}
use Rattle.std.proofs.lemmas.Int.{ints}
use Rattle.lw_machine.specs.Kept.{holds_at, in_inner}
use Rattle.lw_windows.proofs.InnerPixels.{inner_bounds, IsMade, made_is, inner_pixels, made_pixels, made_none}
use Rattle.lw_windows.proofs.bounds.inner.Goals as goal

-- the rectangle that is made has these bounds
framed_made : (c : goal.After-new) → IsMade c.new.result (inner_bounds true c.args.w c.args.h)
framed_made c =
    made_is c.new.result _ _ _ _ _ _ _ _ (omega (arith, ints)) (omega (arith, ints)) (omega (arith, ints)) (omega (arith, ints))
    c.new.ensures

plain_made : (c : goal.After-new-else-framed) → IsMade c.new-else-framed.result (inner_bounds false c.args.w c.args.h)
plain_made c =
    made_is c.new-else-framed.result _ _ _ _ _ _ _ _ (omega (arith, ints)) (omega (arith, ints)) (omega (arith, ints))
    (omega (arith, ints)) c.new-else-framed.ensures

pub returns-then-framed-clause-pixels : goal.returns-then-framed-clause-pixels
returns-then-framed-clause-pixels c =
    rw c.if-framed.true
    (made_pixels c.new.result (inner_bounds true c.args.w c.args.h) (holds_at (in_inner true c.args.w c.args.h)) (framed_made c)
    (inner_pixels true c.args.w c.args.h))

pub returns-then-framed-clause-none : goal.returns-then-framed-clause-none
returns-then-framed-clause-none c =
    rw c.if-framed.true
    (made_none c.new.result 4 11 _ _ (in_inner true c.args.w c.args.h) (framed_made c) (inner_pixels true c.args.w c.args.h))

pub returns-else-framed-clause-pixels : goal.returns-else-framed-clause-pixels
returns-else-framed-clause-pixels c =
    rw c.if-framed.false
    (made_pixels c.new-else-framed.result (inner_bounds false c.args.w c.args.h) (holds_at (in_inner false c.args.w c.args.h))
    (plain_made c) (inner_pixels false c.args.w c.args.h))

pub returns-else-framed-clause-none : goal.returns-else-framed-clause-none
returns-else-framed-clause-none c =
    rw c.if-framed.false
    (made_none c.new-else-framed.result 0 0 _ _ (in_inner false c.args.w c.args.h) (plain_made c)
    (inner_pixels false c.args.w c.args.h))
