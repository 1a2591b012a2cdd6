use Rattle.std.proofs.Common.{sym}
use Rattle.std.proofs.Math.Bool.{or-false}
use Rattle.lw_region.specs.Bands.{covers}
use Rattle.lw_stack.proofs.ShownLaws.{covers_more}
use Rattle.lw_stack.proofs.shown.cover.Goals as goal

pub returns-in_default-clause-ok : goal.returns-in_default-clause-ok
returns-in_default-clause-ok c = λ x y. rw c.in_default.is (sym (or-false (covers c.args.covered.now x y)))

pub returns-clause-ok : goal.returns-clause-ok
returns-clause-ok c = λ x y.
    rw c.in-Some.is
    (covers_more c.in-Some.rect c.args.covered.now c.or_rect.new.self c.in_ok-or_rect.ensures.list x y)
