use Rattle.std.proofs.Common.{get_or, None, ◌∙◌, ap, arith}
use Rattle.std.proofs.lemmas.List.{nil_from_length}
use Rattle.lw_reveal.proofs.HandingLaws.{left_next, left_nothing}
use Rattle.lw_reveal.proofs.handing.hand_buffers.Goals as goal

pub loop-planes-preserved : goal.loop-planes-preserved
loop-planes-preserved c =
    left_next c.args.handed.now c.pop.new.self.items c.loop-planes.former.items c.args.former.now.items c.in-Some.planes _
    c.loop-planes.strips c.hand.new.strips c.args.strips.now c.loop-planes.covered c.hand.new.covered c.args.covered.now c.in-Some.ensures.items
    (ap (λ i. get_or c.args.handed.now i None) (c.len.ensures ∙ c.pop.new.self.ok.0)) c.loop-planes.invariant c.hand.ensures.held c.hand.ensures.rects c.hand.ensures.long

pub returns-clause-held : goal.returns-clause-held
returns-clause-held c =
    left_nothing c.args.handed.now c.loop-planes.former.items c.args.former.now.items c.loop-planes.strips c.args.strips.now c.loop-planes.covered c.args.covered.now
    (nil_from_length c.loop-planes.former.items (omega (arith, c.in_default.ensures.cases.0, c.loop-planes.former.ok.0))) c.loop-planes.invariant
