use Rattle.std.proofs.Common.{get_or, ◌∙◌, ap, arith}
use Rattle.lw_strips.specs.Strips.{held_by, rects_of}
use Rattle.lw_reveal.proofs.CarryingLaws.{strips_more}
use Rattle.lw_reveal.proofs.carrying.new_strips.Goals as goal

pub loop-index-preserved : goal.loop-index-preserved
loop-index-preserved c =
    let l = c.loop-index.invariant in
    let more = strips_more c.args.layer.now c.args.place.now.bounds c.args.rects.now c.args.given.now c.loop-index.index c.index-rects-index.result
    c.loop-index.strips.items c.in_ok-strip.strip (omega arith) c.index-rects-index.is l.rects c.in_ok-strip.ensures l.each in
    record {
      rects = ap (λ q. rects_of q) c.in_ok-push.ensures.items ∙ more.0;
      each = λ i s below none. ap (λ q. held_by (get_or q i s)) c.in_ok-push.ensures.items ∙ more.1 i s below none;
    }
