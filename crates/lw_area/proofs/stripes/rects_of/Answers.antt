use Rattle.std.proofs.Common.{◌≡◌, [], rules}
use Rattle.std.proofs.lemmas.List.{nil_from_length}
use Rattle.lw_area.proofs.Stacked.{left_more, left_end}
use Rattle.lw_area.proofs.stripes.rects_of.Goals as goal

pub loop-stripe-preserved : goal.loop-stripe-preserved
loop-stripe-preserved c =
    left_more c.args.stripes.items c.loop-stripe.left.items c.pop.new.self.items c.in-Some.stripe c.loop-stripe.rects.items c.push_to.new.rects.items c.loop-stripe.invariant c.in-Some.ensures.items
    c.in_ok-push_to.ensures

pub returns : goal.returns
returns c =
    let none : c.loop-stripe.left.items ≡ [] = nil_from_length _ (search rules) in
    left_end c.args.stripes.items c.loop-stripe.left.items c.loop-stripe.rects.items c.loop-stripe.invariant none
