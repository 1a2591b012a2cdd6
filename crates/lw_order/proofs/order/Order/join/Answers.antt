use Rattle.std.proofs.Common.{ap, subst, rules}
use Rattle.lw_order.specs.declared.view.View.{View}
use Rattle.lw_order.specs.Seen.{SeenSeat}
use Rattle.lw_order.specs.Promised.{Follows}
use Rattle.lw_order.specs.Plays.{Learned}
use Rattle.lw_order.proofs.Steps.{joins_seats, learned_follows}
use Rattle.lw_order.proofs.order.Order.join.Goals as goal

pub join_seat-requires : goal.join_seat-requires
join_seat-requires c =
    (search rules, search rules, search rules, search rules, λ s holds at apart there. joins_seats _ s.words s.views _ _ _ _ holds at apart there)

pub returns-clause-follows : goal.returns-clause-follows
returns-clause-follows c =
    let after = c.learn.new.token.me.0 in
    let learned = subst (λ (v : View). Learned c.args.self.now.sizes v after) (ap (λ m. m.0) c.join_seat.ensures.2) c.learn.ensures.learned in
    subst (λ (x : SeenSeat). Follows x.roles x.history after.history) c.seat.view_is (learned_follows _ c.seat.inside.token.me.0 c.other.inside.token.me.0 after learned).0

pub returns-clause-other_follows : goal.returns-clause-other_follows
returns-clause-other_follows c =
    let after = c.learn.new.token.me.0 in
    let learned = subst (λ (v : View). Learned c.args.self.now.sizes v after) (ap (λ m. m.0) c.join_seat.ensures.2) c.learn.ensures.learned in
    subst (λ (x : SeenSeat). Follows x.roles x.history after.history) c.other.view_is (learned_follows _ c.seat.inside.token.me.0 c.other.inside.token.me.0 after learned).1
