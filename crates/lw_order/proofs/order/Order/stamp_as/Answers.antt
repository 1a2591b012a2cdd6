use Rattle.std.proofs.Common.{◌<◌, refl, sym, subst, rules}
use Rattle.atomic_table.specs.Table.{keeps}
use Rattle.std.specs.Prelude.{IsTrue}
use Rattle.lw_calls.specs.Touches.{touch_of}
use Rattle.lw_calls.specs.Limits.{call_fits}
use Rattle.lw_calls.specs.Entries.{count_of}
use Rattle.lw_order.specs.Seen.{SeenOrder, SeenSeat}
use Rattle.lw_order.specs.Owned.{Owns}
use Rattle.lw_order.proofs.Steps.{stamps}
use Rattle.lw_order.proofs.order.Order.stamp_as.Goals as goal

pub fetch_add-requires : goal.fetch_add-requires
fetch_add-requires g c =
    let touch = touch_of g.N.Stamping.task g.N.Stamping.call in
    let owns = subst (λ (o : SeenOrder). Owns o.sizes.slots c.args.seat.now.roles touch) (sym c.self.view_is) c.requires.owns in
    let mine = subst (λ (x : SeenSeat). Owns c.self.inside.table.shared.key.slots x.roles touch) (sym c.seat.view_is) owns in
    let fits = subst (λ (o : SeenOrder). IsTrue (call_fits o.sizes g.N.Stamping.call)) (sym c.self.view_is) c.requires.fits in
    let room = subst (λ (x : SeenSeat). count_of g.N.Stamping.task x.history < 4294967295) (sym c.seat.view_is) c.requires.room in (
      search rules,
      search rules,
      λ s holds homes at apart.
          let t = stamps _ s.words s.views _ _ g.N.Stamping.sizes g.N.Stamping.task g.N.Stamping.call (search rules) mine fits room holds at in
          (t.0, keeps, tt, t.1, (refl, t.2)),
    )
