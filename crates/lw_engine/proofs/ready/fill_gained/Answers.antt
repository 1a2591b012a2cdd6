use Rattle.std.proofs.Common.{◌≡◌, ◌==◌, true, length, None, option_map, ◌∙◌, sym, ap}
use Rattle.lw_layer.specs.View.{with_layer}
use Rattle.lw_engine.specs.Slots.{filled_as}
use Rattle.lw_engine.proofs.SettlingLaws.{none_filled, zero_filled}
use Rattle.lw_engine.proofs.ready.fill_gained.Goals as goal

pub returns-then-is_empty : goal.returns-then-is_empty
returns-then-is_empty g c =
    let gained = c.args.gained.now in
    let none : (length gained == 0) ≡ true = ap (λ l. length l == 0) (sym c.rects.ensures.value) ∙ (sym c.is_empty.ensures ∙ c.if-is_empty.true) in
    none_filled c.args.layer.now (option_map g.B.Backfill.hook c.args.held.now) gained c.depth.ensures.bits.bitmap none

pub returns-in-None : goal.returns-in-None
returns-in-None g c =
    let live = c.args.layer.now in
    let gained = c.args.gained.now in
    let hook = g.B.Backfill.hook in
    let none : option_map hook c.args.held.now ≡ None = ap (option_map hook) c.in-None.is in
    ap (λ o. with_layer (λ l. record l { hook = o }) c.fill-in-None.new.layer) none
    ∙ (zero_filled live c.fill-in-None.new.layer gained _ c.new.ensures c.fill-in-None.ensures ∙ ap (λ o. filled_as o gained live) (sym none))
