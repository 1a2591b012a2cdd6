use Rattle.std.proofs.Common.{◌<◌, ◌∙◌, ap, sym, subst, length}
use Rattle.std.specs.List.{All}
use Rattle.lw_screens.specs.Display.{first_with}
use Rattle.lw_screens.specs.Bands.{bands_from}
use Rattle.lw_screens.proofs.Changes.{display_opened}
use Rattle.lw_screens.proofs.screens.Screens.new.Goals as goal

pub bands_of-requires : goal.bands_of-requires
bands_of-requires c =
    let q = c.requires in
    let ok = display_opened c.args.height c.args.tops.now c.args.heights.now c.in_ok-screens.screens.items c.in_ok-order.order.items c.in_ok-screens.ensures c.in_ok-order.ensures q.some q.few q.alike q.tops q.heights in
    subst (λ ss. All (λ k. k < length ss) c.deref-2.result.now) (sym c.deref.ensures.value)
    (subst (λ o. All (λ k. k < length c.in_ok-screens.screens.items) o) (sym c.deref-2.ensures.value) ok.order)

pub invariant_of-result : goal.invariant_of-result
invariant_of-result c =
    let q = c.requires in
    record {
      display = display_opened c.args.height c.args.tops.now c.args.heights.now c.in_ok-screens.screens.items c.in_ok-order.order.items c.in_ok-screens.ensures c.in_ok-order.ensures q.some q.few q.alike q.tops q.heights;
      bands = c.in_ok-bands.ensures ∙ (ap (λ ss. bands_from (first_with ss c.deref-2.result.now) 0 c.args.height) c.deref.ensures.value
          ∙ ap (λ o. bands_from (first_with c.in_ok-screens.screens.items o) 0 c.args.height) c.deref-2.ensures.value);
    }
