use Rattle.std.proofs.Common.{not, sym, ap, subst, ◌∙◌}
use Rattle.std.proofs.lemmas.Bool.{not-true, not-false}
use Rattle.lw_layer.specs.View.{LiveView}
use Rattle.lw_layer.specs.StandsFor.{IsSound}
use Rattle.lw_layer.specs.Pieces.{IsDamageOf}
use Rattle.lw_reveal.proofs.PairingLaws.{edges_same}
use Rattle.lw_stack.specs.Stack.{bounds_at}
use Rattle.lw_arrange.specs.Pieces.{exchanges}
use Rattle.lw_arrange.proofs.SameLaws.{unexchanged_same}
use Rattle.lw_arrange.proofs.showing.is_unaffected.Goals as goal

pub returns : goal.returns
returns c =
    let cell = c.args.cell.now in
    let a = c.args.arrangement.now in
    let bounds = c.in-Some-bounds.bounds in
    let is = c.in-Some.ensures.1 in
    let here = ap (λ n. bounds_at a.stack.bounds n) (sym c.slot.ensures) ∙ (sym c.bounds.ensures ∙ c.in-Some-bounds.is) in
    let place = sym (c.look.ensures.look.bounds ∙ ap (λ (v : LiveView). v.bounds) is) ∙ edges_same c.look.result.bounds bounds (not-false _ (sym c.ne.ensures ∙ c.if-ne.false)) in
    let exchanged = c.exchanges.ensures ∙ (ap (λ n. exchanges n c.pieces.result.now) c.slot-2.ensures ∙ ap (exchanges cell.number) c.pieces.ensures) in (
      λ yes.
          unexchanged_same a cell c.damage.result.now bounds (subst IsSound is c.look.ensures.sound) (subst (λ v. IsDamageOf v c.damage.result.now) is c.damage.ensures)
          c.region.ensures.inside c.in-Some.ensures.0 here place (sym exchanged ∙ not-true _ yes) c.requires,
      λ unaffected. ap not (exchanged ∙ unaffected.unexchanged),
    )
