use Rattle.std.proofs.Common.{List, Option, subst}
use Rattle.lw_region.specs.Rectangle.{Rectangle}
use Rattle.lw_layer.specs.StandsFor.{IsSound}
use Rattle.lw_layer.specs.Pieces.{IsDamageOf}
use Rattle.lw_arrange.specs.Prepared.{shown_at}
use Rattle.lw_arrange.specs.Areas.{IsVisibleAfter}
use Rattle.lw_arrange.proofs.SameLaws.{stays_same}
use Rattle.lw_arrange.proofs.preparing.changed.Goals as goal

pub returns-in_default-2 : goal.returns-in_default-2
returns-in_default-2 c =
    let cell = c.args.cell.now in
    let bounds = c.args.bounds.now in
    let is = c.in-Some.ensures.1 in
    let V : Option (List Rectangle) → Type 0 = λ o. IsVisibleAfter c.args.arrangement.now cell.number cell.live bounds o in
    let stays = subst V c.in_default-2.is c.in_ok-visible.ensures in
    stays_same cell c.damage.result.now bounds (shown_at c.args.arrangement.now cell.number) (subst IsSound is c.look.ensures.sound)
    (subst (λ v. IsDamageOf v c.damage.result.now) is c.damage.ensures) c.region.ensures.inside stays.0 stays.1
