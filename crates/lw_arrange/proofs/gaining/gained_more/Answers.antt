use Rattle.std.proofs.Common.{◌∙◌, sym, subst, List, Option}
use Rattle.lw_region.specs.Rectangle.{Rectangle}
use Rattle.lw_region.proofs.SetOps.{combined_lists}
use Rattle.lw_layer.specs.Looks.{IsLook}
use Rattle.lw_layer.specs.StandsFor.{IsSound}
use Rattle.lw_reveal.specs.Counted.{AreCounted}
use Rattle.lw_arrange.specs.Prepared.{shown_at}
use Rattle.lw_arrange.specs.Areas.{IsVisibleAfter}
use Rattle.lw_arrange.specs.Filled.{AreGained}
use Rattle.lw_arrange.proofs.GainsLaws.{stayed}
use Rattle.lw_arrange.proofs.GainedRegions.{IsSeen, more_gained, same_gained}
use Rattle.lw_arrange.proofs.gaining.gained_more.Goals as goal

pub returns-in_default-2 : goal.returns-in_default-2
returns-in_default-2 c =
    let cell = c.args.cell.now in
    let bounds = c.args.bounds.now in
    let visible = shown_at c.args.arrangement.now cell.number in
    let V : Option (List Rectangle) → Type 0 = λ o. IsVisibleAfter c.args.arrangement.now cell.number cell.live bounds o in
    let stays = subst V c.in_default-2.is c.in_ok-visible.ensures in
    let P : List Rectangle → Type 0 = λ rects. AreGained cell (stayed bounds visible cell) rects in
    subst P (sym c.new.ensures)
    (same_gained cell bounds visible c.requires.live (subst IsSound c.in-Some.ensures.1 c.look-look.ensures.sound) stays.0 stays.1
    c.requires.may.inside)

pub returns : goal.returns
returns c =
    let cell = c.args.cell.now in
    let same = c.in-Some.ensures.1 in
    let look = c.look-look.result in
    let sees : IsLook cell.live look = subst (λ v. IsLook v look) same c.look-look.ensures.look in
    let bounds = c.args.bounds.now in
    let visible = shown_at c.args.arrangement.now cell.number in
    let listed = c.rects.result.now in
    let V : Option (List Rectangle) → Type 0 = λ o. IsVisibleAfter c.args.arrangement.now cell.number cell.live bounds o in
    let seen : IsSeen cell look.kind listed visible = record {
      live = c.requires.live;
      sound = subst IsSound same c.look-look.ensures.sound;
      kind_is = sees.kind;
      listed_is = c.rects.ensures.value ∙ subst V c.in-Some-2.is c.in_ok-visible.ensures;
    } in
    more_gained cell look.kind bounds listed visible c.in_ok-before.before c.in_ok-gained.gained c.clear_region.new.into seen
    c.in_ok-gained.ensures.ordered c.requires.may.inside (subst (λ v. AreCounted v bounds c.in_ok-before.before) same c.in_ok-before.ensures) c.in_ok-gained.ensures.kept
    (combined_lists.differences c.in_ok-gained.gained c.in_ok-before.before c.clear_region.new.into
    c.in_ok-clear_region.ensures.list).pixels
