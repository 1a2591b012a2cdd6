use Rattle.std.proofs.Common.{arith}
use Rattle.std.proofs.lemmas.Int.{ints}
use Rattle.lw_reveal.proofs.CarryingLaws.{carried_kept}
use Rattle.lw_reveal.proofs.carrying.carry.Goals as goal

pub returns : goal.returns
returns c =
    carried_kept c.args.layer.now c.args.place.now.bounds c.args.rect.now _ _ c.in_ok-planes.planes c.copy_kept.new.to c.in_ok-planes.ensures
    (λ i. omega (arith, ints, c.layer_place-x.ensures, c.min_x.ensures.value, c.min_x-2.ensures.value, c.requires.place.scroll_x))
    (λ j. omega (arith, ints, c.layer_place-y.ensures, c.min_y.ensures.value, c.min_y-2.ensures.value, c.requires.place.scroll_y))
    c.copy_kept.ensures
