use Rattle.std.proofs.Common.{◌∙◌, ap, w32, to_z, of_z}
use Rattle.std.proofs.lemmas.Int.{to_z-of_z}
use Rattle.lw_region.specs.Rectangle.{moved_by}
use Rattle.lw_reveal.proofs.PairingLaws.{moved_same}
use Rattle.lw_reveal.proofs.pairing.is_moved.Goals as goal

pub returns-in-Some : goal.returns-in-Some
returns-in-Some c =
    let r = c.args.former.now in
    moved_same c.eq.result c.moved.result c.in-Some.moved c.args.new.now _ (moved_by r c.args.dx c.args.dy) _ c.eq.ensures c.in-Some.is c.moved.ensures
    (ap (λ x. moved_by r x (to_z w32 (of_z w32 c.args.dy))) (to_z-of_z w32 c.args.dx c.ranges.dx) ∙ ap (λ y. moved_by r c.args.dx y) (to_z-of_z w32 c.args.dy c.ranges.dy))
