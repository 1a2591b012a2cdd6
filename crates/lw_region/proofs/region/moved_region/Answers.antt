use Rattle.std.proofs.Common.{◌∙◌, sym, ap, subst, w32}
use Rattle.std.proofs.lemmas.Int.{to_z-of_z}
use Rattle.std.proofs.lemmas.List.{take_all}
use Rattle.lw_region.specs.Rectangle.{has_pixel}
use Rattle.lw_region.specs.Banded.{IsCanonical}
use Rattle.lw_region.specs.Regions.{moved_list}
use Rattle.lw_region.proofs.Disjoint.{has_at}
use Rattle.lw_region.proofs.Moving.{canonical_moved}
use Rattle.lw_region.proofs.region.moved_region.Goals as goal

pub moved_within-requires : goal.moved_within-requires
moved_within-requires c =
    rw (to_z-of_z w32 c.args.dx c.ranges.dx, to_z-of_z w32 c.args.dy c.ranges.dy)
    (λ x y has.
    let here = ap (λ q. has_pixel q x y) (sym c.rect-item.is) ∙ has in
    c.requires.words x y (has_at c.args.rects.now c.loop-rect.rect-index c.rect-item.result x y c.loop-rect-test.true here))

pub invariant_of-result : goal.invariant_of-result
invariant_of-result c =
    let all = ap (λ l. moved_list l c.args.dx c.args.dy) (take_all c.loop-rect.rect-index c.args.rects.now c.loop-rect-test.false) in
    let so_far = rw (to_z-of_z w32 c.args.dx c.ranges.dx, to_z-of_z w32 c.args.dy c.ranges.dy) at c.loop-rect.invariant in
    subst IsCanonical (sym (so_far ∙ all)) (canonical_moved c.args.rects.now c.args.dx c.args.dy c.requires.canonical)
