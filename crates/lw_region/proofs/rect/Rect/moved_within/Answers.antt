use Rattle.std.proofs.Common.{subst, to_z, of_z, w32}
use Rattle.std.proofs.lemmas.Int.{to_z-of_z}
use Rattle.lw_region.specs.Rectangle.{Rectangle, IsOrdered, moved_by, HasWords}
use Rattle.lw_region.proofs.Moving.{words_moved}
use Rattle.lw_region.proofs.rect.Rect.moved_within.Goals as goal

pub unreachable-requires : goal.unreachable-requires
unreachable-requires c =
    let ordered = subst IsOrdered c.self.view_is c.self.invariant in
    let made : Rectangle = moved_by c.args.self.now (to_z w32 (of_z w32 c.args.dx)) (to_z w32 (of_z w32 c.args.dy)) in
    let words : HasWords made =
    rw (to_z-of_z w32 c.args.dx c.ranges.dx, to_z-of_z w32 c.args.dy c.ranges.dy) (words_moved c.args.self.now c.args.dx c.args.dy ordered c.requires) in
    c.in-None.ensures {u = tt} words
