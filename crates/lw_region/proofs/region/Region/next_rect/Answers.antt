use Rattle.std.proofs.Common.{sym, rules, of_calls}
use Rattle.std.proofs.lemmas.Fn.{always_returns_same}
use Rattle.lw_region.specs.Finding.{is_before}
use Rattle.lw_region.proofs.Spaced.{canonical_spaced}
use Rattle.lw_region.proofs.FindingLaws.{spaced_partitioned, next_found}
use Rattle.lw_region.proofs.region.Region.next_rect.Goals as goal

pub returns : goal.returns
returns c =
    let same = c.rects-rects.ensures.value in
    let point = c.partition_point-place.ensures.partitioned (is_before c.args.x c.args.y) (always_returns_same _ _ _ (λ a r f k. search (rules, of_calls)))
    (spaced_partitioned c.rects-rects.result.now c.args.x c.args.y (rw (sym same) at (canonical_spaced c.args.self.now c.rects-rects.ensures.canonical))) in
    next_found c.rects-rects.result.now c.args.self.now c.args.x c.args.y c.partition_point-place.result c.get.result same c.rects-rects.ensures.canonical point
    c.get.ensures.lookup.3
