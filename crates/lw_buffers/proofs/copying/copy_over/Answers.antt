use Rattle.std.proofs.Common.{◌-◌, ◌*◌, ◌<◌, ℕ, length, arith}
use Rattle.lw_buffers.proofs.LookupLaws.{drop_next, over_none, over_more, kept_more}
use Rattle.lw_buffers.proofs.copying.copy_over.Goals as goal

pub loop-index-init : goal.loop-index-init
loop-index-init c = (
  λ i l. over_none c.args.rects.now _ _ _ _ (length c.args.rects.now) (omega arith),
  λ i l. over_none c.args.rects.now _ _ _ _ (length c.args.rects.now) (omega arith),
)

pub loop-index-preserved : goal.loop-index-preserved
loop-index-preserved c =
    let next = c.loop-index.index in
    let k : ℕ = c.loop-index.index - 1 in
    let rects = drop_next c.args.rects.now k next c.index-rects-index.result (omega arith) (omega arith) c.index-rects-index.is in
    let buffers = drop_next c.args.buffers.now k next c.index-buffers-index.result (omega (arith, c.requires.buffers.as_many)) (omega arith) c.index-buffers-index.is in (
      λ i l. let m : i < 8 * length c.loop-index.bits = omega arith in
          over_more c.args.rects.now c.args.buffers.now k next _ _ _ c.index-rects-index.result c.index-buffers-index.result _ _ _ rects buffers
          (c.copy_from.ensures.bits i m) (c.loop-index.invariant.0 i l),
      λ i l. let m : i < 8 * length c.loop-index.bits = omega arith in
          kept_more c.args.rects.now k next _ _ c.index-rects-index.result _ _ _ rects (c.copy_from.ensures.kept i m) (c.loop-index.invariant.1 i l),
    )
