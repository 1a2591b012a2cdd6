use Rattle.std.proofs.Common.{◌-◌, ◌*◌, ◌<◌, ℕ, length, arith}
use Rattle.lw_buffers.proofs.LookupLaws.{drop_next}
use Rattle.lw_buffers.proofs.StripsLaws.{strip_solid, strip_has, over_no_strip, over_strips, kept_strips}
use Rattle.lw_buffers.proofs.copying.copy_strips.Goals as goal

pub loop-index-init : goal.loop-index-init
loop-index-init c = (
  λ i l. over_no_strip c.args.strips.now _ _ _ _ (length c.args.strips.now) (omega arith),
  λ i l. over_no_strip c.args.strips.now _ _ _ _ (length c.args.strips.now) (omega arith),
)

pub copy_strip-requires-clause-solid : goal.copy_strip-requires-clause-solid
copy_strip-requires-clause-solid c =
    let k : ℕ = c.loop-index.index - 1 in
    strip_solid c.args.strips.now k _ c.requires.solid (omega arith) c.index-strips-index.is

pub copy_strip-requires-clause-plane : goal.copy_strip-requires-clause-plane
copy_strip-requires-clause-plane c =
    let k : ℕ = c.loop-index.index - 1 in
    strip_has c.args.strips.now c.args.plane k _ c.requires.plane (omega arith) c.index-strips-index.is

pub loop-index-preserved : goal.loop-index-preserved
loop-index-preserved c =
    let next = c.loop-index.index in
    let k : ℕ = c.loop-index.index - 1 in
    let first = drop_next c.args.strips.now k next c.index-strips-index.result (omega arith) (omega arith) c.index-strips-index.is in (
      λ i l. let m : i < 8 * length c.loop-index.bits = omega arith in
          over_strips c.args.strips.now k next _ _ _ c.index-strips-index.result _ _ _ first (c.copy_strip.ensures.bits i m) (c.loop-index.invariant.0 i l),
      λ i l. let m : i < 8 * length c.loop-index.bits = omega arith in
          kept_strips c.args.strips.now k next _ _ c.index-strips-index.result _ _ _ first (c.copy_strip.ensures.kept i m) (c.loop-index.invariant.1 i l),
    )
