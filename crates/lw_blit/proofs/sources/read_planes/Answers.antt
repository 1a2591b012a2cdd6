use Rattle.std.proofs.Common.{◌≡◌, ◌+◌, ◌<◌, length, ◌∙◌, sym, subst, ℤ, to_z, of_z, w32, arith, rules}
use Rattle.lw_blit.specs.Blitting.{AreRead}
use Rattle.lw_blit.specs.declared.sources.SourceRows.{SourceRows}
use Rattle.lw_blit.proofs.SourceLaws.{none_read, plane_read, plane_skipped}
use Rattle.lw_blit.proofs.sources.read_planes.Goals as goal
use Rattle.lw_blit.proofs.sources.read_planes.Goals.{then-has_bit, else-has_bit}

-- a number as the code has it
abbrev word : ℤ → ℤ
word z = to_z w32 (of_z w32 z)

pub loop-plane-init : goal.loop-plane-init
loop-plane-init c = none_read c.args.source.now c.args.mask (word c.args.x) (word c.args.y) c.args.count c.args.rows.now

pub loop-plane-preserved : goal.loop-plane-preserved
loop-plane-preserved c =
    let live = c.args.source.now in
    let mask = c.args.mask in
    let x = word c.args.x in
    let y = word c.args.y in
    let k = c.loop-plane.plane in
    let P : SourceRows → Type 0 = λ r. AreRead live mask (k + 1) x y c.args.count r in
    elim c.if-has_bit.branch [
      | then-has_bit w ↦ let eight : length c.loop-plane.rows.bits ≡ 8 = search rules in let there : k < length c.loop-plane.rows.bits = omega (arith, eight) in subst P (sym w.rows-is) (plane_read live mask k x y c.args.count c.loop-plane.rows w.read_plane.new.bits w.read_plane.new.kept there (λ i low. w.read_plane.ensures.bits i (omega (arith, low, c.div_ceil-bytes.ensures))) (λ i low. w.read_plane.ensures.kept i (omega (arith, low, c.div_ceil-bytes.ensures))) c.loop-plane.invariant)
      | else-has_bit w ↦ subst P (sym w.rows-is) (plane_skipped live mask k x y c.args.count c.loop-plane.rows (sym c.has_bit.ensures ∙ w.if-has_bit.false) c.loop-plane.invariant)
    ]
