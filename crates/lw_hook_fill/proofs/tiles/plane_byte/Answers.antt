use Rattle.std.proofs.Common.{◌≡◌, ℕ, ◌-◌, ◌∙◌, sym, ap, arith}
use Rattle.std.specs.Int.{bit_at}
use Rattle.std.specs.List.{slice_index_or}
use Rattle.std.proofs.lemmas.Nat.Bits.{bit_at-lt}
use Rattle.lw_planes.specs.Pen.{pen_of}
use Rattle.lw_planes.proofs.BitLaws.{pen_of_none, gathered_more, gathered_fits}
use Rattle.lw_hook_fill.proofs.TileLaws.{byte_gathered}
use Rattle.lw_hook_fill.proofs.tiles.plane_byte.Goals as goal

pub loop-place-init : goal.loop-place-init
loop-place-init c = sym (pen_of_none _)

pub overflow_add-byte : goal.overflow_add-byte
overflow_add-byte c =
    let bits : ℕ → ℕ = λ k. bit_at (slice_index_or c.args.pens.now (7 - k) 0) c.args.plane in
    let small = gathered_fits c.loop-place.place c.loop-place.byte c.pen_bit.result bits c.loop-place-test.true (λ k. bit_at-lt _ _) c.loop-place.invariant c.pen_bit.ensures in
    omega (arith, small)

pub loop-place-preserved : goal.loop-place-preserved
loop-place-preserved c =
    let bits : ℕ → ℕ = λ k. bit_at (slice_index_or c.args.pens.now (7 - k) 0) c.args.plane in
    gathered_more c.loop-place.place c.loop-place.byte c.pen_bit.result bits c.loop-place-test.true (λ k. bit_at-lt _ _) c.loop-place.invariant c.pen_bit.ensures

pub returns : goal.returns
returns c = λ i near.
    let bits : ℕ → ℕ = λ k. bit_at (slice_index_or c.args.pens.now (7 - k) 0) c.args.plane in
    let all : c.loop-place.place ≡ 8 = omega arith in
    byte_gathered c.args.pens.now c.args.plane c.loop-place.byte i (c.loop-place.invariant ∙ ap (λ n. pen_of n bits) all) near
