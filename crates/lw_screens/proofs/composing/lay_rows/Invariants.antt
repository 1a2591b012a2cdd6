use Rattle.std.proofs.Common.{◌≡◌, ◌&&◌, nat_lt}
use Rattle.lw_strips.specs.Blocks.{in_block, block_pen}
use Rattle.lw_strips.specs.Bits.{with_bits}
use Rattle.lw_screens.proofs.composing.lay_rows.Given as goal

abbrev pub invariant-loop-plane : goal.invariant-loop-plane
invariant-loop-plane l =
    l.to ≡ with_bits (λ p x y. nat_lt p l.plane && in_block l.block x y) (block_pen l.block l.source) l.initial.to
