use Rattle.std.proofs.Common.{ℕ, ◌+◌, ◌-◌, ◌<◌, ◌≤◌, arith}
use Rattle.lw_kernels.proofs.CopiedBytes.{copied_bits}
use Rattle.lw_kernels.proofs.moving.move_whole.Goals as goal

pub returns : goal.returns
returns c =
    let first : ℕ = c.args.first in
    let start : ℕ = c.args.start in
    let count : ℕ = start + (c.args.last - first) - start in
    copied_bits c.copy_within.new.self c.args.row.now c.args.row.now first c.args.last start
    (λ i p q. let within : i < first + count = omega arith in c.copy_within.ensures.by_index.0 i 0 p within)
    (λ i p. c.copy_within.ensures.by_index.1 i 0 p)
    (λ i p. let late : first + count ≤ i = omega arith in c.copy_within.ensures.by_index.2 i 0 late)
