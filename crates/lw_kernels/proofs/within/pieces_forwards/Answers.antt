use Rattle.std.proofs.Common.{◌≡◌, ℕ, ◌+◌, ◌-◌, ◌*◌, ◌≤◌, min, ap, refl, ◌∙◌, arith}
use Rattle.lw_planes.specs.Row.{row_bit}
use Rattle.lw_kernels.specs.Kernel.{blit_bit}
use Rattle.lw_kernels.proofs.RowWriting.{Done, join_right, done_after, done_none, done_ends, minterm_same}
use Rattle.lw_kernels.proofs.within.pieces_forwards.Goals as goal

pub loop-number-init : goal.loop-number-init
loop-number-init c = done_none c.args.row.now _ (8 * c.args.first) (8 * min c.args.last (c.args.first + 256 * 0)) (omega arith)

pub loop-number-preserved : goal.loop-number-preserved
loop-number-preserved c =
    let first : ℕ = c.args.first in
    let last : ℕ = c.args.last in
    let place : ℕ = (8 * c.args.start + c.args.shift) in
    let old : ℕ → ℕ = row_bit c.args.row.now in
    let new : ℕ → ℕ = blit_bit c.args.minterm old place old (8 * first) in
    let row = c.loop-number.row in
    let number : ℕ = c.loop-number.number in
    let from : ℕ = first + 256 * number in
    let end : ℕ = 8 * c.min-end.result in
    let begun : from ≤ last = omega arith in
    let here : 8 * min last (first + 256 * number) ≡ 8 * from = omega arith in
    let next : end ≡ 8 * min last (first + 256 * (number + 1)) = omega arith in
    let so_far : Done row new old (8 * first) (8 * from) = done_ends row new old (8 * first) (8 * min last (first + 256 * number)) (8 * from) here c.loop-number.invariant in
    let at_piece : ℕ = 8 * (c.args.start + (from - first)) + c.args.shift in
    done_ends c.combine_piece.new.row new old (8 * first) end (8 * min last (first + 256 * (number + 1))) next
    (join_right row c.combine_piece.new.row new new (blit_bit c.args.minterm (row_bit row) at_piece (row_bit row) (8 * from)) old (8 * first) (8 * from) end (omega arith) (omega arith) so_far c.combine_piece.ensures (λ x p q. refl)
    (λ x p q.
    let same : at_piece + (x - 8 * from) ≡ place + (x - 8 * first) = omega arith in
    let late : 8 * from ≤ at_piece + (x - 8 * from) = omega arith in
    minterm_same c.args.minterm _ _ _ _
    (done_after row new old (8 * first) (8 * from) (at_piece + (x - 8 * from)) so_far late ∙ ap old same)
    (done_after row new old (8 * first) (8 * from) x so_far p)))

pub returns : goal.returns
returns c =
    let first : ℕ = c.args.first in
    let last : ℕ = c.args.last in
    let place : ℕ = (8 * c.args.start + c.args.shift) in
    let old : ℕ → ℕ = row_bit c.args.row.now in
    let new : ℕ → ℕ = blit_bit c.args.minterm old place old (8 * first) in
    let all : 8 * min last (first + 256 * c.loop-number.number) ≡ 8 * last = omega arith in
    done_ends c.loop-number.row new old (8 * first) (8 * min last (first + 256 * c.loop-number.number)) (8 * last) all c.loop-number.invariant
