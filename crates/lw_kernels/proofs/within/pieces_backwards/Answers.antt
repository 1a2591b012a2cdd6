use Rattle.std.proofs.Common.{◌≡◌, ℕ, ◌+◌, ◌-◌, ◌*◌, ◌<◌, ◌≤◌, min, ap, refl, ◌∙◌, arith}
use Rattle.lw_planes.specs.Row.{row_bit}
use Rattle.lw_kernels.specs.Kernel.{blit_bit}
use Rattle.lw_kernels.proofs.RowWriting.{Done, join_left, done_before, done_none, done_starts, minterm_same}
use Rattle.lw_kernels.proofs.within.pieces_backwards.Goals as goal

pub loop-number-init : goal.loop-number-init
loop-number-init c = done_none c.args.row.now _ (8 * min c.args.last (c.args.first + 256 * c.div_ceil-number.result)) (8 * c.args.last) (omega arith)

pub loop-number-preserved : goal.loop-number-preserved
loop-number-preserved c =
    let first : ℕ = c.args.first in
    let last : ℕ = c.args.last in
    let place : ℕ = (8 * c.args.start + c.args.shift) in
    let old : ℕ → ℕ = row_bit c.args.row.now in
    let new : ℕ → ℕ = blit_bit c.args.minterm old place old (8 * first) in
    let row = c.loop-number.row in
    let number : ℕ = c.loop-number.number - 1 in
    let from : ℕ = first + 256 * number in
    let end : ℕ = 8 * c.min-end.result in
    let begun : from ≤ last = omega arith in
    let here : 8 * min last (first + 256 * c.loop-number.number) ≡ end = omega arith in
    let next : 8 * from ≡ 8 * min last (first + 256 * number) = omega arith in
    let so_far : Done row new old end (8 * last) = done_starts row new old (8 * min last (first + 256 * c.loop-number.number)) end (8 * last) here c.loop-number.invariant in
    let at_piece : ℕ = 8 * (c.args.start + (from - first)) + c.args.shift in
    done_starts c.combine_piece.new.row new old (8 * from) (8 * min last (first + 256 * number)) (8 * last) next
    (join_left row c.combine_piece.new.row new new (blit_bit c.args.minterm (row_bit row) at_piece (row_bit row) (8 * from)) old (8 * from) end (8 * last) (omega arith) (omega arith) so_far c.combine_piece.ensures (λ x p q. refl)
    (λ x p q.
    let same : at_piece + (x - 8 * from) ≡ place + (x - 8 * first) = omega arith in
    let early : at_piece + (x - 8 * from) < end = omega arith in
    minterm_same c.args.minterm _ _ _ _
    (done_before row new old end (8 * last) (at_piece + (x - 8 * from)) so_far early ∙ ap old same)
    (done_before row new old end (8 * last) x so_far q)))

pub returns : goal.returns
returns c =
    let first : ℕ = c.args.first in
    let last : ℕ = c.args.last in
    let place : ℕ = (8 * c.args.start + c.args.shift) in
    let old : ℕ → ℕ = row_bit c.args.row.now in
    let new : ℕ → ℕ = blit_bit c.args.minterm old place old (8 * first) in
    let all : 8 * min last (first + 256 * c.loop-number.number) ≡ 8 * first = omega arith in
    done_starts c.loop-number.row new old (8 * min last (first + 256 * c.loop-number.number)) (8 * first) (8 * last) all c.loop-number.invariant
