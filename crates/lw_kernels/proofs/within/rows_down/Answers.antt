use Rattle.std.proofs.Common.{◌≡◌, ℕ, ◌+◌, ◌-◌, ◌*◌, false, ap, arith}
use Rattle.lw_planes.specs.Row.{row_bit}
use Rattle.lw_planes.specs.Minterm.{minterm_bit}
use Rattle.lw_kernels.specs.Kernel.{blit_bit, is_between, place_in}
use Rattle.lw_kernels.proofs.RowWriting.{between_yes, between_after}
use Rattle.lw_kernels.proofs.SpanLaws.{rows_none, rows_same, row_done, row_moved, between_none, between_more}
use Rattle.lw_kernels.proofs.within.rows_down.Goals as goal

pub loop-row-init : goal.loop-row-init
loop-row-init c = rows_none c.args.step c.args.span.from c.args.span.end c.args.bytes.now (λ y. is_between c.args.to (c.args.to + 0) y) _ (λ y. between_none c.args.to (c.args.to + 0) y (omega arith))

pub loop-row-preserved : goal.loop-row-preserved
loop-row-preserved c =
    let from : ℕ = c.args.span.from in
    let end : ℕ = c.args.span.end in
    let step : ℕ = c.args.step in
    let to : ℕ = c.args.to in
    let row : ℕ = c.loop-row.row in
    let old : ℕ → ℕ = λ p. row_bit c.args.bytes.now p in
    let new : ℕ → ℕ → ℕ = λ y x. minterm_bit c.args.minterm (old (place_in step (c.args.source.row + (y - to)) (c.args.source.bit + (x - from)))) (old (place_in step y x)) in
    let next : to + row + 1 ≡ to + (row + 1) = omega arith in
    let source : is_between to (to + row) (c.args.source.row + row) ≡ false = between_after to (to + row) (c.args.source.row + row) (omega (arith, c.requires.after)) in
    let fresh : is_between to (to + row) (to + row) ≡ false = between_after to (to + row) (to + row) (omega arith) in
    rows_same step from end c.line_within.new.bytes (λ y. is_between to (to + row + 1) y) (λ y. is_between to (to + (row + 1)) y) new old (λ y. ap (λ n. is_between to n y) next)
    (row_done step from end c.loop-row.bytes c.line_within.new.bytes (λ y. is_between to (to + row) y) (λ y. is_between to (to + row + 1) y) new
    (blit_bit c.args.minterm (row_bit c.loop-row.bytes) (8 * ((c.args.source.row + row) * step) + c.args.source.bit) (row_bit c.loop-row.bytes) (8 * ((to + row) * step) + from)) old (to + row) c.requires.to_inside c.loop-row.invariant c.line_within.ensures
    (row_moved step from end c.loop-row.bytes (λ y. is_between to (to + row) y) old c.args.minterm to row c.args.source.row c.args.source.bit c.requires.to_inside c.requires.source_inside c.loop-row.invariant source fresh)
    fresh (between_yes to (to + row + 1) (to + row) (omega arith) (omega arith)) (λ y apart. between_more to (to + row) y apart))

pub returns : goal.returns
returns c =
    let all : c.args.to + c.loop-row.row ≡ c.args.to + c.args.rows = omega arith in
    rows_same c.args.step c.args.span.from c.args.span.end c.loop-row.bytes (λ y. is_between c.args.to (c.args.to + c.loop-row.row) y) (λ y. is_between c.args.to (c.args.to + c.args.rows) y) _ (λ p. row_bit c.args.bytes.now p) (λ y. ap (λ n. is_between c.args.to n y) all) c.loop-row.invariant
