use Rattle.std.proofs.Common.{◌≡◌, ℕ, ◌+◌, ◌-◌, ◌*◌, nat_lt, ap, arith}
use Rattle.std.proofs.lemmas.Bool.{le-ltb}
use Rattle.lw_planes.specs.Row.{row_bit}
use Rattle.lw_planes.specs.Minterm.{minterm_bit}
use Rattle.lw_kernels.specs.Kernel.{blit_bit, place_in}
use Rattle.lw_kernels.proofs.RowWriting.{minterm_same}
use Rattle.lw_kernels.proofs.SpanLaws.{rows_none, rows_same, row_next}
use Rattle.lw_kernels.proofs.combining.lines.Goals as goal

pub loop-row-init : goal.loop-row-init
loop-row-init c = rows_none c.args.to_step c.args.span.from c.args.span.end c.args.to.now (λ y. nat_lt y 0) _ (λ y. le-ltb y 0 (omega arith))

pub loop-row-preserved : goal.loop-row-preserved
loop-row-preserved c =
    let source : ℕ → ℕ = row_bit c.args.source.now in
    let from : ℕ = c.args.span.from in
    let k : ℕ = c.loop-row.row in
    let at : ℕ = k * c.args.to_step in
    let start : ℕ = k * c.args.source_step in
    row_next c.args.to_step from c.args.span.end c.loop-row.to c.combine_line.new.to
    (λ y x. minterm_bit c.args.minterm (source (place_in c.args.source_step y (c.args.place + (x - from)))) (row_bit c.args.to.now (place_in c.args.to_step y x)))
    (blit_bit c.args.minterm source (8 * start + c.args.place) (row_bit c.loop-row.to) (8 * at + from))
    (λ p. row_bit c.args.to.now p) k c.requires.to_inside c.loop-row.invariant c.combine_line.ensures
    (λ x _ _ was.
    let same : 8 * start + c.args.place + (8 * at + x - (8 * at + from)) ≡ 8 * start + (c.args.place + (x - from)) = omega arith in
    minterm_same c.args.minterm _ _ _ _ (ap source same) was)

pub returns : goal.returns
returns c =
    let all : c.loop-row.row ≡ c.args.rows = omega arith in
    rows_same c.args.to_step c.args.span.from c.args.span.end c.loop-row.to (λ y. nat_lt y c.loop-row.row) (λ y. nat_lt y c.args.rows) _ (λ p. row_bit c.args.to.now p) (λ y. ap (nat_lt y) all) c.loop-row.invariant
