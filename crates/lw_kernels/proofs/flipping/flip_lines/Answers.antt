use Rattle.std.proofs.Common.{◌≡◌, ◌-◌, nat_lt, ap, arith}
use Rattle.std.proofs.lemmas.Bool.{le-ltb}
use Rattle.lw_planes.specs.Row.{row_bit}
use Rattle.lw_kernels.specs.Kernel.{place_in}
use Rattle.lw_kernels.proofs.SpanLaws.{rows_none, rows_same, row_next}
use Rattle.lw_kernels.proofs.flipping.flip_lines.Goals as goal

pub loop-row-init : goal.loop-row-init
loop-row-init c = rows_none c.args.step c.args.span.from c.args.span.end c.args.bytes.now (λ y. nat_lt y 0) (λ y x. 1 - row_bit c.args.bytes.now (place_in c.args.step y x)) (λ y. le-ltb y 0 (omega arith))

pub loop-row-preserved : goal.loop-row-preserved
loop-row-preserved c =
    row_next c.args.step c.args.span.from c.args.span.end c.loop-row.bytes c.flip_line.new.bytes (λ y x. 1 - row_bit c.args.bytes.now (place_in c.args.step y x)) (λ p. 1 - row_bit c.loop-row.bytes p) (λ p. row_bit c.args.bytes.now p) c.loop-row.row c.requires.inside c.loop-row.invariant c.flip_line.ensures
    (λ x _ _ was. ap (λ n. 1 - n) was)

pub returns : goal.returns
returns c =
    let all : c.loop-row.row ≡ c.args.rows = omega arith in
    rows_same c.args.step c.args.span.from c.args.span.end c.loop-row.bytes (λ y. nat_lt y c.loop-row.row) (λ y. nat_lt y c.args.rows) (λ y x. 1 - row_bit c.args.bytes.now (place_in c.args.step y x)) (λ p. row_bit c.args.bytes.now p) (λ y. ap (nat_lt y) all) c.loop-row.invariant
