use Rattle.std.proofs.Common.{◌≡◌, nat_lt, refl, ap, arith}
use Rattle.std.proofs.lemmas.Bool.{le-ltb}
use Rattle.lw_planes.specs.Row.{bit_of, row_bit}
use Rattle.lw_kernels.proofs.SpanLaws.{rows_none, rows_same, row_next}
use Rattle.lw_kernels.proofs.filling.fill_lines.Goals as goal

pub loop-row-init : goal.loop-row-init
loop-row-init c = rows_none c.args.step c.args.span.from c.args.span.end c.args.bytes.now (λ y. nat_lt y 0) (λ _ _. bit_of c.args.bit) (λ y. le-ltb y 0 (omega arith))

pub loop-row-preserved : goal.loop-row-preserved
loop-row-preserved c =
    row_next c.args.step c.args.span.from c.args.span.end c.loop-row.bytes c.fill_line.new.bytes (λ _ _. bit_of c.args.bit) (λ _. bit_of c.args.bit) (λ p. row_bit c.args.bytes.now p) c.loop-row.row c.requires.inside c.loop-row.invariant c.fill_line.ensures (λ x _ _ _. refl)

pub returns : goal.returns
returns c =
    let all : c.loop-row.row ≡ c.args.rows = omega arith in
    rows_same c.args.step c.args.span.from c.args.span.end c.loop-row.bytes (λ y. nat_lt y c.loop-row.row) (λ y. nat_lt y c.args.rows) (λ _ _. bit_of c.args.bit) (λ p. row_bit c.args.bytes.now p) (λ y. ap (nat_lt y) all) c.loop-row.invariant
