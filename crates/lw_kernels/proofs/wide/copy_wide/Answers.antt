use Rattle.std.proofs.Common.{◌≡◌, ℕ, ◌+◌, ◌-◌, ◌*◌, ◌≤◌, nat_lt, ap, arith}
use Rattle.std.proofs.lemmas.Bool.{le-ltb}
use Rattle.lw_planes.specs.Row.{row_bit}
use Rattle.lw_kernels.proofs.ColumnLaws.{row_copied}
use Rattle.lw_kernels.proofs.RowWriting.{done_same}
use Rattle.lw_kernels.proofs.SpanLaws.{rows_none, rows_same}
use Rattle.lw_kernels.proofs.wide.copy_wide.Goals as goal

pub loop-row-init : goal.loop-row-init
loop-row-init c =
    let k = c.args.column in
    rows_none c.args.to_step (8 * k.at + k.lead) (8 * k.at + k.lead + k.count) c.args.to.now (λ y. nat_lt y 0) _ (λ y. le-ltb y 0 (omega arith))

pub loop-row-preserved : goal.loop-row-preserved
loop-row-preserved c =
    let source : ℕ → ℕ = row_bit c.args.source.now in
    let k = c.args.column in
    let is = c.requires.column in
    let row : ℕ = c.loop-row.row in
    let at : ℕ = row * c.args.to_step + k.at in
    let start : ℕ = row * c.args.source_step + k.start in
    let place : ℕ = k.shift + k.lead in
    let from : ℕ = 8 * at + k.lead in
    let old : ℕ → ℕ = λ p. row_bit c.args.to.now p in
    let fits : 8 * k.at + k.lead + k.count ≤ 8 * c.args.to_step = omega (arith, c.requires.inside, is.named) in
    row_copied c.args.to_step c.args.source_step k.at k.lead k.start place k.count row c.loop-row.to c.copy_wide_row.new.to c.args.source.now old fits c.loop-row.invariant
    (done_same c.copy_wide_row.new.to (λ x. source (8 * start + k.shift + (x - 8 * at))) (λ x. source (8 * start + place + (x - from))) (λ p. row_bit c.loop-row.to p) from (from + k.count) c.copy_wide_row.ensures
    (λ x late _.
    let same : 8 * start + k.shift + (x - 8 * at) ≡ 8 * start + place + (x - from) = omega (arith, late) in
    ap source same))

pub returns : goal.returns
returns c =
    let k = c.args.column in
    let all : c.loop-row.row ≡ c.args.rows = omega arith in
    rows_same c.args.to_step (8 * k.at + k.lead) (8 * k.at + k.lead + k.count) c.loop-row.to (λ y. nat_lt y c.loop-row.row) (λ y. nat_lt y c.args.rows) _ (λ p. row_bit c.args.to.now p) (λ y. ap (nat_lt y) all) c.loop-row.invariant
