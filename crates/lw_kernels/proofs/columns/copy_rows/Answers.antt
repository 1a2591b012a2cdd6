use Rattle.std.proofs.Common.{◌≡◌, ℕ, ◌+◌, ◌-◌, ◌*◌, ◌≤◌, nat_lt, ap, arith}
use Rattle.std.proofs.lemmas.Bool.{le-ltb}
use Rattle.lw_planes.specs.Row.{row_bit}
use Rattle.lw_kernels.proofs.ColumnLaws.{row_copied}
use Rattle.lw_kernels.proofs.SpanLaws.{rows_none, rows_same}
use Rattle.lw_kernels.proofs.columns.copy_rows.Goals as goal

pub loop-pair-init : goal.loop-pair-init
loop-pair-init c =
    let k = c.args.column in
    rows_none c.args.to_step (8 * k.at + k.lead) (8 * k.at + k.lead + k.count) c.args.to.now (λ y. nat_lt y (2 * 0)) _ (λ y. le-ltb y (2 * 0) (omega arith))

pub loop-pair-preserved : goal.loop-pair-preserved
loop-pair-preserved c =
    let k = c.args.column in
    let is = c.requires.column in
    let from : ℕ = 8 * k.at + k.lead in
    let old : ℕ → ℕ = λ p. row_bit c.args.to.now p in
    let row : ℕ = 2 * c.loop-pair.pair in
    let fits : from + k.count ≤ 8 * c.args.to_step = omega (arith, is.inside, is.named) in
    let next : row + 1 + 1 ≡ 2 * (c.loop-pair.pair + 1) = omega arith in
    let one = row_copied c.args.to_step c.args.source_step k.at k.lead k.start k.place k.count row c.loop-pair.to c.copy_row.new.to c.args.source.now old fits c.loop-pair.invariant c.copy_row.ensures in
    let two = row_copied c.args.to_step c.args.source_step k.at k.lead k.start k.place k.count (row + 1) c.copy_row.new.to c.copy_row-in-loop-pair.new.to c.args.source.now old fits one c.copy_row-in-loop-pair.ensures in
    rows_same c.args.to_step from (from + k.count) c.copy_row-in-loop-pair.new.to (λ y. nat_lt y (row + 1 + 1)) (λ y. nat_lt y (2 * (c.loop-pair.pair + 1))) _ old (λ y. ap (nat_lt y) next) two

pub returns-then-odd-eq1 : goal.returns-then-odd-eq1
returns-then-odd-eq1 c =
    let k = c.args.column in
    let is = c.requires.column in
    let from : ℕ = 8 * k.at + k.lead in
    let old : ℕ → ℕ = λ p. row_bit c.args.to.now p in
    let last : ℕ = c.args.rows - 1 in
    let fits : from + k.count ≤ 8 * c.args.to_step = omega (arith, is.inside, is.named) in
    let before : 2 * c.loop-pair.pair ≡ last = omega arith in
    let all : last + 1 ≡ c.args.rows = omega arith in
    let one = rows_same c.args.to_step from (from + k.count) c.loop-pair.to (λ y. nat_lt y (2 * c.loop-pair.pair)) (λ y. nat_lt y last) _ old (λ y. ap (nat_lt y) before) c.loop-pair.invariant in
    let two = row_copied c.args.to_step c.args.source_step k.at k.lead k.start k.place k.count last c.loop-pair.to c.copy_row-then-odd-eq1.new.to c.args.source.now old fits one c.copy_row-then-odd-eq1.ensures in
    rows_same c.args.to_step from (from + k.count) c.copy_row-then-odd-eq1.new.to (λ y. nat_lt y (last + 1)) (λ y. nat_lt y c.args.rows) _ old (λ y. ap (nat_lt y) all) two

pub returns-else-odd-eq1 : goal.returns-else-odd-eq1
returns-else-odd-eq1 c =
    let k = c.args.column in
    let from : ℕ = 8 * k.at + k.lead in
    let all : 2 * c.loop-pair.pair ≡ c.args.rows = omega arith in
    rows_same c.args.to_step from (from + k.count) c.loop-pair.to (λ y. nat_lt y (2 * c.loop-pair.pair)) (λ y. nat_lt y c.args.rows) _ (λ p. row_bit c.args.to.now p) (λ y. ap (nat_lt y) all) c.loop-pair.invariant
