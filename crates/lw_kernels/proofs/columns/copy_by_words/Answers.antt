use Rattle.std.proofs.Common.{◌≡◌, ℕ, ◌+◌, ◌-◌, ◌*◌, nat_lt, ap, refl, arith}
use Rattle.lw_planes.specs.Row.{row_bit}
use Rattle.lw_kernels.specs.Kernel.{place_in}
use Rattle.lw_kernels.proofs.ColumnLaws.{rows_empty, rows_joined, rows_placed}
use Rattle.lw_kernels.proofs.columns.copy_by_words.Goals as goal

pub loop-done-init : goal.loop-done-init
loop-done-init c = record {
  few = omega arith;
  columns = rows_empty c.args.to_step c.args.to_bit (c.args.to_bit + 0) c.args.to.now (λ y. nat_lt y c.args.rows) _ (omega arith);
}

pub loop-done-preserved : goal.loop-done-preserved
loop-done-preserved c =
    let source : ℕ → ℕ = row_bit c.args.source.now in
    let from : ℕ = c.args.to_bit in
    let place : ℕ = c.args.source_bit in
    let done : ℕ = c.loop-done.done in
    let k = c.column_of-column.result in
    let is = c.column_of-column.ensures in
    let ends : 8 * k.at + k.lead + k.count ≡ from + (done + k.count) = omega (arith, is.begins) in
    record {
      few = omega (arith, is.few, c.loop-done.invariant.few);
      columns = rows_joined c.args.to_step from (from + done) (from + (done + k.count)) c.loop-done.to c.copy_column.new.to (λ y. nat_lt y c.args.rows)
          (λ y x. source (place_in c.args.source_step y (place + (x - from)))) _ (λ p. row_bit c.args.to.now p) (omega arith) (omega arith) c.loop-done.invariant.columns
          (rows_placed c.args.to_step (8 * k.at + k.lead) (8 * k.at + k.lead + k.count) (from + done) (from + (done + k.count)) c.copy_column.new.to (λ y. nat_lt y c.args.rows) _ (λ p. row_bit c.loop-done.to p) is.begins ends c.copy_column.ensures)
          (λ y x late.
          let same : 8 * (y * c.args.source_step) + (8 * k.start + k.place + (x - (8 * k.at + k.lead))) ≡ 8 * (y * c.args.source_step) + (place + (x - from)) = omega (arith, is.begins, is.source_begins, late) in
          ap source same);
    }

pub returns : goal.returns
returns c =
    let all : c.args.to_bit + c.loop-done.done ≡ c.args.to_bit + c.args.count = omega (arith, c.loop-done.invariant.few) in
    rows_placed c.args.to_step c.args.to_bit (c.args.to_bit + c.loop-done.done) c.args.to_bit (c.args.to_bit + c.args.count) c.loop-done.to (λ y. nat_lt y c.args.rows) _ (λ p. row_bit c.args.to.now p) refl all c.loop-done.invariant.columns
