use Rattle.std.proofs.Common.{◌≡◌, ℕ, ◌+◌, ◌-◌, ◌*◌, nat_lt, ap, refl, arith}
use Rattle.lw_planes.specs.Row.{row_bit}
use Rattle.lw_kernels.specs.Kernel.{place_in}
use Rattle.lw_kernels.proofs.ColumnLaws.{rows_empty, rows_joined, rows_placed}
use Rattle.lw_kernels.proofs.columns.copy_two_words.Goals as goal

pub loop-done-init : goal.loop-done-init
loop-done-init c = record {
  few = omega arith;
  columns = rows_empty c.args.to_step c.args.to_bit (c.args.to_bit + 0) c.args.to.now (λ y. nat_lt y c.args.rows) _ (omega arith);
}

pub loop-done-preserved : goal.loop-done-preserved
loop-done-preserved c =
    let source : ℕ → ℕ = row_bit c.args.source.now in
    let from : ℕ = c.args.to_bit in
    let place : ℕ = c.args.source_bit in
    let done : ℕ = c.loop-done.done in
    let more : ℕ = c.copy_first-done.result in
    let is = c.copy_first-done.ensures in
    let ends : from + done + more ≡ from + (done + more) = omega arith in
    record {
      few = omega (arith, is.few, c.loop-done.invariant.few);
      columns = rows_joined c.args.to_step from (from + done) (from + (done + more)) c.loop-done.to c.copy_first-done.new.to (λ y. nat_lt y c.args.rows)
          (λ y x. source (place_in c.args.source_step y (place + (x - from)))) _ (λ p. row_bit c.args.to.now p) (omega arith) (omega arith) c.loop-done.invariant.columns
          (rows_placed c.args.to_step (from + done) (from + done + more) (from + done) (from + (done + more)) c.copy_first-done.new.to (λ y. nat_lt y c.args.rows) _ (λ p. row_bit c.loop-done.to p) refl ends is.copied)
          (λ y x late.
          let same : 8 * (y * c.args.source_step) + (place + done + (x - (from + done))) ≡ 8 * (y * c.args.source_step) + (place + (x - from)) = omega (arith, late) in
          ap source same);
    }

pub returns : goal.returns
returns c =
    let all : c.args.to_bit + c.loop-done.done ≡ c.args.to_bit + c.args.count = omega (arith, c.loop-done.invariant.few) in
    rows_placed c.args.to_step c.args.to_bit (c.args.to_bit + c.loop-done.done) c.args.to_bit (c.args.to_bit + c.args.count) c.loop-done.to (λ y. nat_lt y c.args.rows) _ (λ p. row_bit c.args.to.now p) refl all c.loop-done.invariant.columns
