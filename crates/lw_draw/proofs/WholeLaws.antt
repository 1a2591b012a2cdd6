-- Laws of all pixels of some rows and columns as one block.
use Rattle.std.proofs.Common.{◌≡◌, ℕ, Bool, min, Option, Some, None, IfSome, ℤ, pos, ◌∙◌, sym, ap, subst, arith}
use Rattle.lw_layer.specs.View.{LiveView, keeps, draws}
use Rattle.lw_layer.specs.Runs.{IsRun, IsRunAt}
use Rattle.lw_layer.specs.declared.run.Run.{Run}
use Rattle.lw_draw.specs.Blocks.{IsWholeBlock, IsCut}
use Rattle.lw_draw.specs.declared.blocks.Block.{Block}
use Rattle.lw_draw.specs.declared.spans.Places.{Places}
use Rattle.lw_draw.proofs.BlockLaws.{drawable_block, kept_block}
use Rattle.lw_draw.proofs.StretchLaws.{run_cut}

-- the first row of what was cut is a run
first_row : (c : LiveView) (test : ℕ → ℕ → Bool) (rows columns : Places) (across down : ℤ) (r : Run) (b : Block) → across ≡ pos columns.from → down ≡ pos rows.from → IsRunAt c test across down (Some r) → IsCut c rows columns r b → IsRun c test b.x b.y b.run
first_row c test rows columns across down r b column row is cut =
    let short = run_cut c test columns.from rows.from across down r b.run.len column row cut.long is in
    let fits = cut.fits in
    let len : min r.len b.run.len ≡ b.run.len = omega arith in
    let same : record r { len = min r.len b.run.len } ≡ b.run = ap (λ n. record r { len = n }) len ∙ sym cut.run in
    let R : Run → Type 0 = λ q. IsRun c test columns.from rows.from q in
    let X : ℕ → Type 0 = λ x. IsRun c test x rows.from b.run in
    let Y : ℕ → Type 0 = λ y. IsRun c test b.x y b.run in
    subst Y (sym cut.all.row) (subst X (sym cut.all.column) (subst R same short))

-- Of drawable pixels.
pub whole_drawable : (c : LiveView) (rows columns : Places) (across down : ℤ) (r : Run) (o : Option Block) → across ≡ pos columns.from → down ≡ pos rows.from → IsRunAt c (λ i j. draws c i j) across down (Some r) → IfSome o (λ b. IsCut c rows columns r b) → IfSome o (λ b. IsWholeBlock c (λ i j. draws c i j) rows columns b)
whole_drawable c rows columns across down r None column row is cut = tt
whole_drawable c rows columns across down r (Some b) column row is cut = record {
  all = cut.all;
  block = drawable_block c b cut.some (first_row c (λ i j. draws c i j) rows columns across down r b column row is cut) cut.band;
}

-- Of kept ones.
pub whole_kept : (c : LiveView) (rows columns : Places) (across down : ℤ) (r : Run) (o : Option Block) → across ≡ pos columns.from → down ≡ pos rows.from → IsRunAt c (λ i j. keeps c i j) across down (Some r) → IfSome o (λ b. IsCut c rows columns r b) → IfSome o (λ b. IsWholeBlock c (λ i j. keeps c i j) rows columns b)
whole_kept c rows columns across down r None column row is cut = tt
whole_kept c rows columns across down r (Some b) column row is cut = record {
  all = cut.all;
  block = kept_block c b cut.some (first_row c (λ i j. keeps c i j) rows columns across down r b column row is cut) cut.band;
}
