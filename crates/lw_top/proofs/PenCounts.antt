-- Pixels of a pen, counted row by row.
use Rattle.std.proofs.Common.{◌≡◌, ℕ, ◌+◌, ◌<◌, ◌==◌, cond, [], take, ap, arith}
use Rattle.std.specs.List.{count_by, sum_by}
use Rattle.std.proofs.lemmas.List.{take_all}
use Rattle.std.proofs.lemmas.List.Sums.{sum_by_more}
use Rattle.lw_planes.specs.Grid.{at}
use Rattle.lw_planes.specs.Bitmap.{Bitmap, IsBitmap, row_at, pen_at}
use Rattle.lw_top.specs.Demo.{pixels_with}

-- a pixel more of a row, and the whole row
pub pixel_more : (b : Bitmap) (pen x y : ℕ) → IsBitmap b → x < b.width → y < b.height
    → count_by (λ p. p == pen) (take (x + 1) (row_at b y)) ≡ count_by (λ p. p == pen) (take x (row_at b y)) + cond (pen_at b x y == pen) 1 0
unfolding at
pixel_more b pen x y ok column row = let wide = ok.columns y row in sum_by_more (λ p. cond (p == pen) 1 0) (row_at b y) x 0 (omega (arith, column, wide))

pub row_whole : (b : Bitmap) (pen y : ℕ) → IsBitmap b → y < b.height → count_by (λ p. p == pen) (take b.width (row_at b y)) ≡ count_by (λ p. p == pen) (row_at b y)
row_whole b pen y ok row = let wide = ok.columns y row in ap (λ ps. count_by (λ p. p == pen) ps) (take_all b.width (row_at b y) (omega (arith, wide)))

-- a row more of a bitmap, and the whole bitmap
pub row_more : (b : Bitmap) (pen y : ℕ) → IsBitmap b → y < b.height
    → sum_by (λ row. count_by (λ p. p == pen) row) (take (y + 1) b.rows) ≡ sum_by (λ row. count_by (λ p. p == pen) row) (take y b.rows) + count_by (λ p. p == pen) (row_at b y)
row_more b pen y ok row = let high = ok.rows in sum_by_more (λ row. count_by (λ p. p == pen) row) b.rows y [] (omega (arith, row, high))

pub rows_whole : (b : Bitmap) (pen : ℕ) → IsBitmap b → sum_by (λ row. count_by (λ p. p == pen) row) (take b.height b.rows) ≡ pixels_with b pen
rows_whole b pen ok = let high = ok.rows in ap (λ rows. sum_by (λ row. count_by (λ p. p == pen) row) rows) (take_all b.height b.rows (omega (arith, high)))
