-- For private contracts.
-- What a row of pixels and a rectangle have in common.
use Rattle.std.specs.Prelude.{◌≡◌, ℕ, ◌+◌, ◌<◌, ◌≤◌, ℤ, pos, ◌+ℤ◌, ◌≤ℤ◌}
use Rattle.lw_region.specs.Rectangle.{Rectangle, has_pixel}
use Rattle.lw_kernels.specs.Kernel.{is_named}
use Rattle.lw_buffers.specs.declared.shared.Part.{Part}

-- Of n pixels of row y from column x on, the rectangle has `count` from pixel `bit` on, and they are those of its line `line`
-- from its column `column` on.
pub record IsShared (r : Rectangle) (x y : ℤ) (n : ℕ) (p : Part) : Type 0 where
  pub inside : p.bit + p.count ≤ n
  pub across : x +ℤ pos p.bit ≡ r.min_x +ℤ pos p.column
  pub right : (r.min_x +ℤ pos (p.column + p.count)) ≤ℤ (r.max_x +ℤ pos 1)
  pub down : y ≡ r.min_y +ℤ pos p.line
  pub bottom : y ≤ℤ r.max_y
  pub pixels : (i : ℕ) → i < n → has_pixel r (x +ℤ pos i) y ≡ is_named p.bit p.count i

-- n is how far `to` is after `from`, and 0 where it is before it
pub record IsDistance (from to : ℤ) (n : ℕ) : Type 0 where
  pub behind : from ≤ℤ to → from +ℤ pos n ≡ to
  pub before : to ≤ℤ from → n ≡ 0
