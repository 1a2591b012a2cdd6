-- What drawing makes of a live layer, bit by bit.
use Rattle.std.specs.Prelude.{ℕ, ◌==◌, ◌<◌, Bool, true, ◌&&◌, if◌then◌else◌}
use Rattle.std.specs.Int.{bit_at}
use Rattle.lw_planes.specs.Pen.{pen_of}
use Rattle.lw_planes.specs.Bitmap.{pen_at}
use Rattle.lw_kernels.specs.Kernel.{is_between}
use Rattle.lw_machine.specs.Layer.{Raster}
use Rattle.lw_machine.specs.Paint.{candidate_bit}
use Rattle.lw_layer.specs.View.{LiveView, draws, repainted}

-- The live layer whose pixel (x, y) has in plane p the bit new p x y old in place of its bit old, where on p x y holds. Each
-- other bit, and all else, is as it was.
unfoldable pub drawn : (ℕ → ℕ → ℕ → Bool) → (ℕ → ℕ → ℕ → ℕ → ℕ) → LiveView → LiveView
drawn on new c =
    repainted (λ x y. pen_of c.layer.bits.depth
    (λ p. if on p x y then new p x y (bit_at (pen_at c.layer.bits x y) p) else bit_at (pen_at c.layer.bits x y) p)) c

-- of a bit these make a bit
abbrev pub GivesBits : (ℕ → ℕ → ℕ → ℕ → ℕ) → Type 0
GivesBits new = (p x y old : ℕ) → old < 2 → new p x y old < 2

-- the bit of a plane in the foreground
abbrev pub painted_bit : Raster → ℕ → ℕ → ℕ → ℕ → ℕ
painted_bit raster p x y old = candidate_bit raster true p old

-- the mask has the plane
abbrev pub in_mask : Raster → ℕ → Bool
in_mask raster p = bit_at raster.mask p == 1

-- The live layer with these pixels painted, in the foreground and through the mask.
abbrev pub painted : Raster → (ℕ → ℕ → Bool) → LiveView → LiveView
painted raster on c = drawn (λ p x y. in_mask raster p && on x y) (painted_bit raster) c

-- the drawable pixels of some rows and columns, from one on and before another
abbrev pub in_rows : LiveView → ℕ → ℕ → ℕ → ℕ → ℕ → ℕ → Bool
in_rows c top bottom from end i j = is_between top bottom j && (is_between from end i && draws c i j)
