-- Pens and their bits (Graphics Primitives: a pixel's pen has one bit in each bit plane).
use Rattle.std.specs.Prelude.{ℕ, zero, suc, ◌+◌, ◌-◌, ◌*◌, ◌^◌}

-- The pen of n planes whose bit k is b k, each bit 0 or 1.
unfoldable pub pen_of : ℕ → (ℕ → ℕ) → ℕ
pen_of zero b = 0
pen_of (suc n) b = pen_of n b + b n * 2 ^ n

-- The byte whose bit j, counted from the most significant, is b j.
unfoldable pub byte_of : (ℕ → ℕ) → ℕ
byte_of b = pen_of 8 (λ k. b (7 - k))
