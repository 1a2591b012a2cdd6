-- For private contracts.
-- Rows of bytes that change their order.
use Rattle.std.specs.Prelude.{◌≡◌, ℕ, ◌+◌, ◌*◌, ◌/◌, ◌%◌, ◌<◌, List, slice_index}

-- The first rows of planes of h rows of n bytes, one plane after another, are those of the bytes that have of each row the rows
-- of its d planes.
abbrev pub HaveRows : ℕ → ℕ → ℕ → ℕ → List ℕ → List ℕ → Type 0
HaveRows h d n count bytes planes =
    (r i : ℕ) → r < count → i < n → slice_index planes (r * n + i) ≡ slice_index bytes ((r % h * d + r / h) * n + i)
