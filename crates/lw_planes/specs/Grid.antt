-- Tables of values by column and row, kept as a list of rows.
use Rattle.std.specs.Prelude.{ℕ, List, [], map}
use Rattle.std.specs.List.{range_with_len, slice_index_or}

-- The table of w columns and h rows that has f x y at column x and row y.
unfoldable pub grid : {A : Type 0} → ℕ → ℕ → (ℕ → ℕ → A) → List (List A)
grid w h f = map (λ y. map (λ x. f x y) (range_with_len 0 w)) (range_with_len 0 h)

-- What a table has at column x and row y, and d outside it.
unfoldable pub at : {A : Type 0} → A → List (List A) → ℕ → ℕ → A
at d rows x y = slice_index_or (slice_index_or rows y []) x d
