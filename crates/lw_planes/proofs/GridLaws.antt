-- Laws of tables of values by column and row.
use Rattle.std.proofs.Common.{◌≡◌, ℕ, ◌<◌, ◌≤◌, List, [], length, get_or, map, ◌∙◌, sym, refl, ap, zero-add, arith}
use Rattle.std.specs.List.{range_with_len}
use Rattle.std.proofs.lemmas.List.{get_or_past, same_lists}
use Rattle.std.proofs.lemmas.List.FromFn.{length-map-range_with_len, get_or-map-range_with_len, fill_by_all}
use Rattle.lw_planes.specs.Grid.{grid, at}

-- a table has its number of rows
pub grid_length : {A : Type 0} (w h : ℕ) (f : ℕ → ℕ → A) → length (grid w h f) ≡ h
unfolding grid
grid_length w h f = length-map-range_with_len _ 0 h

-- row y of a table has the values of that row
pub grid_row : {A : Type 0} (w h : ℕ) (f : ℕ → ℕ → A) (y : ℕ) → y < h → get_or (grid w h f) y [] ≡ map (λ x. f x y) (range_with_len 0 w)
unfolding grid
grid_row w h f y low =
    get_or-map-range_with_len (λ j. map (λ x. f x j) (range_with_len 0 w)) 0 h y y [] low (zero-add y)

-- each row of a table has its number of columns
pub grid_row_length : {A : Type 0} (w h : ℕ) (f : ℕ → ℕ → A) (y : ℕ) → y < h → length (get_or (grid w h f) y []) ≡ w
grid_row_length w h f y low = ap length (grid_row w h f y low) ∙ length-map-range_with_len _ 0 w

-- there is no row below a table
pub grid_no_row : {A : Type 0} (w h : ℕ) (f : ℕ → ℕ → A) (y : ℕ) → h ≤ y → get_or (grid w h f) y [] ≡ []
grid_no_row w h f y past = let long : length (grid w h f) ≤ y = omega (arith, grid_length w h f) in get_or_past _ y [] long

-- what stands at a place of a table is what was tabulated there
pub grid_at : {A : Type 0} (w h : ℕ) (f : ℕ → ℕ → A) (d : A) (x y : ℕ) → x < w → y < h → at d (grid w h f) x y ≡ f x y
unfolding at
grid_at w h f d x y left low =
    ap (λ row. get_or row x d) (grid_row w h f y low) ∙ get_or-map-range_with_len (λ i. f i y) 0 w x x d left (zero-add x)

-- past the columns of a table is the default
pub grid_past_column : {A : Type 0} (w h : ℕ) (f : ℕ → ℕ → A) (d : A) (x y : ℕ) → w ≤ x → y < h → at d (grid w h f) x y ≡ d
unfolding at
grid_past_column w h f d x y past low =
    let short : length (get_or (grid w h f) y []) ≤ x = omega (arith, grid_row_length w h f y low) in
    get_or_past _ x d short

-- past the rows of a table is the default
pub grid_past_row : {A : Type 0} (w h : ℕ) (f : ℕ → ℕ → A) (d : A) (x y : ℕ) → h ≤ y → at d (grid w h f) x y ≡ d
unfolding at
grid_past_row w h f d x y past = ap (λ row. get_or row x d) (grid_no_row w h f y past)

-- two lists of values by their index are equal where they are equal at every index
pub map_range_same : {A : Type 0} (n : ℕ) (f g : ℕ → A) → ((x : ℕ) → x < n → f x ≡ g x) → map f (range_with_len 0 n) ≡ map g (range_with_len 0 n)
map_range_same n f g same =
    same_lists _ _ (length-map-range_with_len f 0 n ∙ sym (length-map-range_with_len g 0 n))
    (λ k d h. let low : k < n = omega (arith, length-map-range_with_len f 0 n) in get_or-map-range_with_len f 0 n k k d low (zero-add k) ∙ (same k low ∙ sym (get_or-map-range_with_len g 0 n k k d low (zero-add k))))

-- two tables of a size are equal where they are equal at every place
pub grid_same : {A : Type 0} (w h : ℕ) (f g : ℕ → ℕ → A) → ((x y : ℕ) → x < w → y < h → f x y ≡ g x y) → grid w h f ≡ grid w h g
unfolding grid
grid_same w h f g same =
    fill_by_all (λ y. map (λ x. g x y) (range_with_len 0 w)) (grid w h f) h [] (grid_length w h f)
    (λ y low. grid_row w h f y low ∙ map_range_same w (λ x. f x y) (λ x. g x y) (λ x left. same x y left low))

-- rows of a table's size with a table's values are that table
pub grid_from_rows : {A : Type 0} (w h : ℕ) (f : ℕ → ℕ → A) (d : A) (rows : List (List A)) → length rows ≡ h → ((y : ℕ) → y < h → length (get_or rows y []) ≡ w) → ((x y : ℕ) → x < w → y < h → at d rows x y ≡ f x y) → rows ≡ grid w h f
unfolding grid at
grid_from_rows w h f d rows high wide same =
    fill_by_all (λ y. map (λ x. f x y) (range_with_len 0 w)) rows h [] high
    (λ y low. fill_by_all (λ x. f x y) (get_or rows y []) w d (wide y low) (λ x left. same x y left low))

-- rows of a table's size are the table of what they have
pub grid_of_rows : {A : Type 0} (w h : ℕ) (d : A) (rows : List (List A)) → length rows ≡ h → ((y : ℕ) → y < h → length (get_or rows y []) ≡ w) → rows ≡ grid w h (λ x y. at d rows x y)
grid_of_rows w h d rows high wide = grid_from_rows w h _ d rows high wide (λ x y left low. refl)
