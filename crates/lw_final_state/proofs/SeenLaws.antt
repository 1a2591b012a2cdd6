-- What is seen of a slot: where its layer is on top, and its damage.
use Rattle.std.proofs.Common.{◌≡◌, ℕ, ◌<◌, ◌&&◌, Bool, true, false, nat_lt, ℤ, pos, negsuc, ◌-ℤ◌, ◌≤ℤ◌, List, ◌∙◌, sym, refl, ap, arith}
use Rattle.std.specs.Prelude.{int_le}
use Rattle.std.proofs.lemmas.Bool.{and_parts, and_from, false≢true, false_from_ne_true}
use Rattle.std.proofs.lemmas.Bool.Decides.{nat_tests}
use Rattle.std.proofs.lemmas.Int.{ints}
use Rattle.lw_region.specs.Rectangle.{Rectangle, within, has_pixel}
use Rattle.lw_region.specs.Bands.{bands, covers}
use Rattle.lw_region.specs.Banded.{IsCanonical}
use Rattle.lw_planes.specs.Grid.{grid, at}
use Rattle.lw_planes.proofs.GridLaws.{grid_at}
use Rattle.lw_calls.specs.declared.sizes.Sizes.{Sizes}
use Rattle.lw_damage.specs.Damaged.{Damaged}
use Rattle.lw_machine.specs.Screen.{screen_bounds}
use Rattle.lw_machine.specs.Kept.{holds_at, is_kept}
use Rattle.lw_machine.specs.Finals.{damage_set}
use Rattle.lw_layer.specs.View.{LiveView, keeps}
use Rattle.lw_layer.specs.Pieces.{IsDamageOf}
use Rattle.lw_stack.specs.Stack.{Stack, is_top_in}
use Rattle.lw_stack.proofs.FirstLaws.{is_top_where}
use Rattle.lw_layer.proofs.KeepingLaws.{part_is}
use Rattle.lw_final_state.specs.Shown.{top_set}
use Rattle.lw_final_state.proofs.SeenTables.{among, in_table, table_bands}

-- along one axis, a place of the screen is one of a table of its size
in_axis : (limit i : ℕ) → within (pos 0) (pos i) (pos limit -ℤ pos 1) ≡ true → among i 0 limit ≡ true
unfolding within
in_axis limit i have =
    let ends = and_parts (int_le (pos 0) (pos i)) (int_le (pos i) (pos limit -ℤ pos 1)) have in
    let most : pos i ≤ℤ (pos limit -ℤ pos 1) = grind (arith, ints) in
    let small : i < limit = omega (arith, ints, most) in
    grind (arith, nat_tests)

-- and never left of it
not_left : (limit i : ℕ) → within (pos 0) (negsuc i) (pos limit -ℤ pos 1) ≡ true → ⊥
unfolding within
not_left limit i have =
    let ends = and_parts (int_le (pos 0) (negsuc i)) (int_le (negsuc i) (pos limit -ℤ pos 1)) have in
    let least : pos 0 ≤ℤ negsuc i = grind (arith, ints) in
    omega (arith, ints, least)

-- a place of the screen is one of a table of its size
in_screen : (sizes : Sizes) (x y : ℤ) → has_pixel (screen_bounds sizes) x y ≡ true
    → holds_at (λ i j. in_table sizes.width sizes.height i j) x y ≡ true
in_screen sizes (pos i) (pos j) have =
    let places = and_parts (within (pos 0) (pos i) (pos sizes.width -ℤ pos 1)) (within (pos 0) (pos j) (pos sizes.height -ℤ pos 1)) have in
    and_from (among j 0 sizes.height) (among i 0 sizes.width) (in_axis sizes.height j places.1) (in_axis sizes.width i places.0)
in_screen sizes (pos i) (negsuc j) have =
    let places = and_parts (within (pos 0) (pos i) (pos sizes.width -ℤ pos 1)) (within (pos 0) (negsuc j) (pos sizes.height -ℤ pos 1)) have in
    absurd (not_left sizes.height j places.1)
in_screen sizes (negsuc i) y have =
    let places = and_parts (within (pos 0) (negsuc i) (pos sizes.width -ℤ pos 1)) (within (pos 0) y (pos sizes.height -ℤ pos 1)) have in
    absurd (not_left sizes.width i places.0)

-- a test that holds on places of a table alone
only_in_table : (w h : ℕ) (test : ℤ → ℤ → Bool) → ((x y : ℤ) → test x y ≡ true → holds_at (λ i j. in_table w h i j) x y ≡ true) → (x y : ℤ) → test x y ≡ holds_at (λ i j. in_table w h i j && test (pos i) (pos j)) x y
only_in_table w h test lies (pos i) (pos j) = part_is (in_table w h i j) (test (pos i) (pos j)) (lies (pos i) (pos j))
only_in_table w h test lies (pos i) (negsuc j) = false_from_ne_true _ (λ t. false≢true (lies (pos i) (negsuc j) t))
only_in_table w h test lies (negsuc i) y = false_from_ne_true _ (λ t. false≢true (lies (negsuc i) y t))

-- a canonical list of the places on which a slot's layer is on top
pub visible_top : (v : Stack) (slot : ℕ) (region : List Rectangle) → IsCanonical region
    → ((x y : ℤ) → covers region x y ≡ is_top_in v slot x y) → region ≡ bands (top_set v slot)
unfolding top_set
visible_top v slot region canonical places =
    let on : (x y : ℤ) → is_top_in v slot x y ≡ true → has_pixel (screen_bounds v.sizes) x y ≡ true = λ x y top.
    (and_parts (has_pixel (screen_bounds v.sizes) x y) _ (sym (is_top_where v slot x y) ∙ top)).0 in
    table_bands v.sizes.width v.sizes.height (λ i j. is_top_in v slot (pos i) (pos j)) region canonical
    (λ x y. places x y
    ∙ only_in_table v.sizes.width v.sizes.height (λ i j. is_top_in v slot i j) (λ i j top. in_screen v.sizes i j (on i j top)) x y)

below_among : (i n : ℕ) → nat_lt i n ≡ true → among i 0 n ≡ true
below_among i n below = grind (arith, nat_tests)

-- a pixel that the layer keeps is one of its bits
keeps_in_bits : (c : LiveView) (x y : ℤ) → holds_at (λ i j. keeps c i j) x y ≡ true → holds_at (λ i j. in_table c.layer.bits.width c.layer.bits.height i j) x y ≡ true
unfolding keeps is_kept
keeps_in_bits c (pos i) (pos j) kept =
    let bits = and_parts _ _ kept in
    let sides = and_parts (nat_lt i c.layer.bits.width) (nat_lt j c.layer.bits.height) bits.0 in
    and_from (among j 0 c.layer.bits.height) (among i 0 c.layer.bits.width) (below_among j c.layer.bits.height sides.1) (below_among i c.layer.bits.width sides.0)
keeps_in_bits c (pos i) (negsuc j) kept = absurd (false≢true kept)
keeps_in_bits c (negsuc i) y kept = absurd (false≢true kept)

-- what a table has at one of its places
told_in_table : (w h : ℕ) (f : ℕ → ℕ → Bool) (x y : ℤ) → holds_at (λ i j. in_table w h i j && f i j) x y ≡ holds_at (λ i j. in_table w h i j && at false (grid w h f) i j) x y
told_in_table w h f (pos i) (pos j) = by_place (in_table w h i j) refl
  where
    by_place : (b : Bool) → in_table w h i j ≡ b → (b && f i j) ≡ (b && at false (grid w h f) i j)
    by_place true is =
        let sides = and_parts (among j 0 h) (among i 0 w) is in
        let left : i < w = grind (arith, nat_tests) in
        let low : j < h = grind (arith, nat_tests) in
        sym (grid_at w h f false i j left low)
    by_place false is = refl
told_in_table w h f (pos i) (negsuc j) = refl
told_in_table w h f (negsuc i) y = refl

-- a canonical list of the damaged pixels
pub damage_listed : (c : LiveView) (d : Damaged) → IsDamageOf c d → IsCanonical d.rects → d.rects ≡ bands (damage_set c.layer)
unfolding damage_set
damage_listed c d is canonical =
    let w : ℕ = c.layer.bits.width in
    let h : ℕ = c.layer.bits.height in
    table_bands w h (λ i j. at false c.layer.damage i j) d.rects canonical
    (λ x y.
    only_in_table w h (λ i j. covers d.rects i j) (λ i j has. keeps_in_bits c i j (is.kept i j has)) x y
    ∙ (told_in_table w h (λ i j. covers d.rects (pos i) (pos j)) x y
    ∙ ap (λ (damage : List (List Bool)). holds_at (λ i j. in_table w h i j && at false damage i j) x y) (sym is.pixels)))
