-- The box of a window of two layers is told along both axes.
use Rattle.std.proofs.Common.{◌≡◌, ℕ, ◌≤◌, Bool, true, false, ◌&&◌, ℤ, pos, ◌+ℤ◌, ◌-ℤ◌, FitsSigned, to_z, of_z, w64, refl, arith}
use Rattle.lw_region.specs.Rectangle.{within}
use Rattle.lw_calls.specs.Limits.{is_coordinate, coordinates_fit}
use Rattle.lw_grammar.specs.Statements.{Box, box, is_gzz_box}
use Rattle.lw_grammar.specs.Told.{inner_box}
use Rattle.std.proofs.lemmas.Int.{ints, to_z-of_z}
use Rattle.std.proofs.lemmas.Bool.{and_parts}
use Rattle.std.proofs.lemmas.Bool.Decides.{nat_tests}

-- three tests along each axis, in the order of either
shuffled : (a b c d e f : Bool) → ((a && (c && e)) && (b && (d && f))) ≡ ((a && b) && ((c && d) && (e && f)))
shuffled false b c d e f = refl
shuffled true false false d e f = refl
shuffled true false true d false f = refl
shuffled true false true d true f = refl
shuffled true true false d e f = refl
shuffled true true true false false f = refl
shuffled true true true false true f = refl
shuffled true true true true false f = refl
shuffled true true true true true f = refl

pub box_by_axes : (width height : ℕ) (r : Box) → ((is_coordinate r.x && (within (pos 9) r.w (pos width) && is_coordinate ((r.x +ℤ r.w) -ℤ pos 1))) && (is_coordinate r.y && (within (pos 14) r.h (pos height) && is_coordinate ((r.y +ℤ r.h) -ℤ pos 1)))) ≡ is_gzz_box width height r
box_by_axes width height r = shuffled (is_coordinate r.x) (is_coordinate r.y) (within (pos 9) r.w (pos width)) (within (pos 14) r.h (pos height)) (is_coordinate ((r.x +ℤ r.w) -ℤ pos 1)) (is_coordinate ((r.y +ℤ r.h) -ℤ pos 1))

-- the place and the size of an inner layer are numbers of 64 bits
place_kept : (x : ℤ) (k : ℕ) → k ≤ 13 → FitsSigned w64 x → is_coordinate x ≡ true → to_z w64 (of_z w64 (to_z w64 (of_z w64 x) +ℤ pos k)) ≡ x +ℤ pos k
unfolding within
place_kept x k small fits h = rw (to_z-of_z w64 x fits) (grind (arith, ints, nat_tests))

size_kept : (w : ℤ) (k least most : ℕ) → k ≤ least → FitsSigned w64 w → within (pos least) w (pos most) ≡ true → to_z w64 (of_z w64 (to_z w64 (of_z w64 w) -ℤ pos k)) ≡ w -ℤ pos k
unfolding within
size_kept w k least most small fits h = rw (to_z-of_z w64 w fits) (grind (arith, ints, nat_tests))

pub inner_kept : (x y w h : ℤ) → FitsSigned w64 x → FitsSigned w64 y → FitsSigned w64 w → FitsSigned w64 h → (width : ℕ) × (height : ℕ) × (is_gzz_box width height (box x y w h) ≡ true) → box (to_z w64 (of_z w64 (to_z w64 (of_z w64 x) +ℤ pos 4))) (to_z w64 (of_z w64 (to_z w64 (of_z w64 y) +ℤ pos 11))) (to_z w64 (of_z w64 (to_z w64 (of_z w64 w) -ℤ pos 8))) (to_z w64 (of_z w64 (to_z w64 (of_z w64 h) -ℤ pos 13))) ≡ inner_box (box x y w h)
inner_kept x y w h fx fy fw fh b =
    let corner = and_parts (coordinates_fit x y) _ b.2 in
    let rest = and_parts (within (pos 9) w (pos b.0) && within (pos 14) h (pos b.1)) _ corner.1 in
    let place = and_parts (is_coordinate x) _ corner.0 in
    let size = and_parts (within (pos 9) w (pos b.0)) _ rest.0 in
    rw (place_kept x 4 (omega arith) fx place.0, place_kept y 11 (omega arith) fy place.1, size_kept w 8 9 b.0 (omega arith) fw size.0, size_kept h 13 14 b.1 (omega arith) fh size.1) refl
