-- Where damage may lie in a layer, by the rectangle of it and by the machine's inner rectangle.
use Rattle.std.proofs.Common.{◌≡◌, ℕ, ◌+◌, ◌-◌, ◌<◌, Bool, true, false, ◌&&◌, nat_le, nat_lt, ℤ, pos, refl, arith}
use Rattle.std.proofs.lemmas.Bool.{both_ways, lt-ltb}
use Rattle.std.proofs.lemmas.Bool.Decides.{nat_tests}
use Rattle.std.proofs.lemmas.Int.{ints}
use Rattle.lw_region.specs.Rectangle.{within}
use Rattle.lw_region.proofs.Lists.{and_alike}
use Rattle.lw_damage.specs.Damaged.{may_lie}
use Rattle.lw_machine.specs.Kept.{in_inner}
use Rattle.lw_layer.specs.Pieces.{inner_of}

-- along one axis: from low on, and so far from the end
framed_axis : (low border count x : ℕ)
    → within (pos (1 + low)) (pos x) (pos (count - (1 + border))) ≡ (nat_le (1 + low) x && nat_lt (x + border) count)
unfolding within
framed_axis low border count x = grind (arith, ints, nat_tests)

plain_axis : (count x : ℕ) → x < count → within (pos 0) (pos x) (pos (count - 1)) ≡ nat_lt x count
unfolding within
plain_axis count x inside = rw (lt-ltb x count inside) (grind (arith, ints, nat_tests))

-- The rectangle has of a layer's pixels those of its inner rectangle, unless the layer is a super-bitmap layer, which may have
-- damage nowhere.
pub may_pixel : (super framed : Bool) (w h x y : ℕ) → super ≡ false → x < w → y < h
    → may_lie (inner_of super framed w h) (pos x) (pos y) ≡ in_inner framed w h x y
unfolding in_inner
may_pixel true framed w h x y other left low = absurd (both_ways true other refl)
may_pixel false true w h x y other left low = and_alike _ _ _ _ (framed_axis 3 4 w x) (framed_axis 10 2 h y)
may_pixel false false w h x y other left low = and_alike _ _ _ _ (plain_axis w x left) (plain_axis h y low)

pub none_may : (super framed : Bool) (w h : ℕ) (x y : ℤ) → super ≡ true → may_lie (inner_of super framed w h) x y ≡ false
none_may true framed w h x y own = refl
none_may false framed w h x y own = absurd (both_ways false refl own)
