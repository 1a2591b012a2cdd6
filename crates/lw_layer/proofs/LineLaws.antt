-- Layers with equal pens, and a bit that stays.
use Rattle.std.proofs.Common.{◌≡◌, ℕ, ◌<◌, Bool, true, false, ◌&&◌, if◌then◌else◌, refl, ap}
use Rattle.lw_planes.proofs.BitmapLaws.{bitmap_same}
use Rattle.lw_layer.specs.View.{LiveView, repainted}
use Rattle.lw_layer.proofs.ViewLaws.{with_bits}

-- layers with equal pens are equal
pub repainted_same : (c : LiveView) (f g : ℕ → ℕ → ℕ) → ((x y : ℕ) → x < c.layer.bits.width → y < c.layer.bits.height → f x y ≡ g x y) → repainted f c ≡ repainted g c
repainted_same c f g same = ap (with_bits c) (bitmap_same c.layer.bits.width c.layer.bits.height c.layer.bits.depth f g same)

-- a bit of no place stays
pub nowhere : (t : Bool) (a b : ℕ) → b ≡ (if t && false then a else b)
nowhere true a b = refl
nowhere false a b = refl
