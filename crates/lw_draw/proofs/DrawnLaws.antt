-- Laws of layers drawn on: equal where their bits are, and drawn on once more.
use Rattle.std.proofs.Common.{◌≡◌, ℕ, ◌<◌, Bool, true, false, ◌&&◌, ◌||◌, if◌then◌else◌, ◌∙◌, refl, ap}
use Rattle.std.specs.Int.{bit_at}
use Rattle.std.proofs.lemmas.Nat.Bits.{bit_at-lt}
use Rattle.lw_planes.specs.Pen.{pen_of}
use Rattle.lw_planes.specs.Bitmap.{IsBitmap, pen_at}
use Rattle.lw_planes.proofs.PenLaws.{pen_of_same, bit_pen_of, pen_same}
use Rattle.lw_planes.proofs.BitmapLaws.{pen_at_bitmap, bitmap_again}
use Rattle.lw_planes.proofs.ChosenLaws.{chosen_small}
use Rattle.lw_layer.specs.View.{LiveView, repainted}
use Rattle.lw_layer.proofs.ViewLaws.{with_bits}
use Rattle.lw_layer.proofs.LineLaws.{repainted_same}
use Rattle.lw_draw.specs.Drawn.{drawn, GivesBits}

-- a bit of a layer's pen
abbrev pub bit_of_layer : LiveView → ℕ → ℕ → ℕ → ℕ
bit_of_layer c p x y = bit_at (pen_at c.layer.bits x y) p

-- layers with equal bits are equal
pub bits_same : (c : LiveView) (f g : ℕ → ℕ → ℕ → ℕ) → ((p x y : ℕ) → p < c.layer.bits.depth → x < c.layer.bits.width → y < c.layer.bits.height → f p x y ≡ g p x y) → repainted (λ x y. pen_of c.layer.bits.depth (λ p. f p x y)) c ≡ repainted (λ x y. pen_of c.layer.bits.depth (λ p. g p x y)) c
bits_same c f g same =
    repainted_same c (λ x y. pen_of c.layer.bits.depth (λ p. f p x y)) (λ x y. pen_of c.layer.bits.depth (λ p. g p x y))
    (λ x y left low. pen_of_same c.layer.bits.depth (λ p. f p x y) (λ p. g p x y) (λ p deep. same p x y deep left low))

-- drawn at the same places
pub drawn_same : (c : LiveView) (on again : ℕ → ℕ → ℕ → Bool) (new : ℕ → ℕ → ℕ → ℕ → ℕ) → ((p x y : ℕ) → p < c.layer.bits.depth → x < c.layer.bits.width → y < c.layer.bits.height → on p x y ≡ again p x y) → drawn on new c ≡ drawn again new c
unfolding drawn
drawn_same c on again new same =
    bits_same c (λ p x y. if on p x y then new p x y (bit_of_layer c p x y) else bit_of_layer c p x y) (λ p x y. if again p x y then new p x y (bit_of_layer c p x y) else bit_of_layer c p x y)
    (λ p x y deep left low. ap (λ t. if t then new p x y (bit_of_layer c p x y) else bit_of_layer c p x y) (same p x y deep left low))

-- a bit that becomes the same by two ways
chosen_alike : (on : Bool) (f g : ℕ → ℕ) (old : ℕ) → (on ≡ true → f old ≡ g old) → (if on then f old else old) ≡ (if on then g old else old)
chosen_alike true f g old same = same refl
chosen_alike false f g old same = refl

-- drawn with what gives the same bits there
pub drawn_alike : (c : LiveView) (on : ℕ → ℕ → ℕ → Bool) (new again : ℕ → ℕ → ℕ → ℕ → ℕ) → ((p x y old : ℕ) → p < c.layer.bits.depth → x < c.layer.bits.width → y < c.layer.bits.height → on p x y ≡ true → old < 2 → new p x y old ≡ again p x y old) → drawn on new c ≡ drawn on again c
unfolding drawn
drawn_alike c on new again same =
    bits_same c (λ p x y. if on p x y then new p x y (bit_of_layer c p x y) else bit_of_layer c p x y) (λ p x y. if on p x y then again p x y (bit_of_layer c p x y) else bit_of_layer c p x y)
    (λ p x y deep left low. chosen_alike (on p x y) (new p x y) (again p x y) (bit_of_layer c p x y) (λ has. same p x y (bit_of_layer c p x y) deep left low has (bit_at-lt (pen_at c.layer.bits x y) p)))

-- drawn nowhere
pub drawn_nowhere : (c : LiveView) (on : ℕ → ℕ → ℕ → Bool) (new : ℕ → ℕ → ℕ → ℕ → ℕ) → IsBitmap c.layer.bits → ((p x y : ℕ) → on p x y ≡ false) → drawn on new c ≡ c
unfolding drawn
drawn_nowhere c on new ok none =
    repainted_same c (λ x y. pen_of c.layer.bits.depth (λ p. if on p x y then new p x y (bit_of_layer c p x y) else bit_of_layer c p x y)) (λ x y. pen_at c.layer.bits x y)
    (λ x y left low.
    pen_of_same c.layer.bits.depth _ (λ p. bit_of_layer c p x y) (λ p deep. ap (λ t. if t then new p x y (bit_of_layer c p x y) else bit_of_layer c p x y) (none p x y)) ∙
    pen_same c.layer.bits.depth (pen_at c.layer.bits x y) (ok.pens x y left low)) ∙
    ap (with_bits c) (bitmap_again c.layer.bits ok)

-- the bits of a layer once it was drawn on
pub bit_drawn : (c : LiveView) (on : ℕ → ℕ → ℕ → Bool) (new : ℕ → ℕ → ℕ → ℕ → ℕ) (p x y : ℕ) → GivesBits new → p < c.layer.bits.depth → x < c.layer.bits.width → y < c.layer.bits.height → bit_of_layer (drawn on new c) p x y ≡ (if on p x y then new p x y (bit_of_layer c p x y) else bit_of_layer c p x y)
unfolding drawn
bit_drawn c on new p x y gives deep left low =
    let bit : ℕ → ℕ = λ k. if on k x y then new k x y (bit_of_layer c k x y) else bit_of_layer c k x y in
    ap (λ n. bit_at n p) (pen_at_bitmap c.layer.bits.width c.layer.bits.height c.layer.bits.depth _ x y left low) ∙
    bit_pen_of c.layer.bits.depth bit p (λ k _. chosen_small (on k x y) _ _ 2 (gives k x y (bit_of_layer c k x y) (bit_at-lt (pen_at c.layer.bits x y) k)) (bit_at-lt (pen_at c.layer.bits x y) k)) deep

-- one bit, drawn at two places of which it has at most one
chosen_twice : (first second both : Bool) (f : ℕ → ℕ) (old : ℕ) → (first && second) ≡ false → both ≡ (first || second) → (if second then f (if first then f old else old) else (if first then f old else old)) ≡ (if both then f old else old)
chosen_twice true true both f old apart is = absurd (cc apart)
chosen_twice true false both f old apart is = rw is refl
chosen_twice false true both f old apart is = rw is refl
chosen_twice false false both f old apart is = rw is refl

-- what is told of places where no bit was drawn so far, and that are then drawn beside the former ones
pub record AreMore (c : LiveView) (former more both : ℕ → ℕ → ℕ → Bool) : Type 0 where
  pub apart : (p x y : ℕ) → p < c.layer.bits.depth → x < c.layer.bits.width → y < c.layer.bits.height → (former p x y && more p x y) ≡ false
  pub whole : (p x y : ℕ) → p < c.layer.bits.depth → x < c.layer.bits.width → y < c.layer.bits.height → both p x y ≡ (former p x y || more p x y)

-- drawn on twice, at places that are apart
pub drawn_more : (c : LiveView) (former more both : ℕ → ℕ → ℕ → Bool) (new : ℕ → ℕ → ℕ → ℕ → ℕ) → GivesBits new → AreMore c former more both → drawn more new (drawn former new c) ≡ drawn both new c
unfolding drawn
drawn_more c former more both new gives are =
    bits_same c (λ p x y. if more p x y then new p x y (bit_of_layer (drawn former new c) p x y) else bit_of_layer (drawn former new c) p x y) (λ p x y. if both p x y then new p x y (bit_of_layer c p x y) else bit_of_layer c p x y)
    (λ p x y deep left low.
    ap (λ b. if more p x y then new p x y b else b) (bit_drawn c former new p x y gives deep left low) ∙
    chosen_twice (former p x y) (more p x y) (both p x y) (new p x y) (bit_of_layer c p x y) (are.apart p x y deep left low) (are.whole p x y deep left low))
