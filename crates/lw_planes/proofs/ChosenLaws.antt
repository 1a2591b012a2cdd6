-- Laws of bits that are chosen pixel by pixel and plane by plane, some from given pens and the others from a bitmap.
use Rattle.std.proofs.Common.{◌≡◌, ◌≢◌, ℕ, ◌+◌, ◌==◌, ◌<◌, ◌^◌, Bool, true, false, ◌&&◌, ◌||◌, nat_lt, if◌then◌else◌, ◌∙◌, sym, refl, ap, ⊎_elim, arith}
use Rattle.std.specs.Int.{bit_at}
use Rattle.std.proofs.Math.Bool.{and-true, and-false}
use Rattle.std.proofs.lemmas.Bool.{cases_eq}
use Rattle.std.proofs.lemmas.Bool.Decides.{nat_tests}
use Rattle.std.proofs.lemmas.Nat.Bits.{bit_at-lt}
use Rattle.lw_planes.specs.Pen.{pen_of}
use Rattle.lw_planes.specs.Bitmap.{Bitmap, IsBitmap, bitmap, pen_at}
use Rattle.lw_planes.specs.Sizes.{IsPlanes}
use Rattle.lw_planes.specs.Minterm.{minterm_bit}
use Rattle.lw_planes.proofs.PenLaws.{pen_of_same, pen_of_lt, bit_pen_of, pen_same}
use Rattle.lw_planes.proofs.BitmapLaws.{IsBitmap_bitmap, pen_at_bitmap, bitmap_from_pens, bitmap_same}

-- the bitmap with the bits of these pens where `on` holds, for a plane, a column and a row
abbrev pub chosen_bits : (ℕ → ℕ → ℕ → Bool) → (ℕ → ℕ → ℕ) → Bitmap → Bitmap
chosen_bits on pens b =
    bitmap b.width b.height b.depth (λ x y. pen_of b.depth (λ p. if on p x y then bit_at (pens x y) p else bit_at (pen_at b x y) p))

-- a choice of two numbers below a bound is below it
pub chosen_small : (t : Bool) (a b n : ℕ) → a < n → b < n → (if t then a else b) < n
chosen_small true a b n p q = p
chosen_small false a b n p q = q

-- a minterm's value is a bit
pub minterm_bit_lt : (minterm b c : ℕ) → minterm_bit minterm b c < 2
minterm_bit_lt minterm b c =
    chosen_small (b == 1) _ _ 2
    (chosen_small (c == 1) _ _ 2 (bit_at-lt minterm 7) (bit_at-lt minterm 6))
    (chosen_small (c == 1) _ _ 2 (bit_at-lt minterm 5) (bit_at-lt minterm 4))

-- a choice in a choice
pub first_choice : (t u : Bool) (a b c : ℕ) → (if t then a else (if u then b else c)) ≡ (if (t || u) then (if t then a else b) else c)
first_choice true u a b c = refl
first_choice false u a b c = refl

-- a bit of one of two pens
bit_small : (t : Bool) (a b p : ℕ) → (if t then bit_at a p else bit_at b p) < 2
bit_small true a b p = bit_at-lt a p
bit_small false a b p = bit_at-lt b p

-- it is a bitmap of the same sizes
pub chosen_planes : (on : ℕ → ℕ → ℕ → Bool) (pens : ℕ → ℕ → ℕ) (b : Bitmap) → IsPlanes b → IsPlanes (chosen_bits on pens b)
chosen_planes on pens b ok = record {
  bitmap = IsBitmap_bitmap b.width b.height b.depth _ (λ x y left low. pen_of_lt b.depth _ (λ p deep. bit_small (on p x y) (pens x y) (pen_at b x y) p));
  sizes = ok.sizes;
}

-- no bit chosen
pub chosen_nowhere : (on : ℕ → ℕ → ℕ → Bool) (pens : ℕ → ℕ → ℕ) (b : Bitmap) → IsBitmap b → ((p x y : ℕ) → on p x y ≡ false) → b ≡ chosen_bits on pens b
chosen_nowhere on pens b ok none =
    bitmap_from_pens b _ ok
    (λ x y left low.
    sym (pen_of_same b.depth (λ p. if on p x y then bit_at (pens x y) p else bit_at (pen_at b x y) p) (λ p. bit_at (pen_at b x y) p)
    (λ p deep. ap (λ t. if t then bit_at (pens x y) p else bit_at (pen_at b x y) p) (none p x y)) ∙ pen_same b.depth (pen_at b x y) (ok.pens x y left low)))

-- a choice after a choice
either : (t u : Bool) (a b : ℕ) → (if t then a else (if u then a else b)) ≡ (if (t || u) then a else b)
either true u a b = refl
either false u a b = refl

-- more bits chosen
pub chosen_more : (on more both : ℕ → ℕ → ℕ → Bool) (pens : ℕ → ℕ → ℕ) (b c d : Bitmap) → c ≡ chosen_bits on pens b → d ≡ chosen_bits more pens c
    → ((p x y : ℕ) → p < b.depth → both p x y ≡ (more p x y || on p x y)) → d ≡ chosen_bits both pens b
chosen_more on more both pens b c d was is whole =
    is ∙ (ap (chosen_bits more pens) was ∙
    bitmap_same b.width b.height b.depth _ _
    (λ x y left low.
    pen_of_same b.depth _ _
    (λ p deep.
    let old : bit_at (pen_at (chosen_bits on pens b) x y) p ≡ (if on p x y then bit_at (pens x y) p else bit_at (pen_at b x y) p) =
    ap (λ q. bit_at q p) (pen_at_bitmap b.width b.height b.depth _ x y left low)
    ∙ bit_pen_of b.depth (λ i. if on i x y then bit_at (pens x y) i else bit_at (pen_at b x y) i) p (λ i _. bit_small (on i x y) (pens x y) (pen_at b x y) i) deep
    in
    ap (λ q. if more p x y then bit_at (pens x y) p else q) old
    ∙ (either (more p x y) (on p x y) (bit_at (pens x y) p) (bit_at (pen_at b x y) p)
    ∙ ap (λ t. if t then bit_at (pens x y) p else bit_at (pen_at b x y) p) (sym (whole p x y deep))))))

-- the same bits chosen
pub chosen_alike : (on again : ℕ → ℕ → ℕ → Bool) (pens : ℕ → ℕ → ℕ) (b c : Bitmap) → c ≡ chosen_bits on pens b
    → ((p x y : ℕ) → p < b.depth → on p x y ≡ again p x y) → c ≡ chosen_bits again pens b
chosen_alike on again pens b c is same =
    is ∙ bitmap_same b.width b.height b.depth _ _
    (λ x y left low. pen_of_same b.depth _ _
    (λ p deep. ap (λ t. if t then bit_at (pens x y) p else bit_at (pen_at b x y) p) (same p x y deep)))

-- a pen chosen in all planes
whole_pen : (t : Bool) (n a b : ℕ) → (t ≡ true → a < 2 ^ n) → b < 2 ^ n → pen_of n (λ p. if t then bit_at a p else bit_at b p) ≡ (if t then a else b)
whole_pen true n a b first second = pen_same n a (first refl)
whole_pen false n a b first second = pen_same n b second

-- bits chosen alike in all planes are pens
pub chosen_whole : (on : ℕ → ℕ → ℕ → Bool) (all : ℕ → ℕ → Bool) (pens : ℕ → ℕ → ℕ) (b c : Bitmap) → IsBitmap b → c ≡ chosen_bits on pens b
    → ((p x y : ℕ) → p < b.depth → on p x y ≡ all x y) → ((x y : ℕ) → all x y ≡ true → pens x y < 2 ^ b.depth)
    → c ≡ bitmap b.width b.height b.depth (λ x y. if all x y then pens x y else pen_at b x y)
chosen_whole on all pens b c ok is same small =
    chosen_alike on (λ p x y. all x y) pens b c is same
    ∙ bitmap_same b.width b.height b.depth _ _ (λ x y left low. whole_pen (all x y) b.depth (pens x y) (pen_at b x y) (small x y) (ok.pens x y left low))

-- one bit once a line of a plane was written
pub line_bit : (p q j y : ℕ) (t : Bool) (new old : ℕ → ℕ → ℕ)
    → (if p == q && j == y then (if t then new y q else old y q) else old j p) ≡ (if p == q && (t && j == y) then new j p else old j p)
line_bit p q j y t new old =
    ⊎_elim
    (λ (same : p ≡ q). ⊎_elim
    (λ (here : j ≡ y).
    let plane : (q == q) ≡ true = grind (arith, nat_tests) in
    let row : (y == y) ≡ true = grind (arith, nat_tests) in
    rw (same, here) (rw (plane, row) (ap (λ u. if u then new y q else old y q) (sym (and-true t)))))
    (λ (off : j ≢ y). let row : (j == y) ≡ false = grind (arith, nat_tests) in rw row (rw (and-false (p == q), and-false t) (rw (and-false (p == q)) refl)))
    (cases_eq j y))
    (λ (other : p ≢ q). let plane : (p == q) ≡ false = grind (arith, nat_tests) in rw plane refl)
    (cases_eq p q)

-- before the first plane, one plane more, and all planes
pub no_plane : (p : ℕ) (more : Bool) → (nat_lt p 0 && more) ≡ false
no_plane p more = grind (arith, nat_tests)

pub next_plane : (p plane : ℕ) (more : Bool) → (nat_lt p (plane + 1) && more) ≡ ((p == plane && more) || (nat_lt p plane && more))
next_plane p plane more = grind (arith, nat_tests)

pub all_planes : (p n : ℕ) (more : Bool) → p < n → (nat_lt p n && more) ≡ more
all_planes p n more below = let is : nat_lt p n ≡ true = grind (arith, nat_tests) in rw is refl
