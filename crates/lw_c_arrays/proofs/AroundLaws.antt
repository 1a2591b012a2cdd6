-- The bounds of an array, one rectangle after another.
use Rattle.std.proofs.Common.{◌≡◌, ℕ, ◌+◌, ◌<◌, Some, List, [], ◌∷◌, ◌++◌, length, take, get_or, ℤ, ◌≤ℤ◌, refl, ap, sym, ◌∙◌, subst, arith}
use Rattle.std.specs.List.{All}
use Rattle.std.specs.Int.{int_min, int_max}
use Rattle.std.proofs.lemmas.Int.{ints, clamps}
use Rattle.std.proofs.lemmas.List.Elements.{All-nil, All-cons, All-head, All-push, All-pop, All-weaker}
use Rattle.std.proofs.lemmas.List.{take_more}
use Rattle.lw_c_rectangles.specs.declared.bounds.Bounds.{Bounds}
use Rattle.lw_c_arrays.specs.Lists.{joined}
use Rattle.lw_c_arrays.specs.Answers.{IsInside, IsAround}

-- of one rectangle
pub around_one : (b : Bounds) → IsAround (b ∷ []) b
around_one b = record {
  inside = All-cons (λ s. IsInside s b) b [] itself (All-nil (λ s. IsInside s b));
  least = λ t all. All-head (λ s. IsInside s t) b [] all;
}
  where
    itself : IsInside b b
    itself = record { left = omega (arith, ints); top = omega (arith, ints); right = omega (arith, ints); bottom = omega (arith, ints) }

-- what lies inside the one of two lies inside both of them joined
wider : (s r b : Bounds) → IsInside s r → IsInside s (joined r b)
wider s r b h =
    let (l, t, x, y) : (r.min_x ≤ℤ s.min_x) × (r.min_y ≤ℤ s.min_y) × (s.max_x ≤ℤ r.max_x) × (s.max_y ≤ℤ r.max_y) = (h.left, h.top, h.right, h.bottom) in
    record {
      left = omega (arith, ints, clamps);
      top = omega (arith, ints, clamps);
      right = omega (arith, ints, clamps);
      bottom = omega (arith, ints, clamps);
    }

second_inside : (r b : Bounds) → IsInside b (joined r b)
second_inside r b = record {
  left = omega (arith, ints, clamps);
  top = omega (arith, ints, clamps);
  right = omega (arith, ints, clamps);
  bottom = omega (arith, ints, clamps);
}

both_inside : (r b t : Bounds) → IsInside r t → IsInside b t → IsInside (joined r b) t
both_inside r b t h k =
    let (l, u, x, y) : (t.min_x ≤ℤ r.min_x) × (t.min_y ≤ℤ r.min_y) × (r.max_x ≤ℤ t.max_x) × (r.max_y ≤ℤ t.max_y) = (h.left, h.top, h.right, h.bottom) in
    let (m, v, z, w) : (t.min_x ≤ℤ b.min_x) × (t.min_y ≤ℤ b.min_y) × (b.max_x ≤ℤ t.max_x) × (b.max_y ≤ℤ t.max_y) = (k.left, k.top, k.right, k.bottom) in
    record {
      left = omega (arith, ints, clamps);
      top = omega (arith, ints, clamps);
      right = omega (arith, ints, clamps);
      bottom = omega (arith, ints, clamps);
    }

-- of one rectangle more
pub around_more : (list : List Bounds) (r b : Bounds) → IsAround list r → IsAround (list ++ b ∷ []) (joined r b)
around_more list r b h = record {
  inside = All-push (λ s. IsInside s (joined r b)) list b (All-weaker (λ s. IsInside s r) (λ s. IsInside s (joined r b)) (λ s k. wider s r b k) list h.inside) (second_inside r b);
  least = λ t all.
      let parts = All-pop (λ s. IsInside s t) (list ++ b ∷ []) list (Some b) refl all in
      both_inside r b t (h.least t parts.0) parts.1;
}

-- of the array up to the next one
pub around_next : (first : Bounds) (rest : List Bounds) (i : ℕ) (d r : Bounds) → i < length rest → IsAround (first ∷ take i rest) r
    → IsAround (first ∷ take (i + 1) rest) (joined r (get_or rest i d))
around_next first rest i d r low h =
    let more : first ∷ take (i + 1) rest ≡ (first ∷ take i rest) ++ get_or rest i d ∷ [] = ap (λ z. first ∷ z) (take_more rest i d low) in
    subst (λ z. IsAround z (joined r (get_or rest i d))) (sym more) (around_more (first ∷ take i rest) r (get_or rest i d) h)

-- bounds that are the lesser minima and the greater maxima
pub joined_is : (a b : Bounds) (x0 y0 x1 y1 : ℤ) → x0 ≡ int_min a.min_x b.min_x → y0 ≡ int_min a.min_y b.min_y → x1 ≡ int_max a.max_x b.max_x → y1 ≡ int_max a.max_y b.max_y
    → record { min_x = x0; min_y = y0; max_x = x1; max_y = y1 } ≡ joined a b
joined_is a b x0 y0 x1 y1 p q r s = λ i. record { min_x = p i; min_y = q i; max_x = r i; max_y = s i }

-- the lesser and the greater of two numbers that were handed on
pub lesser_is : (a b c d e : ℤ) → e ≡ int_min a b → a ≡ c → b ≡ d → e ≡ int_min c d
lesser_is a b c d e is first second = is ∙ (ap (λ z. int_min z b) first ∙ ap (λ z. int_min c z) second)

pub greater_is : (a b c d e : ℤ) → e ≡ int_max a b → a ≡ c → b ≡ d → e ≡ int_max c d
greater_is a b c d e is first second = is ∙ (ap (λ z. int_max z b) first ∙ ap (λ z. int_max c z) second)
