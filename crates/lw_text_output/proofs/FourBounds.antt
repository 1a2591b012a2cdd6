-- The bounds of rectangles that are written one after another.
use Rattle.std.proofs.Common.{◌≡◌, List, ◌++◌, ℕ, arith, ℤ, append_assoc, to_z, of_z, w16, w64, FitsSigned}
use Rattle.std.specs.Fmt.{signed_decimal}
use Rattle.std.proofs.lemmas.Int.{ints}
use Rattle.lw_region.specs.Rectangle.{Rectangle}
use Rattle.lw_calls.specs.Written.{spaced_signed}
use Rattle.lw_text_output.specs.Words.{bounds_text}

-- four pieces, one after another
four_written : {A : Type 0} (a b c d start p q r s : List A) → p ≡ start ++ a → q ≡ p ++ b → r ≡ q ++ c → s ≡ r ++ d → s ≡ start ++ (a ++ b ++ c ++ d)
four_written a b c d start p q r s e f g h = rw (h, g, f, e) (simp append_assoc)

-- the four bounds of a rectangle with single spaces
pub bounds_written : (x : Rectangle) (a b c d : ℤ) (start p q r s : List ℕ) → a ≡ x.min_x → b ≡ x.min_y → c ≡ x.max_x → d ≡ x.max_y → p ≡ start ++ signed_decimal a → q ≡ p ++ spaced_signed b → r ≡ q ++ spaced_signed c → s ≡ r ++ spaced_signed d → s ≡ start ++ bounds_text x
bounds_written x a b c d start p q r s left top right bottom e f g h =
    rw (← left, ← top, ← right, ← bottom) (four_written (signed_decimal a) (spaced_signed b) (spaced_signed c) (spaced_signed d) start p q r s e f g h)

-- a bound as its word of 64 bits has it that its word of 16 bits was put in
pub bound_read : (z b : ℤ) → FitsSigned w16 z → z ≡ b → to_z w64 (of_z w64 (to_z w16 (of_z w16 z))) ≡ b
bound_read z b fits e = omega (arith, ints)
