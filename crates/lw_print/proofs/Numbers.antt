-- Numbers that are written after spaces, as their words of 32 bits have them.
use Rattle.std.proofs.Common.{◌≡◌, ◌∙◌, sym, ap, ℕ, List, [], ◌∷◌, ◌++◌, append-nil, arith, ℤ, pos, ◌+ℤ◌, ◌-ℤ◌, to_z, of_z, w32, FitsSigned}
use Rattle.std.proofs.lemmas.Int.{ints}
use Rattle.std.specs.Fmt.{signed_decimal}
use Rattle.lw_calls.specs.Written.{spaced_signed}
use Rattle.lw_canonical.specs.Spelling.{four_words}
use Rattle.lw_print.specs.Behind.{behind}

-- a number as its word has it
pub number_read : (z : ℤ) → FitsSigned w32 z → to_z w32 (of_z w32 z) ≡ z
number_read z fits = omega (arith, ints)

-- two numbers
pub pair_written : (x y a b : ℤ) (start p : List ℕ) → x ≡ a → y ≡ b → p ≡ start ++ behind (signed_decimal x ∷ signed_decimal y ∷ []) → p ≡ start ++ behind (signed_decimal a ∷ signed_decimal b ∷ [])
pair_written x y a b start p e f h = rw (← e, ← f) h

-- four numbers
pub four_written : (x y w h a b c d : ℤ) (start p : List ℕ) → x ≡ a → y ≡ b → w ≡ c → h ≡ d → p ≡ start ++ behind (four_words x y w h) → p ≡ start ++ behind (four_words a b c d)
four_written x y w h a b c d start p e f g i k = rw (← e, ← f, ← g, ← i) k

-- the last number of a span
pub last_written : (x w a b : ℤ) (start p : List ℕ) → x ≡ a → w ≡ b → p ≡ start ++ spaced_signed ((x +ℤ w) -ℤ pos 1) → p ≡ start ++ behind (signed_decimal ((a +ℤ b) -ℤ pos 1) ∷ [])
last_written x w a b start p e f h = rw (← e, ← f) (h ∙ ap (λ xs. start ++ 32 ∷ xs) (sym (append-nil (signed_decimal ((x +ℤ w) -ℤ pos 1)))))

-- a name and two numbers
pub placed_written : (name : List ℕ) (x y a b : ℤ) (start p : List ℕ) → x ≡ a → y ≡ b → p ≡ start ++ behind (name ∷ signed_decimal x ∷ signed_decimal y ∷ []) → p ≡ start ++ behind (name ∷ signed_decimal a ∷ signed_decimal b ∷ [])
placed_written name x y a b start p e f h = rw (← e, ← f) h
