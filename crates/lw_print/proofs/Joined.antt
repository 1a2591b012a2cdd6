-- Words that are written one after another.
use Rattle.std.proofs.Common.{◌≡◌, ℕ, List, [], ◌∷◌, ◌++◌, append_assoc, append-nil, ◌∙◌, sym, refl, ap}
use Rattle.lw_region.specs.Rectangle.{Rectangle}
use Rattle.lw_calls.specs.Written.{line_of, spaced_bounds}
use Rattle.lw_canonical.specs.Spelling.{joined, bounds_words}
use Rattle.lw_print.specs.Behind.{behind, first_word, other_words}

-- words with single spaces are the first, and the others each after a space
pub joined_behind : (ws : List (List ℕ)) → joined ws ≡ first_word ws ++ behind (other_words ws)
joined_behind [] = refl
joined_behind (w ∷ []) = sym (append-nil w)
joined_behind (w ∷ v ∷ ws) = ap (λ xs. w ++ 32 ∷ xs) (joined_behind (v ∷ ws))

-- words after words
pub behind_append : (ws vs : List (List ℕ)) → behind (ws ++ vs) ≡ behind ws ++ behind vs
behind_append [] vs = refl
behind_append (w ∷ ws) vs = ap (λ xs. 32 ∷ w ++ xs) (behind_append ws vs) ∙ ap (λ xs. 32 ∷ xs) (sym (append_assoc w (behind ws) (behind vs)))

-- some words are written, and then others
pub more_behind : (ws vs : List (List ℕ)) (start p q : List ℕ) → p ≡ start ++ behind ws → q ≡ p ++ behind vs → q ≡ start ++ behind (ws ++ vs)
more_behind ws vs start p q e f =
    f ∙ (ap (λ xs. xs ++ behind vs) e ∙ (append_assoc start (behind ws) (behind vs) ∙ ap (λ xs. start ++ xs) (sym (behind_append ws vs))))

-- the first word of a line is written, what is after it, and a line feed
pub line_written : (ws : List (List ℕ)) (first start p q r : List ℕ) → first ≡ first_word ws → p ≡ start ++ first → q ≡ p ++ behind (other_words ws) → r ≡ q ++ 10 ∷ [] → r ≡ start ++ line_of (joined ws)
line_written ws first start p q r is e f g =
    let all : (start ++ first_word ws) ++ behind (other_words ws) ≡ start ++ joined ws = append_assoc start (first_word ws) (behind (other_words ws)) ∙ ap (λ xs. start ++ xs) (sym (joined_behind ws)) in
    g ∙ (ap (λ xs. xs ++ 10 ∷ []) (f ∙ (ap (λ xs. xs ++ behind (other_words ws)) (e ∙ ap (λ xs. start ++ xs) is) ∙ all)) ∙ append_assoc start (joined ws) (10 ∷ []))

-- one word
pub word_written : (word w start p : List ℕ) → word ≡ w → p ≡ start ++ 32 ∷ word → p ≡ start ++ behind (w ∷ [])
word_written word w start p is e = e ∙ ap (λ xs. start ++ 32 ∷ xs) (is ∙ sym (append-nil w))

-- one word more in front
pub word_more : (word w : List ℕ) (ws : List (List ℕ)) (start p q : List ℕ) → word ≡ w → p ≡ start ++ 32 ∷ word → q ≡ p ++ behind ws → q ≡ start ++ behind (w ∷ ws)
word_more word w ws start p q is e f = more_behind (w ∷ []) ws start p q (word_written word w start p is e) f

-- the bounds of a rectangle
pub bounds_behind : (r : Rectangle) (start p : List ℕ) → p ≡ start ++ spaced_bounds r → p ≡ start ++ behind (bounds_words r)
bounds_behind r start p e = rw e (simp (append_assoc, append-nil))
