-- What is done with the first of several pairs for which calls stand for something, and the line of it.
use Rattle.std.proofs.Common.{◌≡◌, ℕ, ◌+◌, ◌<◌, List, [], ◌∷◌, ◌++◌, length, slice_index_or, drop, Option, Some, None, refl, sym, ap, ◌∙◌}
use Rattle.lw_calls.specs.declared.pair.Pair.{Pair}
use Rattle.lw_calls.specs.declared.call.Call.{Call}
use Rattle.lw_calls.specs.Written.{line_of}
use Rattle.lw_gzz.specs.declared.word.GzzWord.{GzzWord}
use Rattle.lw_gzz.specs.declared.word.GzzWord.TheVariants.{Open, SetBox, Front, Behind, InFrontOf, Close}
use Rattle.lw_gzz.specs.Words.{IsWordOf}
use Rattle.lw_gzz.specs.Recognition.{word_of}
use Rattle.lw_gzz.proofs.Spelling.{exact}
use Rattle.lw_canonical.specs.Canonical.{or_word, word_among, line_of_word}
use Rattle.lw_canonical.specs.Spelling.{line_words, written}
use Rattle.lw_print.specs.Behind.{behind, first_word, other_words, rest_of_word}
use Rattle.lw_print.proofs.Joined.{more_behind, word_written, line_written}
use Rattle.std.proofs.lemmas.List.{at_drop_more}

-- an answer that is the word for which calls stand
word_is : (p : Pair) (calls : List Call) (answer : Option GzzWord) → IsWordOf p calls answer → word_of p calls ≡ answer
word_is p calls (Some word) h = (exact p calls).found word (h.spelled word refl)
word_is p calls None h = go (word_of p calls) refl
  where
    go : (o : Option GzzWord) → word_of p calls ≡ o → o ≡ None
    go None e = refl
    go (Some word) e =
        let none : None ≡ Some word = h.found word ((exact p calls).spelled word e) in
        absurd (cc)

-- The first of the pairs from number i on, for which the calls stand for this word, or for none.
pub first_of : (pairs : List Pair) (i : ℕ) (d : Pair) (calls : List Call) (answer : Option GzzWord) → i < length pairs → IsWordOf (slice_index_or pairs i d) calls answer → word_among (drop i pairs) calls ≡ or_word (slice_index_or pairs i d) answer (word_among (drop (i + 1) pairs) calls)
first_of pairs i d calls answer low h =
    at_drop_more (λ (ps : List Pair). word_among ps calls) pairs i d low ∙ ap (λ (o : Option GzzWord). or_word (slice_index_or pairs i d) o (word_among (drop (i + 1) pairs) calls)) (word_is (slice_index_or pairs i d) calls answer h)

-- the second word of its line is the name of the outer layer
second_word : (names : List (List ℕ)) (pair : Pair) (word : GzzWord) → other_words (line_words (line_of_word names (pair, word))) ≡ slice_index_or names pair.outer [] ∷ other_words (other_words (line_words (line_of_word names (pair, word))))
second_word names pair (Open kind place x y w h asks title) = refl
second_word names pair (SetBox x y w h) = refl
second_word names pair Front = refl
second_word names pair Behind = refl
second_word names pair (InFrontOf other) = refl
second_word names pair Close = refl

-- The line is written by its first word, the name of the outer layer, what is after it, and a line feed.
pub word_line_written : (names : List (List ℕ)) (pair : Pair) (word : GzzWord) (first name start p q r t : List ℕ) → first ≡ first_word (line_words (line_of_word names (pair, word))) → name ≡ slice_index_or names pair.outer [] → p ≡ start ++ first → q ≡ p ++ 32 ∷ name → r ≡ q ++ rest_of_word names pair word → t ≡ r ++ 10 ∷ [] → t ≡ start ++ line_of (written (line_of_word names (pair, word)))
word_line_written names pair word first name start p q r t is named e f g h =
    let words : List (List ℕ) = line_words (line_of_word names (pair, word)) in
    let outer : List ℕ = slice_index_or names pair.outer [] in
    let rest : r ≡ p ++ behind (outer ∷ other_words (other_words words)) = more_behind (outer ∷ []) (other_words (other_words words)) p q r (word_written name outer p q named f) g in
    line_written words first start p r t is e (rest ∙ ap (λ (ws : List (List ℕ)). p ++ behind ws) (sym (second_word names pair word))) h
