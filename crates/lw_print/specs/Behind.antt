-- For private contracts.
-- A line as its first word and those after it, and the text of some lines.
use Rattle.std.specs.Prelude.{ℕ, List, [], ◌∷◌, ◌++◌}
use Rattle.std.specs.List.{flat_map}
use Rattle.lw_calls.specs.declared.pair.Pair.{Pair}
use Rattle.lw_calls.specs.declared.call.Call.{Call}
use Rattle.lw_calls.specs.Written.{line_of}
use Rattle.lw_grammar.specs.Statements.{Statement, Line}
use Rattle.lw_canonical.specs.Spelling.{words_of, spelled, line_words, written}
use Rattle.lw_gzz.specs.declared.word.GzzWord.{GzzWord}
use Rattle.lw_canonical.specs.Canonical.{line_of_call, line_of_word}

-- words that stand after another, each after a space
abbrev pub behind : List (List ℕ) → List ℕ
behind [] = []
behind (w ∷ ws) = 32 ∷ w ++ behind ws

-- the first word, and no byte where there is none
abbrev pub first_word : List (List ℕ) → List ℕ
first_word [] = []
first_word (w ∷ ws) = w

-- the words after the first
abbrev pub other_words : List (List ℕ) → List (List ℕ)
other_words [] = []
other_words (w ∷ ws) = ws

-- the words of a call's line, where the layers have these names by slot, and the bitmaps these by number
abbrev pub words_of_call : List (List ℕ) → List (List ℕ) → Call → List (List ℕ)
words_of_call names bitmaps call = words_of (line_of_call names bitmaps call)

-- what a call's line has after its first word
abbrev pub rest_of_call : List (List ℕ) → List (List ℕ) → Call → List ℕ
rest_of_call names bitmaps call = behind (other_words (words_of_call names bitmaps call))

-- statements as lines, each with a line feed after it
abbrev pub text_of_lines : List Statement → List ℕ
text_of_lines statements = flat_map (λ statement. line_of (spelled statement)) statements

-- lines
abbrev pub text_of : List Line → List ℕ
text_of lines = flat_map (λ line. line_of (written line)) lines

-- what the line of what is done with a pair has after the name of its outer layer, where the layers have these names by slot
abbrev pub rest_of_word : List (List ℕ) → Pair → GzzWord → List ℕ
rest_of_word names pair word = behind (other_words (other_words (line_words (line_of_word names (pair, word)))))
