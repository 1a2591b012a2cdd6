-- A verb has one word.
use Rattle.std.proofs.Common.{◌≡◌, ℕ, List, [], ◌∷◌, bytes_eq, IfSome}
use Rattle.lw_grammar.specs.declared.verb.Verb.{Verb}
use Rattle.lw_grammar.specs.Verbs.{verb_word, verbs, verb_in, verb_of}
use Rattle.lw_grammar.proofs.ScriptNames.{equal_names}
use Rattle.lw_canonical.proofs.SpelledNumbers.{found_if}

-- the word is that of the verb
abbrev pub IsWordOf : List ℕ → Verb → Type 0
IsWordOf w v = w ≡ verb_word v

verb_among : (w : List ℕ) (vs : List Verb) → IfSome (verb_in vs w) (IsWordOf w)
verb_among w [] = tt
verb_among w (v ∷ vs) =
    found_if (IsWordOf w) (bytes_eq w (verb_word v)) v (verb_in vs w) (equal_names w (verb_word v)) (verb_among w vs)

-- A word that is a verb is the verb's.
pub verb_spelled : (w : List ℕ) → IfSome (verb_of w) (IsWordOf w)
unfolding verb_of
verb_spelled w = verb_among w verbs
