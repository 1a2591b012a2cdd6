-- The plans that scripts spell keep their windows of two layers apart (this project's own).
use Rattle.std.specs.Prelude.{ℕ, List}
use Rattle.lw_gzz.specs.Apart.{IsApart}
use Rattle.lw_grammar.specs.Script.{Setting, ScriptInput, SpellsInput}

-- The plan of each input that bytes spell keeps its pairs apart from all else.
abbrev pub SpelledPlansKeepPairsApart : Type 0
SpelledPlansKeepPairsApart = (s : Setting) (bytes : List ℕ) (input : ScriptInput) → SpellsInput s bytes input → IsApart input.plan
