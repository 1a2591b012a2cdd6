-- There are as many patterns as names of them.
use Rattle.std.proofs.Common.{◌≡◌, ◌+◌, List, [], ◌∷◌, length, sym, ap, ◌∙◌, length-append, refl}
use Rattle.lw_grammar.specs.Statements.{Statement, PatternLine}
use Rattle.lw_grammar.specs.Told.{told}
use Rattle.lw_grammar.specs.Script.{Setting}
use Rattle.lw_words.proofs.Targets.{length_targets}
use Rattle.lw_reader.specs.declared.state.Reader.{Reader}
use Rattle.lw_reader.specs.Represents.{Represents}

as_many : (above : List Statement) → length (told above).patterns ≡ length (told above).pattern_names
as_many [] = refl
as_many (PatternLine name words ∷ above) =
    length-append (told above).patterns (words ∷ []) ∙ ap (λ n. n + 1) (as_many above) ∙ sym (length-append (told above).pattern_names (name ∷ []))
as_many (f ∷ above) = as_many above

pub patterns_named : (s : Setting) (r : Reader) (above : List Statement) → Represents s r above → length r.assets.patterns.items ≡ length r.assets.pattern_names.keys
patterns_named s r above k =
    ap length k.assets.patterns ∙ as_many above ∙ sym (ap length k.assets.pattern_names) ∙ length_targets r.assets.pattern_names.keys
