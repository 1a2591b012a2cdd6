-- A statement reads in its spelling where that is a verb and plain words that make the statement.
use Rattle.std.proofs.Common.{◌≡◌, ℕ, ◌≤◌, ◌==◌, true, false, not, cond, List, ◌∷◌, length, map, Some, Ok, ok_or, ap, ◌∙◌}
use Rattle.std.specs.List.{list_all}
use Rattle.lw_grammar.specs.declared.reason.Reason.TheVariants.{UnknownWord, Misplaced, Form as FormReason}
use Rattle.lw_grammar.specs.declared.verb.Verb.{Verb}
use Rattle.lw_grammar.specs.Demands.{◌>>=◌, demand}
use Rattle.lw_grammar.specs.Tokens.{token_of}
use Rattle.lw_grammar.specs.Verbs.{verb_word, verb_of}
use Rattle.lw_grammar.specs.Statements.{Statement, StatementLine, row_line, numbers_line, line_by}
use Rattle.lw_grammar.specs.Told.{Told}
use Rattle.lw_grammar.specs.Script.{Setting, are_numbers_due, is_known_in, belongs_in, words_read, verb_read, stated, line_made, line_tested, line_of_words, line_read}
use Rattle.lw_canonical.specs.Spelling.{joined, words_of, spelled}
use Rattle.lw_canonical.proofs.PlainWords.{is_plain, words_read_back}

-- The statement passes its tests, and stands here.
pub line_reads : (s : Setting) (t : Told) (f : Statement) (v : Verb) (ws : List (List ℕ)) → words_of f ≡ verb_word v ∷ ws → list_all is_plain (verb_word v ∷ ws) ≡ true → length ws ≤ 8 → verb_of (verb_word v) ≡ Some v → is_known_in t.version v ≡ true → line_by v (map token_of ws) ≡ Some (StatementLine f) → (t.rows_due == 0) ≡ true → are_numbers_due t.section ≡ false → belongs_in s.form t.version t.section v ≡ true → line_tested s t (StatementLine f) ≡ Ok tt → line_read s t (spelled f) ≡ Ok (StatementLine f)
line_reads s t f v ws words plain few verb known by rows numbers stands tested =
    let all : List (List ℕ) = verb_word v ∷ ws in
    let split : words_read (spelled f) ≡ Ok all = ap (λ us. words_read (joined us)) words ∙ words_read_back (verb_word v) ws plain few in
    let first : line_made s.form t.version t.section t.rows_due t.row_width all ≡ verb_read s.form t.version t.section all =
    λ i. cond (not (rows i)) (ok_or (stated (row_line t.row_width (map token_of all))) FormReason) (cond (numbers i) (ok_or (stated (numbers_line (map token_of all))) FormReason) (verb_read s.form t.version t.section all)) in
    let found : verb_read s.form t.version t.section all ≡ (demand (is_known_in t.version v) UnknownWord >>= (λ _. demand (belongs_in s.form t.version t.section v) Misplaced >>= (λ _. ok_or (line_by v (map token_of ws)) FormReason))) =
    ap (λ o. ok_or o UnknownWord >>= (λ u. demand (is_known_in t.version u) UnknownWord >>= (λ _. demand (belongs_in s.form t.version t.section u) Misplaced >>= (λ _. ok_or (line_by u (map token_of ws)) FormReason)))) verb in
    let made : (demand (is_known_in t.version v) UnknownWord >>= (λ _. demand (belongs_in s.form t.version t.section v) Misplaced >>= (λ _. ok_or (line_by v (map token_of ws)) FormReason))) ≡ Ok (StatementLine f) =
    λ i. demand (known i) UnknownWord >>= (λ _. demand (stands i) Misplaced >>= (λ _. ok_or (by i) FormReason)) in
    ap (λ r. r >>= line_of_words s t) split
    ∙ (ap (λ r. r >>= (λ l. line_tested s t l >>= (λ _. Ok l))) (first ∙ (found ∙ made)) ∙ ap (λ r. r >>= (λ _. Ok (StatementLine f))) tested)
