-- Lines in their one spelling, read one after another from a script's first line on.
use Rattle.std.proofs.Common.{◌≡◌, ℕ, true, false, cond, min, List, [], ◌∷◌, ◌++◌, length, map, Ok, refl, sym, ap, subst, ◌∙◌, append_assoc, append-nil}
use Rattle.std.specs.List.{flat_map}
use Rattle.lw_grammar.specs.declared.form.Form.TheVariants.{Plain}
use Rattle.lw_grammar.specs.declared.reason.Reason.TheVariants.{Missing}
use Rattle.lw_calls.specs.Plan.{Plan}
use Rattle.lw_calls.specs.Written.{line_of}
use Rattle.lw_grammar.specs.Demands.{◌>>=◌, demand}
use Rattle.lw_grammar.specs.Lines.{lines}
use Rattle.lw_grammar.specs.Statements.{Statement, Line, StatementLine}
use Rattle.lw_grammar.specs.Told.{Told, nothing_told, told_with, told, stands_for, plan_of}
use Rattle.lw_grammar.specs.Script.{Setting, reading_with, is_skipped, are_tasks_due, is_nothing_due, line_read, added, input_from, SpellsInput}
use Rattle.lw_grammar.specs.Reading.{Reached, at_the_top, with_line, at_number, end_read, lines_read}
use Rattle.lw_grammar.proofs.ScriptOutcome.{outcome_spells}
use Rattle.lw_canonical.specs.Spelling.{spelled, written}
use Rattle.lw_canonical.specs.Canonical.{canonical_text, canonical_input}
use Rattle.lw_canonical.proofs.OneSpelling.{HasNoFeed, HaveNoFeed, no_feed, lines_of_text}
use Rattle.lw_canonical.proofs.CanonicalRead.{canonical_texts_read_back}
use Rattle.std.proofs.lemmas.List.{map_push}

-- a script alone, with no hooks
abbrev pub alone : Setting
alone = reading_with 0 Plain

-- Lines were read of which each is good, and they tell this.
pub record IsReached (t : Told) : Type 0 where
  pub lines_are : List Line
  pub at : Reached
  pub tells : told at.statements ≡ t
  pub feedless : HaveNoFeed lines_are
  pub read : (rest : List (List ℕ)) → lines_read alone at_the_top (map written lines_are ++ rest) ≡ lines_read alone at rest

pub nothing_reached : IsReached nothing_told
nothing_reached = record { lines_are = []; at = at_the_top; tells = refl; feedless = tt; read = λ rest. refl }

feedless_more : (ls : List Line) (l : Line) → HaveNoFeed ls → HasNoFeed (written l) → HaveNoFeed (ls ++ l ∷ [])
feedless_more [] l h k = (k, tt)
feedless_more (m ∷ ls) l h k = (h.0, feedless_more ls l h.1 k)

-- A further line is read.
pub line_more : (t u : Told) (f : Statement) → IsReached t → line_read alone t (spelled f) ≡ Ok (StatementLine f) → is_skipped (spelled f) ≡ false → is_nothing_due t.section ≡ false → told_with f t ≡ u → IsReached u
line_more t u f r good stands due tells =
    let p = r.at in
    let here : line_read alone (told p.statements) (spelled f) ≡ Ok (StatementLine f) = ap (λ k. line_read alone k (spelled f)) r.tells ∙ good in
    let due_here : is_nothing_due (told p.statements).section ≡ false = ap (λ (k : Told). is_nothing_due k.section) r.tells ∙ due in
    let on : (rest : List (List ℕ)) → lines_read alone p (spelled f ∷ rest) ≡ lines_read alone (with_line p (spelled f) (f ∷ p.statements)) rest =
    λ rest i. cond (due_here i) (end_read alone p) (at_number p.number (cond (stands i) (Ok p.statements) (here i >>= (λ l. Ok (added (stands_for (told p.statements) l) p.statements)))) >>= (λ statements. lines_read alone (with_line p (spelled f) statements) rest)) in
    record {
      lines_are = r.lines_are ++ StatementLine f ∷ [];
      at = with_line p (spelled f) (f ∷ p.statements);
      tells = ap (told_with f) r.tells ∙ tells;
      feedless = feedless_more r.lines_are (StatementLine f) r.feedless (no_feed alone p.statements (spelled f) (StatementLine f) here);
      read = λ rest. ap (λ ls. lines_read alone at_the_top (ls ++ rest)) (map_push written r.lines_are (StatementLine f)) ∙ (ap (lines_read alone at_the_top) (append_assoc (map written r.lines_are) (spelled f ∷ []) rest) ∙ (r.read (spelled f ∷ rest) ∙ on rest));
    }

-- The canonical text of the plan that they tell reads back, where the input may end below them.
pub plan_reads_back : (t : Told) (p : Plan) → IsReached t → are_tasks_due t.section ≡ true → plan_of 0 t ≡ p → SpellsInput alone (canonical_text p) (canonical_input p)
plan_reads_back t p r whole is =
    let q = r.at in
    let bytes : List ℕ = flat_map (λ l. line_of (written l)) r.lines_are in
    let ls : lines bytes ≡ map written r.lines_are ++ [] = lines_of_text r.lines_are r.feedless ∙ sym (append-nil (map written r.lines_are)) in
    let ended : are_tasks_due (told q.statements).section ≡ true = ap (λ (k : Told). are_tasks_due k.section) r.tells ∙ whole in
    let last : lines_read alone q [] ≡ Ok q = λ i. at_number q.number (demand (ended i) Missing) >>= (λ _. Ok q) in
    let read : lines_read alone at_the_top (lines bytes) ≡ Ok q = ap (lines_read alone at_the_top) ls ∙ (r.read [] ∙ last) in
    let spelt : SpellsInput alone bytes (input_from alone (told q.statements) (min (length bytes) q.place)) = outcome_spells alone bytes _ (ap (λ o. o >>= (λ m. Ok (input_from alone (told m.statements) (min (length bytes) m.place)))) read) in
    let same : plan_of 0 (told q.statements) ≡ p = ap (plan_of 0) r.tells ∙ is in
    subst (λ k. SpellsInput alone (canonical_text k) (canonical_input k)) same (canonical_texts_read_back alone bytes (input_from alone (told q.statements) (min (length bytes) q.place)) spelt)
