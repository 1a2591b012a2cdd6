-- The canonical text of a plan that an input spells, spells that plan as a script alone.
use Rattle.std.proofs.Common.{◌≡◌, ℕ, ◌+◌, true, false, min, List, [], ◌∷◌, ◌++◌, map, reverse, length, Ok, refl, sym, ap, ap₂, subst, ◌∙◌, arith, append_assoc, append-nil, length-append}
use Rattle.std.specs.List.{flat_map}
use Rattle.lw_calls.specs.Plan.{Plan}
use Rattle.lw_grammar.specs.Lines.{lines}
use Rattle.lw_grammar.specs.Statements.{Statement, Line}
use Rattle.lw_grammar.specs.Told.{stands_for, told, plan_of}
use Rattle.lw_grammar.specs.Script.{Setting, is_skipped, is_nothing_due, may_end, line_read, input_from, SpellsInput, added}
use Rattle.lw_grammar.specs.Reading.{Reached, at_the_top, with_line, lines_read, outcome_of}
use Rattle.lw_grammar.specs.GoodLines.{AreGoodLines}
use Rattle.lw_calls.specs.Written.{line_of}
use Rattle.lw_canonical.specs.Spelling.{written}
use Rattle.lw_canonical.specs.Canonical.{lines_of_plan, canonical_text, canonical_input, CanonicalTextsReadBack}
use Rattle.lw_grammar.proofs.ScriptOutcome.{lines_keep, of_lines, outcome_spells}
use Rattle.lw_canonical.proofs.Rearranged.{arranged, arranged_lines, stated, alone, AreLinesWritten, AreLinesSpelled, is_passed, base_of}
use Rattle.lw_canonical.proofs.OneSpelling.{no_feed, HasNoFeed, HaveNoFeed, lines_of_text}
use Rattle.lw_canonical.proofs.LinesWritten.{AreGoodAndWritten, written_more, first_written}
use Rattle.lw_canonical.proofs.PlanLines.{plan_lines}
use Rattle.lw_canonical.proofs.BaseSpelled.{base_spelled, whole_base_is}
use Rattle.std.proofs.lemmas.Bool.{or_parts}
use Rattle.std.proofs.lemmas.Int.{clamps}
use Rattle.lw_grammar.specs.Demands.{◌>>=◌}
use Rattle.std.proofs.lemmas.List.{map_push}
use Rattle.std.proofs.lemmas.Grind.{reverse_onto}
use Rattle.lw_canonical.proofs.TasksSpelled.{tasks_stated, tasks_spelled, tasks_plan, tasks_whole, tasks_order, base_order}

-- written lines have no line feed
feedless_more : (ls : List Line) (l : Line) → HaveNoFeed ls → HasNoFeed (written l) → HaveNoFeed (ls ++ l ∷ [])
feedless_more [] l h k = (k, tt)
feedless_more (m ∷ ls) l h k = (h.0, feedless_more ls l h.1 k)

feedless : (t : Setting) (ls : List Line) → AreLinesSpelled t ls → HaveNoFeed (reverse ls)
feedless t [] h = tt
feedless t (l ∷ ls) h =
    subst HaveNoFeed (sym (reverse_onto ls l [])) (feedless_more (reverse ls) l (feedless t ls h.2) (no_feed t (stated ls) (written l) l h.0))

-- a further line of lines that are written in their order
unrolled : (l : Line) (ls : List Line) (ws : List (List ℕ)) → map written (reverse (l ∷ ls)) ++ ws ≡ map written (reverse ls) ++ (written l ∷ ws)
unrolled l ls ws =
    ap (λ ms. map written ms ++ ws) (reverse_onto ls l []) ∙ ap (λ us. us ++ ws) (map_push written (reverse ls) l) ∙ append_assoc (map written (reverse ls)) (written l ∷ []) ws

-- the text of lines in their order
abbrev text_of : List Line → List ℕ
text_of ls = flat_map (λ line. line_of (written line)) ls

text_more : (ls : List Line) (l : Line) → length (text_of (ls ++ l ∷ [])) ≡ length (text_of ls) + (length (written l) + 1)
text_more [] l =
    let a : length (line_of (written l) ++ []) ≡ length (line_of (written l)) + 0 = length-append (line_of (written l)) [] in
    let b : length (line_of (written l)) ≡ length (written l) + 1 = length-append (written l) (10 ∷ []) in
    omega (arith, a, b)
text_more (m ∷ ls) l =
    let a : length (line_of (written m) ++ text_of (ls ++ l ∷ [])) ≡ length (line_of (written m)) + length (text_of (ls ++ l ∷ [])) = length-append (line_of (written m)) (text_of (ls ++ l ∷ [])) in
    let b : length (line_of (written m) ++ text_of ls) ≡ length (line_of (written m)) + length (text_of ls) = length-append (line_of (written m)) (text_of ls) in
    let c = text_more ls l in
    omega (arith, a, b, c)

-- how far these lines are read that are written in their order
abbrev reached_at : List Line → Reached
reached_at ls = record { statements = stated ls; number = length ls + 1; place = length (text_of (reverse ls)) }

-- lines that are written are read one after another
read_on : (t : Setting) (p : Reached) (l : Line) (ws : List (List ℕ)) → is_passed p.statements (written l) ≡ false → line_read t (told p.statements) (written l) ≡ Ok l → lines_read t p (written l ∷ ws) ≡ lines_read t (with_line p (written l) (added (stands_for (told p.statements) l) p.statements)) ws
read_on t p l ws e d =
    let b = or_parts (is_skipped (written l)) (is_nothing_due (told p.statements).section) e in
    rw (b.1, b.0, d) refl

runs : (t : Setting) (ls : List Line) (ws : List (List ℕ)) → AreLinesSpelled t ls → lines_read t at_the_top (map written (reverse ls) ++ ws) ≡ lines_read t (reached_at ls) ws
runs t [] ws h = refl
runs t (l ∷ ls) ws h =
    let e : (length ls + 1) + 1 ≡ length (l ∷ ls) + 1 = omega arith in
    let c : length (text_of (reverse ls)) + (length (written l) + 1) ≡ length (text_of (reverse (l ∷ ls))) = sym (ap (λ ms. length (text_of ms)) (reverse_onto ls l []) ∙ text_more (reverse ls) l) in
    ap (lines_read t at_the_top) (unrolled l ls ws) ∙ runs t ls (written l ∷ ws) h.2 ∙ read_on t (reached_at ls) l ws h.1 h.0 ∙ ap₂ (λ n m. lines_read t (record { statements = stated (l ∷ ls); number = n; place = m }) ws) e c

-- what is answered to the text of such lines, where the input may end after them
answered : (t : Setting) (ls : List Line) → AreLinesSpelled t ls → may_end t.form (told (stated ls)).section ≡ true → lines_read t at_the_top (lines (text_of (reverse ls))) ≡ Ok (reached_at ls)
answered t ls h w =
    let e : lines (text_of (reverse ls)) ≡ map written (reverse ls) ++ [] = lines_of_text (reverse ls) (feedless t ls h) ∙ sym (append-nil (map written (reverse ls))) in
    ap (lines_read t at_the_top) e ∙ runs t ls [] h ∙ rw w refl

-- the text spells the input of the lines
spells : (t : Setting) (ls : List Line) → AreLinesSpelled t ls → may_end t.form (told (stated ls)).section ≡ true → SpellsInput t (text_of (reverse ls)) (input_from t (told (stated ls)) (length (text_of (reverse ls))))
spells t ls h w =
    let text = text_of (reverse ls) in
    let place : min (length text) (length text) ≡ length text = omega (arith, clamps) in
    let read : outcome_of t text ≡ Ok (input_from t (told (stated ls)) (min (length text) (length text))) = ap (λ r. r >>= (λ p. Ok (input_from t (told p.statements) (min (length text) p.place)))) (answered t ls h w) in
    outcome_spells t text (input_from t (told (stated ls)) (length text)) (read ∙ ap (λ n. Ok (input_from t (told (stated ls)) n)) place)

-- the text of a plan whose lines are these
text_is : (p : Plan) (ls : List Line) → lines_of_plan p ≡ reverse ls → text_of (reverse ls) ≡ canonical_text p
unfolding canonical_text
text_is p ls e = ap text_of (sym e)

-- an input by its plan, without an order
without_order : (t : Setting) (statements : List Statement) (p : Plan) (n : ℕ) → plan_of t.hooks (told statements) ≡ p → (told statements).order ≡ [] → input_from t (told statements) n ≡ record { plan = p; order = []; rest = n }
without_order t statements p n e d = rw (e, d) refl

-- the canonical text of the plan that good lines tell
of_good : (s : Setting) (ls : List Line) → AreGoodLines s (stated ls) → AreLinesWritten s ls → may_end s.form (told (stated ls)).section ≡ true → lines_of_plan (plan_of s.hooks (told (stated ls))) ≡ reverse (arranged_lines ls) → SpellsInput (alone s) (canonical_text (plan_of s.hooks (told (stated ls)))) (canonical_input (plan_of s.hooks (told (stated ls))))
of_good s ls good written_so whole plan_is =
    let above : List Statement = stated ls in
    let p = plan_of s.hooks (told above) in
    let base = base_of above in
    let is = whole_base_is s above good whole in
    let new : List Line = arranged_lines ls in
    let same : stated new ≡ arranged above = tasks_stated s ls base written_so is.pairs in
    let all : AreLinesSpelled (alone s) new = tasks_spelled s ls base good written_so whole is (base_spelled s above good (first_written s ls written_so) whole) in
    let ends : may_end (alone s).form (told (stated new)).section ≡ true = ap (λ (a : List Statement). may_end (alone s).form (told a).section) same ∙ tasks_whole s above base good whole is in
    let spelt = spells (alone s) new all ends in
    let text : text_of (reverse new) ≡ canonical_text p = text_is p new plan_is in
    let plan : plan_of s.hooks (told (stated new)) ≡ p = ap (λ (a : List Statement). plan_of s.hooks (told a)) same ∙ tasks_plan s above base good whole is in
    let order : (told (stated new)).order ≡ [] = ap (λ (a : List Statement). (told a).order) same ∙ tasks_order s above base good whole is (base_order above) in
    let P : List ℕ → Type 0 = λ bytes. SpellsInput (alone s) bytes (input_from (alone s) (told (stated new)) (length bytes)) in
    subst (λ i. SpellsInput (alone s) (canonical_text p) i) (without_order (alone s) (stated new) p (length (canonical_text p)) plan order) (subst P text spelt)

-- the lines of the plan that good lines tell are these lines in the order of the canonical text
abbrev PlansHaveLines : Type 0
PlansHaveLines =
    (s : Setting) (ls : List Line) → AreGoodLines s (stated ls) → AreLinesWritten s ls → may_end s.form (told (stated ls)).section ≡ true → lines_of_plan (plan_of s.hooks (told (stated ls))) ≡ reverse (arranged_lines ls)

-- the canonical text of a plan that an input spells
reads_back : PlansHaveLines → CanonicalTextsReadBack
reads_back plan_lines s bytes input h =
    let l = of_lines s bytes input h in
    let same : input.plan ≡ plan_of s.hooks (told l.reached.statements) = ap (λ i. i.plan) l.is in
    let P : Plan → Type 0 = λ p. SpellsInput (alone s) (canonical_text p) (canonical_input p) in
    let read = lines_keep (AreGoodAndWritten s) s (written_more s) at_the_top l.reached (lines bytes) (tt, record { lines = []; are = refl; written = tt }) l.lines_are in
    let have = read.0.1 in
    let Q : List Statement → Type 0 = λ a. AreGoodLines s a → may_end s.form (told a).section ≡ true → P (plan_of s.hooks (told a)) in
    let at : Q (stated have.lines) = λ g e. of_good s have.lines g have.written e (plan_lines s have.lines g have.written e) in
    subst P (sym same) (subst Q have.are at l.read.good l.read.ended)

-- so is the canonical text of each
pub canonical_texts_read_back : CanonicalTextsReadBack
canonical_texts_read_back = reads_back plan_lines
