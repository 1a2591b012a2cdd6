-- The lines of a demo's script are good where they stand.
use Rattle.std.proofs.Common.{◌≡◌, ℕ, ◌+◌, ◌<◌, ◌≤◌, Bool, true, false, not, ◌&&◌, ◌||◌, nat_le, List, [], ◌∷◌, length, map, Some, None, Ok, refl, ap, ap₂, ◌∙◌, arith}
use Rattle.std.specs.List.{list_any, list_all}
use Rattle.lw_grammar.specs.declared.form.Form.TheVariants.{Plain}
use Rattle.lw_grammar.specs.declared.reason.Reason.TheVariants.{Range, NoName, DoubleName, Gzz as GzzReason, Group as GroupReason, TooMany, NoHook, HookUsed, Padding}
use Rattle.lw_calls.specs.declared.call.Call.{Call}
use Rattle.lw_calls.specs.declared.group.Group.{Group}
use Rattle.lw_calls.specs.Limits.{limits_of, task_limit}
use Rattle.lw_grammar.specs.declared.verb.Verb.{Verb}
use Rattle.lw_grammar.specs.Demands.{◌>>=◌, demand}
use Rattle.lw_grammar.specs.Tokens.{token_of}
use Rattle.lw_grammar.specs.Verbs.{verb_word, verb_of}
use Rattle.lw_grammar.specs.Statements.{Act, Statement, CallLine, StatementLine, line_by, is_act_in_range, is_line_in_range}
use Rattle.lw_grammar.specs.Told.{Section, CallsAreDue, NamedPair, Told, nothing_told, and_name, place_among, onto_last, spelled_call, hook_on, told_with}
use Rattle.lw_grammar.specs.Script.{is_skipped, is_known_in, belongs_in, lacks_name, gives_again, group_has_calls, group_allows, fits_group, are_few, is_no_hook, is_hook_named, has_padding, is_inner, is_paired, is_placing, is_activating, parts_pair, line_tested}
use Rattle.lw_canonical.specs.Spelling.{words_of, spelled}
use Rattle.lw_canonical.proofs.PlainWords.{is_plain}
use Rattle.lw_canonical.proofs.ReadsForward.{line_reads}
use Rattle.lw_demo_text.proofs.DemoNames.{IsNamed}
use Rattle.lw_demo_text.proofs.ReadOn.{alone, IsReached, line_more}
use Rattle.std.proofs.lemmas.Bool.{and_from, le-leb}

-- What the lines of a demo's script tell below the screen: in this section, with tasks and layers of these names, of which the
-- nearest task has so many calls, and all have these calls and groups.
abbrev pub in_demo : Section → List (List ℕ) → List (List ℕ) → ℕ → List (List Call) → List (List Group) → Told
in_demo section tasks names calls_in_task calls groups =
    record nothing_told { version = 1; section = section; width = 640; height = 256; depth = 2; tasks = tasks; names = names; calls_in_task = calls_in_task; calls = calls; groups = groups }

-- no line parts a window of two layers where there is none
none_named : (layers : List (List ℕ)) → (list_any (is_paired []) layers ≡ false) × (list_any (is_inner []) layers ≡ false)
none_named [] = (refl, refl)
none_named (l ∷ ls) = none_named ls

neither : (a b : Bool) → ((a && false) || (b && false)) ≡ false
neither true true = refl
neither true false = refl
neither false true = refl
neither false false = refl

none_parted : (f : Statement) → parts_pair [] f ≡ false
none_parted (CallLine layers act) =
    let none = none_named layers in
    ap₂ (λ (a b : Bool). (is_placing act && a) || (is_activating act && b)) none.0 none.1 ∙ neither (is_placing act) (is_activating act)
none_parted f = refl

-- A statement in range that gives nothing again, where there are no windows of two layers, no group is open, none is padded and no
-- hook is named, passes its tests.
pub tests_pass : (t : Told) (f : Statement) → t.pairs ≡ [] → is_line_in_range t.version f ≡ true → lacks_name t.bitmap_names f ≡ false → gives_again t f ≡ false → fits_group t.group (group_has_calls t) f ≡ true → are_few (limits_of t.version) (told_with f t) ≡ true → hook_on f ≡ None → has_padding t.row_width f ≡ false → line_tested alone t (StatementLine f) ≡ Ok tt
tests_pass t f pairs range bitmaps again group few hook padding =
    let apart : parts_pair t.pairs f ≡ false = ap (λ (ps : List NamedPair). parts_pair ps f) pairs ∙ none_parted f in
    λ i. demand (range i) Range
    >>= (λ _. demand (not (bitmaps i)) NoName
    >>= (λ _. demand (not (again i)) DoubleName
    >>= (λ _. demand (not (apart i)) GzzReason
    >>= (λ _. demand (group i) GroupReason
    >>= (λ _. demand (few i) TooMany
    >>= (λ _. demand (not (is_no_hook 0 (hook i))) NoHook
    >>= (λ _. demand (not (is_hook_named t.names_hook (hook i))) HookUsed
    >>= (λ _. demand (not (padding i)) Padding))))))))

-- There are few of everything.
pub few_in_demo : (section : Section) (tasks names : List (List ℕ)) (n : ℕ) (calls : List (List Call)) (groups : List (List Group)) → length tasks ≤ 16 → length names ≤ (limits_of 1).names → n ≤ (limits_of 1).calls → are_few (limits_of 1) (in_demo section tasks names n calls groups) ≡ true
few_in_demo section tasks names n calls groups a b c =
    and_from ((nat_le (length tasks) task_limit && true) && nat_le (length names) (limits_of 1).names) (true && nat_le n (limits_of 1).calls) (and_from (nat_le (length tasks) task_limit && true) (nat_le (length names) (limits_of 1).names) (and_from (nat_le (length tasks) task_limit) true (le-leb (length tasks) task_limit a) refl) (le-leb (length names) (limits_of 1).names b)) (le-leb n (limits_of 1).calls c)

-- A call's line of one layer, as the grammar reads and tells it.
pub record IsReadable (l : List ℕ) (act : Act) : Type 0 where
  pub verb : Verb
  pub ws : List (List ℕ)
  pub words : words_of (CallLine (l ∷ []) act) ≡ verb_word verb ∷ ws
  pub plain : list_all is_plain (verb_word verb ∷ ws) ≡ true
  pub few : length ws ≤ 8
  pub known : verb_of (verb_word verb) ≡ Some verb
  pub spoken : is_known_in 1 verb ≡ true
  pub made : line_by verb (map token_of ws) ≡ Some (StatementLine (CallLine (l ∷ []) act))
  pub belongs : belongs_in Plain 1 CallsAreDue verb ≡ true
  pub stands : is_skipped (spelled (CallLine (l ∷ []) act)) ≡ false
  pub range : is_act_in_range act ≡ true
  pub bitmaps : lacks_name [] (CallLine (l ∷ []) act) ≡ false
  pub group : group_allows None (l ∷ []) act ≡ true
  pub hook : hook_on (CallLine (l ∷ []) act) ≡ None
  pub tells : (tasks names : List (List ℕ)) (n : ℕ) (calls : List (List Call)) (groups : List (List Group)) → told_with (CallLine (l ∷ []) act) (in_demo CallsAreDue tasks names n calls groups) ≡ in_demo CallsAreDue tasks (and_name names l) (n + 1) (onto_last (spelled_call [] act (place_among (and_name names l) l ∷ [])) calls) groups

-- A task has one call more.
pub call_more : (tasks old new : List (List ℕ)) (l : List ℕ) (slot n : ℕ) (calls : List (List Call)) (groups : List (List Group)) (act : Act) (c : Call) → length tasks ≤ 16 → n < (limits_of 1).calls → IsNamed old new l slot → IsReadable l act → spelled_call [] act (slot ∷ []) ≡ c → IsReached (in_demo CallsAreDue tasks old n calls groups) → IsReached (in_demo CallsAreDue tasks new (n + 1) (onto_last c calls) groups)
call_more tasks old new l slot n calls groups act c few more named r is reached =
    let f = CallLine (l ∷ []) act in
    let t = in_demo CallsAreDue tasks old n calls groups in
    let u = in_demo CallsAreDue tasks new (n + 1) (onto_last c calls) groups in
    let place : place_among (and_name old l) l ≡ slot = ap (λ names. place_among names l) named.becomes ∙ named.place in
    let call : spelled_call [] act (place_among (and_name old l) l ∷ []) ≡ c = ap (λ s. spelled_call [] act (s ∷ [])) place ∙ is in
    let tells : told_with f t ≡ u = r.tells tasks old n calls groups ∙ (λ i. in_demo CallsAreDue tasks (named.becomes i) (n + 1) (onto_last (call i) calls) groups) in
    let few_then : are_few (limits_of 1) (told_with f t) ≡ true = ap (are_few (limits_of 1)) tells ∙ few_in_demo CallsAreDue tasks new (n + 1) (onto_last c calls) groups few named.few (omega (arith, more)) in
    let tested = tests_pass t f refl r.range r.bitmaps refl r.group few_then r.hook refl in
    line_more t u f reached (line_reads alone t f r.verb r.ws r.words r.plain r.few r.known r.spoken r.made refl refl r.belongs tested) r.stands refl tells
