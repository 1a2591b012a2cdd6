-- What was read of a whole script makes a plan that may be run.
use Rattle.std.proofs.Common.{◌≡◌, ℕ, ◌+◌, ◌<◌, ◌≤◌, ◌==◌, Bool, true, false, List, [], ◌∷◌, ◌++◌, Result, Ok, Err, length, map, take, get_or, Bor, Fits, w32, refl, sym, ap, subst, ◌∙◌, arith, append-nil}
use Rattle.std.specs.List.{range_with_len}
use Rattle.lw_planes.specs.Bitmap.{Bitmap}
use Rattle.lw_calls.specs.declared.call.Call.{Call}
use Rattle.lw_calls.specs.declared.group.Group.{Group}
use Rattle.lw_calls.specs.declared.pair.Pair.{Pair}
use Rattle.lw_calls.specs.declared.sizes.Sizes.{Sizes}
use Rattle.lw_calls.specs.Assets.{Assets}
use Rattle.lw_calls.specs.Plan.{Plan, IsPlan}
use Rattle.lw_calls.specs.Limits.{limits_of}
use Rattle.lw_calls.proofs.LimitLaws.{names_at_most}
use Rattle.lw_calls.proofs.TwoTasks.{plan_with}
use Rattle.lw_grammar.specs.Statements.{Statement}
use Rattle.lw_grammar.specs.Told.{pair_among, told, plan_of}
use Rattle.lw_grammar.specs.declared.reason.Reason.{Reason}
use Rattle.lw_grammar.specs.declared.reason.Reason.TheVariants.{Missing}
use Rattle.lw_grammar.specs.Demands.{◌>>=◌, demand}
use Rattle.lw_grammar.specs.Script.{Setting, may_end, ScriptInput, input_from}
use Rattle.lw_grammar.specs.Reading.{Reached, at_number}
use Rattle.lw_grammar.proofs.ScriptOutcome.{rows_in_assets}
use Rattle.lw_grammar.proofs.ScriptSizes.{counted, whole_ends}
use Rattle.lw_grammar.proofs.ScriptRunnable.{runs_from_good}
use Rattle.lw_words.specs.Cuts.{targets}
use Rattle.lw_words.proofs.Targets.{length_targets}
use Rattle.lw_statements.specs.SectionMeaning.{section_meaning}
use Rattle.lw_reader.specs.declared.state.NamedPair.{NamedPair}
use Rattle.lw_reader.specs.declared.state.Reader.{Reader}
use Rattle.lw_reader.specs.ReaderKnows.{pair_meaning, placed}
use Rattle.lw_reader.specs.Represents.{Represents, HasRead, unfinished}
use Rattle.lw_script.specs.declared.input.ScriptStop.{ScriptStop}
use Rattle.lw_script.specs.declared.input.ScriptStop.TheVariants.{Refused, Memory}
use Rattle.lw_script.specs.Answers.{Gives, ended_with}
use Rattle.lw_script.specs.PlanNames.{NamesAtEnd}
use Rattle.std.proofs.lemmas.Bool.{eqb-true}
use Rattle.std.proofs.lemmas.List.{map-append, take_more}

-- the number of few names fits 32 bits
pub names_fit : (keys : List (Bor (List ℕ))) (names : List (List ℕ)) (n : ℕ) → n ≡ length keys → targets keys ≡ names → length names ≤ 1024 → Fits w32 n
names_fit keys names n e d few =
    let same : length keys ≡ length names = sym (length_targets keys) ∙ ap length d in omega arith

-- so few names does it know
pub names_few : (r : Reader) → HasRead r → length r.tasks.layer_names.keys ≤ 1024
names_few r h =
    let few : length (told h.1).names ≤ (limits_of (told h.1).version).names = (counted h.0 h.1 h.3).names in
    let most = names_at_most (told h.1).version in
    let same : length (targets r.tasks.layer_names.keys) ≡ length (told h.1).names = ap length h.2.tasks.names in
    let all = length_targets r.tasks.layer_names.keys in
    omega (arith, few, most, same, all)

-- windows by the places of their names
pub placed_pairs : (names : List (List ℕ)) (ps : List NamedPair) → map (placed names) ps ≡ map (pair_among names) (map pair_meaning ps)
placed_pairs names [] = refl
placed_pairs names (p ∷ ps) = ap (λ qs. placed names p ∷ qs) (placed_pairs names ps)

-- with a further one
pub one_placed : (names : List (List ℕ)) (ps : List NamedPair) (i : ℕ) (d : NamedPair) (slots new : List Pair) (q : Pair) → i < length ps → slots ≡ map (placed names) (take i ps) → q ≡ placed names (get_or ps i d) → new ≡ slots ++ q ∷ [] → new ≡ map (placed names) (take (i + 1) ps)
one_placed names ps i d slots new q h e f g =
    g
    ∙ ap (λ qs. qs ++ q ∷ []) e
    ∙ ap (λ r. map (placed names) (take i ps) ++ r ∷ []) f
    ∙ sym (ap (map (placed names)) (take_more ps i d h) ∙ map-append (placed names) (take i ps) (get_or ps i d ∷ []))

-- the reader's test of the input's end is that of the grammar
pub ends_alike : (s : Setting) (r : Reader) (above : List Statement) → Represents s r above → may_end r.form (section_meaning r.section) ≡ may_end s.form (told above).section
ends_alike s r above k =
    ap (λ f. may_end f (section_meaning r.section)) k.form ∙ ap (may_end s.form) k.section

-- where the input may not end below the lines, that is the outcome
pub ended_early : (s : Setting) (r : Reader) (p : Reached) (n place : ℕ) (stop : ScriptStop) → p.number ≡ n → Represents s r p.statements → NamesAtEnd r n (Err stop) → Gives (Err stop) (ended_with s place p)
ended_early s r p n place (Refused line reason) same k h =
    let early : may_end s.form (told p.statements).section ≡ false = sym (ends_alike s r p.statements k) ∙ h.0 in
    let Ends : Bool → Result ScriptInput (ℕ × Reason) = λ b. (at_number p.number (demand b Missing) >>= (λ _. Ok p)) >>= (λ q. Ok (input_from s (told q.statements) place)) in
    let At : ℕ → Reason → Result ScriptInput (ℕ × Reason) = λ m why. Err (m, why) in
    ap Ends early ∙ ap (λ m. At m Missing) (same ∙ sym h.1) ∙ ap (At line) (sym h.2)
ended_early s r p n place Memory same k h = tt

-- where the input may end no rows are due
pub none_due : (r : Reader) → HasRead r → may_end r.form (section_meaning r.section) ≡ true → r.assets.due ≡ 0
none_due r h e = go ((told above).rows_due == 0) refl
  where
    s : Setting
    s = h.0

    above : List Statement
    above = h.1

    go : (t : Bool) → ((told above).rows_due == 0) ≡ t → r.assets.due ≡ 0
    go true d = h.2.assets.due ∙ eqb-true _ 0 d
    go false d =
        let due = rows_in_assets s above h.3 d in
        let over = (whole_ends s.form above (sym (ends_alike s r above h.2) ∙ e)).assets in
        absurd (cc)

-- there the bitmaps are all that were read
bitmaps_are : (s : Setting) (r : Reader) (above : List Statement) → Represents s r above → r.assets.due ≡ 0 → r.assets.bitmaps.items ≡ (told above).bitmaps []
bitmaps_are s r above k e =
    let finished : unfinished r.assets [] ≡ [] = rw e refl in
    sym (append-nil r.assets.bitmaps.items) ∙ ap (λ bs. r.assets.bitmaps.items ++ bs) (sym finished) ∙ k.assets.bitmaps [] (λ d. refl)

-- a plan whose parts are those of lines is the plan of the lines
same_plan : (z : Sizes) (ss ts bs : List (List ℕ)) (cs : List (List Call)) (gs : List (List Group)) (ps : List Pair) (glyphs : List (List ℕ)) (bitmaps : List Bitmap) (hooks : ℕ) (above : List Statement) → z ≡ (plan_of hooks (told above)).sizes → ss ≡ (told above).names → ts ≡ (told above).tasks → bs ≡ (told above).bitmap_names → cs ≡ (told above).calls → gs ≡ (told above).groups → ps ≡ map (pair_among (told above).names) (told above).pairs → glyphs ≡ ((plan_of 0 (told above)).assets).glyphs → bitmaps ≡ ((plan_of 0 (told above)).assets).bitmaps → plan_with z ss ts bs cs gs ps (record { glyphs = glyphs; bitmaps = bitmaps }) ≡ plan_of hooks (told above)
same_plan z ss ts bs cs gs ps glyphs bitmaps hooks above a b c d e f p g h = rw (a, b, c, d, e, f, p, g, h) refl

-- so is one whose parts are the reader's, where no rows are due
pub plan_is : (s : Setting) (r : Reader) (above : List Statement) → Represents s r above → r.assets.due ≡ 0 → (z : Sizes) (ss ts bs : List (List ℕ)) (ps : List Pair) (x : Assets) → z ≡ (plan_of s.hooks (told above)).sizes → ss ≡ targets r.tasks.layer_names.keys → ts ≡ targets r.tasks.task_names.keys → bs ≡ targets r.assets.names.keys → ps ≡ map (pair_among (targets r.tasks.layer_names.keys)) (map pair_meaning r.tasks.pairs.items) → x.glyphs ≡ map (λ i. (told above).glyphs (32 + i)) (range_with_len 0 95) → x.bitmaps ≡ r.assets.bitmaps.items → plan_with z ss ts bs (map (λ cs. cs.items) r.tasks.calls.items) (map (λ gs. gs.items) r.tasks.groups.items) ps x ≡ plan_of s.hooks (told above)
plan_is s r above k due z ss ts bs ps x a b c d p g h =
    same_plan z ss ts bs _ _ ps x.glyphs x.bitmaps s.hooks above a (b ∙ k.tasks.names) (c ∙ k.tasks.tasks) (d ∙ k.assets.names) k.tasks.calls k.tasks.groups (p ∙ rw (k.tasks.names, k.tasks.pairs) refl) g (h ∙ bitmaps_are s r above k due)

-- a plan that is that of good lines may be run
pub plan_runs : (r : Reader) (h : HasRead r) → may_end r.form (section_meaning r.section) ≡ true → (p : Plan) → p ≡ plan_of h.0.hooks (told h.1) → IsPlan p
plan_runs r h e p same =
    subst (λ (q : Plan). IsPlan q) (sym same) (runs_from_good h.0 h.1 0 h.3 (sym (ends_alike h.0 r h.1 h.2) ∙ e)).plan

-- an input of such a plan and of the lines' order
abbrev input_with : Plan → List ℕ → ℕ → ScriptInput
input_with plan order place = record { plan = plan; order = order; rest = place }

pub input_is : (s : Setting) (above : List Statement) (place : ℕ) (plan : Plan) (order : List ℕ) → plan ≡ plan_of s.hooks (told above) → order ≡ (told above).order → input_with plan order place ≡ input_from s (told above) place
input_is s above place plan order a b = rw (a, b) refl
