-- The lines of a scene, one after another, and what ends it.
use Rattle.std.proofs.Common.{◌≡◌, ℕ, ◌+◌, true, false, List, [], ◌∷◌, ◌++◌, codes, bytes_eq, Result, Ok, Err, refl, sym, ap, subst, ◌∙◌}
use Rattle.lw_grammar.specs.declared.reason.Reason.{Reason}
use Rattle.lw_grammar.specs.Lines.{lines}
use Rattle.lw_grammar.specs.Script.{ScriptInput}
use Rattle.lw_script.specs.declared.input.Input.{Input}
use Rattle.lw_script.specs.Answers.{input_meaning}
use Rattle.lw_display.specs.declared.stop.ShowStop.{ShowStop}
use Rattle.lw_display.specs.declared.stop.ShowStop.TheVariants.{Refused, Memory}
use Rattle.lw_display.specs.declared.scene.SceneRead.{SceneRead}
use Rattle.lw_display.specs.declared.reading.Next.{Next}
use Rattle.lw_display.specs.declared.state.ShowReader.{ShowReader}
use Rattle.lw_display.specs.Shows.{ShowInput}
use Rattle.lw_display.specs.ShowRule.{OpenScene, bytes_of, counted_from, script_ended, script_unended, told_with_scene, shown_by}
use Rattle.lw_display.specs.ShowMeaning.{GivesScript, begun, in_scene, IsBehind, EndsScene, Ended, TellsUnended, show_read, told_of, KeepsScene, LeadsOn}

-- a line of the script
pub script_line : (name : List ℕ) (top above n : ℕ) (read : List (List ℕ)) (v : ShowInput) (line : List ℕ) (ls : List (List ℕ)) → bytes_eq line (codes "endscene") ≡ false → shown_by n (in_scene (begun name top above read) v) (line ∷ ls) ≡ shown_by (n + 1) (in_scene (begun name top above (read ++ line ∷ [])) v) ls
script_line name top above n read v line ls e = rw e refl

-- all lines from the script's first give what these give below those that were read
abbrev pub Left : ℕ → ℕ → List ℕ → List (List ℕ) → ℕ → List (List ℕ) → Type 0
Left above first bytes read n ls =
    (name : List ℕ) (top : ℕ) (v : ShowInput) → shown_by first (in_scene (begun name top above []) v) (lines bytes) ≡ shown_by n (in_scene (begun name top above read) v) ls

-- a scene that a line ends
pub scene_ended : (name : List ℕ) (top above first n : ℕ) (bytes line behind : List ℕ) (read : List (List ℕ)) (script : Result Input ShowStop) (result : Result SceneRead ShowStop) → Left above first bytes read n (line ∷ lines behind) → bytes_eq line (codes "endscene") ≡ true → GivesScript script (script_ended above n (bytes_of read)) → IsBehind first bytes (n + 1) behind → Ended script behind (n + 1) result → EndsScene (begun name top above []) first bytes result
scene_ended name top above first n bytes line behind read script (Ok taken) left e gives within ended =
    let G : Result Input ShowStop → Type 0 = λ r. GivesScript r (script_ended above n (bytes_of read)) in
    let is : script_ended above n (bytes_of read) ≡ Ok (input_meaning taken.input) = subst G ended.0 gives in
    let at : (v : ShowInput) → shown_by first (in_scene (begun name top above []) v) (lines bytes) ≡ shown_by (n + 1) (told_with_scene (begun name top above []) (in_scene (begun name top above []) v) (input_meaning taken.input)) (lines behind) = λ v. left name top v ∙ rw (e, is) refl in
    let P : ℕ → List ℕ → Type 0 = λ k rest. ((v : ShowInput) → shown_by first (in_scene (begun name top above []) v) (lines bytes) ≡ shown_by k (told_with_scene (begun name top above []) (in_scene (begun name top above []) v) (input_meaning taken.input)) (lines rest)) × IsBehind first bytes k rest in
    subst (λ k. P k taken.rest.now) (sym ended.2) (subst (λ rest. P (n + 1) rest) (sym ended.1) (at, within))
scene_ended name top above first n bytes line behind read script (Err (Refused k r)) left e gives within ended =
    let G : Result Input ShowStop → Type 0 = λ s. GivesScript s (script_ended above n (bytes_of read)) in
    let is : script_ended above n (bytes_of read) ≡ Err (k, r) = subst G ended gives in
    λ v. left name top v ∙ rw (e, is) refl
scene_ended name top above first n bytes line behind read script (Err Memory) left e gives within ended = tt

-- a scene that no line ends
pub scene_unended : (name : List ℕ) (top above first n : ℕ) (bytes : List ℕ) (read : List (List ℕ)) (stop : ShowStop) → Left above first bytes read n [] → TellsUnended stop (script_unended above n (bytes_of read)) → EndsScene (begun name top above []) first bytes (Err stop)
scene_unended name top above first n bytes read (Refused k r) left is = λ v. left name top v ∙ is
scene_unended name top above first n bytes read Memory left is = tt

-- a scene leads on
pub scene_stops : (s : OpenScene) (v : ShowInput) (first : ℕ) (bytes : List ℕ) (new : ShowReader) (stop : ShowStop) → EndsScene s first bytes (Err stop) → LeadsOn (in_scene s v) first (lines bytes) first bytes new (Err stop)
scene_stops s v first bytes new (Refused k r) ends = ends v
scene_stops s v first bytes new Memory ends = tt

pub scene_kept : (name : List ℕ) (top above first : ℕ) (bytes : List ℕ) (old new : ShowReader) (taken : SceneRead) (result : Result Next ShowStop) → EndsScene (begun name top above []) first bytes (Ok taken) → KeepsScene name top taken old new result → LeadsOn (in_scene (begun name top above []) (show_read old)) first (lines bytes) first bytes new result
scene_kept name top above first bytes old new taken (Ok next) ends keeps =
    let told = keeps.2.told above [] (show_read old) refl in
    let same = ends.0 (show_read old) ∙ ap (λ u. shown_by taken.number u (lines taken.rest.now)) (sym told) in
    let P : ℕ → List ℕ → Type 0 = λ k rest. (shown_by first (in_scene (begun name top above []) (show_read old)) (lines bytes) ≡ shown_by k (told_of new) (lines rest)) × IsBehind first bytes k rest in
    let both : P next.number next.rest.now = subst (λ k. P k next.rest.now) (sym keeps.0) (subst (λ rest. P taken.number rest) (sym keeps.1) (same, ends.1)) in
    (both.0, keeps.2.named, both.1)
scene_kept name top above first bytes old new taken (Err (Refused k r)) ends keeps = absurd keeps
scene_kept name top above first bytes old new taken (Err Memory) ends keeps = tt

-- what is counted in the whole input is what was found
pub counted_ok : (above : ℕ) (r : Result ScriptInput (ℕ × Reason)) (input : ScriptInput) → counted_from above r ≡ Ok input → r ≡ Ok input
counted_ok above (Ok found) input e = let both : Ok found ≡ Ok input = e in cc
counted_ok above (Err x) input e = absurd (cc)
