-- For private contracts.
-- What the reader of shows reads and keeps, as the definitions have it.
use Rattle.std.specs.Prelude.{◌≡◌, ℕ, ◌+◌, ◌≤◌, List, map, length, Result, Ok, Err}
use Rattle.lw_grammar.specs.declared.reason.Reason.{Reason}
use Rattle.lw_grammar.specs.Lines.{lines}
use Rattle.lw_words.specs.declared.stop.Stop.{Stop}
use Rattle.lw_words.specs.Stops.{Tells}
use Rattle.lw_words.specs.Cuts.{targets}
use Rattle.lw_grammar.specs.Script.{ScriptInput}
use Rattle.lw_script.specs.declared.input.Input.{Input}
use Rattle.lw_script.specs.Answers.{input_meaning}
use Rattle.lw_display.specs.declared.line.Deed.{Deed as DeedRead}
use Rattle.lw_display.specs.declared.line.Deed.TheVariants.{Drag, ToFront, ToBack}
use Rattle.lw_display.specs.declared.line.OuterLine.{OuterLine}
use Rattle.lw_display.specs.declared.line.OuterLine.TheVariants.{Sizes as SizesRead, Scene as SceneRead, Act as ActRead}
use Rattle.lw_display.specs.declared.line.Due.{Due}
use Rattle.lw_display.specs.declared.line.Due.TheVariants.{Sizes as SizesDue, FirstScene as FirstSceneDue, Scenes as ScenesDue}
use Rattle.lw_display.specs.declared.line.Due.TheVariants.{Acts as ActsDue}
use Rattle.lw_display.specs.ShowLines.{Deed, DraggedBy, PutFirst, PutLast, ShowLine, SizesLine, SceneLine, ActLine}
use Rattle.lw_display.specs.declared.reason.ShowReason.{ShowReason}
use Rattle.lw_display.specs.declared.show.Show.{Show}
use Rattle.lw_display.specs.declared.state.ShowReader.{ShowReader}
use Rattle.lw_display.specs.declared.stop.ShowStop.{ShowStop}
use Rattle.lw_display.specs.declared.stop.ShowStop.TheVariants.{Refused, Memory}
use Rattle.lw_display.specs.declared.scene.SceneRead.{SceneRead as SceneTaken}
use Rattle.lw_display.specs.declared.reading.Next.{Next}
use Rattle.lw_display.specs.Shows.{ShowInput, scene_names}
use Rattle.lw_display.specs.ShowAnswers.{scene_meaning, show_meaning}
use Rattle.lw_display.specs.ShowRule.{Part, SizesAreDue, FirstSceneIsDue, ScenesAreDue, ActsAreDue, ScriptIsDue, OpenScene}
use Rattle.lw_display.specs.ShowRule.{ShowTold, show_line_tested, told_with_scene, shown_by}
use Rattle.lw_grammar.specs.Demands.{◌>>=◌}

-- the part in which this is due
abbrev pub due_meaning : Due → Part
due_meaning SizesDue = SizesAreDue
due_meaning FirstSceneDue = FirstSceneIsDue
due_meaning ScenesDue = ScenesAreDue
due_meaning ActsDue = ActsAreDue

-- what is done, and what a line says
abbrev pub deed_meaning : DeedRead → Deed
deed_meaning (Drag dy) = DraggedBy dy
deed_meaning ToFront = PutFirst
deed_meaning ToBack = PutLast

abbrev pub outer_meaning : OuterLine → ShowLine
outer_meaning (SizesRead w h) = SizesLine w h
outer_meaning (SceneRead name top) = SceneLine name.now top
outer_meaning (ActRead name deed) = ActLine name.now (deed_meaning deed)

-- a line is what the rule gives; a stop tells its reason, or that memory ran out
abbrev pub ReadsOuter : Result OuterLine Stop → Result ShowLine Reason → Type 0
ReadsOuter (Ok line) r = r ≡ Ok (outer_meaning line)
ReadsOuter (Err stop) r = Tells stop r

-- what the reader has read, and what that tells
abbrev pub show_read : ShowReader → ShowInput
show_read r =
    record { width = r.width; height = r.height; scenes = map scene_meaning r.scenes.items; acts = r.acts.items }

abbrev pub told_of : ShowReader → ShowTold
told_of r = record { part = due_meaning r.due; show = show_read r }

-- it has the names of its scenes, which are few
pub record IsNamed (r : ShowReader) : Type 0 where
  pub names : targets r.names.keys ≡ scene_names (show_read r)
  pub few : length r.names.keys ≤ 8

-- The script that is answered is the one that is due, unless memory ran out.
abbrev pub GivesScript : Result Input ShowStop → Result ScriptInput (ℕ × ShowReason) → Type 0
GivesScript (Ok input) o = o ≡ Ok (input_meaning input)
GivesScript (Err (Refused n reason)) o = o ≡ Err (n, reason)
GivesScript (Err Memory) o = Unit {0}

-- The show that is answered is the one that is due, unless memory ran out.
abbrev pub GivesShow : Result Show ShowStop → Result ShowInput (ℕ × ShowReason) → Type 0
GivesShow (Ok show) o = o ≡ Ok (show_meaning show)
GivesShow (Err (Refused n reason)) o = o ≡ Err (n, reason)
GivesShow (Err Memory) o = Unit {0}

-- a scene with these lines of its script so far, and what lines tell that end in it
abbrev pub begun : List ℕ → ℕ → ℕ → List (List ℕ) → OpenScene
begun name top above script = record { name = name; top = top; above = above; script = script }

abbrev pub in_scene : OpenScene → ShowInput → ShowTold
in_scene s v = record { part = ScriptIsDue s; show = v }

-- the next line has this number, and is among as many bytes as are left
abbrev pub IsBehind : ℕ → List ℕ → ℕ → List ℕ → Type 0
IsBehind number bytes next rest = (length rest ≤ length bytes) × (next + length rest ≤ number + length bytes)

-- What is read of a scene leads on: all lines from its script on give what those behind it give with it, or its refusal.
abbrev pub EndsScene : OpenScene → ℕ → List ℕ → Result SceneTaken ShowStop → Type 0
EndsScene scene number bytes (Ok taken) =
    ((v : ShowInput)
    → shown_by number (in_scene scene v) (lines bytes)
    ≡ shown_by taken.number (told_with_scene scene (in_scene scene v) (input_meaning taken.input)) (lines taken.rest.now))
    × IsBehind number bytes taken.number taken.rest.now
EndsScene scene number bytes (Err (Refused n reason)) =
    (v : ShowInput) → shown_by number (in_scene scene v) (lines bytes) ≡ Err (n, reason)
EndsScene scene number bytes (Err Memory) = Unit {0}

-- What is read of a line, or of a scene from its line on, leads on: all lines from there, of which the first has number n, give
-- what the others give behind it, or its refusal. The bytes behind the line begin with the line of this number.
abbrev pub LeadsOn : ShowTold → ℕ → List (List ℕ) → ℕ → List ℕ → ShowReader → Result Next ShowStop → Type 0
LeadsOn t n ls number behind new (Ok next) =
    (shown_by n t ls ≡ shown_by next.number (told_of new) (lines next.rest.now)) × IsNamed new
    × IsBehind number behind next.number next.rest.now
LeadsOn t n ls number behind new (Err (Refused line reason)) = shown_by n t ls ≡ Err (line, reason)
LeadsOn t n ls number behind new (Err Memory) = Unit {0}

-- what a line says, if it passes its tests
abbrev pub if_tested : ShowInput → ShowLine → Result ShowLine Reason
if_tested v line = show_line_tested v line >>= (λ _. Ok line)

-- the line passes its tests
abbrev pub Passes : ShowInput → ShowLine → Type 0
Passes v line = show_line_tested v line ≡ Ok tt

-- a stop is what is due where no line ends a script
abbrev pub TellsUnended : ShowStop → Result ShowInput (ℕ × ShowReason) → Type 0
TellsUnended (Refused n reason) o = o ≡ Err (n, reason)
TellsUnended Memory o = Unit {0}

-- The reader has a further scene.
pub record AddsScene (name : List ℕ) (top : ℕ) (input : Input) (old new : ShowReader) : Type 0 where
  pub told : (above : ℕ) (script : List (List ℕ)) (v : ShowInput) → v ≡ show_read old
      → told_of new
      ≡ told_with_scene (begun name top above script) (in_scene (begun name top above script) v) (input_meaning input)
  pub named : IsNamed new

-- the scene has the script that was read, or the script's stop is answered
abbrev pub Ended : Result Input ShowStop → List ℕ → ℕ → Result SceneTaken ShowStop → Type 0
Ended script rest number (Ok taken) = (script ≡ Ok taken.input) × (taken.rest.now ≡ rest) × (taken.number ≡ number)
Ended script rest number (Err stop) = script ≡ Err stop

-- The scene was kept, and what stands behind it is next; or memory ran out.
abbrev pub KeepsScene : List ℕ → ℕ → SceneTaken → ShowReader → ShowReader → Result Next ShowStop → Type 0
KeepsScene name top taken old new (Ok next) =
    (next.number ≡ taken.number) × (next.rest.now ≡ taken.rest.now) × AddsScene name top taken.input old new
KeepsScene name top taken old new (Err (Refused line reason)) = ⊥
KeepsScene name top taken old new (Err Memory) = Unit {0}
