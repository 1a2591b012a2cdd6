-- Which bytes are a show, and for all others which is the first bad line, and why (docs/FORMATS.md has it with an example): the
-- rule of a line, by what the lines above it tell, and the outcome of lines read from the first to the last.
use Rattle.std.specs.Prelude.{◌≡◌, ℕ, ◌+◌, Bool, true, false, not, if◌then◌else◌, List, [], ◌∷◌, ◌++◌, map, codes, bytes_eq}
use Rattle.std.specs.Prelude.{unsigned_abs, Option, None, Result, Ok, Err, ok_or}
use Rattle.lw_calls.specs.Orders.{is_legal}
use Rattle.lw_grammar.specs.declared.form.Form.TheVariants.{Ordered}
use Rattle.lw_grammar.specs.declared.reason.Reason.{Reason}
use Rattle.lw_grammar.specs.declared.reason.Reason.TheVariants.{UnknownWord, Misplaced, Form as FormReason, Range, NoName}
use Rattle.lw_grammar.specs.declared.reason.Reason.TheVariants.{DoubleName, TooMany, Missing}
use Rattle.lw_grammar.specs.Lines.{lines}
use Rattle.lw_grammar.specs.Demands.{◌>>=◌, demand}
use Rattle.lw_grammar.specs.Tokens.{token_of}
use Rattle.lw_grammar.specs.Told.{place_among}
use Rattle.lw_grammar.specs.Script.{ScriptInput, reading_with, is_skipped, words_read, after_verb}
use Rattle.lw_grammar.specs.Reading.{outcome_of}
use Rattle.lw_display.specs.declared.reason.ShowReason.{ShowReason}
use Rattle.lw_display.specs.declared.reason.ShowReason.TheVariants.{Line, BadOrder}
use Rattle.lw_display.specs.declared.verb.ShowVerb.{ShowVerb}
use Rattle.lw_display.specs.declared.verb.ShowVerb.TheVariants.{Display, Scene, Drag, ToFront, ToBack}
use Rattle.lw_display.specs.Shows.{ShowInput, nothing_shown, scene_names}
use Rattle.lw_display.specs.ShowLines.{show_verb_of, ShowLine, SizesLine, SceneLine, ActLine, show_line_by}
use Rattle.lw_display.specs.ShowLines.{is_show_line_in_range, lacks_scene, names_again, has_room, act_of}

-- A scene that isn't ended: its name, the row at which its screen opens, how many lines stand above its script, and the lines of
-- its script so far.
pub record OpenScene : Type 0 where
  pub name : List ℕ
  pub top : ℕ
  pub above : ℕ
  pub script : List (List ℕ)

-- The parts of a show, by what is due in them: the line `display`; the first scene; further scenes, or acts; only acts, after
-- one of them; and in a scene the lines of its script.
pub data Part : Type 0 where
  SizesAreDue : Part
  FirstSceneIsDue : Part
  ScenesAreDue : Part
  ActsAreDue : Part
  ScriptIsDue : OpenScene → Part

-- What lines tell: the part in which the next line stands, and what they say of the show.
pub record ShowTold : Type 0 where
  pub part : Part
  pub show : ShowInput

abbrev pub nothing_told : ShowTold
nothing_told = record { part = SizesAreDue; show = nothing_shown }

-- lines with this verb belong in this part
abbrev pub belongs_in : Part → ShowVerb → Bool
belongs_in SizesAreDue Display = true
belongs_in FirstSceneIsDue Scene = true
belongs_in ScenesAreDue Scene = true
belongs_in ScenesAreDue Drag = true
belongs_in ScenesAreDue ToFront = true
belongs_in ScenesAreDue ToBack = true
belongs_in ActsAreDue Drag = true
belongs_in ActsAreDue ToFront = true
belongs_in ActsAreDue ToBack = true
belongs_in part verb = false

-- the verb of a line's words
abbrev pub show_verb_on : List (List ℕ) → Option ShowVerb
show_verb_on [] = None
show_verb_on (w ∷ ws) = show_verb_of w

-- The rule of a line in no scene: one demand after another, in the order of the reasons. First what its words say, in this part.
abbrev pub show_words_read : Part → List (List ℕ) → Result ShowLine Reason
show_words_read part ws = do
  verb ← ok_or (show_verb_on ws) UnknownWord
  _ ← demand (belongs_in part verb) Misplaced
  ok_or (show_line_by verb (map token_of (after_verb ws))) FormReason

-- The first reason for which a line that says this is bad, where this was said of the show, if it is bad.
abbrev pub show_line_tested : ShowInput → ShowLine → Result (Unit {0}) Reason
show_line_tested v line = do
  _ ← demand (is_show_line_in_range v line) Range
  _ ← demand (not (lacks_scene v line)) NoName
  _ ← demand (not (names_again v line)) DoubleName
  demand (has_room v line) TooMany

-- What a line of these words says, below lines that tell this, or its first reason.
abbrev pub show_line_of_words : ShowTold → List (List ℕ) → Result ShowLine Reason
show_line_of_words t ws = do
  line ← show_words_read t.part ws
  _ ← show_line_tested t.show line
  Ok line

-- what a line in no scene says, below lines that tell this, or its first reason
abbrev pub show_line_read : ShowTold → List ℕ → Result ShowLine Reason
show_line_read t bytes = words_read bytes >>= show_line_of_words t

-- What lines tell with a further one of number n that says this. A line `scene` begins a scene; an act is on the screen of the
-- scene that has the name.
abbrev pub told_with : ℕ → ShowLine → ShowTold → ShowTold
told_with n (SizesLine w h) t =
    record { part = FirstSceneIsDue; show = record t.show { width = unsigned_abs w; height = unsigned_abs h } }
told_with n (SceneLine name top) t =
    record t { part = ScriptIsDue (record { name = name; top = unsigned_abs top; above = n; script = [] }) }
told_with n (ActLine name deed) t =
    record {
      part = ActsAreDue;
      show = record t.show { acts = t.show.acts ++ act_of deed (place_among (scene_names t.show) name) ∷ [] };
    }

-- what is found at a line of this number, or the number with the reason
abbrev pub on_line : {A : Type 0} → ℕ → Result A Reason → Result A (ℕ × ShowReason)
on_line n (Ok a) = Ok a
on_line n (Err reason) = Err (n, Line reason)

-- the bytes of lines
abbrev pub bytes_of : List (List ℕ) → List ℕ
bytes_of [] = []
bytes_of (line ∷ ls) = line ++ 10 ∷ bytes_of ls

-- The outcome of a script, counted in the whole input, where so many lines stand above it: what it is, or its first bad line.
-- Where it ends too early, that is the line after its last one.
abbrev pub counted_from : {A : Type 0} → ℕ → Result A (ℕ × Reason) → Result A (ℕ × ShowReason)
counted_from above (Ok a) = Ok a
counted_from above (Err (n, reason)) = Err (above + n, Line reason)

-- a script whose order is legal, or the refusal of line n
abbrev pub in_legal_order : ℕ → ScriptInput → Result ScriptInput (ℕ × ShowReason)
in_legal_order n script = if is_legal script.plan script.order then Ok script else Err (n, BadOrder)

-- These bytes as the script of a scene that line n ends: a script with an order, without hooks, and its order is legal.
abbrev pub script_ended : ℕ → ℕ → List ℕ → Result ScriptInput (ℕ × ShowReason)
script_ended above n bytes = counted_from above (outcome_of (reading_with 0 Ordered) bytes) >>= in_legal_order n

-- the same where no line ends it: something is missing, unless a line above is bad
abbrev pub script_unended : ℕ → ℕ → List ℕ → Result ShowInput (ℕ × ShowReason)
script_unended above n bytes =
    counted_from above (outcome_of (reading_with 0 Ordered) bytes) >>= (λ script. Err (n, Line Missing))

-- what lines tell with the end of a scene that has this script
abbrev pub told_with_scene : OpenScene → ShowTold → ScriptInput → ShowTold
told_with_scene s t script =
    record {
      part = ScenesAreDue;
      show = record t.show { scenes = t.show.scenes ++ record { name = s.name; top = s.top; script = script } ∷ [] };
    }

-- what lines tell with line n, which stands in a scene: a line `endscene` ends it, and any other is a line of its script
abbrev pub told_in_scene : ℕ → OpenScene → ShowTold → List ℕ → Result ShowTold (ℕ × ShowReason)
told_in_scene n s t line =
    if bytes_eq line (codes "endscene")
    then (script_ended s.above n (bytes_of s.script) >>= (λ script. Ok (told_with_scene s t script)))
    else Ok (record t { part = ScriptIsDue (record s { script = s.script ++ line ∷ [] }) })

-- the same in no scene
abbrev pub told_outside : ℕ → ShowTold → List ℕ → Result ShowTold (ℕ × ShowReason)
told_outside n t line =
    if is_skipped line then Ok t else (on_line n (show_line_read t line) >>= (λ l. Ok (told_with n l t)))

abbrev pub told_by : ℕ → Part → ShowTold → List ℕ → Result ShowTold (ℕ × ShowReason)
told_by n (ScriptIsDue s) t line = told_in_scene n s t line
told_by n part t line = told_outside n t line

-- What lines tell with line n, or its first reason, or the first bad line of the script in the scene that it ends.
abbrev pub show_told : ℕ → ShowTold → List ℕ → Result ShowTold (ℕ × ShowReason)
show_told n t line = told_by n t.part t line

-- The show at the end of the lines, where n is the number of the line after the last: there is a scene, and each is ended.
abbrev pub show_ended : ℕ → Part → ShowInput → Result ShowInput (ℕ × ShowReason)
show_ended n SizesAreDue v = Err (n, Line Missing)
show_ended n FirstSceneIsDue v = Err (n, Line Missing)
show_ended n ScenesAreDue v = Ok v
show_ended n ActsAreDue v = Ok v
show_ended n (ScriptIsDue s) v = script_unended s.above n (bytes_of s.script)

-- What lines give of which the first has number n, below lines that tell this: a show, or the first bad line's number, with its
-- first reason.
abbrev pub shown_by : ℕ → ShowTold → List (List ℕ) → Result ShowInput (ℕ × ShowReason)
shown_by n t [] = show_ended n t.part t.show
shown_by n t (line ∷ ls) = show_told n t line >>= (λ u. shown_by (n + 1) u ls)

-- The outcome of bytes as a show.
abbrev pub show_of : List ℕ → Result ShowInput (ℕ × ShowReason)
show_of bytes = shown_by 1 nothing_told (lines bytes)

-- The bytes are this show.
abbrev pub IsShow : List ℕ → ShowInput → Type 0
IsShow bytes v = show_of bytes ≡ Ok v

-- Line number n is the first bad line of the bytes, and this is its first reason; or the lines end above it, and something is
-- missing.
abbrev pub IsBadShow : List ℕ → ℕ → ShowReason → Type 0
IsBadShow bytes n reason = show_of bytes ≡ Err (n, reason)
