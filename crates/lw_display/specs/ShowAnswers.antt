-- What reading a show answers.
use Rattle.std.specs.Prelude.{◌≡◌, ℕ, map, Result, Ok, Err}
use Rattle.lw_script.specs.Answers.{input_meaning}
use Rattle.lw_display.specs.declared.reason.ShowReason.{ShowReason}
use Rattle.lw_display.specs.declared.show.Scene.{Scene}
use Rattle.lw_display.specs.declared.show.Show.{Show}
use Rattle.lw_display.specs.declared.stop.ShowStop.{ShowStop}
use Rattle.lw_display.specs.declared.stop.ShowStop.TheVariants.{Refused, Memory}
use Rattle.lw_display.specs.Shows.{SceneInput, ShowInput}

-- a scene, and a show, as the definitions have them
abbrev pub scene_meaning : Scene → SceneInput
scene_meaning s = record { name = s.name; top = s.top; script = input_meaning s.input }

abbrev pub show_meaning : Show → ShowInput
show_meaning s =
    record { width = s.width; height = s.height; scenes = map scene_meaning s.scenes.items; acts = s.acts.items }

-- The answer is this show, and the answer is this refusal, unless memory ran out.
abbrev pub OnlyGives : ShowInput → Result Show ShowStop → Type 0
OnlyGives wanted (Ok show) = show_meaning show ≡ wanted
OnlyGives wanted (Err (Refused n reason)) = ⊥
OnlyGives wanted (Err Memory) = Unit {0}

abbrev pub OnlyRefuses : ℕ → ShowReason → Result Show ShowStop → Type 0
OnlyRefuses n why (Ok show) = ⊥
OnlyRefuses n why (Err (Refused line reason)) = (line ≡ n) × (reason ≡ why)
OnlyRefuses n why (Err Memory) = Unit {0}
