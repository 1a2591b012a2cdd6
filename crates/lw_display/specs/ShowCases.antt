-- Shows and their texts, and bytes that are none, each with its first bad line.
use Rattle.std.specs.Prelude.{ℕ, List, [], ◌∷◌, ◌++◌, codes, Result, Ok, Err}
use Rattle.std.specs.List.{flat_map}
use Rattle.lw_screens.specs.Cases.{text}
use Rattle.lw_grammar.specs.declared.reason.Reason.{Reason}
use Rattle.lw_grammar.specs.declared.reason.Reason.TheVariants.{UnknownWord, Misplaced, Form as FormReason, Range, NoName}
use Rattle.lw_grammar.specs.declared.reason.Reason.TheVariants.{DoubleName, TooMany, NoHook, Missing}
use Rattle.lw_display.specs.declared.reason.ShowReason.{ShowReason}
use Rattle.lw_display.specs.declared.reason.ShowReason.TheVariants.{Line, BadOrder}
use Rattle.lw_display.specs.Shows.{ShowInput}
use Rattle.lw_display.specs.ShowRule.{show_of, IsBadShow}
use Rattle.lw_display.specs.ShowTexts.{show_text}

-- the text of what bytes show, and no text where they are no show
abbrev pub text_shown_by : Result ShowInput (ℕ × ShowReason) → List ℕ
text_shown_by (Ok v) = show_text v
text_shown_by (Err e) = []

abbrev pub shown : List ℕ → List ℕ
shown bytes = text_shown_by (show_of bytes)

-- A screen of 16 by 4 pixels with a layer in its left half, of which the pixels at columns and rows 1 and 2 are filled.
abbrev pub marked_script : List ℕ
marked_script = text (codes "screen 16 4 1/task a/create w smart front 0 0 7 3/fill w 1 1 2 2/end/order/0 0/")

-- a screen of 16 by 2 pixels that is filled whole
abbrev pub filled_script : List ℕ
filled_script = text (codes "screen 16 2 1/task a/create w smart front 0 0 15 1/fill w 0 0 15 1/end/order/0 0/")

-- a screen of one pixel, without calls
abbrev pub small_script : List ℕ
small_script = text (codes "screen 1 1 1/task a/end/order/")

-- the first screen from row 0 on, and the second from row 2 on
abbrev pub two_scenes : List ℕ
two_scenes =
    text (codes "display 16 4/scene a 0/") ++ marked_script ++ text (codes "endscene/scene b 2/") ++ filled_script
    ++ text (codes "endscene/")

abbrev pub two_scenes_text : List ℕ
two_scenes_text = text (codes "display 16 4 2/rows 0 1 a 0/rows 2 3 b 0/planes 16 4 1/plane 0/0000/6000/ffff/ffff/done/")

abbrev pub two_dragged_text : List ℕ
two_dragged_text = text (codes "display 16 4 2/rows 0 2 a 0/rows 3 3 b 0/planes 16 4 1/plane 0/0000/6000/6000/ffff/done/")

abbrev pub two_behind_text : List ℕ
two_behind_text = text (codes "display 16 4 1/rows 0 3 a 0/planes 16 4 1/plane 0/0000/6000/6000/0000/done/")

-- the same with lines that say nothing, in scenes and in none, and without the last line feed
abbrev pub two_noted : List ℕ
two_noted =
    text (codes "# two/display 16 4//scene a 0/#/") ++ marked_script ++ text (codes "#endscene/endscene/# b/scene b 2//")
    ++ filled_script ++ text (codes "/endscene")

-- the number of a first bad line, its first reason, and the bytes
pub record BadShow : Type 0 where
  pub line : ℕ
  pub reason : ShowReason
  pub bytes : List ℕ

abbrev pub bad_at : ℕ → Reason → List ℕ → BadShow
bad_at line reason bytes = record { line = line; reason = Line reason; bytes = bytes }

abbrev pub bad_order_at : ℕ → List ℕ → BadShow
bad_order_at line bytes = record { line = line; reason = BadOrder; bytes = bytes }

abbrev pub AreBadShows : List BadShow → Type 0
AreBadShows [] = Unit {0}
AreBadShows (b ∷ bs) = IsBadShow b.bytes b.line b.reason × AreBadShows bs

-- a display, with a scene that is open, and with one that is ended
abbrev pub displayed : List ℕ
displayed = text (codes "display 16 4/")

abbrev pub in_scene : List ℕ
in_scene = displayed ++ text (codes "scene a 0/")

abbrev pub in_task : List ℕ
in_task = in_scene ++ text (codes "screen 16 4 1/task a/")

abbrev pub with_one_scene : List ℕ
with_one_scene = in_scene ++ small_script ++ text (codes "endscene/")

-- a scene of this name
abbrev pub small_scene : List ℕ → List ℕ
small_scene name = codes "scene " ++ name ++ text (codes " 0/") ++ small_script ++ text (codes "endscene/")

-- eight scenes
abbrev pub eight_scenes : List ℕ
eight_scenes =
    displayed
    ++ flat_map small_scene
    (codes "a" ∷ codes "b" ∷ codes "c" ∷ codes "d" ∷ codes "e" ∷ codes "f" ∷ codes "g" ∷ codes "h" ∷ [])

-- lines of a part in which they don't stand: in no scene the lines of scripts, `endscene`, and all but what is due
abbrev pub not_here : List BadShow
not_here =
    bad_at 1 Misplaced (text (codes "screen 16 4 1/")) ∷
    bad_at 1 Misplaced (text (codes "layers 2/")) ∷
    bad_at 1 Misplaced (text (codes "scene a 0/")) ∷
    bad_at 1 Misplaced (text (codes "drag a 1/")) ∷
    bad_at 1 Misplaced (text (codes "endscene/")) ∷
    bad_at 2 Misplaced (displayed ++ text (codes "fill w 0 0 1 1/")) ∷
    bad_at 2 Misplaced (displayed ++ text (codes "task a/")) ∷
    bad_at 2 Misplaced (displayed ++ text (codes "order/")) ∷
    bad_at 2 Misplaced (displayed ++ text (codes "report/")) ∷
    bad_at 2 Misplaced (displayed ++ text (codes "endscene/")) ∷
    bad_at 2 Misplaced (displayed ++ text (codes "endscene x/")) ∷
    bad_at 2 Misplaced (displayed ++ text (codes "display 16 4/")) ∷
    bad_at 2 Misplaced (displayed ++ text (codes "drag a 1/")) ∷
    bad_at 8 Misplaced (with_one_scene ++ text (codes "screen 16 4 1/")) ∷
    bad_at 8 Misplaced (with_one_scene ++ text (codes "endscene/")) ∷
    bad_at 8 Misplaced (with_one_scene ++ text (codes "display 16 4/")) ∷
    bad_at 9 Misplaced (with_one_scene ++ text (codes "tofront a/scene b 0/")) ∷ []

-- words that begin no line, in a scene and in none
abbrev pub not_known : List BadShow
not_known =
    bad_at 1 UnknownWord (text (codes "show 16 4/")) ∷
    bad_at 2 UnknownWord (displayed ++ text (codes "scenes a 0/")) ∷
    bad_at 5 UnknownWord (in_task ++ text (codes "drag a 1/")) ∷
    bad_at 5 UnknownWord (in_task ++ text (codes "tofront a/")) ∷
    bad_at 5 UnknownWord (in_task ++ text (codes "toback a/")) ∷
    bad_at 5 UnknownWord (in_task ++ text (codes "scene b 0/")) ∷
    bad_at 5 UnknownWord (in_task ++ text (codes "display 16 4/")) ∷
    bad_at 5 UnknownWord (in_task ++ text (codes "endscene x/")) ∷ []

-- lines of no form; where rows or numbers are due each line is one
abbrev pub not_formed : List BadShow
not_formed =
    bad_at 1 FormReason (text (codes "display 16/")) ∷
    bad_at 1 FormReason (text (codes "display 16 4 1/")) ∷
    bad_at 1 FormReason (text (codes "display 0 x/")) ∷
    bad_at 2 FormReason (displayed ++ text (codes "scene a/")) ∷
    bad_at 2 FormReason (displayed ++ text (codes "scene 1 9/")) ∷
    bad_at 8 FormReason (with_one_scene ++ text (codes "drag b/")) ∷
    bad_at 8 FormReason (with_one_scene ++ text (codes "drag b 40000 1/")) ∷
    bad_at 8 FormReason (with_one_scene ++ text (codes "tofront b 1/")) ∷
    bad_at 8 FormReason (with_one_scene ++ text (codes "toback/")) ∷
    bad_at 5 FormReason (in_scene ++ text (codes "screen 16 4 1/bitmap b 16 1 1/drag a 1/")) ∷
    bad_at 7 FormReason (in_task ++ text (codes "end/order/toback a/")) ∷ []

-- numbers out of their ranges
abbrev pub not_in_range : List BadShow
not_in_range =
    bad_at 1 Range (text (codes "display 0 4/")) ∷
    bad_at 1 Range (text (codes "display 16 0/")) ∷
    bad_at 1 Range (text (codes "display 2049 4/")) ∷
    bad_at 1 Range (text (codes "display 16 2049/")) ∷
    bad_at 2 Range (displayed ++ text (codes "scene a 4/")) ∷
    bad_at 2 Range (displayed ++ text (codes "scene a -1/")) ∷
    bad_at 8 Range (with_one_scene ++ text (codes "scene a 4/")) ∷
    bad_at 8 Range (with_one_scene ++ text (codes "drag b 32768/")) ∷
    bad_at 8 Range (with_one_scene ++ text (codes "drag b -32769/")) ∷ []

-- a screen of no scene; a name that two scenes have; a ninth scene
abbrev pub not_named : List BadShow
not_named =
    bad_at 8 NoName (with_one_scene ++ text (codes "drag b 1/")) ∷
    bad_at 8 NoName (with_one_scene ++ text (codes "tofront b/")) ∷
    bad_at 8 NoName (with_one_scene ++ text (codes "toback A/")) ∷
    bad_at 8 DoubleName (with_one_scene ++ text (codes "scene a 3/")) ∷
    bad_at 50 TooMany (eight_scenes ++ text (codes "scene i 0/")) ∷
    bad_at 50 DoubleName (eight_scenes ++ text (codes "scene h 0/")) ∷ []

-- scripts that are bad by a line of their own, counted in the whole input, or that end too early
abbrev pub bad_scripts : List BadShow
bad_scripts =
    bad_at 6 Range (in_task ++ text (codes "create w smart front 0 0 7 3/fill w 2 0 1 0/end/order/0 0/endscene/")) ∷
    bad_at 5 NoHook (in_task ++ text (codes "create w simple front 0 0 7 3 hook 0/end/order/0/endscene/")) ∷
    bad_at 10 UnknownWord (with_one_scene ++ text (codes "scene b 0/screen 1 1 1/glow/")) ∷
    bad_at 3 Missing (in_scene ++ text (codes "endscene/")) ∷
    bad_at 5 Missing (in_scene ++ text (codes "screen 16 4 1/bitmap b 16 1 1/endscene/")) ∷
    bad_at 6 Missing (in_task ++ text (codes "end/endscene/")) ∷
    bad_at 5 Missing (in_task ++ text (codes "endscene/drag b 1/")) ∷ []

-- input that ends before there is a scene, or before a scene was ended, whose script may have a bad line above
abbrev pub unfinished : List BadShow
unfinished =
    bad_at 1 Missing [] ∷
    bad_at 2 Missing (text (codes "/")) ∷
    bad_at 2 Missing displayed ∷
    bad_at 3 Missing (displayed ++ text (codes "# no scene/")) ∷
    bad_at 3 Missing in_scene ∷
    bad_at 5 Missing in_task ∷
    bad_at 7 Missing (in_scene ++ small_script) ∷
    bad_at 5 UnknownWord (in_task ++ text (codes "glow/create w/")) ∷ []

-- orders that aren't legal
abbrev pub bad_orders : List BadShow
bad_orders =
    bad_order_at 8 (in_task ++ text (codes "create w smart front 0 0 7 3/end/order/endscene/drag b 1/")) ∷
    bad_order_at 9 (in_task ++ text (codes "create w smart front 0 0 7 3/end/order/0 0/endscene/")) ∷
    bad_order_at 9 (in_task ++ text (codes "create w smart front 0 0 7 3/end/order/1/endscene/")) ∷
    bad_order_at 15
    (with_one_scene ++ text (codes "scene b 0/screen 1 1 1/task a/move w 1 1/end/order/0 0/endscene/")) ∷ []
