-- The lines of a show that stand in no scene (docs/FORMATS.md has them with an example).
use Rattle.std.specs.Prelude.{ℕ, ◌&&◌, Bool, true, false, not, nat_lt, if◌then◌else◌, List, [], ◌∷◌, length, codes, bytes_eq, ℤ}
use Rattle.std.specs.Prelude.{pos, negsuc, ◌-ℤ◌, Option, Some, None, option_map}
use Rattle.std.specs.List.{list_any}
use Rattle.lw_region.specs.Rectangle.{within}
use Rattle.lw_grammar.specs.Tokens.{Token, NameToken, NumberToken}
use Rattle.lw_grammar.specs.Verbs.{verb_of}
use Rattle.lw_screens.specs.declared.act.Act.{Act}
use Rattle.lw_screens.specs.declared.act.Act.TheVariants.{Drag as DragAct, ToFront as ToFrontAct, ToBack as ToBackAct}
use Rattle.lw_display.specs.declared.verb.ShowVerb.{ShowVerb}
use Rattle.lw_display.specs.declared.verb.ShowVerb.TheVariants.{Display, Scene, Drag, ToFront, ToBack, InScenes}
use Rattle.lw_display.specs.Shows.{ShowInput, scene_names}

-- The verb that a word is, if it is one: one of the five that begin such lines, or `endscene` or a verb of scripts, which begin
-- none.
abbrev pub show_verb_of : List ℕ → Option ShowVerb
show_verb_of word =
    if bytes_eq word (codes "display") then Some Display
    else (if bytes_eq word (codes "scene") then Some Scene
    else (if bytes_eq word (codes "drag") then Some Drag
    else (if bytes_eq word (codes "tofront") then Some ToFront
    else (if bytes_eq word (codes "toback") then Some ToBack
    else (if bytes_eq word (codes "endscene") then Some InScenes
    else option_map (λ v. InScenes) (verb_of word))))))

-- what is done to a screen: it is dragged by so many rows, put before all others, or put behind them
pub data Deed : Type 0 where
  DraggedBy : ℤ → Deed
  PutFirst : Deed
  PutLast : Deed

-- What such a line says: the sizes of the display; the name of a scene and the row at which its screen opens; or the name of a
-- screen and what is done to it.
pub data ShowLine : Type 0 where
  SizesLine : ℤ → ℤ → ShowLine
  SceneLine : List ℕ → ℤ → ShowLine
  ActLine : List ℕ → Deed → ShowLine

-- what the words after a verb say, by the forms `display W H`, `scene NAME TOP`, `drag NAME DY`, `tofront NAME` and `toback NAME`
abbrev pub sizes_line : List Token → Option ShowLine
sizes_line (NumberToken a w ∷ NumberToken b h ∷ []) = Some (SizesLine w h)
sizes_line tokens = None

abbrev pub scene_line : List Token → Option ShowLine
scene_line (NameToken name ∷ NumberToken a top ∷ []) = Some (SceneLine name top)
scene_line tokens = None

abbrev pub drag_line : List Token → Option ShowLine
drag_line (NameToken name ∷ NumberToken a dy ∷ []) = Some (ActLine name (DraggedBy dy))
drag_line tokens = None

abbrev pub put_line : Deed → List Token → Option ShowLine
put_line deed (NameToken name ∷ []) = Some (ActLine name deed)
put_line deed tokens = None

abbrev pub show_line_by : ShowVerb → List Token → Option ShowLine
show_line_by Display tokens = sizes_line tokens
show_line_by Scene tokens = scene_line tokens
show_line_by Drag tokens = drag_line tokens
show_line_by ToFront tokens = put_line PutFirst tokens
show_line_by ToBack tokens = put_line PutLast tokens
show_line_by InScenes tokens = None

-- how many columns and rows a display has at most, how many scenes, and how many acts
abbrev pub display_limit : ℕ
display_limit = 2048

abbrev pub scene_limit : ℕ
scene_limit = 8

abbrev pub act_limit : ℕ
act_limit = 4096

-- its numbers are in their ranges: a scene's screen opens at a row of the display
abbrev pub is_deed_in_range : Deed → Bool
is_deed_in_range (DraggedBy dy) = within (negsuc 32767) dy (pos 32767)
is_deed_in_range PutFirst = true
is_deed_in_range PutLast = true

abbrev pub is_show_line_in_range : ShowInput → ShowLine → Bool
is_show_line_in_range v (SizesLine w h) = within (pos 1) w (pos display_limit) && within (pos 1) h (pos display_limit)
is_show_line_in_range v (SceneLine name top) = within (pos 0) top (pos v.height -ℤ pos 1)
is_show_line_in_range v (ActLine name deed) = is_deed_in_range deed

-- it is an act on the screen of no scene above
abbrev pub lacks_scene : ShowInput → ShowLine → Bool
lacks_scene v (SizesLine w h) = false
lacks_scene v (SceneLine name top) = false
lacks_scene v (ActLine name deed) = not (list_any (bytes_eq name) (scene_names v))

-- it gives a scene the name of one above
abbrev pub names_again : ShowInput → ShowLine → Bool
names_again v (SizesLine w h) = false
names_again v (SceneLine name top) = list_any (bytes_eq name) (scene_names v)
names_again v (ActLine name deed) = false

-- with it there are no more scenes and acts than may be
abbrev pub has_room : ShowInput → ShowLine → Bool
has_room v (SizesLine w h) = true
has_room v (SceneLine name top) = nat_lt (length v.scenes) scene_limit
has_room v (ActLine name deed) = nat_lt (length v.acts) act_limit

-- the act that does this to the screen of a number
abbrev pub act_of : Deed → ℕ → Act
act_of (DraggedBy dy) screen = DragAct screen dy
act_of PutFirst screen = ToFrontAct screen
act_of PutLast screen = ToBackAct screen
