-- What a show writes: the text of its display after all acts.
use Rattle.std.specs.Prelude.{ℕ, List, [], map}
use Rattle.lw_planes.specs.Bitmap.{Bitmap}
use Rattle.lw_machine.specs.Finals.{run_final}
use Rattle.lw_screens.specs.Display.{Display, opened, after_all}
use Rattle.lw_screens.specs.Text.{display_text}
use Rattle.lw_display.specs.Shows.{SceneInput, ShowInput, scene_names}

-- a scene's screen: that of the machine's run of its script's plan in its order, without hooks
abbrev pub screen_shown : SceneInput → Bitmap
screen_shown s = (run_final s.script.plan [] s.script.order).planes

-- the display on which the scenes' screens were opened, each in front of the earlier ones
abbrev pub display_opened : ShowInput → Display
display_opened v =
    opened v.height (map (λ (s : SceneInput). s.top) v.scenes) (map (λ (s : SceneInput). s.script.plan.sizes.height) v.scenes)

-- The text of a show.
unfoldable pub show_text : ShowInput → List ℕ
show_text v = display_text v.width (scene_names v) (after_all v.acts (display_opened v)) (map screen_shown v.scenes)
