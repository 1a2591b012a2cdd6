-- What a list of changed rectangles notes of a desk.
use Rattle.std.specs.Prelude.{◌≡◌, ℕ, ◌<◌, true, false, List, All, ℤ, pos}
use Rattle.lw_region.specs.Rectangle.{Rectangle, IsOrdered, has_pixel}
use Rattle.lw_region.specs.Bands.{covers}
use Rattle.lw_planes.specs.Bitmap.{pen_at}
use Rattle.lw_calls.specs.declared.sizes.Sizes.{Sizes}
use Rattle.lw_calls.specs.declared.call.Call.{Call}
use Rattle.lw_machine.specs.Desk.{Desk}
use Rattle.lw_machine.specs.Screen.{screen, screen_bounds}
use Rattle.lw_machine.specs.Step.{after}
use Rattle.lw_changes.specs.Changed.{has_all}
use Rattle.lw_program_desk.specs.Views.{DeskView, StandsFor}

-- For private contracts: each place of a screen that the new list leaves out, the old one left out, and these rectangles don't
-- cover it.
abbrev pub AreNoted : Sizes → List Rectangle → List Rectangle → List Rectangle → Type 0
AreNoted sizes rects old new =
    (x y : ℤ) → has_pixel (screen_bounds sizes) x y ≡ true → covers new x y ≡ false
    → (covers old x y ≡ false) × (covers rects x y ≡ false)

-- For private contracts: the rectangles of a list are ordered and lie on the screen, and where those of the old list do, those of
-- the new one do.
pub record AreOnScreen (sizes : Sizes) (list : List Rectangle) : Type 0 where
  pub inside : has_all (screen_bounds sizes) list ≡ true
  pub ordered : All IsOrdered list

abbrev pub StayOn : Sizes → List Rectangle → List Rectangle → Type 0
StayOn sizes old new = AreOnScreen sizes old → AreOnScreen sizes new

-- Each pixel of the screen that the new list leaves out, the old one left out, and it shows on the desk e the pen that it shows
-- on the desk d.
abbrev pub RestIsTheSame : Sizes → List Rectangle → List Rectangle → Desk → Desk → Type 0
RestIsTheSame sizes old new d e =
    (x y : ℕ) → x < sizes.width → y < sizes.height → covers new (pos x) (pos y) ≡ false
    → (covers old (pos x) (pos y) ≡ false) × (pen_at (screen e) x y ≡ pen_at (screen d) x y)

-- The new list notes what the call changed: so it is with each machine's desk for which the old desk stands, and that desk after
-- the call.
abbrev pub IsNoted : DeskView → Call → DeskView → Type 0
IsNoted old call new =
    (d : Desk) → StandsFor old d → RestIsTheSame old.sizes old.changes new.changes d (after d 0 call)
