-- What C reads of where the screen changed.
use Rattle.std.specs.Prelude.{◌≡◌, ℕ, ◌≤◌, true, List, [], All, length, ℤ, Option, Some, None}
use Rattle.lw_region.specs.Rectangle.{IsOrdered}
use Rattle.lw_machine.specs.Screen.{screen_bounds}
use Rattle.lw_changes.specs.Changed.{has_all}
use Rattle.lw_program_desk.specs.Views.{DeskView, with_changes}
use Rattle.lw_program_desk.specs.Standing.{StandsStill}
use Rattle.lw_c_rectangles.specs.declared.bounds.Bounds.{Bounds}
use Rattle.lw_c_rectangles.specs.Bounds.{bounds_of}
use Rattle.lw_c_desk.specs.Answered.{done}
use Rattle.lw_c_desk.specs.Read.{IsNotRead, AreSame, IsListed}

-- The list is written as any other is. It has at most 16 rectangles, so that room for 16 is always enough; they are ordered and
-- lie on the screen. Where all was done it's empty afterwards, and else as before; nothing else of the desk changes, and so it
-- stands for what it stood for.
pub record AreTaken (v : DeskView) (new : Option DeskView) (old_out new_out : List Bounds) (count : ℕ) (answer : ℤ) : Type 0 where
  pub listed : IsListed bounds_of v.changes old_out new_out count answer
  pub few : length v.changes ≤ 16
  pub on_screen : has_all (screen_bounds v.sizes) v.changes ≡ true
  pub ordered : All IsOrdered v.changes
  pub emptied : answer ≡ done → new ≡ Some (with_changes v [])
  pub kept : (answer ≡ done → ⊥) → new ≡ Some v
  pub desk : StandsStill v (with_changes v [])

-- what reading it leaves of a handle
abbrev pub AreTakenIfAny : Option DeskView → Option DeskView → List Bounds → List Bounds → ℕ → ℕ → ℤ → Type 0
AreTakenIfAny None new old_out new_out old_count new_count answer =
    IsNotRead (AreSame old_out new_out old_count new_count) new answer
AreTakenIfAny (Some v) new old_out new_out old_count new_count answer = AreTaken v new old_out new_out new_count answer
