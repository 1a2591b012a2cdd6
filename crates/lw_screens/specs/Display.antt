-- A display that shows several screens, one in front of another (the manual's Intuition Screens chapter: screens are dragged up
-- and down, and put before or behind all others; that a screen covers its own rows alone, and that none is dragged above row 0,
-- is this project's own).
use Rattle.std.specs.Prelude.{ℕ, zero, suc, ◌+◌, ◌<◌, ◌≤◌, Bool, ◌&&◌, nat_le, nat_lt, if◌then◌else◌}
use Rattle.std.specs.Prelude.{List, [], ◌∷◌, ◌++◌, length, slice_set, Option, Some, None, ℤ, pos, ◌+ℤ◌, ◌-ℤ◌, unsigned_abs}
use Rattle.std.specs.List.{All, slice_index_or}
use Rattle.std.specs.Int.{int_max, int_min}
use Rattle.lw_machine.specs.Arrangement.{without}
use Rattle.lw_screens.specs.declared.screen.Screen.{Screen}
use Rattle.lw_screens.specs.declared.act.Act.{Act}
use Rattle.lw_screens.specs.declared.act.Act.TheVariants.{Drag, ToFront, ToBack}

-- A display: how many rows it has, its screens by their numbers, and these numbers from the front to the back.
pub record Display : Type 0 where
  pub height : ℕ
  pub screens : List Screen
  pub order : List ℕ

-- the display of these parts
abbrev pub display : ℕ → List Screen → List ℕ → Display
display height screens order = record { height = height; screens = screens; order = order }

-- of these screens the one of a number; one without rows where there is none
abbrev pub screen_of : List Screen → ℕ → Screen
screen_of screens k = slice_index_or screens k (record { top = 0; height = 0 })

-- the screen has this row of the display
abbrev pub has_row : Screen → ℕ → Bool
has_row s y = nat_le s.top y && nat_lt y (s.top + s.height)

-- of the screens of these numbers the first that has the row
abbrev pub first_with : List Screen → List ℕ → ℕ → Option ℕ
first_with screens [] y = None
first_with screens (k ∷ behind) y = if has_row (screen_of screens k) y then Some k else first_with screens behind y

-- the owner of a row: the first screen that has it, from the front
abbrev pub owner_of : Display → ℕ → Option ℕ
owner_of d y = first_with d.screens d.order y

-- where a screen's top comes that is dragged by so many rows: it stays on the display
abbrev pub dragged : ℕ → ℕ → ℤ → ℕ
dragged height top dy = unsigned_abs (int_max (pos 0) (int_min (pos height -ℤ pos 1) (pos top +ℤ dy)))

-- the screen with this top
abbrev pub with_top : Screen → ℕ → Screen
with_top s top = record s { top = top }

-- the display after an act
abbrev pub after : Act → Display → Display
after (Drag k dy) d =
    let s = screen_of d.screens k in
    record d { screens = slice_set d.screens k (with_top s (dragged d.height s.top dy)) }
after (ToFront k) d = record d { order = k ∷ without k d.order }
after (ToBack k) d = record d { order = without k d.order ++ k ∷ [] }

-- the display after these acts, one after another
abbrev pub after_all : List Act → Display → Display
after_all [] d = d
after_all (act ∷ acts) d = after_all acts (after act d)

-- the number of the screen that an act is on
abbrev pub acted_on : Act → ℕ
acted_on (Drag k dy) = k
acted_on (ToFront k) = k
acted_on (ToBack k) = k

-- screens with these tops and heights
abbrev pub placed : List ℕ → List ℕ → List Screen
placed [] heights = []
placed (top ∷ tops) [] = []
placed (top ∷ tops) (height ∷ heights) = record { top = top; height = height } ∷ placed tops heights

-- the numbers of so many screens, the last one first
abbrev pub last_first : ℕ → List ℕ
last_first zero = []
last_first (suc n) = n ∷ last_first n

-- the display of so many rows on which screens with these tops and heights were opened, each in front of the earlier ones
abbrev pub opened : ℕ → List ℕ → List ℕ → Display
opened height tops heights = display height (placed tops heights) (last_first (length tops))

-- how many rows a screen may have
abbrev pub IsHigh : ℕ → Type 0
IsHigh rows = (1 ≤ rows) × (rows ≤ 2048)

-- what holds of a screen of a display of so many rows: its first row is on the display, and it has 1 to 2048 rows
pub record IsPlaced (height : ℕ) (s : Screen) : Type 0 where
  pub top : s.top < height
  pub high : IsHigh s.height

-- what holds of each display: 1 to 8 screens, each of them placed, and an order of their numbers
pub record IsDisplay (d : Display) : Type 0 where
  pub some : 1 ≤ length d.screens
  pub few : length d.screens ≤ 8
  pub placed : All (IsPlaced d.height) d.screens
  pub order : All (λ k. k < length d.screens) d.order
