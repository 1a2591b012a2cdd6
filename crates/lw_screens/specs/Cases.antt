-- Displays of two screens, and their texts, for worked cases.
use Rattle.std.specs.Prelude.{ℕ, ◌==◌, if◌then◌else◌, List, [], ◌∷◌, ◌++◌, map, codes}
use Rattle.lw_planes.specs.Bitmap.{Bitmap, bitmap}
use Rattle.lw_screens.specs.Display.{Display, opened}
use Rattle.lw_screens.specs.Text.{display_text}

-- A text of lines. Each line feed is written as a stroke, which stands in no text here.
abbrev pub text : List ℕ → List ℕ
text lines = map (λ b. if b == 47 then 10 else b) lines

-- the names of both screens
abbrev pub two_names : List (List ℕ)
two_names = codes "a" ∷ codes "b" ∷ []

-- A screen of 4 rows of 16 pixels with pen 1 at the columns 1 and 2 of the rows 1 and 2. Before it, from row 2 on, one of 2 rows
-- with pen 1 all over. The display has 4 rows.
abbrev blank_row : List ℕ
blank_row = 0 ∷ 0 ∷ 0 ∷ 0 ∷ 0 ∷ 0 ∷ 0 ∷ 0 ∷ 0 ∷ 0 ∷ 0 ∷ 0 ∷ 0 ∷ 0 ∷ 0 ∷ 0 ∷ []

abbrev marked_row : List ℕ
marked_row = 0 ∷ 1 ∷ 1 ∷ 0 ∷ 0 ∷ 0 ∷ 0 ∷ 0 ∷ 0 ∷ 0 ∷ 0 ∷ 0 ∷ 0 ∷ 0 ∷ 0 ∷ 0 ∷ []

abbrev pub two_bitmaps : List Bitmap
two_bitmaps =
    record { width = 16; height = 4; depth = 1; rows = blank_row ∷ marked_row ∷ marked_row ∷ blank_row ∷ [] }
    ∷ bitmap 16 2 1 (λ _ _. 1) ∷ []

abbrev pub two_screens : Display
two_screens = opened 4 (0 ∷ 2 ∷ []) (4 ∷ 2 ∷ [])

-- its text as it is opened, or after acts
abbrev pub two_screens_text : Display → List ℕ
two_screens_text d = display_text 16 two_names d two_bitmaps

-- as it is opened; the later screen dragged down by a row; that screen put behind
abbrev pub two_opened : List ℕ
two_opened = text (codes "display 16 4 2/rows 0 1 a 0/rows 2 3 b 0/planes 16 4 1/plane 0/0000/6000/ffff/ffff/done/")

abbrev pub two_dragged : List ℕ
two_dragged = text (codes "display 16 4 2/rows 0 2 a 0/rows 3 3 b 0/planes 16 4 1/plane 0/0000/6000/6000/ffff/done/")

abbrev pub two_behind : List ℕ
two_behind = text (codes "display 16 4 1/rows 0 3 a 0/planes 16 4 1/plane 0/0000/6000/6000/0000/done/")

-- A display of 5 rows of 8 pixels. At row 1 a screen of 2 rows of 4 pixels of pen 1, of one plane. Before it, from row 3 on, one
-- of 3 rows of 8 pixels of pen 2, of two planes.
abbrev pub small_screens : Display
small_screens = opened 5 (1 ∷ 3 ∷ []) (2 ∷ 3 ∷ [])

abbrev pub small_screens_text : Display → List ℕ
small_screens_text d = display_text 8 two_names d (bitmap 4 2 1 (λ _ _. 1) ∷ bitmap 8 3 2 (λ _ _. 2) ∷ [])

-- as it is opened; the later screen dragged up by a row, and then put behind; that screen dragged up by two rows, so that it
-- hides the other one, and then the other one put before it
abbrev pub small_opened : List ℕ
small_opened =
    text (codes "display 8 5 3/rows 0 0 blank/rows 1 2 a 0/rows 3 4 b 0/planes 8 5 2/"
    ++ codes "plane 0/0000/f000/f000/0000/0000/plane 1/0000/0000/0000/ff00/ff00/done/")

abbrev pub small_dragged : List ℕ
small_dragged =
    text (codes "display 8 5 3/rows 0 0 blank/rows 1 1 a 0/rows 2 4 b 0/planes 8 5 2/"
    ++ codes "plane 0/0000/f000/0000/0000/0000/plane 1/0000/0000/ff00/ff00/ff00/done/")

abbrev pub small_behind : List ℕ
small_behind =
    text (codes "display 8 5 3/rows 0 0 blank/rows 1 2 a 0/rows 3 4 b 1/planes 8 5 2/"
    ++ codes "plane 0/0000/f000/f000/0000/0000/plane 1/0000/0000/0000/ff00/ff00/done/")

abbrev pub small_hidden : List ℕ
small_hidden =
    text (codes "display 8 5 3/rows 0 0 blank/rows 1 3 b 0/rows 4 4 blank/planes 8 5 2/"
    ++ codes "plane 0/0000/0000/0000/0000/0000/plane 1/0000/ff00/ff00/ff00/0000/done/")

abbrev pub small_before : List ℕ
small_before =
    text (codes "display 8 5 4/rows 0 0 blank/rows 1 2 a 0/rows 3 3 b 2/rows 4 4 blank/planes 8 5 2/"
    ++ codes "plane 0/0000/f000/f000/0000/0000/plane 1/0000/0000/0000/ff00/0000/done/")
