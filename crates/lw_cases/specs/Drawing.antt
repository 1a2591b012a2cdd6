-- Worked cases.
-- Plans that draw, and their reports.
use Rattle.std.specs.Prelude.{ℕ, List, [], ◌∷◌, ◌++◌, pos, codes}
use Rattle.lw_calls.specs.declared.make.Kind.TheVariants.{Smart}
use Rattle.lw_calls.specs.declared.call.Call.TheVariants.{SetMode, At, WritePixel, DrawTo, Letters}
use Rattle.lw_calls.specs.Plan.{Plan}
use Rattle.lw_cases.specs.Plans.{text, one_task, further, with_glyph, create, fill, blit_row}

-- a fill within a small layer
abbrev pub first_fill : Plan
first_fill = one_task 16 4 1 (codes "w" ∷ []) (create 0 Smart 0 0 7 3 ∷ fill 0 1 1 2 2 ∷ [])

abbrev pub first_fill_report : List ℕ
first_fill_report =
    text (codes "order 2/0 0/planes 16 4 1/plane 0/0000/6000/6000/0000/visible w 1/0 0 7 3/damage w 0/replies a 2/ok/ok/done/")

-- a layer as wide as a screen of 17 columns, filled whole
abbrev pub padded_row : Plan
padded_row = one_task 17 1 1 (codes "w" ∷ []) (create 0 Smart 0 0 16 0 ∷ fill 0 0 0 16 0 ∷ [])

abbrev pub padded_row_report : List ℕ
padded_row_report =
    text (codes "order 2/0 0/planes 17 1 1/plane 0/ffff8000/visible w 1/0 0 16 0/damage w 0/replies a 2/ok/ok/done/")

-- a fill right of the layer
abbrev pub fill_outside : Plan
fill_outside = one_task 16 4 1 (codes "w" ∷ []) (create 0 Smart 0 0 7 3 ∷ fill 0 8 0 9 1 ∷ [])

abbrev pub fill_outside_report : List ℕ
fill_outside_report =
    text (codes "order 2/0 0/planes 16 4 1/plane 0/0000/0000/0000/0000/visible w 1/0 0 7 3/damage w 0/replies a 2/ok/ok/done/")

-- a line of two steps to the right and one down
abbrev pub line_drawn : Plan
line_drawn =
    one_task 16 2 1 (codes "w" ∷ []) (create 0 Smart 0 0 15 1 ∷ At 0 (pos 0) (pos 0) ∷ DrawTo 0 (pos 2) (pos 1) ∷ [])

abbrev pub line_drawn_report : List ℕ
line_drawn_report =
    text (codes "order 3/0 0 0/planes 16 2 1/plane 0/8000/6000/visible w 1/0 0 15 1/damage w 0/replies a 3/ok/ok/ok/done/")

-- the line back from its end, in the mode COMPLEMENT: it takes the pixel (1, 0), where the first line took (1, 1)
abbrev pub line_complemented : Plan
line_complemented = further line_drawn (SetMode 0 2 ∷ At 0 (pos 2) (pos 1) ∷ DrawTo 0 (pos 0) (pos 0) ∷ [])

abbrev pub line_complemented_report : List ℕ
line_complemented_report =
    text (codes "order 6/0 0 0 0 0 0/planes 16 2 1/plane 0/4000/4000/visible w 1/0 0 15 1/damage w 0/"
    ++ codes "replies a 6/ok/ok/ok/ok/ok/ok/done/")

-- the same once more
abbrev pub line_complemented_twice : Plan
line_complemented_twice = further line_complemented (At 0 (pos 2) (pos 1) ∷ DrawTo 0 (pos 0) (pos 0) ∷ [])

abbrev pub line_complemented_twice_report : List ℕ
line_complemented_twice_report =
    text (codes "order 8/0 0 0 0 0 0 0 0/planes 16 2 1/plane 0/8000/6000/visible w 1/0 0 15 1/damage w 0/"
    ++ codes "replies a 8/ok/ok/ok/ok/ok/ok/ok/ok/done/")

-- the letter A in the mode JAM2, and beside it once more in the mode JAM2 with INVERSVID
abbrev pub inverse_text : Plan
inverse_text =
    with_glyph 65 (24 ∷ 60 ∷ 102 ∷ 102 ∷ 126 ∷ 102 ∷ 102 ∷ 0 ∷ [])
    (one_task 16 8 1 (codes "w" ∷ []) (create 0 Smart 0 0 15 7 ∷ At 0 (pos 0) (pos 6) ∷ Letters 0 (codes "A") ∷
    SetMode 0 5 ∷ Letters 0 (codes "A") ∷ []))

abbrev pub inverse_text_report : List ℕ
inverse_text_report =
    text (codes "order 5/0 0 0 0 0/planes 16 8 1/plane 0/18e7/3cc3/6699/6699/7e81/6699/6699/00ff/"
    ++ codes "visible w 1/0 0 15 7/damage w 0/replies a 5/ok/ok/ok/ok/ok/done/")

-- a row that is blitted onto itself one column further right
abbrev pub blit_right : Plan
blit_right =
    one_task 16 1 1 (codes "w" ∷ []) (create 0 Smart 0 0 7 0 ∷ fill 0 0 0 1 0 ∷ WritePixel 0 (pos 3) (pos 0) ∷
    blit_row 0 0 1 7 192 ∷ [])

abbrev pub blit_right_report : List ℕ
blit_right_report =
    text (codes "order 4/0 0 0 0/planes 16 1 1/plane 0/e800/visible w 1/0 0 7 0/damage w 0/replies a 4/ok/ok/ok/ok/done/")

-- and back, one column further left
abbrev pub blit_left : Plan
blit_left = further blit_right (blit_row 0 1 0 7 192 ∷ [])

abbrev pub blit_left_report : List ℕ
blit_left_report =
    text (codes "order 5/0 0 0 0 0/planes 16 1 1/plane 0/d000/visible w 1/0 0 7 0/damage w 0/replies a 5/ok/ok/ok/ok/ok/done/")

-- and onto itself, by the minterm of what differs
abbrev pub blit_away : Plan
blit_away = further blit_left (blit_row 0 0 0 8 96 ∷ [])

abbrev pub blit_away_report : List ℕ
blit_away_report =
    text (codes "order 6/0 0 0 0 0 0/planes 16 1 1/plane 0/0000/visible w 1/0 0 7 0/damage w 0/"
    ++ codes "replies a 6/ok/ok/ok/ok/ok/ok/done/")
