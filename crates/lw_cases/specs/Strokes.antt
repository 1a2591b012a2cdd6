-- Worked cases.
-- Plans that draw lines and letters from the cursor, and their reports.
use Rattle.std.specs.Prelude.{ℕ, true, List, [], ◌∷◌, ◌++◌, pos, neg_ℤ, codes}
use Rattle.lw_calls.specs.declared.operation.RectOp.TheVariants.{Or as OrRect}
use Rattle.lw_calls.specs.declared.make.Kind.TheVariants.{Simple, Smart}
use Rattle.lw_calls.specs.declared.call.Call.TheVariants.{RegRect, Close, At, DrawTo, Letters, SetRast, Clip, BeginRefresh}
use Rattle.lw_calls.specs.declared.call.Call.TheVariants.{EndRefresh}
use Rattle.lw_calls.specs.declared.group.Hold.TheVariants.{Slot}
use Rattle.lw_calls.specs.Plan.{Plan}
use Rattle.lw_cases.specs.Plans.{text, one_task, grouped, with_glyph, rect, create}
use Rattle.lw_cases.specs.Modes.{with_low_letter}
use Rattle.lw_cases.specs.Directions.{line}

-- a line by 1 column and 2 rows, which has a pixel in each row, and one by 2 columns and 1 row, which has one in each column
abbrev pub lines_by_one_more : Plan
lines_by_one_more =
    one_task 16 3 1 (codes "w" ∷ []) (create 0 Smart 0 0 15 2 ∷ line 0 0 1 2 (line 4 0 6 1 []))

abbrev pub lines_by_one_more_report : List ℕ
lines_by_one_more_report =
    text (codes "order 5/0 0 0 0 0/planes 16 3 1/plane 0/8800/4600/4000/visible w 1/0 0 15 2/damage w 0/"
    ++ codes "replies a 5/ok/ok/ok/ok/ok/done/")

-- two letters left of the layer, and then one, whose cell begins in the layer's first column
abbrev pub letters_moved : Plan
letters_moved =
    with_low_letter (one_task 16 2 1 (codes "w" ∷ []) (create 0 Smart 0 0 15 1 ∷ At 0 (neg_ℤ (pos 16)) (pos 0) ∷
    Letters 0 (codes "AA") ∷ Letters 0 (codes "A") ∷ []))

abbrev pub letters_moved_report : List ℕ
letters_moved_report =
    text (codes "order 4/0 0 0 0/planes 16 2 1/plane 0/cc00/0f00/visible w 1/0 0 15 1/damage w 0/replies a 4/ok/ok/ok/ok/done/")

-- The code 0x1f on pen 1, and beside it the code 0x20, which has a glyph of two rows at its bottom, 11001100 and 00001111. (No
-- script spells the first one.)
abbrev pub code_below_blank : Plan
code_below_blank =
    with_glyph 32 (0 ∷ 0 ∷ 0 ∷ 0 ∷ 0 ∷ 0 ∷ 204 ∷ 15 ∷ []) (one_task 16 2 1 (codes "w" ∷ []) (create 0 Smart 0 0 15 1 ∷
    SetRast 0 1 ∷ Letters 0 (31 ∷ 32 ∷ []) ∷ []))

abbrev pub code_below_blank_report : List ℕ
code_below_blank_report =
    text (codes "order 3/0 0 0/planes 16 2 1/plane 0/00cc/000f/visible w 1/0 0 15 1/damage w 0/replies a 3/ok/ok/ok/done/")

-- A layer of which the columns from 4 on are damaged and those up to 9 are in the clip region: two letters and a line all over
-- it within an update.
abbrev pub updated_strokes : Plan
updated_strokes =
    grouped (with_low_letter (one_task 16 3 1 (codes "w" ∷ codes "c" ∷ []) (create 0 Simple 0 0 15 2 ∷
    create 1 Smart 4 0 15 2 ∷ Close 1 ∷ RegRect OrRect 0 (rect 0 0 9 2) ∷ Clip 0 0 ∷ BeginRefresh 0 ∷
    At 0 (pos 0) (pos 0) ∷ Letters 0 (codes "AA") ∷ At 0 (pos 0) (pos 2) ∷ DrawTo 0 (pos 15) (pos 2) ∷
    EndRefresh 0 true ∷ []))) (record { first = 5; last = 10; hold = Slot 0 })

abbrev pub updated_strokes_report : List ℕ
updated_strokes_report =
    text (codes "order 11/0 0 0 0 0 0 0 0 0 0 0/planes 16 3 1/plane 0/0cc0/0f00/0fc0/visible w 1/0 0 15 2/damage w 0/"
    ++ codes "replies a 11/ok/ok/ok/ok/none/ok/ok/ok/ok/ok/ok/done/")

-- a line of no length
abbrev pub line_of_no_length : Plan
line_of_no_length = one_task 16 1 1 (codes "w" ∷ []) (create 0 Smart 0 0 7 0 ∷ At 0 (pos 2) (pos 0) ∷
    DrawTo 0 (pos 2) (pos 0) ∷ [])

abbrev pub line_of_no_length_report : List ℕ
line_of_no_length_report =
    text (codes "order 3/0 0 0/planes 16 1 1/plane 0/2000/visible w 1/0 0 7 0/damage w 0/replies a 3/ok/ok/ok/done/")
