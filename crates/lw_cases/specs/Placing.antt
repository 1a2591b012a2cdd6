-- Worked cases.
-- Plans that give layers their places, and their reports.
use Rattle.std.specs.Prelude.{ℕ, true, false, List, [], ◌∷◌, ◌++◌, pos, neg_ℤ, Some, codes}
use Rattle.lw_calls.specs.declared.make.Kind.TheVariants.{Simple, Smart}
use Rattle.lw_calls.specs.declared.make.Place.TheVariants.{Behind}
use Rattle.lw_calls.specs.declared.call.Call.TheVariants.{Create, OpenWindow, ToFront, MoveBy, SizeBy, SetBox, Activate}
use Rattle.lw_calls.specs.declared.call.Call.TheVariants.{SetRast, SetMask, Clip}
use Rattle.lw_calls.specs.Plan.{Plan}
use Rattle.lw_cases.specs.Plans.{text, one_task, with_hooks, six_hooks, box, layer, create, create_hooked, open_window, fill}

-- The first of three layers is moved one column to the right and two rows down, the second gets one row more, and the third a
-- box with another corner and one more row and column. Then the first is to go one row above the screen and one row below
-- it, the second is to have no row, and three too many, and the third is to get boxes, and a fourth to be created, with a row
-- above the screen and with one below it.
abbrev pub placed_by_rows : Plan
placed_by_rows =
    one_task 16 4 1 (codes "a" ∷ codes "b" ∷ codes "c" ∷ codes "d" ∷ []) (create 0 Smart 0 0 1 0 ∷ fill 0 0 0 0 0 ∷
    MoveBy 0 (pos 1) (pos 2) ∷ create 1 Smart 4 0 5 0 ∷ SizeBy 1 (pos 0) (pos 1) ∷ create 2 Smart 8 1 9 1 ∷
    SetBox 2 (pos 10) (pos 2) (pos 3) (pos 2) ∷ MoveBy 0 (pos 0) (neg_ℤ (pos 3)) ∷ MoveBy 0 (pos 0) (pos 2) ∷
    SizeBy 1 (pos 0) (neg_ℤ (pos 2)) ∷ SizeBy 1 (pos 0) (pos 3) ∷ SetBox 2 (pos 10) (neg_ℤ (pos 1)) (pos 3) (pos 2) ∷
    SetBox 2 (pos 10) (pos 3) (pos 3) (pos 2) ∷ Create 3 (record (layer Smart 0 0 1 1) { y = neg_ℤ (pos 1) }) ∷
    create 3 Smart 0 3 1 4 ∷ [])

abbrev pub placed_by_rows_report : List ℕ
placed_by_rows_report =
    text (codes "order 15/0 0 0 0 0 0 0 0 0 0 0 0 0 0 0/planes 16 4 1/plane 0/0000/0000/4000/0000/visible a 1/"
    ++ codes "1 2 2 2/visible b 1/4 0 5 1/visible c 1/10 2 12 3/"
    ++ codes "damage a 0/damage b 1/0 1 1 1/damage c 2/2 0 2 0/0 1 2 1/"
    ++ codes "replies a 15/ok/ok/ok/ok/ok/ok/ok/out-of-bounds/out-of-bounds/out-of-bounds/out-of-bounds/"
    ++ codes "out-of-bounds/out-of-bounds/out-of-bounds/out-of-bounds/done/")

-- A window, another one behind it with a hook, and a third one among the backdrop layers, which is made active and can't be
-- put in front.
abbrev pub windows_opened : Plan
windows_opened =
    with_hooks six_hooks
    (one_task 16 1 1 (codes "u" ∷ codes "v" ∷ codes "d" ∷ []) (open_window 0 Smart 0 0 4 1 false 0 [] ∷
    OpenWindow 1 (record (box Smart 2 0 4 1) { place = Behind; hook = Some 0 }) false false 0 [] ∷
    OpenWindow 2 (record (box Smart 4 0 4 1) { backdrop = true }) false false 8 [] ∷ Activate 2 ∷ ToFront 2 ∷ []))

abbrev pub windows_opened_report : List ℕ
windows_opened_report =
    text (codes "order 5/0 0 0 0 0/planes 16 1 1/plane 0/0c00/visible u 1/0 0 3 0/visible v 1/4 0 5 0/"
    ++ codes "visible d 1/6 0 7 0/damage u 0/damage v 0/damage d 0/"
    ++ codes "messages u 0/messages v 0/messages d 1/active/replies a 5/ok/ok/ok/ok/backdrop/done/")

-- A simple layer with a hook of pen 1 is set to pen 0, gets an empty clip region and a mask of no planes, and is made two
-- columns wider.
abbrev pub widened_in_clip : Plan
widened_in_clip =
    with_hooks six_hooks
    (one_task 16 1 1 (codes "w" ∷ []) (create_hooked 0 Simple 0 0 3 0 0 ∷ SetRast 0 0 ∷ Clip 0 0 ∷ SetMask 0 0 ∷
    SizeBy 0 (pos 2) (pos 0) ∷ []))

abbrev pub widened_in_clip_report : List ℕ
widened_in_clip_report =
    text (codes "order 5/0 0 0 0 0/planes 16 1 1/plane 0/0c00/visible w 1/0 0 5 0/damage w 1/4 0 5 0/"
    ++ codes "replies a 5/ok/ok/none/ok/ok/done/")
