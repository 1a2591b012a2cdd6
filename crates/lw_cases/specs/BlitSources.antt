-- Worked cases.
-- Plans that blit several rows, into clip regions and within updates, and their reports.
use Rattle.std.specs.Prelude.{ℕ, true, List, [], ◌∷◌, ◌++◌, pos, codes}
use Rattle.lw_planes.specs.Bitmap.{Bitmap}
use Rattle.lw_calls.specs.declared.area.Area.{Area}
use Rattle.lw_calls.specs.declared.operation.RectOp.TheVariants.{Or as OrRect}
use Rattle.lw_calls.specs.declared.make.Kind.TheVariants.{Simple, Smart}
use Rattle.lw_calls.specs.declared.call.Call.TheVariants.{RegRect, Close, Put, Blit, Clip, BeginRefresh, EndRefresh}
use Rattle.lw_calls.specs.declared.group.Hold.TheVariants.{Slot}
use Rattle.lw_calls.specs.Plan.{Plan}
use Rattle.lw_cases.specs.Plans.{text, one_task, grouped, with_bitmap, rect, create, fill, put_row}
use Rattle.lw_cases.specs.Copying.{flat_row}

-- from SX SY to X Y, W columns and H rows, by the minterm that copies
abbrev pub copied : ℕ → ℕ → ℕ → ℕ → ℕ → ℕ → Area
copied sx sy x y w h = record { sx = pos sx; sy = pos sy; x = pos x; y = pos y; w = pos w; h = pos h; minterm = 192 }

-- a bitmap of three rows
abbrev pub three_rows : Bitmap
three_rows =
    record { width = 4; height = 3; depth = 1; rows = (1 ∷ 1 ∷ 1 ∷ 1 ∷ []) ∷ (0 ∷ 1 ∷ 0 ∷ 1 ∷ []) ∷ (0 ∷ 0 ∷ 1 ∷ 1 ∷ []) ∷ [] }

-- On a layer of pen 1 the second of two bitmaps is put: its two lower rows and one below it, which is left out, and then two
-- columns of its middle row.
abbrev pub rows_put : Plan
rows_put =
    with_bitmap (codes "three") three_rows
    (with_bitmap (codes "flat") flat_row
    (one_task 16 4 1 (codes "w" ∷ []) (create 0 Smart 0 0 7 3 ∷ fill 0 0 0 7 3 ∷ Put 1 0 (copied 1 1 2 0 3 3) ∷
    Put 1 0 (copied 0 1 0 2 2 1) ∷ [])))

abbrev pub rows_put_report : List ℕ
rows_put_report =
    text (codes "order 4/0 0 0 0/planes 16 4 1/plane 0/ef00/df00/7f00/ff00/visible w 1/0 0 7 3/damage w 0/"
    ++ codes "replies a 4/ok/ok/ok/ok/done/")

-- A simple layer s, whose columns 6 and 7 are covered, has pen 0 in the columns 0 to 3 of its second row, and its clip region
-- begins at column 2. This row is copied to the first one of a layer of pen 1, the clip region of which has its columns 1 to 6.
abbrev pub blit_into_clip : Plan
blit_into_clip =
    one_task 16 4 1 (codes "s" ∷ codes "t" ∷ codes "c" ∷ []) (create 0 Simple 0 0 7 1 ∷ create 1 Simple 0 2 7 3 ∷
    create 2 Smart 6 0 7 1 ∷ fill 0 0 0 7 0 ∷ fill 0 4 1 5 1 ∷ fill 1 0 0 7 1 ∷ RegRect OrRect 0 (rect 2 0 7 1) ∷
    Clip 0 0 ∷ RegRect OrRect 1 (rect 1 0 6 1) ∷ Clip 1 1 ∷ Blit 0 1 (copied 0 1 0 0 8 1) ∷ [])

abbrev pub blit_into_clip_report : List ℕ
blit_into_clip_report =
    text (codes "order 11/0 0 0 0 0 0 0 0 0 0 0/planes 16 4 1/plane 0/fc00/0c00/8f00/ff00/visible s 1/0 0 5 1/"
    ++ codes "visible t 1/0 2 7 3/visible c 1/6 0 7 1/"
    ++ codes "damage s 0/damage t 0/damage c 0/replies a 11/ok/ok/ok/ok/ok/ok/ok/none/ok/none/ok/done/")

-- A layer whose columns from 4 on are damaged, and whose columns up to 6 are in its clip region. Within an update its first
-- row, of pen 1, is copied to its second one, two columns further right, and so from pixels that aren't drawable too. Then a
-- bitmap is put into the first row, and once more inverted.
abbrev pub updated_blits : Plan
updated_blits =
    with_bitmap (codes "flat") flat_row
    (grouped (one_task 16 2 1 (codes "w" ∷ codes "c" ∷ []) (create 0 Simple 0 0 7 1 ∷ create 1 Smart 4 0 7 1 ∷ Close 1 ∷
    fill 0 0 0 7 0 ∷ RegRect OrRect 0 (rect 0 0 6 1) ∷ Clip 0 0 ∷ BeginRefresh 0 ∷ Blit 0 0 (copied 0 0 2 1 6 1) ∷
    put_row (pos 0) 0 2 4 192 ∷ put_row (pos 0) 0 6 2 48 ∷ EndRefresh 0 true ∷ [])) (record {
      first = 6;
      last = 10;
      hold = Slot 0;
    }))

abbrev pub updated_blits_report : List ℕ
updated_blits_report =
    text (codes "order 11/0 0 0 0 0 0 0 0 0 0 0/planes 16 2 1/plane 0/f700/0e00/visible w 1/0 0 7 1/damage w 0/"
    ++ codes "replies a 11/ok/ok/ok/ok/ok/none/ok/ok/ok/ok/ok/done/")
