-- Worked cases.
-- A plan that scrolls rectangles of a layer with a clip region, and its report.
use Rattle.std.specs.Prelude.{ℕ, List, [], ◌∷◌, ◌++◌, pos, neg_ℤ, codes}
use Rattle.lw_calls.specs.declared.operation.RectOp.TheVariants.{Or as OrRect}
use Rattle.lw_calls.specs.declared.make.Kind.TheVariants.{Simple, Smart}
use Rattle.lw_calls.specs.declared.call.Call.TheVariants.{RegRect, Close, SetA, SetB, WritePixel, ScrollRaster, Clip}
use Rattle.lw_calls.specs.Plan.{Plan}
use Rattle.lw_cases.specs.Plans.{text, one_task, rect, create, fill, scroll_left}

-- A simple layer of twelve columns, of which 4 and 5 are covered and 10 was covered and so is damaged, with pen 3 in the
-- columns 8 and 10, pen 1 in all others, and pen B 2. All but column 8 is in its clip region. Scrolled one column to the left
-- are the columns 2 to 9, and then 10 to 14, which pass its right edge; column 2 is scrolled up from below the layer, and the
-- columns -3 to 1 are scrolled to the right.
abbrev pub scroll_in_clip : Plan
scroll_in_clip =
    one_task 16 1 2 (codes "s" ∷ codes "c" ∷ codes "d" ∷ []) (create 0 Simple 0 0 11 0 ∷ create 1 Smart 4 0 5 0 ∷
    create 2 Smart 10 0 10 0 ∷ Close 2 ∷ fill 0 0 0 11 0 ∷ SetA 0 3 ∷ WritePixel 0 (pos 8) (pos 0) ∷
    WritePixel 0 (pos 10) (pos 0) ∷ SetB 0 2 ∷ RegRect OrRect 0 (rect 0 0 7 0) ∷ RegRect OrRect 0 (rect 9 0 11 0) ∷
    Clip 0 0 ∷ scroll_left 0 1 2 0 9 0 ∷ scroll_left 0 1 10 0 14 0 ∷ ScrollRaster 0 (pos 0) (pos 1) (rect 2 0 2 3) ∷
    ScrollRaster 0 (neg_ℤ (pos 1)) (pos 0) (record {
      min_x = neg_ℤ (pos 3);
      min_y = pos 0;
      max_x = pos 1;
      max_y = pos 0;
    }) ∷ [])

abbrev pub scroll_in_clip_report : List ℕ
scroll_in_clip_report =
    text (codes "order 16/0 0 0 0 0 0 0 0 0 0 0 0 0 0 0 0/planes 16 1 2/plane 0/43a0/plane 1/a1d0/visible s 2/"
    ++ codes "0 0 3 0/6 0 11 0/visible c 1/4 0 5 0/" ++ codes "damage s 1/3 0 3 0/damage c 0/replies a 16/"
    ++ codes "ok/ok/ok/ok/ok/ok/ok/ok/ok/ok/ok/none/ok/ok/ok/ok/done/")
