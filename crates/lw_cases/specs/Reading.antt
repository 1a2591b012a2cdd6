-- Worked cases.
-- Plans that read and write single pixels, and their reports.
use Rattle.std.specs.Prelude.{ℕ, List, [], ◌∷◌, ◌++◌, pos, neg_ℤ, codes}
use Rattle.lw_calls.specs.declared.operation.RectOp.TheVariants.{Or as OrRect}
use Rattle.lw_calls.specs.declared.make.Kind.TheVariants.{Simple, Smart}
use Rattle.lw_calls.specs.declared.call.Call.TheVariants.{RegRect, Which, WritePixel, ReadPixel, Fill, SetRast, Clip, Unclip}
use Rattle.lw_calls.specs.Plan.{Plan}
use Rattle.lw_cases.specs.Plans.{text, one_task, rect, create}

-- A simple layer s and a smart layer t, two columns of each of which are covered. Of s the covered pixels can neither be read
-- nor written, of t they can be both; the clip region of t keeps off what is written and not what is read.
abbrev pub pixels_covered : Plan
pixels_covered =
    one_task 16 2 2 (codes "s" ∷ codes "t" ∷ codes "c" ∷ []) (create 0 Simple 0 0 3 0 ∷ create 1 Smart 0 1 3 1 ∷
    SetRast 0 1 ∷ SetRast 1 2 ∷ create 2 Smart 0 0 1 1 ∷ ReadPixel 0 (pos 0) (pos 0) ∷ ReadPixel 0 (pos 2) (pos 0) ∷
    ReadPixel 1 (pos 0) (pos 0) ∷ ReadPixel 1 (pos 4) (pos 0) ∷ ReadPixel 1 (neg_ℤ (pos 1)) (pos 0) ∷
    ReadPixel 1 (pos 0) (neg_ℤ (pos 1)) ∷ RegRect OrRect 0 (rect 3 0 3 0) ∷ Clip 1 0 ∷ ReadPixel 1 (pos 0) (pos 0) ∷
    WritePixel 1 (pos 0) (pos 0) ∷ WritePixel 1 (pos 3) (pos 0) ∷ Unclip 1 ∷ WritePixel 1 (pos 0) (pos 0) ∷
    ReadPixel 1 (pos 0) (pos 0) ∷ WritePixel 0 (pos 0) (pos 0) ∷ Which (neg_ℤ (pos 1)) (pos 0) ∷ [])

abbrev pub pixels_covered_report : List ℕ
pixels_covered_report =
    text (codes "order 21/0 0 0 0 0 0 0 0 0 0 0 0 0 0 0 0 0 0 0 0 0/planes 16 2 2/plane 0/3000/1000/plane 1/0000/2000/"
    ++ codes "visible s 1/2 0 3 0/visible t 1/2 1 3 1/visible c 1/0 0 1 1/damage s 0/damage t 0/damage c 0/"
    ++ codes "replies a 21/ok/ok/ok/ok/ok/outside/pen 1/pen 2/outside/outside/outside/ok/none/pen 2/outside/"
    ++ codes "ok/region 1 3 0 3 0/ok/pen 1/outside/none/done/")

-- a fill that begins left of the layer and above it
abbrev pub fill_from_outside : Plan
fill_from_outside =
    one_task 16 2 1 (codes "w" ∷ []) (create 0 Smart 4 0 7 1 ∷
    Fill 0 (record { min_x = neg_ℤ (pos 2); min_y = neg_ℤ (pos 2); max_x = pos 1; max_y = pos 0 }) ∷ [])

abbrev pub fill_from_outside_report : List ℕ
fill_from_outside_report =
    text (codes "order 2/0 0/planes 16 2 1/plane 0/0c00/0000/visible w 1/4 0 7 1/damage w 0/replies a 2/ok/ok/done/")
