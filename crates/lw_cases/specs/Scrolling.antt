-- Worked cases.
-- Plans that scroll, and their reports.
use Rattle.std.specs.Prelude.{ℕ, true, false, List, [], ◌∷◌, ◌++◌, pos, neg_ℤ, codes}
use Rattle.lw_calls.specs.declared.make.Kind.TheVariants.{Simple, Smart, SuperBitmap}
use Rattle.lw_calls.specs.declared.call.Call.TheVariants.{Create, Close, SetA, SetB, SetMask, WritePixel, ReadPixel}
use Rattle.lw_calls.specs.declared.call.Call.TheVariants.{ScrollRaster, BeginRefresh, EndRefresh, Scroll}
use Rattle.lw_calls.specs.declared.group.Hold.TheVariants.{Slot}
use Rattle.lw_calls.specs.Plan.{Plan}
use Rattle.lw_cases.specs.Plans.{text, one_task, further, grouped, rect, layer, create, open_window, fill, scroll_left}

-- a rectangle that is scrolled farther than it is wide
abbrev pub scroll_past_all : Plan
scroll_past_all = one_task 16 1 1 (codes "w" ∷ []) (create 0 Smart 0 0 7 0 ∷ SetB 0 1 ∷ scroll_left 0 9 0 0 7 0 ∷ [])

abbrev pub scroll_past_all_report : List ℕ
scroll_past_all_report =
    text (codes "order 3/0 0 0/planes 16 1 1/plane 0/ff00/visible w 1/0 0 7 0/damage w 0/replies a 3/ok/ok/ok/done/")

-- a simple layer that is scrolled while another covers two of its columns
abbrev pub scroll_under_cover : Plan
scroll_under_cover =
    one_task 16 1 1 (codes "s" ∷ codes "c" ∷ []) (create 0 Simple 0 0 7 0 ∷ create 1 Smart 3 0 4 0 ∷ fill 0 0 0 7 0 ∷
    scroll_left 0 1 0 0 7 0 ∷ [])

abbrev pub scroll_under_cover_report : List ℕ
scroll_under_cover_report =
    text (codes "order 4/0 0 0 0/planes 16 1 1/plane 0/c600/visible s 2/0 0 2 0/5 0 7 0/visible c 1/3 0 4 0/"
    ++ codes "damage s 1/2 0 2 0/damage c 0/replies a 4/ok/ok/ok/ok/done/")

-- and then uncovered
abbrev pub scroll_uncovered : Plan
scroll_uncovered = further scroll_under_cover (Close 1 ∷ [])

abbrev pub scroll_uncovered_report : List ℕ
scroll_uncovered_report =
    text (codes "order 5/0 0 0 0 0/planes 16 1 1/plane 0/c600/visible s 1/0 0 7 0/damage s 1/2 0 4 0/"
    ++ codes "replies a 5/ok/ok/ok/ok/ok/done/")

-- and then scrolled once more: its damage moves with its pens
abbrev pub scroll_damage : Plan
scroll_damage = further scroll_uncovered (scroll_left 0 1 0 0 7 0 ∷ [])

abbrev pub scroll_damage_report : List ℕ
scroll_damage_report =
    text (codes "order 6/0 0 0 0 0 0/planes 16 1 1/plane 0/8c00/visible s 1/0 0 7 0/damage s 1/1 0 3 0/"
    ++ codes "replies a 6/ok/ok/ok/ok/ok/ok/done/")

-- a layer of four columns that shows a portion of its bitmap of eight
abbrev pub portion_scrolled : Plan
portion_scrolled =
    one_task 16 1 1 (codes "s" ∷ []) (Create 0 (record (layer SuperBitmap 0 0 3 0) { bits_w = 8; bits_h = 1 }) ∷
    fill 0 5 0 6 0 ∷ Scroll 0 (pos 4) (pos 0) ∷ Scroll 0 (pos 1) (pos 0) ∷ ReadPixel 0 (pos 5) (pos 0) ∷
    ReadPixel 0 (pos 8) (pos 0) ∷ WritePixel 0 (pos 8) (pos 0) ∷ [])

abbrev pub portion_scrolled_report : List ℕ
portion_scrolled_report =
    text (codes "order 7/0 0 0 0 0 0 0/planes 16 1 1/plane 0/6000/visible s 1/0 0 3 0/damage s 0/"
    ++ codes "replies a 7/ok/ok/ok/out-of-bounds/pen 1/outside/outside/done/")

-- a rectangle that is scrolled one column to the right and one row down, and shows pen B on the left and above
abbrev pub scroll_right_down : Plan
scroll_right_down =
    one_task 16 3 1 (codes "w" ∷ []) (create 0 Smart 0 0 3 2 ∷ SetB 0 1 ∷ WritePixel 0 (pos 0) (pos 0) ∷
    ScrollRaster 0 (neg_ℤ (pos 1)) (neg_ℤ (pos 1)) (rect 0 0 9 9) ∷ [])

abbrev pub scroll_right_down_report : List ℕ
scroll_right_down_report =
    text (codes "order 4/0 0 0 0/planes 16 3 1/plane 0/f000/c000/8000/visible w 1/0 0 3 2/damage w 0/"
    ++ codes "replies a 4/ok/ok/ok/ok/done/")

-- a simple layer that is scrolled from under a cover through a mask of no planes: it is damaged all the same
abbrev pub scroll_masked : Plan
scroll_masked =
    one_task 16 1 1 (codes "s" ∷ codes "c" ∷ []) (create 0 Simple 0 0 3 0 ∷ create 1 Smart 3 0 3 0 ∷ fill 0 0 0 3 0 ∷
    SetMask 0 0 ∷ scroll_left 0 1 0 0 3 0 ∷ [])

abbrev pub scroll_masked_report : List ℕ
scroll_masked_report =
    text (codes "order 5/0 0 0 0 0/planes 16 1 1/plane 0/e000/visible s 1/0 0 2 0/visible c 1/3 0 3 0/"
    ++ codes "damage s 1/2 0 2 0/damage c 0/" ++ codes "replies a 5/ok/ok/ok/ok/ok/done/")

-- A layer of which two columns are damaged, scrolled within an update: the second one takes the pen of the third, which isn't
-- damaged, and with it that it isn't damaged.
abbrev pub scroll_updated : Plan
scroll_updated =
    grouped (one_task 16 1 1 (codes "s" ∷ codes "c" ∷ []) (create 0 Simple 0 0 3 0 ∷ create 1 Smart 0 0 1 0 ∷ Close 1 ∷
    fill 0 0 0 3 0 ∷ SetA 0 0 ∷ fill 0 2 0 2 0 ∷ BeginRefresh 0 ∷ scroll_left 0 1 0 0 3 0 ∷ EndRefresh 0 false ∷
    [])) (record { first = 6; last = 8; hold = Slot 0 })

abbrev pub scroll_updated_report : List ℕ
scroll_updated_report =
    text (codes "order 9/0 0 0 0 0 0 0 0 0/planes 16 1 1/plane 0/9000/visible s 1/0 0 3 0/damage s 1/0 0 0 0/"
    ++ codes "replies a 9/ok/ok/ok/ok/ok/ok/ok/ok/ok/done/")

-- A framed window whose two inner pixels are covered: what the frame takes from under the cover isn't damaged.
abbrev pub scroll_in_frame : Plan
scroll_in_frame =
    one_task 16 14 2 (codes "w" ∷ codes "c" ∷ []) (open_window 0 Simple 0 0 10 14 true 0 [] ∷ create 1 Smart 4 11 5 11 ∷
    scroll_left 0 1 3 11 5 11 ∷ [])

abbrev pub scroll_in_frame_report : List ℕ
scroll_in_frame_report =
    text (codes "order 3/0 0 0/planes 16 14 2/plane 0/0000/0000/0000/0000/0000/0000/0000/0000/0000/0000/0000/"
    ++ codes "0000/0000/0000/" ++ codes "plane 1/ffc0/ffc0/ffc0/ffc0/ffc0/ffc0/ffc0/ffc0/ffc0/ffc0/ffc0/e3c0/ffc0/ffc0/"
    ++ codes "visible w 4/0 0 9 10/0 11 3 11/6 11 9 11/0 12 9 13/visible c 1/4 11 5 11/damage w 0/"
    ++ codes "damage c 0/messages w 0/replies a 3/ok/ok/ok/done/")

-- A layer whose last column is damaged, scrolled one column to the left: the damage goes there with its pen, and stays where
-- pen B comes in.
abbrev pub scroll_from_damage : Plan
scroll_from_damage =
    one_task 16 1 1 (codes "s" ∷ codes "c" ∷ []) (create 0 Simple 0 0 3 0 ∷ create 1 Smart 3 0 3 0 ∷ Close 1 ∷ SetB 0 1 ∷
    scroll_left 0 1 0 0 3 0 ∷ [])

abbrev pub scroll_from_damage_report : List ℕ
scroll_from_damage_report =
    text (codes "order 5/0 0 0 0 0/planes 16 1 1/plane 0/1000/visible s 1/0 0 3 0/damage s 1/2 0 3 0/"
    ++ codes "replies a 5/ok/ok/ok/ok/ok/done/")

-- a layer of pen 1 of which two columns are damaged, scrolled by nothing
abbrev pub scroll_by_nothing : Plan
scroll_by_nothing =
    one_task 16 1 1 (codes "s" ∷ codes "c" ∷ []) (create 0 Simple 0 0 3 0 ∷ create 1 Smart 0 0 1 0 ∷ Close 1 ∷
    fill 0 0 0 3 0 ∷ scroll_left 0 0 0 0 3 0 ∷ [])

abbrev pub scroll_by_nothing_report : List ℕ
scroll_by_nothing_report =
    text (codes "order 5/0 0 0 0 0/planes 16 1 1/plane 0/f000/visible s 1/0 0 3 0/damage s 1/0 0 1 0/"
    ++ codes "replies a 5/ok/ok/ok/ok/ok/done/")

-- a layer of one column, of which the last of three rows is damaged, scrolled by nothing
abbrev pub scroll_in_column : Plan
scroll_in_column =
    one_task 16 3 1 (codes "s" ∷ codes "c" ∷ []) (create 0 Simple 0 0 0 2 ∷ create 1 Smart 0 2 0 2 ∷ Close 1 ∷
    scroll_left 0 0 0 0 0 2 ∷ [])

abbrev pub scroll_in_column_report : List ℕ
scroll_in_column_report =
    text (codes "order 4/0 0 0 0/planes 16 3 1/plane 0/0000/0000/0000/visible s 1/0 0 0 2/damage s 1/0 2 0 2/"
    ++ codes "replies a 4/ok/ok/ok/ok/done/")

-- a layer of which two columns are damaged, and others are scrolled
abbrev pub scroll_beside_damage : Plan
scroll_beside_damage =
    one_task 16 1 1 (codes "s" ∷ codes "c" ∷ []) (create 0 Simple 0 0 7 0 ∷ create 1 Smart 0 0 1 0 ∷ Close 1 ∷
    scroll_left 0 1 4 0 7 0 ∷ [])
