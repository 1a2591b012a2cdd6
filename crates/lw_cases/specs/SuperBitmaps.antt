-- Worked cases.
-- Plans with super-bitmap layers, and their reports.
use Rattle.std.specs.Prelude.{ℕ, true, false, List, [], ◌∷◌, ◌++◌, pos, neg_ℤ, codes}
use Rattle.lw_calls.specs.declared.operation.RectOp.TheVariants.{Or as OrRect}
use Rattle.lw_calls.specs.declared.make.Kind.TheVariants.{Smart, SuperBitmap}
use Rattle.lw_calls.specs.declared.call.Call.TheVariants.{RegRect, OpenWindow, Close, MoveBy, SizeBy, SetBox, At, WritePixel}
use Rattle.lw_calls.specs.declared.call.Call.TheVariants.{ReadPixel, DrawTo, Letters, SetRast, Clip, BeginRefresh, EndRefresh}
use Rattle.lw_calls.specs.declared.call.Call.TheVariants.{Scroll}
use Rattle.lw_calls.specs.declared.group.Hold.TheVariants.{Slot}
use Rattle.lw_calls.specs.Plan.{Plan}
use Rattle.lw_cases.specs.Plans.{text, one_task, grouped, with_bitmap, rect, box, create, create_super, fill, scroll_left}
use Rattle.lw_cases.specs.Plans.{blit_row, blit_across, put_row}
use Rattle.lw_cases.specs.Copying.{flat_row}
use Rattle.lw_cases.specs.Modes.{with_low_letter}

-- A layer that is no super-bitmap layer can't be scrolled. One that shows a portion of 4 by 1 of its 6 by 2 pixels can't
-- be scrolled out of them on any side, nor grow out of them.
abbrev pub scrolls_refused : Plan
scrolls_refused =
    one_task 16 2 1 (codes "w" ∷ codes "s" ∷ []) (create 0 Smart 0 0 3 0 ∷ create_super 1 4 0 7 0 6 2 ∷
    Scroll 0 (pos 0) (pos 0) ∷ Scroll 0 (pos 100) (pos 0) ∷ Scroll 1 (neg_ℤ (pos 1)) (pos 0) ∷
    Scroll 1 (pos 0) (neg_ℤ (pos 1)) ∷ Scroll 1 (pos 3) (pos 0) ∷ Scroll 1 (pos 0) (pos 2) ∷ Scroll 1 (pos 2) (pos 1) ∷
    SizeBy 1 (pos 1) (pos 0) ∷ SizeBy 1 (pos 0) (pos 1) ∷ fill 1 3 1 3 1 ∷ [])

abbrev pub scrolls_refused_report : List ℕ
scrolls_refused_report =
    text (codes "order 12/0 0 0 0 0 0 0 0 0 0 0 0/planes 16 2 1/plane 0/0400/0000/visible w 1/0 0 3 0/visible s 1/"
    ++ codes "4 0 7 0/damage w 0/damage s 0/" ++ codes "replies a 12/ok/ok/not-super/not-super/"
    ++ codes "out-of-bounds/out-of-bounds/out-of-bounds/out-of-bounds/ok/out-of-bounds/out-of-bounds/ok/done/")

-- within an update, in which nothing is damaged and so nothing drawable
abbrev pub super_updated : Plan
super_updated =
    grouped (one_task 16 1 1 (codes "s" ∷ []) (create_super 0 0 0 3 0 4 1 ∷ BeginRefresh 0 ∷ fill 0 0 0 3 0 ∷
    WritePixel 0 (pos 0) (pos 0) ∷ ReadPixel 0 (pos 0) (pos 0) ∷ EndRefresh 0 true ∷ WritePixel 0 (pos 1) (pos 0) ∷
    [])) (record { first = 1; last = 5; hold = Slot 0 })

abbrev pub super_updated_report : List ℕ
super_updated_report =
    text (codes "order 7/0 0 0 0 0 0 0/planes 16 1 1/plane 0/4000/visible s 1/0 0 3 0/damage s 0/"
    ++ codes "replies a 7/ok/ok/ok/outside/pen 0/ok/ok/done/")

-- drawn on while two columns of it are covered, and then uncovered
abbrev pub super_uncovered : Plan
super_uncovered =
    one_task 16 1 1 (codes "s" ∷ codes "c" ∷ []) (create_super 0 0 0 3 0 8 1 ∷ create 1 Smart 0 0 1 0 ∷ fill 0 0 0 7 0 ∷
    Close 1 ∷ [])

abbrev pub super_uncovered_report : List ℕ
super_uncovered_report =
    text (codes "order 4/0 0 0 0/planes 16 1 1/plane 0/f000/visible s 1/0 0 3 0/damage s 0/replies a 4/ok/ok/ok/ok/done/")

-- a window that is one, scrolled, which is told to nobody, and moved, which is told
abbrev pub super_window : Plan
super_window =
    one_task 16 1 1 (codes "s" ∷ []) (OpenWindow 0 (record (box SuperBitmap 0 0 4 1) {
      bits_w = 8;
      bits_h = 1;
    }) false false 4 (codes "B") ∷ fill 0 4 0 7 0 ∷ Scroll 0 (pos 4) (pos 0) ∷ MoveBy 0 (pos 1) (pos 0) ∷ [])

abbrev pub super_window_report : List ℕ
super_window_report =
    text (codes "order 4/0 0 0 0/planes 16 1 1/plane 0/7800/visible s 1/1 0 4 0/damage s 0/messages s 1/change/"
    ++ codes "replies a 4/ok/ok/ok/ok/done/")

-- The portion is scrolled four columns to the right, and a clip region set to two columns of the bitmap that it shows.
abbrev pub portion_clipped : Plan
portion_clipped =
    one_task 16 1 1 (codes "s" ∷ []) (create_super 0 0 0 3 0 8 1 ∷ Scroll 0 (pos 4) (pos 0) ∷
    RegRect OrRect 0 (rect 4 0 5 0) ∷ Clip 0 0 ∷ fill 0 0 0 7 0 ∷ [])

abbrev pub portion_clipped_report : List ℕ
portion_clipped_report =
    text (codes "order 5/0 0 0 0 0/planes 16 1 1/plane 0/c000/visible s 1/0 0 3 0/damage s 0/replies a 5/ok/ok/ok/none/ok/done/")

-- A pixel of the hidden part is copied to a smart layer, and from there to another one of the hidden part.
abbrev pub hidden_part_copied : Plan
hidden_part_copied =
    one_task 16 1 1 (codes "s" ∷ codes "d" ∷ []) (create_super 0 0 0 3 0 8 1 ∷ fill 0 5 0 5 0 ∷ create 1 Smart 8 0 11 0 ∷
    blit_across 0 5 1 0 1 192 ∷ blit_across 1 0 0 6 1 192 ∷ ReadPixel 0 (pos 6) (pos 0) ∷ [])

abbrev pub hidden_part_copied_report : List ℕ
hidden_part_copied_report =
    text (codes "order 6/0 0 0 0 0 0/planes 16 1 1/plane 0/0080/visible s 1/0 0 3 0/visible d 1/8 0 11 0/"
    ++ codes "damage s 0/damage d 0/" ++ codes "replies a 6/ok/ok/ok/ok/ok/pen 1/done/")

-- A layer that shows the columns 4 to 7 of twelve. A line is drawn left of them, and right of them a letter, which begins with
-- two columns of pen 1; the letter is scrolled by a column, and then all is set to pen 1. A pixel is read after each.
abbrev pub hidden_part_drawn : Plan
hidden_part_drawn =
    with_low_letter (one_task 16 1 1 (codes "s" ∷ []) (create_super 0 0 0 3 0 12 1 ∷ Scroll 0 (pos 4) (pos 0) ∷
    DrawTo 0 (pos 1) (pos 0) ∷ ReadPixel 0 (pos 1) (pos 0) ∷ At 0 (pos 8) (pos 0) ∷ Letters 0 (codes "A") ∷
    ReadPixel 0 (pos 9) (pos 0) ∷ scroll_left 0 1 8 0 11 0 ∷ ReadPixel 0 (pos 9) (pos 0) ∷ SetRast 0 1 ∷
    ReadPixel 0 (pos 11) (pos 0) ∷ []))

abbrev pub hidden_part_drawn_report : List ℕ
hidden_part_drawn_report =
    text (codes "order 11/0 0 0 0 0 0 0 0 0 0 0/planes 16 1 1/plane 0/f000/visible s 1/0 0 3 0/damage s 0/"
    ++ codes "replies a 11/ok/ok/ok/pen 1/ok/ok/pen 1/ok/pen 0/ok/pen 1/done/")

-- A layer that shows the columns 4 to 7 of twelve. Pixels of the hidden part are written, filled, put from a bitmap and copied
-- from one another, and each is read.
abbrev pub hidden_part_painted : Plan
hidden_part_painted =
    with_bitmap (codes "flat") flat_row
    (one_task 16 1 1 (codes "s" ∷ []) (create_super 0 0 0 3 0 12 1 ∷ Scroll 0 (pos 4) (pos 0) ∷
    WritePixel 0 (pos 0) (pos 0) ∷ ReadPixel 0 (pos 0) (pos 0) ∷ fill 0 1 0 1 0 ∷ ReadPixel 0 (pos 1) (pos 0) ∷
    put_row (pos 1) 0 2 1 192 ∷ ReadPixel 0 (pos 2) (pos 0) ∷ blit_row 0 2 8 1 192 ∷ ReadPixel 0 (pos 8) (pos 0) ∷ []))

abbrev pub hidden_part_painted_report : List ℕ
hidden_part_painted_report =
    text (codes "order 10/0 0 0 0 0 0 0 0 0 0/planes 16 1 1/plane 0/0000/visible s 1/0 0 3 0/damage s 0/"
    ++ codes "replies a 10/ok/ok/ok/pen 1/ok/pen 1/ok/pen 1/ok/pen 1/done/")

-- Two layers with a pixel of pen 1 in column 4. One is scrolled so that it shows the pixel, and gets a box one column further
-- right.
abbrev pub one_scrolled : Plan
one_scrolled =
    one_task 16 1 1 (codes "s" ∷ codes "t" ∷ []) (create_super 0 0 0 3 0 8 1 ∷ create_super 1 8 0 11 0 8 1 ∷
    fill 0 4 0 4 0 ∷ fill 1 4 0 4 0 ∷ Scroll 0 (pos 4) (pos 0) ∷ SetBox 0 (pos 1) (pos 0) (pos 4) (pos 1) ∷ [])

abbrev pub one_scrolled_report : List ℕ
one_scrolled_report =
    text (codes "order 6/0 0 0 0 0 0/planes 16 1 1/plane 0/4000/visible s 1/1 0 4 0/visible t 1/8 0 11 0/"
    ++ codes "damage s 0/damage t 0/" ++ codes "replies a 6/ok/ok/ok/ok/ok/ok/done/")

-- A layer with a pixel of pen 1 in the second row of its bitmap is scrolled by columns and then by a row, so that the pixel is
-- its first one.
abbrev pub scrolled_both_ways : Plan
scrolled_both_ways =
    one_task 16 1 1 (codes "s" ∷ []) (create_super 0 0 0 3 0 8 2 ∷ fill 0 4 1 4 1 ∷ Scroll 0 (pos 4) (pos 0) ∷
    Scroll 0 (pos 0) (pos 1) ∷ [])

abbrev pub scrolled_both_ways_report : List ℕ
scrolled_both_ways_report =
    text (codes "order 4/0 0 0 0/planes 16 1 1/plane 0/8000/visible s 1/0 0 3 0/damage s 0/replies a 4/ok/ok/ok/ok/done/")
