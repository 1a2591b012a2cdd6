-- Worked cases.
-- Plans that paint through masks and in modes, and their reports.
use Rattle.std.specs.Prelude.{ℕ, List, [], ◌∷◌, ◌++◌, replicate, pos, neg_ℤ, codes}
use Rattle.lw_calls.specs.declared.make.Kind.TheVariants.{Smart}
use Rattle.lw_calls.specs.declared.call.Call.TheVariants.{SetA, SetB, SetMode, SetMask, At, WritePixel, ReadPixel, DrawTo}
use Rattle.lw_calls.specs.declared.call.Call.TheVariants.{Letters, SetRast}
use Rattle.lw_calls.specs.Plan.{Plan}
use Rattle.lw_cases.specs.Plans.{text, one_task, with_glyph, create, fill}

-- fills through the mask of the first plane, of the second, of none, and in the mode COMPLEMENT of the first
abbrev pub masked_fills : Plan
masked_fills =
    one_task 16 1 2 (codes "w" ∷ []) (create 0 Smart 0 0 7 0 ∷ SetA 0 7 ∷ SetMask 0 1 ∷ fill 0 0 0 3 0 ∷ SetMask 0 2 ∷
    fill 0 2 0 5 0 ∷ SetMask 0 0 ∷ fill 0 0 0 7 0 ∷ SetMode 0 2 ∷ SetMask 0 1 ∷ fill 0 3 0 6 0 ∷ [])

abbrev pub masked_fills_report : List ℕ
masked_fills_report =
    text (codes "order 11/0 0 0 0 0 0 0 0 0 0 0/planes 16 1 2/plane 0/ee00/plane 1/3c00/visible w 1/0 0 7 0/damage w 0/"
    ++ codes "replies a 11/ok/ok/ok/ok/ok/ok/ok/ok/ok/ok/ok/done/")

-- SetRast through the mask of the second plane, in the mode COMPLEMENT with INVERSVID, of which it takes no notice
abbrev pub masked_raster : Plan
masked_raster =
    one_task 16 1 2 (codes "w" ∷ []) (create 0 Smart 0 0 7 0 ∷ fill 0 0 0 3 0 ∷ SetMode 0 6 ∷ SetMask 0 2 ∷ SetRast 0 7 ∷ [])

abbrev pub masked_raster_report : List ℕ
masked_raster_report =
    text (codes "order 5/0 0 0 0 0/planes 16 1 2/plane 0/f000/plane 1/ff00/visible w 1/0 0 7 0/damage w 0/"
    ++ codes "replies a 5/ok/ok/ok/ok/ok/done/")

-- the plan where the letter A has just two rows of pixels, at its bottom: 11001100 and 00001111
abbrev pub with_low_letter : Plan → Plan
with_low_letter = with_glyph 65 (0 ∷ 0 ∷ 0 ∷ 0 ∷ 0 ∷ 0 ∷ 204 ∷ 15 ∷ [])

-- these two rows in the mode JAM1 on pen 2, and beside them once more with INVERSVID
abbrev pub letters_jam1 : Plan
letters_jam1 =
    with_low_letter (one_task 16 2 2 (codes "w" ∷ []) (create 0 Smart 0 0 15 1 ∷ SetRast 0 2 ∷ SetMode 0 0 ∷
    At 0 (pos 0) (pos 0) ∷ Letters 0 (codes "A") ∷ SetMode 0 4 ∷ Letters 0 (codes "A") ∷ []))

abbrev pub letters_jam1_report : List ℕ
letters_jam1_report =
    text (codes "order 7/0 0 0 0 0 0 0/planes 16 2 2/plane 0/cc33/0ff0/plane 1/33cc/f00f/visible w 1/0 0 15 1/damage w 0/"
    ++ codes "replies a 7/ok/ok/ok/ok/ok/ok/ok/done/")

-- the same in the mode COMPLEMENT with JAM2, on a row of pen 1 and a row of pen 0, with pen B 3
abbrev pub letters_complemented : Plan
letters_complemented =
    with_low_letter (one_task 16 2 2 (codes "w" ∷ []) (create 0 Smart 0 0 15 1 ∷ fill 0 0 0 15 0 ∷ SetB 0 3 ∷ SetMode 0 3 ∷
    At 0 (pos 0) (pos 0) ∷ Letters 0 (codes "A") ∷ SetMode 0 7 ∷ Letters 0 (codes "A") ∷ []))

abbrev pub letters_complemented_report : List ℕ
letters_complemented_report =
    text (codes "order 8/0 0 0 0 0 0 0 0/planes 16 2 2/plane 0/33cc/0ff0/plane 1/cc33/0ff0/visible w 1/0 0 15 1/damage w 0/"
    ++ codes "replies a 8/ok/ok/ok/ok/ok/ok/ok/ok/done/")

-- two letters of which the first begins left of the layer, and one that passes its right edge and shows its last row alone
abbrev pub letters_at_edges : Plan
letters_at_edges =
    with_low_letter (one_task 16 2 1 (codes "w" ∷ []) (create 0 Smart 0 0 15 1 ∷ SetRast 0 1 ∷
    At 0 (neg_ℤ (pos 4)) (pos 0) ∷ Letters 0 (codes "AA") ∷ At 0 (pos 12) (neg_ℤ (pos 1)) ∷ Letters 0 (codes "A") ∷ []))

abbrev pub letters_at_edges_report : List ℕ
letters_at_edges_report =
    text (codes "order 6/0 0 0 0 0 0/planes 16 2 1/plane 0/ccc0/f0ff/visible w 1/0 0 15 1/damage w 0/"
    ++ codes "replies a 6/ok/ok/ok/ok/ok/ok/done/")

-- a letter without a glyph and a code that has none, in the mode JAM2 with INVERSVID (no script spells this code)
abbrev pub codes_without_glyph : Plan
codes_without_glyph =
    with_low_letter (one_task 16 2 1 (codes "w" ∷ []) (create 0 Smart 0 0 15 1 ∷ SetMode 0 5 ∷ Letters 0 (66 ∷ 127 ∷ []) ∷ []))

abbrev pub codes_without_glyph_report : List ℕ
codes_without_glyph_report =
    text (codes "order 3/0 0 0/planes 16 2 1/plane 0/ffff/ffff/visible w 1/0 0 15 1/damage w 0/replies a 3/ok/ok/ok/done/")

-- letters whose end passes the last coordinate, or doesn't
abbrev pub letters_far_off : Plan
letters_far_off =
    one_task 16 1 1 (codes "w" ∷ []) (create 0 Smart 0 0 15 0 ∷ At 0 (pos 32759) (pos 0) ∷ Letters 0 (codes "A") ∷
    Letters 0 [] ∷ Letters 0 (codes "A") ∷ At 0 (pos 32760) (pos 0) ∷ Letters 0 (codes "A") ∷ [])

abbrev pub letters_far_off_report : List ℕ
letters_far_off_report =
    text (codes "order 7/0 0 0 0 0 0 0/planes 16 1 1/plane 0/0000/visible w 1/0 0 15 0/damage w 0/"
    ++ codes "replies a 7/ok/ok/ok/ok/out-of-bounds/ok/out-of-bounds/done/")

-- a fill, a line and a pixel in the mode JAM2 with INVERSVID, on pen 1 with pen A 2 and pen B 3
abbrev pub inverse_shapes : Plan
inverse_shapes =
    one_task 16 1 2 (codes "w" ∷ []) (create 0 Smart 0 0 7 0 ∷ SetRast 0 1 ∷ SetA 0 2 ∷ SetB 0 3 ∷ SetMode 0 5 ∷
    fill 0 0 0 1 0 ∷ At 0 (pos 3) (pos 0) ∷ DrawTo 0 (pos 4) (pos 0) ∷ WritePixel 0 (pos 6) (pos 0) ∷ [])

abbrev pub inverse_shapes_report : List ℕ
inverse_shapes_report =
    text (codes "order 9/0 0 0 0 0 0 0 0 0/planes 16 1 2/plane 0/2500/plane 1/da00/visible w 1/0 0 7 0/damage w 0/"
    ++ codes "replies a 9/ok/ok/ok/ok/ok/ok/ok/ok/ok/done/")

-- a letter, a line and a pixel through the mask of the first plane, on pen 2
abbrev pub masked_shapes : Plan
masked_shapes =
    with_low_letter (one_task 16 1 2 (codes "w" ∷ []) (create 0 Smart 0 0 15 0 ∷ SetRast 0 2 ∷ SetMask 0 1 ∷
    Letters 0 (codes "A") ∷ At 0 (pos 8) (pos 0) ∷ DrawTo 0 (pos 9) (pos 0) ∷ WritePixel 0 (pos 12) (pos 0) ∷ []))

abbrev pub masked_shapes_report : List ℕ
masked_shapes_report =
    text (codes "order 7/0 0 0 0 0 0 0/planes 16 1 2/plane 0/ccc8/plane 1/ffff/visible w 1/0 0 15 0/damage w 0/"
    ++ codes "replies a 7/ok/ok/ok/ok/ok/ok/ok/done/")

-- a pixel that is written once in the mode COMPLEMENT, and one that is written twice
abbrev pub pixels_complemented : Plan
pixels_complemented =
    one_task 16 1 1 (codes "w" ∷ []) (create 0 Smart 0 0 7 0 ∷ SetMode 0 2 ∷ WritePixel 0 (pos 0) (pos 0) ∷
    WritePixel 0 (pos 1) (pos 0) ∷ WritePixel 0 (pos 1) (pos 0) ∷ [])

abbrev pub pixels_complemented_report : List ℕ
pixels_complemented_report =
    text (codes "order 5/0 0 0 0 0/planes 16 1 1/plane 0/8000/visible w 1/0 0 7 0/damage w 0/replies a 5/ok/ok/ok/ok/ok/done/")

-- a pixel of pen 3 that is read while the mask has the first plane alone
abbrev pub read_while_masked : Plan
read_while_masked =
    one_task 16 1 2 (codes "w" ∷ []) (create 0 Smart 0 0 7 0 ∷ SetRast 0 3 ∷ SetMask 0 1 ∷ ReadPixel 0 (pos 0) (pos 0) ∷ [])

abbrev pub read_while_masked_report : List ℕ
read_while_masked_report =
    text (codes "order 4/0 0 0 0/planes 16 1 2/plane 0/ff00/plane 1/ff00/visible w 1/0 0 7 0/damage w 0/"
    ++ codes "replies a 4/ok/ok/ok/pen 3/done/")

-- The codes 0x7f, 0x7e and 0xff, of which the second has a glyph of eight full rows. (No script spells the others.)
abbrev pub codes_round_the_last : Plan
codes_round_the_last =
    with_glyph 126 (replicate 8 255) (one_task 24 1 1 (codes "w" ∷ []) (create 0 Smart 0 0 23 0 ∷
    Letters 0 (127 ∷ 126 ∷ 255 ∷ []) ∷ []))

abbrev pub codes_round_the_last_report : List ℕ
codes_round_the_last_report =
    text (codes "order 2/0 0/planes 24 1 1/plane 0/00ff0000/visible w 1/0 0 23 0/damage w 0/replies a 2/ok/ok/done/")
