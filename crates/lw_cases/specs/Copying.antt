-- Worked cases.
-- Plans that blit bitmaps and layers into layers, and their reports.
use Rattle.std.specs.Prelude.{ℕ, List, [], ◌∷◌, ◌++◌, pos, neg_ℤ, codes}
use Rattle.lw_planes.specs.Bitmap.{Bitmap}
use Rattle.lw_calls.specs.declared.make.Kind.TheVariants.{Simple, Smart}
use Rattle.lw_calls.specs.declared.call.Call.TheVariants.{SetA, SetMode, SetMask}
use Rattle.lw_calls.specs.Plan.{Plan}
use Rattle.lw_cases.specs.Plans.{text, one_task, further, with_bitmap, create, fill, put_row, blit_across}

-- a row of four pixels of three planes, and one of one plane
abbrev pub deep_row : Bitmap
deep_row = record { width = 4; height = 1; depth = 3; rows = (4 ∷ 5 ∷ 2 ∷ 7 ∷ []) ∷ [] }

abbrev pub flat_row : Bitmap
flat_row = record { width = 4; height = 1; depth = 1; rows = (0 ∷ 1 ∷ 0 ∷ 1 ∷ []) ∷ [] }

-- a bitmap of three planes on a screen of two, which drops the third
abbrev pub put_deep : Plan
put_deep =
    with_bitmap (codes "deep") deep_row (one_task 16 1 2 (codes "w" ∷ []) (create 0 Smart 0 0 7 0 ∷ fill 0 0 0 7 0 ∷
    put_row (pos 0) 0 0 4 192 ∷ []))

abbrev pub put_deep_report : List ℕ
put_deep_report =
    text (codes "order 3/0 0 0/planes 16 1 2/plane 0/5f00/plane 1/3000/visible w 1/0 0 7 0/damage w 0/"
    ++ codes "replies a 3/ok/ok/ok/done/")

-- A bitmap of one plane on a screen of two, where the second plane's source is 0: by the minterms of what is the same, of
-- what the source has alone, and of what it hasn't.
abbrev pub put_flat : Plan
put_flat =
    with_bitmap (codes "flat") flat_row (one_task 16 1 2 (codes "w" ∷ []) (create 0 Smart 0 0 15 0 ∷ SetA 0 3 ∷
    fill 0 2 0 3 0 ∷ fill 0 10 0 11 0 ∷ put_row (pos 0) 0 0 4 144 ∷ put_row (pos 0) 0 8 4 64 ∷
    put_row (pos 0) 0 12 4 48 ∷ []))

abbrev pub put_flat_report : List ℕ
put_flat_report =
    text (codes "order 7/0 0 0 0 0 0 0/planes 16 1 2/plane 0/904a/plane 1/c00f/visible w 1/0 0 15 0/damage w 0/"
    ++ codes "replies a 7/ok/ok/ok/ok/ok/ok/ok/done/")

-- pairs whose source lies right and left of the bitmap are left out: of the others the minterm makes 0
abbrev pub put_beyond : Plan
put_beyond =
    with_bitmap (codes "flat") flat_row (one_task 16 1 1 (codes "w" ∷ []) (create 0 Smart 0 0 7 0 ∷ fill 0 0 0 7 0 ∷
    put_row (pos 2) 0 0 4 0 ∷ put_row (neg_ℤ (pos 1)) 0 4 2 0 ∷ []))

abbrev pub put_beyond_report : List ℕ
put_beyond_report =
    text (codes "order 4/0 0 0 0/planes 16 1 1/plane 0/3b00/visible w 1/0 0 7 0/damage w 0/"
    ++ codes "replies a 4/ok/ok/ok/ok/done/")

-- A simple layer, two columns of which are covered, is blitted into another layer of pen 1, by the minterm that makes 0 of
-- each pair: the pairs with a covered source are left out.
abbrev pub blit_from_hidden : Plan
blit_from_hidden =
    one_task 16 2 1 (codes "s" ∷ codes "c" ∷ codes "t" ∷ codes "x" ∷ []) (create 0 Simple 0 0 7 0 ∷ create 1 Smart 2 0 3 0 ∷
    create 2 Smart 0 1 7 1 ∷ fill 0 0 0 7 0 ∷ fill 2 0 0 7 0 ∷ blit_across 0 0 2 0 8 0 ∷ [])

abbrev pub blit_from_hidden_report : List ℕ
blit_from_hidden_report =
    text (codes "order 6/0 0 0 0 0 0/planes 16 2 1/plane 0/cf00/3000/visible s 2/0 0 1 0/4 0 7 0/visible c 1/"
    ++ codes "2 0 3 0/visible t 1/0 1 7 1/" ++ codes "damage s 0/damage c 0/damage t 0/replies a 6/ok/ok/ok/ok/ok/ok/done/")

-- and then the other way, and from and to a layer that isn't open
abbrev pub blit_to_hidden : Plan
blit_to_hidden = further blit_from_hidden (blit_across 2 0 0 1 4 192 ∷ blit_across 0 0 3 0 4 192 ∷ blit_across 3 0 0 0 4 192 ∷ [])

abbrev pub blit_to_hidden_report : List ℕ
blit_to_hidden_report =
    text (codes "order 9/0 0 0 0 0 0 0 0 0/planes 16 2 1/plane 0/8f00/3000/visible s 2/0 0 1 0/4 0 7 0/"
    ++ codes "visible c 1/2 0 3 0/visible t 1/0 1 7 1/"
    ++ codes "damage s 0/damage c 0/damage t 0/replies a 9/ok/ok/ok/ok/ok/ok/ok/not-open/not-open/done/")

-- by the minterm of ones through the mask of the second plane, in the mode COMPLEMENT, of which a blit takes no notice
abbrev pub put_masked : Plan
put_masked =
    with_bitmap (codes "flat") flat_row (one_task 16 1 2 (codes "w" ∷ []) (create 0 Smart 0 0 7 0 ∷ SetMode 0 2 ∷
    SetMask 0 2 ∷ put_row (pos 0) 0 0 4 240 ∷ []))

abbrev pub put_masked_report : List ℕ
put_masked_report =
    text (codes "order 4/0 0 0 0/planes 16 1 2/plane 0/0000/plane 1/f000/visible w 1/0 0 7 0/damage w 0/"
    ++ codes "replies a 4/ok/ok/ok/ok/done/")
