-- Worked cases.
-- Plans whose layers have hooks, mostly of the six that the program hands in, and their reports.
use Rattle.std.specs.Prelude.{ℕ, true, false, List, [], ◌∷◌, ◌++◌, replicate, pos, neg_ℤ, Some, codes}
use Rattle.lw_calls.specs.declared.make.Kind.TheVariants.{Simple, Smart}
use Rattle.lw_calls.specs.declared.make.Place.TheVariants.{Behind}
use Rattle.lw_calls.specs.declared.call.Call.TheVariants.{Create, OpenWindow, Close, SizeBy, Activate, ReadPixel, SetRast}
use Rattle.lw_calls.specs.declared.call.Call.TheVariants.{BeginRefresh, EndRefresh}
use Rattle.lw_calls.specs.declared.group.Hold.TheVariants.{Slot}
use Rattle.lw_machine.specs.Hook.{Hook}
use Rattle.lw_calls.specs.Plan.{Plan}
use Rattle.lw_cases.specs.Plans.{text, one_task, further, grouped, with_hooks, six_hooks, box, layer, create, create_hooked}

-- a layer that is made two columns narrower, and then as wide as before
abbrev pub growth_filled : Plan
growth_filled =
    with_hooks six_hooks
    (one_task 16 1 1 (codes "w" ∷ []) (Create 0 (record (layer Smart 0 0 3 0) { hook = Some 0 }) ∷ SetRast 0 0 ∷
    SizeBy 0 (neg_ℤ (pos 2)) (pos 0) ∷ SizeBy 0 (pos 2) (pos 0) ∷ []))

abbrev pub growth_filled_report : List ℕ
growth_filled_report =
    text (codes "order 4/0 0 0 0/planes 16 1 1/plane 0/3000/visible w 1/0 0 3 0/damage w 1/2 0 3 0/replies a 4/ok/ok/ok/ok/done/")

-- and then refreshed in part
abbrev pub refreshed_in_part : Plan
refreshed_in_part =
    grouped (further growth_filled (BeginRefresh 0 ∷ SetRast 0 0 ∷ EndRefresh 0 false ∷ [])) (record {
      first = 4;
      last = 6;
      hold = Slot 0;
    })

abbrev pub refreshed_in_part_report : List ℕ
refreshed_in_part_report =
    text (codes "order 7/0 0 0 0 0 0 0/planes 16 1 1/plane 0/0000/visible w 1/0 0 3 0/damage w 1/2 0 3 0/"
    ++ codes "replies a 7/ok/ok/ok/ok/ok/ok/ok/done/")

-- and then in full
abbrev pub refreshed_in_full : Plan
refreshed_in_full =
    grouped (further refreshed_in_part (BeginRefresh 0 ∷ EndRefresh 0 true ∷ [])) (record { first = 7; last = 8; hold = Slot 0 })

abbrev pub refreshed_in_full_report : List ℕ
refreshed_in_full_report =
    text (codes "order 9/0 0 0 0 0 0 0 0 0/planes 16 1 1/plane 0/0000/visible w 1/0 0 3 0/damage w 0/"
    ++ codes "replies a 9/ok/ok/ok/ok/ok/ok/ok/ok/ok/done/")

-- a simple layer that is covered and uncovered, with a hook of several tiles
abbrev pub hook_turned : Plan
hook_turned =
    with_hooks six_hooks
    (one_task 16 1 2 (codes "w" ∷ codes "c" ∷ []) (Create 0 (record (layer Simple 0 0 3 0) { hook = Some 4 }) ∷
    create 1 Smart 0 0 3 0 ∷ Close 1 ∷ []))

abbrev pub hook_turned_report : List ℕ
hook_turned_report =
    text (codes "order 3/0 0 0/planes 16 1 2/plane 0/0000/plane 1/f000/visible w 1/0 0 3 0/damage w 1/0 0 3 0/"
    ++ codes "replies a 3/ok/ok/ok/done/")

-- a simple layer whose columns begin at column 3 of the screen, with a hook of a checkered tile
abbrev pub checkered : Plan
checkered = with_hooks six_hooks (one_task 16 2 1 (codes "w" ∷ codes "c" ∷ []) (create_hooked 0 Simple 3 0 10 1 2 ∷ []))

abbrev pub checkered_report : List ℕ
checkered_report =
    text (codes "order 1/0/planes 16 2 1/plane 0/0aa0/1540/visible w 1/3 0 10 1/damage w 0/replies a 1/ok/done/")

-- and then four columns of its first row are covered, the rest is set to pen 0, and they are uncovered
abbrev pub checkered_again : Plan
checkered_again = further checkered (create 1 Smart 5 0 8 0 ∷ SetRast 0 0 ∷ Close 1 ∷ [])

abbrev pub checkered_again_report : List ℕ
checkered_again_report =
    text (codes "order 4/0 0 0 0/planes 16 2 1/plane 0/0280/0000/visible w 1/3 0 10 1/damage w 1/2 0 5 0/"
    ++ codes "replies a 4/ok/ok/ok/ok/done/")

-- a hook of one tile, with pen 1 at its second column and first row alone, in a layer of ten columns and nine rows
abbrev pub dotted : Hook
dotted = record { tiles = (0 ∷ 1 ∷ replicate 62 0) ∷ []; place = 0 }

abbrev pub tiled : Plan
tiled = with_hooks (dotted ∷ []) (one_task 16 9 1 (codes "w" ∷ []) (create_hooked 0 Smart 1 0 10 8 0 ∷ []))

abbrev pub tiled_report : List ℕ
tiled_report =
    text (codes "order 1/0/planes 16 9 1/plane 0/2020/0000/0000/0000/0000/0000/0000/0000/2020/visible w 1/"
    ++ codes "1 0 10 8/damage w 0/replies a 1/ok/done/")

-- A simple layer that is created under a cover, where its hook of several tiles fills nothing, and then uncovered.
abbrev pub created_covered : Plan
created_covered =
    with_hooks six_hooks
    (one_task 16 1 2 (codes "c" ∷ codes "w" ∷ []) (create 0 Smart 0 0 3 0 ∷
    Create 1 (record (layer Simple 0 0 3 0) { place = Behind; hook = Some 4 }) ∷ Close 0 ∷ []))

abbrev pub created_covered_report : List ℕ
created_covered_report =
    text (codes "order 3/0 0 0/planes 16 1 2/plane 0/f000/plane 1/0000/visible w 1/0 0 3 0/damage w 1/0 0 3 0/"
    ++ codes "replies a 3/ok/ok/ok/done/")

-- the pens 2 and 3 of two hooks on a screen of one plane
abbrev pub hooks_cut : Plan
hooks_cut =
    with_hooks six_hooks (one_task 16 1 1 (codes "u" ∷ codes "v" ∷ []) (create_hooked 0 Smart 0 0 3 0 1 ∷
    create_hooked 1 Smart 4 0 7 0 5 ∷ []))

abbrev pub hooks_cut_report : List ℕ
hooks_cut_report =
    text (codes "order 2/0 0/planes 16 1 1/plane 0/0f00/visible u 1/0 0 3 0/visible v 1/4 0 7 0/damage u 0/"
    ++ codes "damage v 0/replies a 2/ok/ok/done/")

-- A creation that is refused leaves its hook to the next one, and a third gets none. (No script names a hook twice; the
-- machine hands it out once all the same.)
abbrev pub hook_named_again : Plan
hook_named_again =
    with_hooks six_hooks
    (one_task 16 1 1 (codes "u" ∷ codes "v" ∷ codes "w" ∷ codes "x" ∷ []) (create_hooked 0 Smart 14 0 17 0 0 ∷
    create_hooked 1 Smart 0 0 3 0 0 ∷ create_hooked 2 Smart 4 0 7 0 0 ∷ []))

abbrev pub hook_named_again_report : List ℕ
hook_named_again_report =
    text (codes "order 3/0 0 0/planes 16 1 1/plane 0/f000/visible v 1/0 0 3 0/visible w 1/4 0 7 0/damage v 0/"
    ++ codes "damage w 0/replies a 3/out-of-bounds/ok/ok/done/")

-- nor does a fourth, after the layer that had it was deleted
abbrev pub hook_dropped : Plan
hook_dropped = further hook_named_again (Close 1 ∷ create_hooked 3 Smart 8 0 11 0 0 ∷ [])

abbrev pub hook_dropped_report : List ℕ
hook_dropped_report =
    text (codes "order 5/0 0 0 0 0/planes 16 1 1/plane 0/0000/visible w 1/4 0 7 0/visible x 1/8 0 11 0/"
    ++ codes "damage w 0/damage x 0/" ++ codes "replies a 5/out-of-bounds/ok/ok/ok/ok/done/")

-- A smart layer grows under a cover.
abbrev pub grown_under_a_cover : Plan
grown_under_a_cover =
    with_hooks six_hooks
    (one_task 16 1 1 (codes "w" ∷ codes "c" ∷ []) (create_hooked 0 Smart 0 0 3 0 0 ∷ create 1 Smart 4 0 7 0 ∷
    SizeBy 0 (pos 2) (pos 0) ∷ ReadPixel 0 (pos 4) (pos 0) ∷ []))

abbrev pub grown_under_a_cover_report : List ℕ
grown_under_a_cover_report =
    text (codes "order 4/0 0 0 0/planes 16 1 1/plane 0/f000/visible w 1/0 0 3 0/visible c 1/4 0 7 0/damage w 1/"
    ++ codes "4 0 5 0/damage c 0/" ++ codes "replies a 4/ok/ok/ok/pen 1/done/")

-- A window with a hook of several tiles is made active, which fills nothing, and grows twice by a column.
abbrev pub grown_twice : Plan
grown_twice =
    with_hooks six_hooks
    (one_task 16 1 2 (codes "w" ∷ []) (OpenWindow 0 (record (box Smart 0 0 4 1) { hook = Some 4 }) false false 0 [] ∷
    Activate 0 ∷ SizeBy 0 (pos 1) (pos 0) ∷ SizeBy 0 (pos 1) (pos 0) ∷ []))

abbrev pub grown_twice_report : List ℕ
grown_twice_report =
    text (codes "order 4/0 0 0 0/planes 16 1 2/plane 0/f400/plane 1/0c00/visible w 1/0 0 5 0/damage w 1/4 0 5 0/"
    ++ codes "messages w 0/" ++ codes "replies a 4/ok/ok/ok/ok/done/")
