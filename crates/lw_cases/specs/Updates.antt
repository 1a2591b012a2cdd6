-- Worked cases.
-- Plans with updates, and their reports.
use Rattle.std.specs.Prelude.{ℕ, true, false, List, [], ◌∷◌, ◌++◌, pos, codes}
use Rattle.lw_calls.specs.declared.operation.RectOp.TheVariants.{Or as OrRect}
use Rattle.lw_calls.specs.declared.make.Kind.TheVariants.{Simple, Smart}
use Rattle.lw_calls.specs.declared.call.Call.TheVariants.{RegRect, OpenWindow, Close, ToFront, MoveBy, SetRast, Clip, Unclip}
use Rattle.lw_calls.specs.declared.call.Call.TheVariants.{BeginRefresh, EndRefresh, TakeMessage}
use Rattle.lw_calls.specs.declared.group.Hold.TheVariants.{Slot}
use Rattle.lw_calls.specs.Plan.{Plan}
use Rattle.lw_cases.specs.Plans.{text, one_task, further, grouped, rect, box, create, open_window, fill, scroll_left}

-- A window that was asked to refresh takes the message and refreshes in part. It isn't asked again by the next arrangement.
abbrev pub updated_in_part : Plan
updated_in_part =
    grouped (one_task 16 1 1 (codes "w" ∷ codes "c" ∷ []) (open_window 0 Simple 0 0 4 1 false 1 [] ∷
    create 1 Smart 2 0 5 0 ∷ ToFront 0 ∷ TakeMessage 0 ∷ BeginRefresh 0 ∷ EndRefresh 0 false ∷ ToFront 0 ∷
    TakeMessage 0 ∷ [])) (record { first = 4; last = 5; hold = Slot 0 })

abbrev pub updated_in_part_report : List ℕ
updated_in_part_report =
    text (codes "order 8/0 0 0 0 0 0 0 0/planes 16 1 1/plane 0/0000/visible w 1/0 0 3 0/visible c 1/4 0 5 0/"
    ++ codes "damage w 1/2 0 3 0/damage c 0/" ++ codes "messages w 0/replies a 8/ok/ok/ok/message refresh/"
    ++ codes "ok/ok/ok/none/done/")

-- Then it refreshes in full, is covered and is uncovered: now it is asked again.
abbrev pub updated_in_full : Plan
updated_in_full =
    grouped (further updated_in_part (BeginRefresh 0 ∷ EndRefresh 0 true ∷ ToFront 1 ∷ ToFront 0 ∷ [])) (record {
      first = 8;
      last = 9;
      hold = Slot 0;
    })

abbrev pub updated_in_full_report : List ℕ
updated_in_full_report =
    text (codes "order 12/0 0 0 0 0 0 0 0 0 0 0 0/planes 16 1 1/plane 0/0000/visible w 1/0 0 3 0/visible c 1/"
    ++ codes "4 0 5 0/damage w 1/2 0 3 0/damage c 0/" ++ codes "messages w 1/refresh/replies a 12/ok/ok/ok/"
    ++ codes "message refresh/ok/ok/ok/none/ok/ok/ok/ok/done/")

-- a window that is damaged by a scroll, which is no arrangement
abbrev pub damaged_by_scroll : Plan
damaged_by_scroll =
    one_task 16 1 1 (codes "w" ∷ codes "c" ∷ []) (open_window 0 Simple 0 0 4 1 false 1 [] ∷ create 1 Smart 3 0 3 0 ∷
    fill 0 0 0 3 0 ∷ scroll_left 0 1 0 0 3 0 ∷ [])

abbrev pub damaged_by_scroll_report : List ℕ
damaged_by_scroll_report =
    text (codes "order 4/0 0 0 0/planes 16 1 1/plane 0/c000/visible w 1/0 0 2 0/visible c 1/3 0 3 0/damage w 1/"
    ++ codes "2 0 2 0/damage c 0/" ++ codes "messages w 0/replies a 4/ok/ok/ok/ok/done/")

-- and then an arrangement that changes nothing
abbrev pub asked_after_scroll : Plan
asked_after_scroll = further damaged_by_scroll (MoveBy 0 (pos 0) (pos 0) ∷ [])

abbrev pub asked_after_scroll_report : List ℕ
asked_after_scroll_report =
    text (codes "order 5/0 0 0 0 0/planes 16 1 1/plane 0/c000/visible w 1/0 0 2 0/visible c 1/3 0 3 0/"
    ++ codes "damage w 1/2 0 2 0/damage c 0/" ++ codes "messages w 1/refresh/replies a 5/ok/ok/ok/ok/ok/done/")

-- Two windows that are damaged: one wants no refresh messages at all, and the other doesn't ask for this class.
abbrev pub damaged_untold : Plan
damaged_untold =
    one_task 16 1 1 (codes "u" ∷ codes "v" ∷ codes "c" ∷ []) (OpenWindow 0 (box Simple 0 0 4 1) false true 1 [] ∷
    open_window 1 Simple 4 0 4 1 false 2 [] ∷ create 2 Smart 2 0 5 0 ∷ Close 2 ∷ [])

abbrev pub damaged_untold_report : List ℕ
damaged_untold_report =
    text (codes "order 4/0 0 0 0/planes 16 1 1/plane 0/0000/visible u 1/0 0 3 0/visible v 1/4 0 7 0/damage u 1/"
    ++ codes "2 0 3 0/damage v 1/0 0 1 0/" ++ codes "messages u 0/messages v 0/replies a 4/ok/ok/ok/ok/done/")

-- Updates that begin twice and end twice, and a clip region within one. (No script spells these, since an update there is a
-- group; the machine refuses them all the same.)
abbrev pub updates_refused : Plan
updates_refused =
    one_task 16 1 1 (codes "w" ∷ []) (create 0 Smart 0 0 3 0 ∷ EndRefresh 0 true ∷ BeginRefresh 0 ∷ BeginRefresh 0 ∷
    Clip 0 0 ∷ Unclip 0 ∷ EndRefresh 0 false ∷ EndRefresh 0 false ∷ Clip 0 0 ∷ [])

abbrev pub updates_refused_report : List ℕ
updates_refused_report =
    text (codes "order 9/0 0 0 0 0 0 0 0 0/planes 16 1 1/plane 0/0000/visible w 1/0 0 3 0/damage w 0/"
    ++ codes "replies a 9/ok/not-in-update/ok/in-update/in-update/in-update/ok/not-in-update/none/done/")

-- A layer of four columns, of which three are damaged and three are in the clip region: within an update two are drawable, and
-- the clip region stays.
abbrev pub updated_in_clip : Plan
updated_in_clip =
    grouped (one_task 16 1 1 (codes "w" ∷ codes "c" ∷ []) (create 0 Simple 0 0 3 0 ∷ create 1 Smart 0 0 2 0 ∷ Close 1 ∷
    RegRect OrRect 0 (rect 1 0 3 0) ∷ Clip 0 0 ∷ BeginRefresh 0 ∷ SetRast 0 1 ∷ Unclip 0 ∷ EndRefresh 0 true ∷
    Unclip 0 ∷ [])) (record { first = 5; last = 8; hold = Slot 0 })

abbrev pub updated_in_clip_report : List ℕ
updated_in_clip_report =
    text (codes "order 10/0 0 0 0 0 0 0 0 0 0/planes 16 1 1/plane 0/6000/visible w 1/0 0 3 0/damage w 0/"
    ++ codes "replies a 10/ok/ok/ok/ok/none/ok/ok/in-update/ok/region 1 1 0 3 0/done/")
