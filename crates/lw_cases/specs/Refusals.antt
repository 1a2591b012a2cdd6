-- Worked cases.
-- Plans with refused calls, and their reports.
use Rattle.std.specs.Prelude.{ℕ, true, List, [], ◌∷◌, ◌++◌, pos, neg_ℤ, codes}
use Rattle.lw_calls.specs.declared.make.Kind.TheVariants.{Smart}
use Rattle.lw_calls.specs.declared.make.Place.TheVariants.{Front, Behind}
use Rattle.lw_calls.specs.declared.call.Call.TheVariants.{Create, Close, ToFront, MoveBy, SizeBy, SetBox, Activate, Scroll}
use Rattle.lw_calls.specs.declared.call.Call.TheVariants.{SetTitle}
use Rattle.lw_calls.specs.Plan.{Plan}
use Rattle.lw_cases.specs.Plans.{text, one_task, layer, create, create_backdrop, create_super, open_window, fill}

-- A fill of a layer that was not created, a creation that leaves the screen by one column, one that fits, one more of
-- the same name, and a fill that covers the layer's right edge and passes it.
abbrev pub refused_calls : Plan
refused_calls =
    one_task 16 2 2 (codes "w" ∷ []) (fill 0 0 0 0 0 ∷ create 0 Smart 9 0 16 0 ∷ create 0 Smart 8 0 15 0 ∷
    create 0 Smart 0 0 0 0 ∷ fill 0 6 0 9 1 ∷ [])

abbrev pub refused_calls_report : List ℕ
refused_calls_report =
    text (codes "order 5/0 0 0 0 0/planes 16 2 2/plane 0/0003/0000/plane 1/0000/0000/visible w 1/8 0 15 0/damage w 0/"
    ++ codes "replies a 5/not-open/out-of-bounds/ok/already-open/ok/done/")

-- a backdrop layer that is to be moved, is deleted, and then is to be created and filled once more
abbrev pub backdrop_closed : Plan
backdrop_closed =
    one_task 16 1 1 (codes "d" ∷ []) (Create 0 (record (layer Smart 0 0 3 0) { place = Behind; backdrop = true }) ∷
    MoveBy 0 (pos 1) (pos 0) ∷ Close 0 ∷ create 0 Smart 0 0 3 0 ∷ fill 0 0 0 0 0 ∷ [])

abbrev pub backdrop_closed_report : List ℕ
backdrop_closed_report =
    text (codes "order 5/0 0 0 0 0/planes 16 1 1/plane 0/0000/replies a 5/ok/backdrop/ok/already-open/not-open/done/")

-- Calls that have two causes to be refused: of a backdrop layer, of its name after it was deleted, and of another layer,
-- which is to leave the screen and to lose its width, and then gets another box.
abbrev pub first_causes : Plan
first_causes =
    one_task 16 1 1 (codes "d" ∷ codes "e" ∷ []) (create_backdrop 0 Smart Front 0 0 3 0 ∷ create 0 Smart 14 0 17 0 ∷
    MoveBy 0 (neg_ℤ (pos 5)) (pos 0) ∷ SizeBy 0 (neg_ℤ (pos 9)) (pos 0) ∷ SetBox 0 (pos 20) (pos 0) (pos 5) (pos 1) ∷
    Scroll 0 (pos 100) (pos 0) ∷ Activate 0 ∷ SetTitle 0 [] ∷ Close 0 ∷ create 0 Smart 0 0 3 0 ∷ ToFront 0 ∷
    Activate 0 ∷ Scroll 0 (pos 0) (pos 0) ∷ create 1 Smart 4 0 7 0 ∷ MoveBy 1 (neg_ℤ (pos 5)) (pos 0) ∷
    SizeBy 1 (neg_ℤ (pos 4)) (pos 0) ∷ SetBox 1 (pos 10) (pos 0) (pos 7) (pos 1) ∷
    SetBox 1 (pos 10) (pos 0) (pos 6) (pos 1) ∷ [])

abbrev pub first_causes_report : List ℕ
first_causes_report =
    text (codes "order 18/0 0 0 0 0 0 0 0 0 0 0 0 0 0 0 0 0 0/planes 16 1 1/plane 0/0000/visible e 1/10 0 15 0/"
    ++ codes "damage e 1/4 0 5 0/" ++ codes "replies a 18/ok/already-open/backdrop/backdrop/backdrop/"
    ++ codes "not-super/not-window/not-window/ok/already-open/not-open/not-open/not-open/"
    ++ codes "ok/out-of-bounds/out-of-bounds/out-of-bounds/ok/done/")

-- framed windows that are too narrow and too low, and a super-bitmap layer wider than its bitmap
abbrev pub made_too_small : Plan
made_too_small =
    one_task 16 14 1 (codes "w" ∷ codes "s" ∷ []) (open_window 0 Smart 0 0 8 14 true 0 [] ∷
    open_window 0 Smart 0 0 9 13 true 0 [] ∷ create_super 1 0 0 3 0 3 1 ∷ [])

abbrev pub made_too_small_report : List ℕ
made_too_small_report =
    text (codes "order 3/0 0 0/planes 16 14 1/plane 0/0000/0000/0000/0000/0000/0000/0000/0000/0000/0000/0000/"
    ++ codes "0000/0000/0000/" ++ codes "replies a 3/out-of-bounds/out-of-bounds/out-of-bounds/done/")
