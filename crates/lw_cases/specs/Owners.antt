-- Worked cases.
-- Plans of two tasks on the layers of one of them, and their reports.
use Rattle.std.specs.Prelude.{ℕ, true, false, List, [], ◌∷◌, ◌++◌, pos, codes}
use Rattle.lw_calls.specs.declared.operation.RectOp.TheVariants.{Or as OrRect}
use Rattle.lw_calls.specs.declared.make.Kind.TheVariants.{Smart}
use Rattle.lw_calls.specs.declared.call.Call.TheVariants.{RegRect, Close, MoveBy, Clip, BeginRefresh, EndRefresh, SetTitle}
use Rattle.lw_calls.specs.declared.call.Call.TheVariants.{TakeMessage}
use Rattle.lw_calls.specs.declared.group.Hold.TheVariants.{Slot}
use Rattle.lw_calls.specs.Plan.{Plan}
use Rattle.lw_cases.specs.Plans.{text, one_task, with_second_task, rect, create, open_window, fill}

-- The first task opens a window and creates a layer. The second may neither close the window, refresh it, give it a title nor
-- take its messages; it may move it, and it may refresh and close the layer, which has no owner.
abbrev pub foreign_window : Plan
foreign_window =
    with_second_task (Close 0 ∷ BeginRefresh 0 ∷ EndRefresh 0 true ∷ SetTitle 0 (codes "A") ∷ TakeMessage 0 ∷
    SetTitle 1 (codes "A") ∷ TakeMessage 1 ∷ TakeMessage 2 ∷ MoveBy 0 (pos 1) (pos 0) ∷ BeginRefresh 1 ∷
    EndRefresh 1 true ∷ Close 1 ∷ []) (record { first = 1; last = 2; hold = Slot 0 } ∷
    record { first = 9; last = 10; hold = Slot 1 } ∷ [])
    (one_task 16 1 1 (codes "w" ∷ codes "x" ∷ codes "z" ∷ []) (open_window 0 Smart 0 0 4 1 false 4 (codes "B") ∷
    fill 0 0 0 0 0 ∷ create 1 Smart 4 0 7 0 ∷ TakeMessage 0 ∷ []))

-- the second task's calls come before the first one's last
abbrev pub foreign_window_order : List ℕ
foreign_window_order = 0 ∷ 0 ∷ 0 ∷ 1 ∷ 1 ∷ 1 ∷ 1 ∷ 1 ∷ 1 ∷ 1 ∷ 1 ∷ 1 ∷ 1 ∷ 1 ∷ 1 ∷ 0 ∷ []

abbrev pub foreign_window_report : List ℕ
foreign_window_report =
    text (codes "order 16/0 0 0 1 1 1 1 1 1 1 1 1 1 1 1 0/planes 16 1 1/plane 0/4000/visible w 1/1 0 4 0/"
    ++ codes "damage w 0/messages w 0/" ++ codes "replies a 4/ok/ok/ok/message change/"
    ++ codes "replies b 12/not-owner/not-owner/not-owner/not-owner/not-owner/not-window/not-window/not-open/"
    ++ codes "ok/ok/ok/ok/done/")

-- Both tasks clip the first one's layer by their register 0, of which the second one's is empty.
abbrev pub own_registers : Plan
own_registers =
    with_second_task (Clip 0 0 ∷ []) []
    (one_task 16 1 1 (codes "w" ∷ []) (create 0 Smart 0 0 3 0 ∷ RegRect OrRect 0 (rect 0 0 1 0) ∷ Clip 0 0 ∷
    fill 0 0 0 3 0 ∷ Clip 0 0 ∷ []))

-- the second task's clip region comes before the fill
abbrev pub own_registers_order : List ℕ
own_registers_order = 0 ∷ 0 ∷ 0 ∷ 1 ∷ 0 ∷ 0 ∷ []

abbrev pub own_registers_report : List ℕ
own_registers_report =
    text (codes "order 6/0 0 0 1 0 0/planes 16 1 1/plane 0/0000/visible w 1/0 0 3 0/damage w 0/"
    ++ codes "replies a 5/ok/ok/none/ok/region 0/replies b 1/region 1 0 0 1 0/done/")

-- The first task opens a window and begins an update, and the second is to begin one too. (No script spells this, since an
-- update there is a group.)
abbrev pub foreign_update : Plan
foreign_update =
    with_second_task (BeginRefresh 0 ∷ []) [] (one_task 16 1 1 (codes "w" ∷ []) (open_window 0 Smart 0 0 4 1 false 0 [] ∷
    BeginRefresh 0 ∷ []))

abbrev pub foreign_update_order : List ℕ
foreign_update_order = 0 ∷ 0 ∷ 1 ∷ []

abbrev pub foreign_update_report : List ℕ
foreign_update_report =
    text (codes "order 3/0 0 1/planes 16 1 1/plane 0/0000/visible w 1/0 0 3 0/damage w 0/messages w 0/"
    ++ codes "replies a 2/ok/ok/replies b 1/not-owner/done/")
