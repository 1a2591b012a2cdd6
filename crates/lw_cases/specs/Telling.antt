-- Worked cases.
-- A plan with a window that is told of all but its damage, and its report.
use Rattle.std.specs.Prelude.{ℕ, true, false, List, [], ◌∷◌, ◌++◌, pos, codes}
use Rattle.lw_calls.specs.declared.make.Kind.TheVariants.{Smart}
use Rattle.lw_calls.specs.declared.call.Call.TheVariants.{OpenWindow, Close, SizeBy, Activate}
use Rattle.lw_calls.specs.Plan.{Plan}
use Rattle.lw_cases.specs.Plans.{text, one_task, box, create}

-- A window that asks for all classes of messages and wants no refresh messages. It is made active and gets one row more, and
-- another layer is created and deleted.
abbrev pub grown_while_active : Plan
grown_while_active =
    one_task 16 2 1 (codes "w" ∷ codes "c" ∷ []) (OpenWindow 0 (box Smart 0 0 4 1) false true 31 [] ∷ Activate 0 ∷
    SizeBy 0 (pos 0) (pos 1) ∷ create 1 Smart 8 0 9 0 ∷ Close 1 ∷ [])

abbrev pub grown_while_active_report : List ℕ
grown_while_active_report =
    text (codes "order 5/0 0 0 0 0/planes 16 2 1/plane 0/0000/0000/visible w 1/0 0 3 1/damage w 1/0 1 3 1/"
    ++ codes "messages w 3/active/newsize/change/replies a 5/ok/ok/ok/ok/ok/done/")
