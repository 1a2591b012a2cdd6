-- Worked cases.
-- Plans of the versions 2 and 3, and their reports.
use Rattle.std.specs.Prelude.{ℕ, true, false, List, [], ◌∷◌, ◌++◌, replicate, pos, negsuc, neg_ℤ, Some, codes}
use Rattle.lw_calls.specs.declared.operation.RectOp.TheVariants.{Or as OrRect}
use Rattle.lw_calls.specs.declared.make.Kind.TheVariants.{Simple, Smart}
use Rattle.lw_calls.specs.declared.call.Call.TheVariants.{RegRect, Create, OpenWindow, Close, MoveBy, SizeBy, SetBox, Activate}
use Rattle.lw_calls.specs.declared.call.Call.TheVariants.{SetHook, ToFront, Which, SetA, SetB, SetMode, SetMask, At, Letters}
use Rattle.lw_calls.specs.declared.call.Call.TheVariants.{ScrollRaster, Clip, Unclip, BeginRefresh, EndRefresh, TakeMessage}
use Rattle.lw_calls.specs.Plan.{Plan}
use Rattle.lw_cases.specs.Plans.{text, one_task, of_version, further, with_glyph, with_hooks, with_second_task, six_hooks, box}
use Rattle.lw_cases.specs.Plans.{layer, create, create_hooked, create_super, fill, rect}

-- A simple layer whose hook is replaced, and which then is covered and uncovered.
abbrev pub hook_replaced : Plan
hook_replaced =
    of_version 2
    (with_hooks six_hooks
    (one_task 16 1 2 (codes "w" ∷ codes "c" ∷ [])
    (create_hooked 0 Simple 0 0 3 0 0 ∷ SetHook 0 5 ∷ create 1 Smart 0 0 3 0 ∷ Close 1 ∷ [])))

abbrev pub hook_replaced_report : List ℕ
hook_replaced_report =
    text (codes "order 4/0 0 0 0/planes 16 1 2/plane 0/f000/plane 1/f000/visible w 1/0 0 3 0/damage w 1/0 0 3 0/"
    ++ codes "replies a 4/ok/ok/ok/ok/done/")

-- A change of the hook of a layer that isn't open, which leaves the hook on the shelf; one that takes it, and another that names
-- it again and gets none. (No script names a hook twice; the machine hands it out once all the same.)
abbrev pub hook_set_twice : Plan
hook_set_twice =
    of_version 2
    (with_hooks six_hooks
    (one_task 16 1 1 (codes "w" ∷ codes "c" ∷ codes "e" ∷ [])
    (SetHook 0 0 ∷ create 0 Simple 0 0 3 0 ∷ SetHook 0 0 ∷ create 1 Smart 0 0 1 0 ∷ Close 1 ∷ SetHook 0 0
    ∷ create 2 Smart 2 0 3 0 ∷ Close 2 ∷ [])))

abbrev pub hook_set_twice_report : List ℕ
hook_set_twice_report =
    text (codes "order 8/0 0 0 0 0 0 0 0/planes 16 1 1/plane 0/c000/visible w 1/0 0 3 0/damage w 1/0 0 3 0/"
    ++ codes "replies a 8/not-open/ok/ok/ok/ok/ok/ok/ok/done/")

-- A super-bitmap layer that gets a hook, which fills nothing where the layer grows; a change of a hook paints nothing either.
abbrev pub super_hooked : Plan
super_hooked =
    of_version 2
    (with_hooks six_hooks
    (one_task 16 1 1 (codes "s" ∷ codes "w" ∷ [])
    (create_super 0 0 0 3 0 8 1 ∷ fill 0 0 0 0 0 ∷ SetHook 0 0 ∷ SizeBy 0 (pos 2) (pos 0) ∷ create 1 Smart 8 0 11 0 ∷ SetHook 1 1
    ∷ [])))

abbrev pub super_hooked_report : List ℕ
super_hooked_report =
    text (codes "order 6/0 0 0 0 0 0/planes 16 1 1/plane 0/8000/visible s 1/0 0 5 0/visible w 1/8 0 11 0/damage s 0/damage w 0/"
    ++ codes "replies a 6/ok/ok/ok/ok/ok/ok/done/")

-- A window whose damage of a ScrollRaster no message told so far. A change of its hook puts none either, and the next arrangement
-- does.
abbrev pub hook_untold : Plan
hook_untold =
    of_version 2
    (with_hooks six_hooks
    (one_task 16 1 1 (codes "w" ∷ codes "c" ∷ [])
    (OpenWindow 0 (box Simple 0 0 8 1) false false 1 [] ∷ create 1 Smart 0 0 1 0
    ∷ ScrollRaster 0 (neg_ℤ (pos 1)) (pos 0) (rect 0 0 7 0) ∷ SetHook 0 0 ∷ TakeMessage 0 ∷ ToFront 1 ∷ TakeMessage 0 ∷ [])))

abbrev pub hook_untold_report : List ℕ
hook_untold_report =
    text (codes "order 7/0 0 0 0 0 0 0/planes 16 1 1/plane 0/0000/visible w 1/2 0 7 0/visible c 1/0 0 1 0/damage w 1/2 0 2 0/"
    ++ codes "damage c 0/messages w 0/replies a 7/ok/ok/ok/ok/none/ok/message refresh/done/")

-- The second task changes the hook of the first one's backdrop window, which is updating. Of the window's five columns the middle
-- three are damaged and the last three are in the clip region, so letters paint two: in inverse video, and by the mask in two of
-- three planes, pen B where the glyph's second column is, and pen A. (No script spells this, since an update there is a group.)
abbrev pub hook_in_update : Plan
hook_in_update =
    of_version 2
    (with_hooks six_hooks
    (with_glyph 65 (replicate 8 64)
    (with_second_task (SetHook 0 1 ∷ []) []
    (one_task 16 1 3 (codes "w" ∷ codes "c" ∷ [])
    (OpenWindow 0 (record (box Simple 0 0 5 1) { backdrop = true; hook = Some 0 }) false false 0 [] ∷ create 1 Smart 1 0 3 0
    ∷ Close 1 ∷ RegRect OrRect 0 (rect 2 0 4 0) ∷ Clip 0 0 ∷ SetA 0 2 ∷ SetB 0 4 ∷ SetMode 0 5 ∷ SetMask 0 6
    ∷ At 0 (pos 1) (pos 0) ∷ BeginRefresh 0 ∷ Letters 0 (codes "A") ∷ EndRefresh 0 false ∷ [])))))

-- the second task's call comes after the update began
abbrev pub hook_in_update_order : List ℕ
hook_in_update_order = replicate 11 0 ++ 1 ∷ 0 ∷ 0 ∷ []

abbrev pub hook_in_update_report : List ℕ
hook_in_update_report =
    text (codes "order 14/0 0 0 0 0 0 0 0 0 0 0 1 0 0/planes 16 1 3/plane 0/f800/plane 1/1000/plane 2/2000/visible w 1/0 0 4 0/"
    ++ codes "damage w 1/1 0 3 0/messages w 0/"
    ++ codes "replies a 13/ok/ok/ok/ok/none/ok/ok/ok/ok/ok/ok/ok/ok/replies b 1/ok/done/")

-- a smart layer that leaves the screen by two columns
abbrev pub left_of_screen : Plan
left_of_screen =
    of_version 2
    (one_task 16 1 1 (codes "w" ∷ [])
    (create 0 Smart 0 0 3 0 ∷ fill 0 0 0 3 0 ∷ MoveBy 0 (neg_ℤ (pos 2)) (pos 0) ∷ Which (neg_ℤ (pos 1)) (pos 0) ∷ []))

abbrev pub left_of_screen_report : List ℕ
left_of_screen_report =
    text (codes "order 4/0 0 0 0/planes 16 1 1/plane 0/c000/visible w 1/0 0 1 0/damage w 0/replies a 4/ok/ok/ok/none/done/")

-- and comes back; and which isn't let go in version 1
abbrev pub back_on_screen : Plan
back_on_screen = further left_of_screen (MoveBy 0 (pos 2) (pos 0) ∷ [])

abbrev pub back_on_screen_report : List ℕ
back_on_screen_report =
    text (codes "order 5/0 0 0 0 0/planes 16 1 1/plane 0/f000/visible w 1/0 0 3 0/damage w 0/replies a 5/ok/ok/ok/none/ok/done/")

abbrev pub kept_on_screen : Plan
kept_on_screen = of_version 1 left_of_screen

abbrev pub kept_on_screen_report : List ℕ
kept_on_screen_report =
    text (codes
    "order 4/0 0 0 0/planes 16 1 1/plane 0/f000/visible w 1/0 0 3 0/damage w 0/replies a 4/ok/ok/out-of-bounds/none/done/")

-- a simple layer that leaves the screen by two columns and comes back
abbrev pub simple_off_screen : Plan
simple_off_screen =
    of_version 2
    (one_task 16 1 1 (codes "s" ∷ [])
    (create 0 Simple 0 0 3 0 ∷ fill 0 0 0 3 0 ∷ MoveBy 0 (neg_ℤ (pos 2)) (pos 0) ∷ MoveBy 0 (pos 2) (pos 0) ∷ []))

abbrev pub simple_off_screen_report : List ℕ
simple_off_screen_report =
    text (codes "order 4/0 0 0 0/planes 16 1 1/plane 0/3000/visible s 1/0 0 3 0/damage s 1/0 0 1 0/replies a 4/ok/ok/ok/ok/done/")

-- a simple layer that leaves the screen by its upper row, where no layer is found, and comes back
abbrev pub over_upper_edge : Plan
over_upper_edge =
    of_version 2
    (one_task 16 2 1 (codes "s" ∷ [])
    (create 0 Simple 0 0 3 1 ∷ fill 0 0 0 3 1 ∷ MoveBy 0 (pos 0) (neg_ℤ (pos 1)) ∷ Which (pos 0) (neg_ℤ (pos 1))
    ∷ MoveBy 0 (pos 0) (pos 1) ∷ []))

abbrev pub over_upper_edge_report : List ℕ
over_upper_edge_report =
    text (codes "order 5/0 0 0 0 0/planes 16 2 1/plane 0/0000/f000/visible s 1/0 0 3 1/damage s 1/0 0 3 0/"
    ++ codes "replies a 5/ok/ok/ok/none/ok/done/")

-- A smart and a simple layer that are created wholly off the screen, with hooks that turn. The smart one, which was filled, comes
-- on the screen one column wider, and its hook fills that with its second pen; the simple one comes whole, and its hook fills it
-- with its first pen.
abbrev pub created_off_screen : Plan
created_off_screen =
    of_version 2
    (with_hooks six_hooks
    (one_task 16 1 2 (codes "w" ∷ codes "s" ∷ [])
    (create_hooked 0 Smart 16 0 19 0 4 ∷ create_hooked 1 Simple 16 0 19 0 5 ∷ SetBox 0 (pos 4) (pos 0) (pos 5) (pos 1)
    ∷ MoveBy 1 (neg_ℤ (pos 16)) (pos 0) ∷ [])))

abbrev pub created_off_screen_report : List ℕ
created_off_screen_report =
    text (codes "order 4/0 0 0 0/planes 16 1 2/plane 0/ff00/plane 1/f080/visible w 1/4 0 8 0/visible s 1/0 0 3 0/"
    ++ codes "damage w 1/4 0 4 0/damage s 1/0 0 3 0/replies a 4/ok/ok/ok/ok/done/")

-- a layer that goes as far as a coordinate, and no further, and one wider than the screen
abbrev pub far_left : Plan
far_left =
    of_version 2
    (one_task 16 1 1 (codes "w" ∷ codes "t" ∷ [])
    (create 0 Smart 0 0 3 0 ∷ MoveBy 0 (negsuc 32767) (pos 0) ∷ MoveBy 0 (neg_ℤ (pos 1)) (pos 0) ∷ create 1 Smart 0 0 16 0
    ∷ []))

abbrev pub far_left_report : List ℕ
far_left_report =
    text (codes
    "order 4/0 0 0 0/planes 16 1 1/plane 0/0000/visible w 0/damage w 0/replies a 4/ok/ok/out-of-bounds/out-of-bounds/done/")

-- A smart layer that is created wholly off the screen. It is to get one column more than the screen has, and gets as many; then
-- one row more, and gets as many by its box, which goes as far right, down and up as coordinates go, and not one place further.
-- At last four of its columns and two of its rows are on the screen.
abbrev pub far_places : Plan
far_places =
    of_version 2
    (one_task 16 4 1 (codes "w" ∷ [])
    (Create 0 (record (layer Smart 0 0 3 1) { x = neg_ℤ (pos 4); y = neg_ℤ (pos 1) }) ∷ SizeBy 0 (pos 13) (pos 0)
    ∷ SizeBy 0 (pos 12) (pos 0) ∷ SizeBy 0 (pos 0) (pos 3)
    ∷ SetBox 0 (pos 32752) (pos 0) (pos 16) (pos 4) ∷ SetBox 0 (pos 32753) (pos 0) (pos 16) (pos 4)
    ∷ SetBox 0 (pos 0) (pos 32764) (pos 16) (pos 4) ∷ SetBox 0 (pos 0) (pos 32765) (pos 16) (pos 4)
    ∷ SetBox 0 (pos 0) (negsuc 32767) (pos 16) (pos 4) ∷ MoveBy 0 (pos 0) (neg_ℤ (pos 1))
    ∷ SetBox 0 (pos 12) (pos 2) (pos 16) (pos 4) ∷ Which (pos 15) (pos 3) ∷ Which (pos 16) (pos 3) ∷ Which (pos 15) (pos 4) ∷ []))

abbrev pub far_places_report : List ℕ
far_places_report =
    text (codes "order 14/0 0 0 0 0 0 0 0 0 0 0 0 0 0/planes 16 4 1/plane 0/0000/0000/0000/0000/visible w 1/12 2 15 3/"
    ++ codes "damage w 2/4 0 15 1/0 2 15 3/"
    ++ codes "replies a 14/ok/out-of-bounds/ok/out-of-bounds/ok/out-of-bounds/ok/out-of-bounds/"
    ++ codes "ok/out-of-bounds/ok/layer w/none/none/done/")

-- a screen of 2048 columns, on which nothing is
abbrev pub wide_screen : Plan
wide_screen = of_version 2 (one_task 2048 1 1 [] [])

abbrev pub wide_screen_report : List ℕ
wide_screen_report = text (codes "order 0/planes 2048 1 1/plane 0/") ++ replicate 512 48 ++ text (codes "/replies a 0/done/")

-- A window with a hook, pen 3, a clip region, damage and a message, which is closed. A smart layer is created in its slot, and
-- has nothing of it; once more it isn't, while it is live.
abbrev pub opened_again : Plan
opened_again =
    of_version 3
    (with_hooks six_hooks
    (one_task 16 1 2 (codes "w" ∷ codes "c" ∷ [])
    (OpenWindow 0 (record (box Simple 0 0 4 1) { hook = Some 1 }) false false 1 [] ∷ SetA 0 3 ∷ Clip 0 0 ∷ create 1 Smart 0 0 1 0
    ∷ Close 1 ∷ Close 0
    ∷ create 0 Smart 0 0 3 0 ∷ TakeMessage 0 ∷ Unclip 0 ∷ fill 0 0 0 0 0 ∷ create 0 Smart 0 0 3 0 ∷ SizeBy 0 (pos 2) (pos 0)
    ∷ [])))

abbrev pub opened_again_report : List ℕ
opened_again_report =
    text (codes
    "order 12/0 0 0 0 0 0 0 0 0 0 0 0/planes 16 1 2/plane 0/8000/plane 1/0000/visible w 1/0 0 5 0/damage w 1/4 0 5 0/"
    ++ codes "replies a 12/ok/ok/none/ok/ok/ok/ok/not-window/none/ok/already-open/ok/done/")

-- in version 2 it stays closed
abbrev pub opened_once : Plan
opened_once = of_version 2 opened_again

abbrev pub opened_once_report : List ℕ
opened_once_report =
    text (codes "order 12/0 0 0 0 0 0 0 0 0 0 0 0/planes 16 1 2/plane 0/0000/plane 1/0000/"
    ++ codes "replies a 12/ok/ok/none/ok/ok/ok/already-open/not-open/not-open/not-open/already-open/not-open/done/")

-- A window with a message, which is active and closed. Another one in its slot has no message and isn't active.
abbrev pub window_again : Plan
window_again =
    of_version 3
    (one_task 16 1 1 (codes "w" ∷ [])
    (OpenWindow 0 (box Smart 0 0 4 1) false false 8 [] ∷ Activate 0 ∷ Close 0 ∷ OpenWindow 0 (box Smart 0 0 4 1) false false 8 []
    ∷ TakeMessage 0 ∷ Activate 0 ∷ []))

abbrev pub window_again_report : List ℕ
window_again_report =
    text (codes "order 6/0 0 0 0 0 0/planes 16 1 1/plane 0/0000/visible w 1/0 0 3 0/damage w 0/messages w 1/active/"
    ++ codes "replies a 6/ok/ok/ok/ok/none/ok/done/")

-- A damaged simple layer that is closed, and another one in its slot.
abbrev pub damaged_and_again : Plan
damaged_and_again =
    of_version 3
    (one_task 16 1 1 (codes "s" ∷ codes "c" ∷ [])
    (create 0 Simple 0 0 3 0 ∷ create 1 Smart 0 0 1 0 ∷ Close 1 ∷ Close 0 ∷ create 0 Simple 0 0 3 0 ∷ []))

-- the plans that a script can spell
abbrev pub plans_of_version_2 : List Plan
plans_of_version_2 =
    hook_replaced ∷ super_hooked ∷ hook_untold ∷ back_on_screen ∷ simple_off_screen ∷ over_upper_edge ∷ created_off_screen
    ∷ far_left ∷ far_places ∷ wide_screen ∷ opened_once ∷ []
