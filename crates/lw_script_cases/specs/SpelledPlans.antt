-- Worked cases.
-- Scripts with the whole inputs that they spell.
use Rattle.std.specs.Prelude.{ℕ, true, false, List, [], ◌∷◌, ◌++◌, pos, negsuc, Some, codes}
use Rattle.lw_planes.specs.Storage.{stored}
use Rattle.lw_calls.specs.declared.make.Kind.TheVariants.{Simple, Smart}
use Rattle.lw_calls.specs.declared.make.Place.TheVariants.{Front, Behind}
use Rattle.lw_calls.specs.declared.make.Make.{Make}
use Rattle.lw_calls.specs.declared.call.Call.TheVariants.{Create, OpenWindow, Close, ToFront, ToBack, InFrontOf, MoveBy, SizeBy}
use Rattle.lw_calls.specs.declared.call.Call.TheVariants.{SetBox, Activate, Which, SetA, SetB, SetMode, SetMask, At, WritePixel}
use Rattle.lw_calls.specs.declared.call.Call.TheVariants.{ReadPixel, DrawTo, Letters, SetRast, ScrollRaster, Put, Blit, Clip}
use Rattle.lw_calls.specs.declared.call.Call.TheVariants.{Unclip, BeginRefresh, EndRefresh, Scroll, SetTitle, TakeMessage}
use Rattle.lw_calls.specs.declared.group.Hold.TheVariants.{Slot, All}
use Rattle.lw_calls.specs.Plan.{Plan}
use Rattle.lw_grammar.specs.Script.{ScriptInput}
use Rattle.lw_cases.specs.Plans.{with_bitmap, with_hooks, one_task, solid, create, fill, rect}
use Rattle.lw_script_cases.specs.WholeScripts.{script, in_task_a}
use Rattle.lw_script_cases.specs.CanonicalTexts.{window_of, area}

-- the input of a plan, without an order, from so many bytes
abbrev pub input_of : Plan → ℕ → ScriptInput
input_of plan bytes = record { plan = plan; order = []; rest = bytes }

-- each verb, on the second of two layers
abbrev pub second_layer_script : List ℕ
second_layer_script =
    script (codes "screen 16 4 1/bitmap b 1 1 1/8000/task a/create w smart front 0 0 7 3/create v simple behind 1 2 5 4/open v smart behind 1 2 9 14 'T'/close v/front v/behind v/infront v v/infront w v/")
    ++ script (codes "move v 1 -2/size v 3 -4/box v 1 2 3 4/activate v/which 5 6/apen v 7/bpen v 8/mode v 5/mask v 9/at v 10 -11/write v 12 13/read v 14 15/fill v 1 2 3 4/draw v -5 6/text v 'ab'/setrast v 17/scrollraster v 1 -2 3 4 5 6/")
    ++ script (codes "put b 1 2 v 3 4 5 6 20/blit v 1 2 v 3 4 5 6 30/blit w 1 2 v 3 4 5 6 40/blit v 1 2 w 3 4 5 6 50/clip v 3/unclip v/refresh v/endrefresh v part/scroll v 7 -8/title v 'c'/getmsg v/lock v/getmsg v/unlock v/hold/front v/release/end/")

abbrev pub second_layer_plan : Plan
second_layer_plan =
    record (with_bitmap (codes "b") (stored 1 1 1 (128 ∷ 0 ∷ []))
    (one_task 16 4 1 (codes "w" ∷ codes "v" ∷ [])
    (create 0 Smart 0 0 7 3 ∷ Create 1 (window_of Simple Behind 1 2 5 3)
    ∷ OpenWindow 1 (window_of Smart Behind 1 2 9 14) true false 0 (codes "T") ∷ Close 1 ∷ ToFront 1 ∷ ToBack 1 ∷ InFrontOf 1 1
    ∷ InFrontOf 0 1 ∷ MoveBy 1 (pos 1) (negsuc 1) ∷ SizeBy 1 (pos 3) (negsuc 3) ∷ SetBox 1 (pos 1) (pos 2) (pos 3) (pos 4)
    ∷ Activate 1 ∷ Which (pos 5) (pos 6) ∷ SetA 1 7 ∷ SetB 1 8 ∷ SetMode 1 5 ∷ SetMask 1 9 ∷ At 1 (pos 10) (negsuc 10)
    ∷ WritePixel 1 (pos 12) (pos 13) ∷ ReadPixel 1 (pos 14) (pos 15) ∷ fill 1 1 2 3 4 ∷ DrawTo 1 (negsuc 4) (pos 6)
    ∷ Letters 1 (codes "ab") ∷ SetRast 1 17 ∷ ScrollRaster 1 (pos 1) (negsuc 1) (rect 3 4 5 6) ∷ Put 0 1 (area 1 2 3 4 5 6 32)
    ∷ Blit 1 1 (area 1 2 3 4 5 6 48) ∷ Blit 0 1 (area 1 2 3 4 5 6 64) ∷ Blit 1 0 (area 1 2 3 4 5 6 80) ∷ Clip 1 3 ∷ Unclip 1
    ∷ BeginRefresh 1 ∷ EndRefresh 1 false ∷ Scroll 1 (pos 7) (negsuc 7) ∷ SetTitle 1 (codes "c") ∷ TakeMessage 1 ∷ TakeMessage 1
    ∷ ToFront 1 ∷ []))) {
      groups = (record { first = 31; last = 32; hold = Slot 1 } ∷ record { first = 36; last = 36; hold = Slot 1 }
          ∷ record { first = 37; last = 37; hold = All } ∷ []) ∷ [];
    }

-- a window without optional words, with each of them alone, and one of another kind and place
abbrev pub windows_script : List ℕ
windows_script =
    in_task_a
    ++ script (codes "open zoom smart front 0 0 9 14 ''/open AZ_09 smart front 0 0 9 14 backdrop ''/open c smart front 0 0 9 14 borderless ''/open d smart front 0 0 9 14 nocare ''/open e smart front 0 0 9 14 hook 0 ''/")
    ++ script (codes "open f smart front 0 0 9 14 ask r ''/open g smart front 0 0 9 14 ask n ''/open h smart front 0 0 9 14 ask c ''/open i smart front 0 0 9 14 ask a ''/open j smart front 0 0 9 14 ask i ''/open k simple behind 1 2 3 4 'T'/end/")

abbrev pub least_window : Make
least_window = window_of Smart Front 0 0 9 14

abbrev pub windows_plan : Plan
windows_plan =
    with_hooks (solid 1 ∷ [])
    (one_task 16 4 1 (codes "zoom" ∷ codes "AZ_09" ∷ codes "c" ∷ codes "d" ∷ codes "e" ∷ codes "f" ∷ codes "g" ∷ codes "h"
    ∷ codes "i" ∷ codes "j" ∷ codes "k" ∷ [])
    (OpenWindow 0 least_window true false 0 [] ∷ OpenWindow 1 (record least_window { backdrop = true }) true false 0 []
    ∷ OpenWindow 2 least_window false false 0 [] ∷ OpenWindow 3 least_window true true 0 []
    ∷ OpenWindow 4 (record least_window { hook = Some 0 }) true false 0 [] ∷ OpenWindow 5 least_window true false 1 []
    ∷ OpenWindow 6 least_window true false 2 [] ∷ OpenWindow 7 least_window true false 4 []
    ∷ OpenWindow 8 least_window true false 8 [] ∷ OpenWindow 9 least_window true false 16 []
    ∷ OpenWindow 10 (window_of Simple Behind 1 2 3 4) true false 0 (codes "T") ∷ []))

-- an order of two lines, with the greatest number
abbrev pub ordered_script : List ℕ
ordered_script = in_task_a ++ script (codes "end/order/0 15/1/")

abbrev pub ordered_input : ScriptInput
ordered_input = record { plan = one_task 16 4 1 [] []; order = 0 ∷ 15 ∷ 1 ∷ []; rest = 38 }

-- a task without calls; a script of it with a report, behind whose line `report` stands what is no line, and one that ends with
-- that line; one that ends with a comment; and the last two without their last line feed
abbrev pub idle_plan : Plan
idle_plan = one_task 16 4 1 [] []

abbrev pub reported_script : List ℕ
reported_script = in_task_a ++ script (codes "end/report/order 0/") ++ 255 ∷ 10 ∷ []

abbrev pub report_at_end : List ℕ
report_at_end = in_task_a ++ script (codes "end/report/")

abbrev pub report_without_feed : List ℕ
report_without_feed = in_task_a ++ script (codes "end/report")

abbrev pub comment_at_end : List ℕ
comment_at_end = in_task_a ++ script (codes "end/# note/")

abbrev pub comment_without_feed : List ℕ
comment_without_feed = in_task_a ++ script (codes "end/# note")
