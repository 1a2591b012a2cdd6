-- Worked cases.
-- Scripts with windows of two layers: what they stand for, and the first reason for which such a line is bad, or a line that
-- would part the two layers.
use Rattle.std.specs.Prelude.{ℕ, true, false, List, [], ◌∷◌, ◌++◌, map, pos, neg_ℤ, codes, Option, Some}
use Rattle.std.specs.List.{range_with_len}
use Rattle.std.specs.Fmt.{decimal}
use Rattle.lw_calls.specs.declared.make.Kind.TheVariants.{Simple, Smart}
use Rattle.lw_calls.specs.declared.make.Place.TheVariants.{Front, Behind}
use Rattle.lw_calls.specs.declared.make.Make.{Make}
use Rattle.lw_calls.specs.declared.call.Call.{Call}
use Rattle.lw_calls.specs.declared.call.Call.TheVariants.{OpenWindow, Close, ToFront, ToBack, InFrontOf, SetBox, Fill}
use Rattle.lw_calls.specs.declared.group.Hold.TheVariants.{All}
use Rattle.lw_calls.specs.declared.group.Group.{Group}
use Rattle.lw_calls.specs.Plan.{Plan}
use Rattle.lw_grammar.specs.declared.form.Form.TheVariants.{Plain}
use Rattle.lw_grammar.specs.declared.reason.Reason.{Reason}
use Rattle.lw_grammar.specs.Lines.{lines}
use Rattle.lw_grammar.specs.Told.{Held, Told, told}
use Rattle.lw_grammar.specs.Script.{line_read}
use Rattle.lw_cases.specs.Plans.{text, of_version, one_task, further, grouped, open_window}
use Rattle.lw_script_cases.specs.WholeScripts.{IsSpelled, script, alone, screened, in_task_a, of_version_2, in_version_2}
use Rattle.lw_script_cases.specs.CanonicalTexts.{window_of}
use Rattle.lw_script_cases.specs.LinesBelow.{statements_below, reason_of}
use Rattle.lw_script_cases.specs.Refused.{Refused, at_line}

-- a hold group, and the layer of a window
abbrev pub held : ℕ → ℕ → Group
held first last = record { first = first; last = last; hold = All }

abbrev pub plain : ℕ → ℕ → ℕ → ℕ → Make
plain x y w h = window_of Smart Front x y w h

-- A window of two layers, whose inner one is filled; then with another box.
abbrev pub filled_script : List ℕ
filled_script = script (codes "layers 2/screen 16 20 1/task a/gopen g i smart front 0 0 16 20 ''/fill i -5 -5 30 30/end/")

abbrev pub filled_calls : List Call
filled_calls =
    open_window 0 Smart 0 0 16 20 true 0 []
    ∷ open_window 1 Smart 4 11 8 7 false 0 []
    ∷ InFrontOf 1 0
    ∷ Fill 1 (record { min_x = neg_ℤ (pos 5); min_y = neg_ℤ (pos 5); max_x = pos 30; max_y = pos 30 })
    ∷ []

abbrev pub filled : Plan
filled =
    record (grouped (of_version 2 (one_task 16 20 1 (codes "g" ∷ codes "i" ∷ []) filled_calls)) (held 0 2)) {
      pairs = record { outer = 0; inner = 1 } ∷ [];
    }

abbrev pub filled_report : List ℕ
filled_report =
    text (codes "order 4/0 0 0 0/planes 16 20 1/plane 0/0000/0000/0000/0000/0000/0000/0000/0000/0000/0000/0000/"
    ++ codes "0ff0/0ff0/0ff0/0ff0/0ff0/0ff0/0ff0/0000/0000/"
    ++ codes "visible g 4/0 0 15 10/0 11 3 17/12 11 15 17/0 18 15 19/visible i 1/4 11 11 17/damage g 0/damage i 0/"
    ++ codes "messages g 0/messages i 0/replies a 4/ok/ok/ok/ok/done/")

abbrev pub boxed_script : List ℕ
boxed_script =
    script (codes "layers 2/screen 16 20 1/task a/gopen g i smart front 0 0 16 20 ''/fill i -5 -5 30 30/gbox g 0 0 15 19/end/")

abbrev pub boxed : Plan
boxed =
    grouped (further filled (SetBox 0 (pos 0) (pos 0) (pos 15) (pos 19) ∷ SetBox 1 (pos 4) (pos 11) (pos 7) (pos 6) ∷ []))
    (held 4 5)

abbrev pub boxed_report : List ℕ
boxed_report =
    text (codes "order 6/0 0 0 0 0 0/planes 16 20 1/plane 0/0000/0000/0000/0000/0000/0000/0000/0000/0000/0000/0000/"
    ++ codes "0fe0/0fe0/0fe0/0fe0/0fe0/0fe0/0000/0000/0000/"
    ++ codes "visible g 4/0 0 14 10/0 11 3 16/11 11 14 16/0 17 14 18/visible i 1/4 11 10 16/damage g 0/damage i 0/"
    ++ codes "messages g 0/messages i 0/replies a 6/ok/ok/ok/ok/ok/ok/done/")

-- each line, its groups, the names in the order of their first appearance, and a title and classes of messages
abbrev pub all_lines_script : List ℕ
all_lines_script =
    script (codes "layers 2/screen 64 48 1/task a/gopen g i simple behind 1 2 16 20 ask ra 'T'/")
    ++ script (codes "gopen h j smart front 0 0 9 14 ''/ginfront g m/ginfront h i/gbox g -3 4 17 21/gfront g/gbehind h/gclose g/end/")

abbrev pub all_lines : Plan
all_lines =
    record (of_version 2 (one_task 64 48 1 (codes "g" ∷ codes "i" ∷ codes "h" ∷ codes "j" ∷ codes "m" ∷ []) (
    OpenWindow 0 (record (plain 1 2 16 20) { place = Behind }) true false 9 (codes "T")
    ∷ OpenWindow 1 (record (plain 5 13 8 7) { kind = Simple; place = Behind }) false false 9 []
    ∷ InFrontOf 1 0
    ∷ OpenWindow 2 (plain 0 0 9 14) true false 0 []
    ∷ OpenWindow 3 (plain 4 11 1 1) false false 0 []
    ∷ InFrontOf 3 2
    ∷ InFrontOf 0 4 ∷ InFrontOf 1 0
    ∷ InFrontOf 2 1 ∷ InFrontOf 3 2
    ∷ SetBox 0 (neg_ℤ (pos 3)) (pos 4) (pos 17) (pos 21) ∷ SetBox 1 (pos 1) (pos 15) (pos 9) (pos 8)
    ∷ ToFront 0 ∷ ToFront 1
    ∷ ToBack 3 ∷ ToBack 2
    ∷ Close 0 ∷ Close 1
    ∷ []))) {
      groups =
          (held 0 2 ∷ held 3 5 ∷ held 6 7 ∷ held 8 9 ∷ held 10 11 ∷ held 12 13 ∷ held 14 15 ∷ held 16 17 ∷ []) ∷ [];
      pairs = record { outer = 0; inner = 1 } ∷ record { outer = 2; inner = 3 } ∷ [];
    }

-- a plan with groups that stand for no word of its pair: of the inner layer first, of one call more, of a layer alone, and none
abbrev pub beside_calls : List Call
beside_calls =
    ToFront 1 ∷ ToFront 0
    ∷ ToFront 0 ∷ ToFront 1 ∷ ToFront 2
    ∷ Close 0
    ∷ ToBack 0 ∷ ToBack 1
    ∷ ToFront 0 ∷ ToFront 1
    ∷ []

abbrev pub beside_pairs : Plan
beside_pairs =
    record (of_version 2 (one_task 64 48 1 (codes "g" ∷ codes "i" ∷ codes "w" ∷ []) beside_calls)) {
      groups = (held 0 1 ∷ held 2 4 ∷ held 5 5 ∷ held 6 7 ∷ []) ∷ [];
      pairs = record { outer = 2; inner = 0 } ∷ record { outer = 0; inner = 1 } ∷ [];
    }

abbrev pub beside_pairs_text : List ℕ
beside_pairs_text =
    script (codes "layers 2/screen 64 48 1/task a/hold/front i/front g/release/hold/front g/front i/front w/release/")
    ++ script (codes "hold/close g/release/hold/behind g/behind i/release/front g/front i/end/")

-- a window of two layers on a larger screen, and two of them
abbrev pub paired : List ℕ
paired = script (codes "layers 2/screen 64 48 1/task a/gopen g i smart front 0 0 16 20 ''/")

abbrev pub both_paired : List ℕ
both_paired = paired ++ script (codes "gopen h j smart front 0 0 16 20 ''/")

-- a task beside a bitmap and a pattern of zeros
abbrev pub other_names : List ℕ
other_names = script (codes "layers 2/screen 64 48 1/pattern p 0000/bitmap b 1 1 1/8000/task a/")

-- the filled window's script with a line that would move its outer layer, or that closes an unknown window
abbrev pub filled_and : List ℕ → List ℕ
filled_and line =
    script (codes "layers 2/screen 16 20 1/task a/gopen g i smart front 0 0 16 20 ''/fill i -5 -5 30 30/")
    ++ line ++ script (codes "/end/")

abbrev pub moved_outer : List Refused
moved_outer = at_line 6 (filled_and (codes "move g 1 0")) ∷ []

abbrev pub closed_unknown : List Refused
closed_unknown = at_line 6 (filled_and (codes "gclose h")) ∷ []

-- what stands in version 2 alone
abbrev pub unknown_gzz : List Refused
unknown_gzz =
    at_line 3 (in_task_a ++ script (codes "gopen g i smart front 0 0 16 14 ''/")) ∷
    at_line 3 (in_task_a ++ script (codes "gbox g 0 0 16 14/")) ∷
    at_line 3 (in_task_a ++ script (codes "gfront g/")) ∷
    at_line 3 (in_task_a ++ script (codes "gbehind g/")) ∷
    at_line 3 (in_task_a ++ script (codes "ginfront g h/")) ∷
    at_line 3 (in_task_a ++ script (codes "gclose g/")) ∷
    at_line 1 (script (codes "gfront g/")) ∷
    at_line 4 (in_version_2 ++ script (codes "gopens g/")) ∷ []

-- the lines stand in tasks
abbrev pub misplaced_gzz : List Refused
misplaced_gzz =
    at_line 2 (of_version_2 [] ++ script (codes "gopen g i smart front 0 0 16 14 ''/")) ∷
    at_line 3 (of_version_2 screened ++ script (codes "gopen g i smart front 0 0 16 14 ''/")) ∷
    at_line 3 (of_version_2 screened ++ script (codes "gclose g/")) ∷
    at_line 5 (in_version_2 ++ script (codes "end/gfront g/")) ∷
    at_line 6 (paired ++ script (codes "end/gclose g/")) ∷
    at_line 5 (in_version_2 ++ script (codes "end/gopen/")) ∷ []

-- words that make no opening
abbrev pub bad_gopen_forms : List Refused
bad_gopen_forms =
    at_line 4 (in_version_2 ++ script (codes "gopen/")) ∷
    at_line 4 (in_version_2 ++ script (codes "gopen g/")) ∷
    at_line 4 (in_version_2 ++ script (codes "gopen g i smart front 0 0 16 20/")) ∷
    at_line 4 (in_version_2 ++ script (codes "gopen g i super front 0 0 16 20 ''/")) ∷
    at_line 4 (in_version_2 ++ script (codes "gopen g i smart middle 0 0 16 20 ''/")) ∷
    at_line 4 (in_version_2 ++ script (codes "gopen g i smart front 0 0 16 ''/")) ∷
    at_line 4 (in_version_2 ++ script (codes "gopen g i smart front 0 0 16 20 borderless ''/")) ∷
    at_line 4 (in_version_2 ++ script (codes "gopen g i smart front 0 0 16 20 backdrop ''/")) ∷
    at_line 4 (in_version_2 ++ script (codes "gopen g i smart front 0 0 16 20 nocare ''/")) ∷
    at_line 4 (in_version_2 ++ script (codes "gopen g i smart front 0 0 16 20 hook 0 ''/")) ∷
    at_line 4 (in_version_2 ++ script (codes "gopen g i smart front 0 0 16 20 ask ''/")) ∷
    at_line 4 (in_version_2 ++ script (codes "gopen g i smart front 0 0 16 20 ask ar ''/")) ∷
    at_line 4 (in_version_2 ++ script (codes "gopen g i smart front 0 0 16 20 T/")) ∷
    at_line 4 (in_version_2 ++ script (codes "gopen g 9 smart front 0 0 16 20 ''/")) ∷
    at_line 4 (in_version_2 ++ script (codes "gopen 9 i smart front 0 0 16 20 ''/")) ∷
    at_line 4 (in_version_2 ++ script (codes "gopen g smart front 0 0 16 20 ''/")) ∷
    at_line 4 (in_version_2 ++ script (codes "gopen g i smart front 0 0 40000 x ''/")) ∷ []

-- and none of the others
abbrev pub bad_gzz_forms : List Refused
bad_gzz_forms =
    at_line 5 (paired ++ script (codes "gbox/")) ∷
    at_line 5 (paired ++ script (codes "gbox g/")) ∷
    at_line 5 (paired ++ script (codes "gbox g 0 0 16/")) ∷
    at_line 5 (paired ++ script (codes "gbox g 0 0 16 20 0/")) ∷
    at_line 5 (paired ++ script (codes "gbox 9 0 0 16 20/")) ∷
    at_line 5 (paired ++ script (codes "gbox g 0 0 16 020/")) ∷
    at_line 5 (paired ++ script (codes "gfront/")) ∷
    at_line 5 (paired ++ script (codes "gfront 9/")) ∷
    at_line 5 (paired ++ script (codes "gfront g h/")) ∷
    at_line 5 (paired ++ script (codes "gbehind/")) ∷
    at_line 5 (paired ++ script (codes "gbehind g g/")) ∷
    at_line 5 (paired ++ script (codes "ginfront/")) ∷
    at_line 5 (paired ++ script (codes "ginfront g/")) ∷
    at_line 5 (paired ++ script (codes "ginfront g h i/")) ∷
    at_line 5 (paired ++ script (codes "ginfront g 9/")) ∷
    at_line 5 (paired ++ script (codes "gclose/")) ∷
    at_line 5 (paired ++ script (codes "gclose g 'T'/")) ∷ []

-- boxes that no such window may have, before names are asked
abbrev pub far_boxes : List Refused
far_boxes =
    at_line 5 (paired ++ script (codes "gopen h j smart front 0 0 8 20 ''/")) ∷
    at_line 5 (paired ++ script (codes "gopen h j smart front 0 0 65 20 ''/")) ∷
    at_line 5 (paired ++ script (codes "gopen h j smart front 0 0 16 13 ''/")) ∷
    at_line 5 (paired ++ script (codes "gopen h j smart front 0 0 16 49 ''/")) ∷
    at_line 5 (paired ++ script (codes "gopen h j smart front -32769 0 16 20 ''/")) ∷
    at_line 5 (paired ++ script (codes "gopen h j smart front 0 -32769 16 20 ''/")) ∷
    at_line 5 (paired ++ script (codes "gopen h j smart front 32752 0 17 20 ''/")) ∷
    at_line 5 (paired ++ script (codes "gopen h j smart front 0 32749 16 20 ''/")) ∷
    at_line 5 (paired ++ script (codes "gopen h j smart front 32768 0 16 20 ''/")) ∷
    at_line 5 (paired ++ script (codes "gopen h j smart front 0 0 99999999999 20 ''/")) ∷
    at_line 5 (paired ++ script (codes "gopen g g smart front 0 0 8 20 ''/")) ∷
    at_line 5 (paired ++ script (codes "gbox g 0 0 8 20/")) ∷
    at_line 5 (paired ++ script (codes "gbox g 0 0 65 20/")) ∷
    at_line 5 (paired ++ script (codes "gbox g 0 0 16 13/")) ∷
    at_line 5 (paired ++ script (codes "gbox g 0 0 16 49/")) ∷
    at_line 5 (paired ++ script (codes "gbox g -32769 0 16 20/")) ∷
    at_line 5 (paired ++ script (codes "gbox g 0 -32769 16 20/")) ∷
    at_line 5 (paired ++ script (codes "gbox g 32752 0 17 20/")) ∷
    at_line 5 (paired ++ script (codes "gbox g 0 32749 16 20/")) ∷
    at_line 5 (paired ++ script (codes "gbox h 0 0 8 20/")) ∷
    at_line 6 (paired ++ script (codes "hold/gbox g 0 0 8 20/")) ∷ []

-- numbers out of range, before it is asked what would part such a window
abbrev pub far_on_paired : List Refused
far_on_paired =
    at_line 5 (paired ++ script (codes "move g 40000 0/")) ∷
    at_line 5 (paired ++ script (codes "box i 0 0 0 20/")) ∷ []

-- names that are none of an outer layer above, before all that stands after
abbrev pub unknown_pairs : List Refused
unknown_pairs =
    at_line 5 (paired ++ script (codes "gbox h 0 0 16 20/")) ∷
    at_line 5 (paired ++ script (codes "gfront h/")) ∷
    at_line 5 (paired ++ script (codes "gbehind h/")) ∷
    at_line 5 (paired ++ script (codes "ginfront h g/")) ∷
    at_line 5 (paired ++ script (codes "ginfront h w/")) ∷
    at_line 5 (paired ++ script (codes "gclose h/")) ∷
    at_line 5 (paired ++ script (codes "gbox i 0 0 16 20/")) ∷
    at_line 5 (paired ++ script (codes "gfront i/")) ∷
    at_line 5 (paired ++ script (codes "gbehind i/")) ∷
    at_line 5 (paired ++ script (codes "ginfront i w/")) ∷
    at_line 5 (paired ++ script (codes "gclose i/")) ∷
    at_line 5 (paired ++ script (codes "gfront G/")) ∷
    at_line 5 (in_version_2 ++ script (codes "create w smart front 0 0 7 3/gfront w/")) ∷
    at_line 6 (paired ++ script (codes "hold/gfront h/")) ∷
    at_line 4 (in_version_2 ++ script (codes "gclose g/")) ∷ []

-- names that stand above, if only on a line without a call or in another task, or that are one
abbrev pub names_again : List Refused
names_again =
    at_line 5 (paired ++ script (codes "gopen g j smart front 0 0 16 20 ''/")) ∷
    at_line 5 (paired ++ script (codes "gopen i j smart front 0 0 16 20 ''/")) ∷
    at_line 5 (paired ++ script (codes "gopen h g smart front 0 0 16 20 ''/")) ∷
    at_line 5 (paired ++ script (codes "gopen h i smart front 0 0 16 20 ''/")) ∷
    at_line 5 (paired ++ script (codes "gopen h h smart front 0 0 16 20 ''/")) ∷
    at_line 6 (paired ++ script (codes "create w smart front 0 0 7 3/gopen w j smart front 0 0 16 20 ''/")) ∷
    at_line 6 (paired ++ script (codes "create w smart front 0 0 7 3/gopen h w smart front 0 0 16 20 ''/")) ∷
    at_line 6 (paired ++ script (codes "apen w 1/gopen w j smart front 0 0 16 20 ''/")) ∷
    at_line 6 (paired ++ script (codes "lock w/gopen h w smart front 0 0 16 20 ''/")) ∷
    at_line 6 (paired ++ script (codes "area w 0 0 4 0 0 0/gopen w j smart front 0 0 16 20 ''/")) ∷
    at_line 6 (paired ++ script (codes "area w 0 0 4 0 0 0/gopen h w smart front 0 0 16 20 ''/")) ∷
    at_line 6 (paired ++ script (codes "gclose g/gopen g i smart front 0 0 16 20 ''/")) ∷
    at_line 6 (paired ++ script (codes "ginfront g w/gopen w j smart front 0 0 16 20 ''/")) ∷
    at_line 7 (paired ++ script (codes "end/task b/gopen g k smart front 0 0 16 20 ''/")) ∷
    at_line 8 (paired ++ script (codes "fill w 0 0 1 1/end/task b/gopen w j smart front 0 0 16 20 ''/")) ∷
    at_line 8 (other_names ++ script (codes "areapat w p 0 0 8 0 0 4/gopen w j smart front 0 0 16 20 ''/")) ∷
    at_line 6 (paired ++ script (codes "hold/gopen g j smart front 0 0 16 20 ''/")) ∷ []

-- lines that would part a window of two layers, before the group is asked
abbrev pub parting : List Refused
parting =
    at_line 5 (paired ++ script (codes "create g smart front 0 0 7 3/")) ∷
    at_line 5 (paired ++ script (codes "open g smart front 0 0 16 20 ''/")) ∷
    at_line 5 (paired ++ script (codes "close g/")) ∷
    at_line 5 (paired ++ script (codes "front g/")) ∷
    at_line 5 (paired ++ script (codes "behind g/")) ∷
    at_line 5 (paired ++ script (codes "infront g w/")) ∷
    at_line 5 (paired ++ script (codes "infront w g/")) ∷
    at_line 5 (paired ++ script (codes "move g 1 0/")) ∷
    at_line 5 (paired ++ script (codes "size g 1 0/")) ∷
    at_line 5 (paired ++ script (codes "box g 0 0 16 20/")) ∷
    at_line 5 (paired ++ script (codes "create i smart front 0 0 7 3/")) ∷
    at_line 5 (paired ++ script (codes "open i smart front 0 0 16 20 ''/")) ∷
    at_line 5 (paired ++ script (codes "close i/")) ∷
    at_line 5 (paired ++ script (codes "front i/")) ∷
    at_line 5 (paired ++ script (codes "behind i/")) ∷
    at_line 5 (paired ++ script (codes "infront i w/")) ∷
    at_line 5 (paired ++ script (codes "infront w i/")) ∷
    at_line 5 (paired ++ script (codes "move i 1 0/")) ∷
    at_line 5 (paired ++ script (codes "size i 1 0/")) ∷
    at_line 5 (paired ++ script (codes "box i 0 0 16 20/")) ∷
    at_line 5 (paired ++ script (codes "infront g i/")) ∷
    at_line 5 (paired ++ script (codes "activate i/")) ∷
    at_line 5 (paired ++ script (codes "ginfront g g/")) ∷
    at_line 6 (paired ++ script (codes "gclose g/front g/")) ∷
    at_line 6 (paired ++ script (codes "gclose g/activate i/")) ∷
    at_line 6 (both_paired ++ script (codes "front h/")) ∷
    at_line 6 (both_paired ++ script (codes "front j/")) ∷
    at_line 6 (both_paired ++ script (codes "ginfront g h/")) ∷
    at_line 6 (both_paired ++ script (codes "ginfront h g/")) ∷
    at_line 6 (both_paired ++ script (codes "activate j/")) ∷
    at_line 6 (paired ++ script (codes "hold/front g/")) ∷
    at_line 6 (paired ++ script (codes "hold/ginfront g g/")) ∷
    at_line 6 (paired ++ script (codes "lock w/move g 1 0/")) ∷
    at_line 7 (paired ++ script (codes "end/task b/front i/")) ∷ []

-- such a line in another group, and ends of groups that it has itself
abbrev pub misgrouped_gzz : List Refused
misgrouped_gzz =
    at_line 6 (paired ++ script (codes "hold/gfront g/")) ∷
    at_line 6 (paired ++ script (codes "lock w/gfront g/")) ∷
    at_line 6 (paired ++ script (codes "lock g/gclose g/")) ∷
    at_line 6 (paired ++ script (codes "refresh i/gbox g 0 0 16 20/")) ∷
    at_line 6 (paired ++ script (codes "hold/ginfront g w/")) ∷
    at_line 6 (paired ++ script (codes "hold/gopen h j smart front 0 0 16 20 ''/")) ∷
    at_line 5 (paired ++ script (codes "release/")) ∷
    at_line 6 (paired ++ script (codes "gfront g/release/")) ∷ []

-- all else is free on the names of such a window, which has its lines when it is closed and in another task too
abbrev pub free_lines : List (List ℕ)
free_lines =
    script (codes "lock g/apen g 1/title g 'T'/unlock g/") ∷
    script (codes "refresh i/fill i 0 0 1 1/endrefresh i full/") ∷
    script (codes "hold/activate g/release/") ∷
    script (codes "activate g/") ∷
    script (codes "title g 'T'/") ∷
    script (codes "text i 'T'/") ∷
    script (codes "getmsg i/") ∷
    script (codes "clip i 0/") ∷
    script (codes "unclip g/") ∷
    script (codes "blit g 0 0 i 1 1 2 2 c0/") ∷
    script (codes "scroll i 1 1/") ∷
    script (codes "ginfront g i/") ∷
    script (codes "ginfront g w/") ∷
    script (codes "which 0 0/") ∷
    script (codes "create w smart front 0 0 7 3/infront w v/front w/") ∷
    script (codes "gbox g -32768 -32768 9 14/") ∷
    script (codes "gbox g 32704 32720 64 48/") ∷
    script (codes "gbox g 32759 32754 9 14/") ∷
    script (codes "apen i 1/setrast g 0/read i 0 0/draw i 5 5/scrollraster i 1 0 0 0 3 3/") ∷
    script (codes "title i 'T'/refresh g/fill g 0 0 1 1/endrefresh g part/lock i/apen i 1/unlock i/area i 0 0 4 0 0 4/") ∷
    script (codes "gclose g/gfront g/gbox g 0 0 9 14/gclose g/") ∷
    script (codes "end/task b/gfront g/gclose g/") ∷
    script (codes "gopen G I smart front 0 0 16 20 ''/") ∷
    script (codes "gopen h j smart behind -32768 32720 9 48 ''/") ∷
    script (codes "gopen h j simple front 32704 -32768 64 14 ''/") ∷ []

-- what lines tell of one such window; where so many calls were made; where so many further layers are named; and where so many
-- calls were made and a hold is open
abbrev pub told_paired : Told
told_paired = told (statements_below Plain [] (lines paired))

abbrev pub calls_made : ℕ → Told
calls_made n = record told_paired { calls_in_task = n }

abbrev pub layers_named : ℕ → Told
layers_named n =
    record told_paired { names = codes "g" ∷ codes "i" ∷ map (λ i. codes "n" ++ decimal i) (range_with_len 0 n) }

abbrev pub held_after : ℕ → Told
held_after n = record (calls_made n) { group = Some Held }

-- the first reason of a line below lines that tell this
abbrev pub reason_at : Told → List ℕ → Option Reason
reason_at t line = reason_of (line_read (alone 0) t (script line))

-- none of these lines is bad below one such window
abbrev pub AreAllowed : List (List ℕ) → Type 0
AreAllowed [] = Unit {0}
AreAllowed (ls ∷ rest) = IsSpelled (alone 0) (paired ++ ls ++ script (codes "end/")) × AreAllowed rest
