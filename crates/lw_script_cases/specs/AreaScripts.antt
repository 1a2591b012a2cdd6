-- Worked cases.
-- Scripts with patterns and areas: what they stand for, and the first reason for which such a line is bad.
use Rattle.std.specs.Prelude.{ℕ, true, List, [], ◌∷◌, ◌++◌, map, codes, Option}
use Rattle.std.specs.List.{flat_map, range_with_len}
use Rattle.std.specs.Fmt.{decimal}
use Rattle.lw_calls.specs.declared.make.Kind.TheVariants.{Smart}
use Rattle.lw_calls.specs.declared.call.Call.{Call}
use Rattle.lw_calls.specs.declared.call.Call.TheVariants.{BeginRefresh, EndRefresh}
use Rattle.lw_calls.specs.declared.group.Hold.TheVariants.{Slot}
use Rattle.lw_calls.specs.declared.group.Group.{Group}
use Rattle.lw_calls.specs.Plan.{Plan}
use Rattle.lw_grammar.specs.declared.form.Form.TheVariants.{Plain}
use Rattle.lw_grammar.specs.declared.reason.Reason.{Reason}
use Rattle.lw_grammar.specs.Lines.{lines}
use Rattle.lw_grammar.specs.Told.{Told, told}
use Rattle.lw_grammar.specs.Script.{line_read}
use Rattle.lw_cases.specs.Plans.{text, of_version, one_task, grouped, create, fill}
use Rattle.lw_script_cases.specs.WholeScripts.{script, alone, screened, in_task_a, of_version_2, in_version_2}
use Rattle.lw_script_cases.specs.LinesBelow.{statements_below, reason_of}
use Rattle.lw_script_cases.specs.Refused.{Refused, at_line}

-- the screen of version 2, and a layer of its size in a task
abbrev pub screened_in_2 : List ℕ
screened_in_2 = of_version_2 screened

abbrev pub covered : List ℕ
covered = in_version_2 ++ script (codes "create w smart front 0 0 15 3/")

-- a plan of one layer of the screen's size with further calls, of which some are a group on it
abbrev pub covered_plan : List Call → Plan
covered_plan calls = of_version 2 (one_task 16 4 1 (codes "w" ∷ []) (create 0 Smart 0 0 15 3 ∷ calls))

abbrev pub group_of : ℕ → ℕ → Group
group_of first last = record { first = first; last = last; hold = Slot 0 }

-- a triangle, a square, a line there and back, and a rectangle with a pattern of two rows
abbrev pub triangle_script : List ℕ
triangle_script = covered ++ script (codes "area w 0 0 8 0 0 4/end/")

abbrev pub triangle : Plan
triangle = grouped (covered_plan (fill 0 0 0 7 0 ∷ fill 0 0 1 5 1 ∷ fill 0 0 2 3 2 ∷ fill 0 0 3 1 3 ∷ [])) (group_of 1 4)

abbrev pub triangle_report : List ℕ
triangle_report =
    text (codes "order 5/0 0 0 0 0/planes 16 4 1/plane 0/ff00/fc00/f000/c000/visible w 1/0 0 15 3/damage w 0/"
    ++ codes "replies a 5/ok/ok/ok/ok/ok/done/")

abbrev pub triangle_text : List ℕ
triangle_text =
    covered
    ++ script (codes "lock w/fill w 0 0 7 0/fill w 0 1 5 1/fill w 0 2 3 2/fill w 0 3 1 3/unlock w/end/")

abbrev pub square_script : List ℕ
square_script = covered ++ script (codes "area w 0 0 4 0 4 4 0 4/end/")

abbrev pub square : Plan
square = grouped (covered_plan (fill 0 0 0 3 3 ∷ [])) (group_of 1 1)

abbrev pub square_report : List ℕ
square_report =
    text (codes "order 2/0 0/planes 16 4 1/plane 0/f000/f000/f000/f000/visible w 1/0 0 15 3/damage w 0/replies a 2/ok/ok/done/")

abbrev pub empty_script : List ℕ
empty_script = covered ++ script (codes "area w 0 0 4 0 0 0/end/")

abbrev pub empty_plan : Plan
empty_plan = covered_plan []

abbrev pub empty_report : List ℕ
empty_report =
    text (codes "order 1/0/planes 16 4 1/plane 0/0000/0000/0000/0000/visible w 1/0 0 15 3/damage w 0/replies a 1/ok/done/")

abbrev pub pattern_script : List ℕ
pattern_script =
    screened_in_2
    ++ script (codes "pattern p aaaa 5555/task a/create w smart front 0 0 15 3/areapat w p 0 0 4 0 4 2 0 2/end/")

abbrev pub checkered : Plan
checkered = grouped (covered_plan (fill 0 0 0 0 0 ∷ fill 0 2 0 2 0 ∷ fill 0 1 1 1 1 ∷ fill 0 3 1 3 1 ∷ [])) (group_of 1 4)

abbrev pub checkered_report : List ℕ
checkered_report =
    text (codes "order 5/0 0 0 0 0/planes 16 4 1/plane 0/a000/5000/0000/0000/visible w 1/0 0 15 3/damage w 0/"
    ++ codes "replies a 5/ok/ok/ok/ok/ok/done/")

-- an area joins the lock or the update of its layer
abbrev pub locked_script : List ℕ
locked_script = covered ++ script (codes "lock w/fill w 5 0 5 0/area w 0 0 4 0 4 4 0 4/unlock w/end/")

abbrev pub locked : Plan
locked = grouped (covered_plan (fill 0 5 0 5 0 ∷ fill 0 0 0 3 3 ∷ [])) (group_of 1 2)

abbrev pub updated_script : List ℕ
updated_script = covered ++ script (codes "refresh w/area w 0 0 4 0 4 4 0 4/area w 0 0 4 0 0 0/endrefresh w full/end/")

abbrev pub updated : Plan
updated = grouped (covered_plan (BeginRefresh 0 ∷ fill 0 0 0 3 3 ∷ EndRefresh 0 true ∷ [])) (group_of 1 3)

-- an area without a pixel gives its layer no slot, another does
abbrev pub first_named_script : List ℕ
first_named_script =
    in_version_2
    ++ script (codes "area u 0 0 4 0 0 0/area v 0 0 4 0 4 4 0 4/create w smart front 0 0 15 3/end/")

abbrev pub first_named : Plan
first_named =
    grouped (of_version 2 (one_task 16 4 1 (codes "v" ∷ codes "w" ∷ []) (fill 0 0 0 3 3 ∷ create 1 Smart 0 0 15 3 ∷ [])))
    (group_of 0 0)

-- patterns of each number of words, between bitmaps and glyphs, with names that bitmaps, layers and tasks have too
abbrev pub four_words : List ℕ
four_words = codes " 0000 0001 8000 ffff"

abbrev pub all_patterns : List ℕ
all_patterns =
    screened_in_2 ++ script (codes "pattern a 0000/pattern b 1234 abcd/bitmap a 1 1 1/8000/pattern c") ++ four_words
    ++ script (codes "/glyph 41 183c66667e666600/pattern d") ++ four_words ++ four_words
    ++ script (codes "/pattern e") ++ four_words ++ four_words ++ four_words ++ four_words
    ++ script (codes "/task a/areapat a a 0 0 4 0 0 4/areapat area e -2048 -2048 -2046 -2048 -2048 -2046/")
    ++ script (codes "area w 4095 4095 4093 4095 4095 4093/end/")

-- 32 points in one column
abbrev pub thirty_two_points : List ℕ
thirty_two_points = flat_map (λ i. script (codes " 0 ") ++ decimal i) (range_with_len 0 32)

-- sixteen patterns
abbrev pub sixteen_patterns : List ℕ
sixteen_patterns = flat_map (λ i. script (codes "pattern p") ++ decimal i ++ script (codes " aaaa/")) (range_with_len 0 16)

-- what stands in version 2 alone
abbrev pub unknown_areas : List Refused
unknown_areas =
    at_line 1 (script (codes "pattern p aaaa/")) ∷
    at_line 1 (script (codes "area w 0 0 8 0 0 4/")) ∷
    at_line 2 (screened ++ script (codes "pattern p aaaa/")) ∷
    at_line 3 (in_task_a ++ script (codes "area w 0 0 8 0 0 4/")) ∷
    at_line 3 (in_task_a ++ script (codes "areapat w p 0 0 8 0 0 4/")) ∷
    at_line 4 (in_version_2 ++ script (codes "areas w 0 0 8 0 0 4/")) ∷ []

-- patterns stand among glyphs and bitmaps, and areas in tasks
abbrev pub misplaced_areas : List Refused
misplaced_areas =
    at_line 2 (of_version_2 (script (codes "pattern p aaaa/"))) ∷
    at_line 2 (of_version_2 (script (codes "area w 0 0 8 0 0 4/"))) ∷
    at_line 3 (screened_in_2 ++ script (codes "area w 0 0 8 0 0 4/")) ∷
    at_line 3 (screened_in_2 ++ script (codes "areapat w p 0 0 8 0 0 4/")) ∷
    at_line 3 (screened_in_2 ++ script (codes "area/")) ∷
    at_line 4 (in_version_2 ++ script (codes "pattern p aaaa/")) ∷
    at_line 4 (in_version_2 ++ script (codes "pattern/")) ∷
    at_line 5 (in_version_2 ++ script (codes "end/pattern p aaaa/")) ∷
    at_line 5 (in_version_2 ++ script (codes "end/area w 0 0 8 0 0 4/")) ∷ []

-- another number of words or points, words that are none of four lower-case digits, numbers in the place of names
abbrev pub bad_area_forms : List Refused
bad_area_forms =
    at_line 3 (screened_in_2 ++ script (codes "pattern/")) ∷
    at_line 3 (screened_in_2 ++ script (codes "pattern p/")) ∷
    at_line 3 (screened_in_2 ++ script (codes "pattern 9 aaaa/")) ∷
    at_line 3 (screened_in_2 ++ script (codes "pattern p aaaa aaaa aaaa/")) ∷
    at_line 3 (screened_in_2 ++ script (codes "pattern p 0000 0000 0000 0000 0000/")) ∷
    at_line 3 (screened_in_2 ++ script (codes "pattern p 0000 0000 0000 0000 0000 0000 0000 0000 0000/")) ∷
    at_line 3 (screened_in_2 ++ script (codes "pattern p aaa/")) ∷
    at_line 3 (screened_in_2 ++ script (codes "pattern p aaaaa/")) ∷
    at_line 3 (screened_in_2 ++ script (codes "pattern p AAAA/")) ∷
    at_line 3 (screened_in_2 ++ script (codes "pattern p 5555 aaag/")) ∷
    at_line 3 (screened_in_2 ++ script (codes "pattern p 'aaaa'/")) ∷
    at_line 4 (screened_in_2 ++ script (codes "bitmap b 16 1 1/pattern p aaaa/")) ∷
    at_line 4 (in_version_2 ++ script (codes "area/")) ∷
    at_line 4 (in_version_2 ++ script (codes "area w/")) ∷
    at_line 4 (in_version_2 ++ script (codes "area w 0 0 8 0/")) ∷
    at_line 4 (in_version_2 ++ script (codes "area w 0 0 8 0 0/")) ∷
    at_line 4 (in_version_2 ++ script (codes "area 9 0 0 8 0 0 4/")) ∷
    at_line 4 (in_version_2 ++ script (codes "area w p 0 0 8 0 0 4/")) ∷
    at_line 4 (in_version_2 ++ script (codes "area w 0 0 8 0 0 04/")) ∷
    at_line 4 (in_version_2 ++ script (codes "area w 0 0 40000 0 0 x/")) ∷
    at_line 4 (in_version_2 ++ script (codes "area w") ++ thirty_two_points ++ script (codes " 0 0/")) ∷
    at_line 4 (in_version_2 ++ script (codes "areapat w/")) ∷
    at_line 4 (in_version_2 ++ script (codes "areapat w 0 0 8 0 0 4/")) ∷
    at_line 4 (in_version_2 ++ script (codes "areapat w p 0 0 8 0/")) ∷
    at_line 4 (in_version_2 ++ script (codes "areapat w p 0 0 8 0 0 4 0/")) ∷
    at_line 4 (in_version_2 ++ script (codes "areapat w p p 0 0 8 0 0 4/")) ∷ []

-- coordinates that are outside -2048 to 4095, before names and groups are asked
abbrev pub far_areas : List Refused
far_areas =
    at_line 4 (in_version_2 ++ script (codes "area w -2049 0 8 0 0 4/")) ∷
    at_line 4 (in_version_2 ++ script (codes "area w 0 -2049 8 0 0 4/")) ∷
    at_line 4 (in_version_2 ++ script (codes "area w 0 0 4096 0 0 4/")) ∷
    at_line 4 (in_version_2 ++ script (codes "area w 0 0 8 0 0 4096/")) ∷
    at_line 4 (in_version_2 ++ script (codes "area w 0 0 8 0 0 99999999999/")) ∷
    at_line 4 (in_version_2 ++ script (codes "areapat w p 0 0 8 0 0 4096/")) ∷
    at_line 5 (in_version_2 ++ script (codes "hold/area w 0 0 8 0 0 4096/")) ∷ []

-- patterns that no line above gives, before the group is asked
abbrev pub unknown_patterns : List Refused
unknown_patterns =
    at_line 4 (in_version_2 ++ script (codes "areapat w p 0 0 8 0 0 4/")) ∷
    at_line 5 (screened_in_2 ++ script (codes "pattern p aaaa/task a/areapat w P 0 0 8 0 0 4/")) ∷
    at_line 5 (screened_in_2 ++ script (codes "pattern p aaaa/task a/put p 0 0 w 0 0 1 1 c0/")) ∷
    at_line 6 (screened_in_2 ++ script (codes "bitmap p 1 1 1/8000/task a/areapat w p 0 0 8 0 0 4/")) ∷
    at_line 5 (in_version_2 ++ script (codes "hold/areapat w p 0 0 8 0 0 4/")) ∷ []

-- patterns of one name
abbrev pub patterns_again : List Refused
patterns_again =
    at_line 4 (screened_in_2 ++ script (codes "pattern p aaaa/pattern p aaaa/")) ∷
    at_line 5 (screened_in_2 ++ script (codes "pattern p aaaa/pattern q 5555/pattern p 5555/")) ∷ []

-- areas in groups of other layers and in holds, with a pixel or without; and groups that an area leaves without a call
abbrev pub misgrouped_areas : List Refused
misgrouped_areas =
    at_line 5 (in_version_2 ++ script (codes "hold/area w 0 0 8 0 0 4/")) ∷
    at_line 5 (in_version_2 ++ script (codes "hold/area w 0 0 4 0 0 0/")) ∷
    at_line 5 (in_version_2 ++ script (codes "lock v/area w 0 0 8 0 0 4/")) ∷
    at_line 5 (in_version_2 ++ script (codes "lock v/area w 0 0 4 0 0 0/")) ∷
    at_line 5 (in_version_2 ++ script (codes "refresh v/area w 0 0 8 0 0 4/")) ∷
    at_line 6 (in_version_2 ++ script (codes "lock w/area w 0 0 4 0 0 0/unlock w/")) ∷
    at_line 5 (in_version_2 ++ script (codes "area w 0 0 8 0 0 4/unlock w/")) ∷
    at_line 6 (in_version_2 ++ script (codes "lock w/area w 0 0 8 0 0 4/end/")) ∷ []

-- patterns by the seventeenth
abbrev pub many_patterns : List Refused
many_patterns = at_line 19 (screened_in_2 ++ sixteen_patterns ++ script (codes "pattern p aaaa/")) ∷ []

-- what the lines above tell where so many calls were made, and where so many layers are named
abbrev pub told_in_2 : Told
told_in_2 = told (statements_below Plain [] (lines in_version_2))

abbrev pub after_calls : ℕ → Told
after_calls n = record told_in_2 { calls_in_task = n }

abbrev pub after_names : ℕ → Told
after_names n = record told_in_2 { names = map (λ i. codes "n" ++ decimal i) (range_with_len 0 n) }

-- the first reason of a line below lines that tell this
abbrev pub reason_after : Told → List ℕ → Option Reason
reason_after t line = reason_of (line_read (alone 0) t line)
