-- Worked cases.
-- Plans with their canonical texts: three tasks with five windows, groups of each kind, glyphs and a bitmap; a layer and
-- windows with all that a line can ask for; and the forms of lines that stand in neither.
use Rattle.std.specs.Prelude.{ℕ, true, false, List, [], ◌∷◌, ◌++◌, pos, negsuc, Some, None, codes}
use Rattle.lw_planes.specs.Storage.{stored}
use Rattle.lw_calls.specs.declared.operation.RectOp.TheVariants.{Or, And, Xor, Clear}
use Rattle.lw_calls.specs.declared.operation.PairOp.TheVariants.{Or as OrPair, And as AndPair, Xor as XorPair}
use Rattle.lw_calls.specs.declared.make.Kind.{Kind}
use Rattle.lw_calls.specs.declared.make.Kind.TheVariants.{Simple, Smart, SuperBitmap}
use Rattle.lw_calls.specs.declared.make.Place.{Place}
use Rattle.lw_calls.specs.declared.make.Place.TheVariants.{Front, Behind}
use Rattle.lw_calls.specs.declared.make.Make.{Make}
use Rattle.lw_calls.specs.declared.area.Area.{Area}
use Rattle.lw_calls.specs.declared.call.Call.{Call}
use Rattle.lw_calls.specs.declared.call.Call.TheVariants.{RegRect, RegPair, RegClear, Create, OpenWindow, Close, ToFront}
use Rattle.lw_calls.specs.declared.call.Call.TheVariants.{ToBack, InFrontOf, MoveBy, SizeBy, SetBox, Activate, Which, SetA}
use Rattle.lw_calls.specs.declared.call.Call.TheVariants.{SetB, SetMode, SetMask, At, WritePixel, ReadPixel, DrawTo, Letters}
use Rattle.lw_calls.specs.declared.call.Call.TheVariants.{SetRast, ScrollRaster, Put, Blit, Clip, Unclip, BeginRefresh}
use Rattle.lw_calls.specs.declared.call.Call.TheVariants.{EndRefresh, Scroll, SetTitle, TakeMessage}
use Rattle.lw_calls.specs.declared.group.Hold.TheVariants.{Slot, All}
use Rattle.lw_calls.specs.Plan.{Plan, no_assets}
use Rattle.lw_grammar.specs.Script.{ScriptInput}
use Rattle.lw_cases.specs.Plans.{with_glyph, with_bitmap, one_task, fill, rect}
use Rattle.lw_script_cases.specs.WholeScripts.{script}

-- a window's layer
abbrev pub window_of : Kind → Place → ℕ → ℕ → ℕ → ℕ → Make
window_of kind place x y w h =
    record {
      kind = kind;
      place = place;
      x = pos x;
      y = pos y;
      w = pos w;
      h = pos h;
      backdrop = false;
      hook = None;
      bits_w = 0;
      bits_h = 0;
    }

-- a blit's places and sizes
abbrev pub area : ℕ → ℕ → ℕ → ℕ → ℕ → ℕ → ℕ → Area
area sx sy x y w h minterm = record { sx = pos sx; sy = pos sy; x = pos x; y = pos y; w = pos w; h = pos h; minterm = minterm }

-- the calls of three tasks: a clock's update, an editor's lock, and a painter's hold
abbrev clock_calls : List Call
clock_calls =
    OpenWindow 0 (record (window_of Simple Front 10 10 120 60) { hook = Some 4 }) true false 7 (codes "A")
    ∷ OpenWindow 1 (window_of Smart Behind 100 40 200 100) true false 1 (codes "B") ∷ fill 0 8 16 60 40 ∷ BeginRefresh 0
    ∷ SetA 0 2 ∷ fill 0 4 11 115 57 ∷ EndRefresh 0 true ∷ TakeMessage 0 ∷ []

abbrev edit_calls : List Call
edit_calls =
    OpenWindow 2 (window_of Smart Front 60 30 300 120) true false 15 (codes "AB") ∷ SetA 2 3 ∷ At 2 (pos 10) (pos 30)
    ∷ Letters 2 (codes "AB BA") ∷ DrawTo 2 (pos 200) (pos 90) ∷ Activate 2 ∷ MoveBy 2 (pos 20) (pos 10)
    ∷ SizeBy 2 (pos 40) (pos 20) ∷ TakeMessage 2 ∷ []

abbrev paint_calls : List Call
paint_calls =
    OpenWindow 3 (window_of Simple Front 300 100 200 90) true true 0 (codes "B")
    ∷ OpenWindow 4 (record (window_of SuperBitmap Behind 20 150 100 80) { bits_w = 256; bits_h = 256 }) false false 4
    (codes "canvas") ∷ Put 0 4 (area 0 0 4 4 8 2 192) ∷ Scroll 4 (pos 16) (pos 16) ∷ RegRect Or 0 (rect 10 20 100 60)
    ∷ Clip 3 0 ∷ SetRast 3 1 ∷ Blit 3 3 (area 10 20 12 22 40 20 96) ∷ ToFront 3 ∷ InFrontOf 4 3 ∷ Which (pos 320) (pos 120)
    ∷ []

abbrev pub three_tasks : Plan
three_tasks =
    with_bitmap (codes "dot") (stored 8 2 1 (255 ∷ 0 ∷ 129 ∷ 0 ∷ []))
    (with_glyph 65 (24 ∷ 60 ∷ 102 ∷ 102 ∷ 126 ∷ 102 ∷ 102 ∷ 0 ∷ [])
    (with_glyph 66 (124 ∷ 102 ∷ 102 ∷ 124 ∷ 102 ∷ 102 ∷ 124 ∷ 0 ∷ []) (record {
      sizes = record { version = 1; width = 640; height = 256; depth = 2; slots = 5; tasks = 3; hooks = 6; bitmaps = 0 };
      slot_names = codes "clk" ∷ codes "log" ∷ codes "ed" ∷ codes "pal" ∷ codes "can" ∷ [];
      task_names = codes "clock" ∷ codes "edit" ∷ codes "paint" ∷ [];
      bitmap_names = [];
      calls = clock_calls ∷ edit_calls ∷ paint_calls ∷ [];
      groups = (record { first = 3; last = 6; hold = Slot 0 } ∷ []) ∷ (record { first = 1; last = 4; hold = Slot 2 } ∷ [])
          ∷ (record { first = 8; last = 9; hold = All } ∷ []) ∷ [];
      pairs = [];
      assets = no_assets;
    })))

abbrev pub three_tasks_text : List ℕ
three_tasks_text =
    script (codes "screen 640 256 2/glyph 41 183c66667e666600/glyph 42 7c66667c66667c00/bitmap dot 8 2 1/ff00/8100/")
    ++ script (codes "task clock/open clk simple front 10 10 120 60 hook 4 ask rnc 'A'/open log smart behind 100 40 200 100 ask r 'B'/fill clk 8 16 60 40/refresh clk/apen clk 2/fill clk 4 11 115 57/endrefresh clk full/getmsg clk/end/")
    ++ script (codes "task edit/open ed smart front 60 30 300 120 ask rnca 'AB'/lock ed/apen ed 3/at ed 10 30/text ed 'AB BA'/draw ed 200 90/unlock ed/activate ed/move ed 20 10/size ed 40 20/getmsg ed/end/")
    ++ script (codes "task paint/open pal simple front 300 100 200 90 nocare 'B'/open can super behind 20 150 100 80 256 256 ask c 'canvas'/put dot 0 0 can 4 4 8 2 c0/scroll can 16 16/orrect 0 10 20 100 60/clip pal 0/setrast pal 1/blit pal 10 20 pal 12 22 40 20 60/hold/front pal/infront can pal/release/which 320 120/end/")

-- what the text gives as a script alone: the plan, no order, and the number of its bytes
abbrev pub three_tasks_input : ScriptInput
three_tasks_input = record { plan = three_tasks; order = []; rest = 790 }

-- a layer and two windows with all that their lines can ask for, left of the screen and above it too, and groups one after
-- another
abbrev pub all_asked : Plan
all_asked =
    record (one_task 16 4 1 (codes "w" ∷ codes "v" ∷ codes "s" ∷ [])
    (Create 0 (record (window_of Simple Behind 0 0 8 4) { x = negsuc 2; backdrop = true; hook = Some 0 })
    ∷ OpenWindow 1 (record (window_of Smart Front 0 0 9 14) { y = negsuc 0; backdrop = true; hook = Some 12 }) false true 31
    [] ∷ OpenWindow 2
    (record (window_of SuperBitmap Front 1 2 3 4) { backdrop = true; bits_w = 5; bits_h = 6 }) false false 16 (codes "a b")
    ∷ SetA 0 255 ∷ SetA 1 0 ∷ EndRefresh 1 false ∷ ToFront 0 ∷ [])) {
      groups = (record { first = 3; last = 3; hold = Slot 0 } ∷ record { first = 4; last = 4; hold = Slot 1 }
          ∷ record { first = 6; last = 6; hold = All } ∷ []) ∷ [];
    }

abbrev pub all_asked_text : List ℕ
all_asked_text =
    script (codes "screen 16 4 1/task a/create w simple behind -3 0 4 3 backdrop hook 0/open v smart front 0 -1 9 14 backdrop borderless nocare hook 12 ask rncai ''/open s super front 1 2 3 4 5 6 backdrop ask i 'a b'/lock w/apen w 255/unlock w/lock v/apen v 0/unlock v/endrefresh v part/hold/front w/release/end/")

-- further calls, each with numbers that differ, and two bitmaps of which one has two planes
abbrev pub further_calls : Plan
further_calls =
    with_bitmap (codes "c") (stored 17 1 1 (255 ∷ 255 ∷ 128 ∷ 0 ∷ []))
    (with_bitmap (codes "b") (stored 1 1 2 (128 ∷ 0 ∷ 0 ∷ 0 ∷ []))
    (one_task 16 4 2 (codes "w" ∷ codes "v" ∷ [])
    (Create 0 (record (window_of SuperBitmap Front 1 2 6 5) { bits_w = 8; bits_h = 9 }) ∷ Close 0 ∷ ToBack 0
    ∷ SetBox 0 (pos 1) (pos 2) (pos 3) (pos 4) ∷ InFrontOf 0 1 ∷ Activate 1 ∷ SetB 0 7 ∷ SetMode 0 5 ∷ SetMask 0 254
    ∷ WritePixel 0 (pos 1) (negsuc 1) ∷ ReadPixel 0 (pos 3) (pos 4) ∷ ScrollRaster 0 (negsuc 0) (pos 2) (rect 3 4 5 6)
    ∷ Put 1 0 (area 1 2 3 4 5 6 224) ∷ Blit 0 1 (area 1 2 3 4 5 6 16) ∷ Scroll 0 (negsuc 2) (pos 4) ∷ SetTitle 1 (codes "T u")
    ∷ Unclip 0 ∷ RegRect And 1 (rect 2 3 4 5) ∷ RegRect Xor 2 (rect 0 0 9 8) ∷ RegRect Clear 3 (rect 1 0 1 0)
    ∷ RegPair OrPair 1 2 ∷ RegPair AndPair 3 4 ∷ RegPair XorPair 5 6 ∷ RegClear 7 ∷ [])))

abbrev pub further_calls_text : List ℕ
further_calls_text =
    script (codes "screen 16 4 2/bitmap b 1 1 2/8000/0000/bitmap c 17 1 1/ffff8000/task a/create w super front 1 2 6 6 8 9/close w/behind w/box w 1 2 3 4/infront w v/activate v/bpen w 7/mode w 5/mask w 254/write w 1 -2/read w 3 4/scrollraster w -1 2 3 4 5 6/put c 1 2 w 3 4 5 6 e0/blit w 1 2 v 3 4 5 6 10/scroll w -3 4/title v 'T u'/unclip w/andrect 1 2 3 4 5/xorrect 2 0 0 9 8/clearrect 3 1 0 1 0/orregion 1 2/andregion 3 4/xorregion 5 6/clearregion 7/end/")
