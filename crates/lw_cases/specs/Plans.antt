-- Worked cases.
-- The small words of worked plans: a plan of one task, the lines of its report, hooks and glyphs, and calls as a script
-- spells them.
use Rattle.std.specs.Prelude.{ℕ, ◌+◌, ◌-◌, ◌%◌, ◌==◌, Bool, true, false, if◌then◌else◌, List, [], ◌∷◌, ◌++◌, map, length, take}
use Rattle.std.specs.Prelude.{drop, replicate, ℤ, pos, None, Some, codes}
use Rattle.std.specs.List.{flat_map, range_with_len}
use Rattle.lw_region.specs.Rectangle.{Rectangle}
use Rattle.lw_planes.specs.Bitmap.{Bitmap}
use Rattle.lw_calls.specs.declared.make.Kind.{Kind}
use Rattle.lw_calls.specs.declared.make.Kind.TheVariants.{SuperBitmap}
use Rattle.lw_calls.specs.declared.make.Place.{Place}
use Rattle.lw_calls.specs.declared.make.Place.TheVariants.{Front}
use Rattle.lw_calls.specs.declared.make.Make.{Make}
use Rattle.lw_calls.specs.declared.call.Call.{Call}
use Rattle.lw_calls.specs.declared.call.Call.TheVariants.{Create, OpenWindow, Fill, ScrollRaster, Put, Blit}
use Rattle.lw_calls.specs.declared.group.Group.{Group}
use Rattle.lw_machine.specs.Hook.{Hook}
use Rattle.lw_calls.specs.Plan.{Plan, task_calls, task_groups, no_assets}

-- A text of lines. Each line feed is written as a stroke, which stands in no report and no script here.
abbrev pub text : List ℕ → List ℕ
text lines = map (λ b. if b == 47 then 10 else b) lines

-- the plan of one task a on a screen of w by h with d planes: the layers' names by slot, and the calls
abbrev pub one_task : ℕ → ℕ → ℕ → List (List ℕ) → List Call → Plan
one_task w h d names calls =
    record {
      sizes = record { version = 1; width = w; height = h; depth = d; slots = length names; tasks = 1; hooks = 0; bitmaps = 0 };
      slot_names = names;
      task_names = codes "a" ∷ [];
      bitmap_names = [];
      calls = calls ∷ [];
      groups = [] ∷ [];
      pairs = [];
      assets = no_assets;
    }

-- the plan of another version
abbrev pub of_version : ℕ → Plan → Plan
of_version version plan = record plan { sizes = record plan.sizes { version = version } }

-- the plan of one task with further calls
abbrev pub further : Plan → List Call → Plan
further plan calls = record plan { calls = (task_calls plan 0 ++ calls) ∷ [] }

-- the plan of one task with a further group
abbrev pub grouped : Plan → Group → Plan
grouped plan group = record plan { groups = (task_groups plan 0 ++ group ∷ []) ∷ [] }

-- the plan where a code has this glyph, its eight bytes from the top row
abbrev pub with_glyph : ℕ → List ℕ → Plan → Plan
with_glyph code glyph plan =
    record plan {
      assets = record plan.assets {
        glyphs = take (code - 32) plan.assets.glyphs ++ glyph ∷
            drop (code - 31) plan.assets.glyphs;
      };
    }

-- the plan where so many hooks are handed in
abbrev pub with_hooks : List Hook → Plan → Plan
with_hooks hooks plan = record plan { sizes = record plan.sizes { hooks = length hooks } }

-- the plan with a further bitmap
abbrev pub with_bitmap : List ℕ → Bitmap → Plan → Plan
with_bitmap name bitmap plan =
    record plan {
      sizes = record plan.sizes { bitmaps = length plan.bitmap_names + 1 };
      bitmap_names = plan.bitmap_names ++ name ∷ [];
      assets = record plan.assets { bitmaps = plan.assets.bitmaps ++ bitmap ∷ [] };
    }

-- the plan of one task with a second task b, its calls and its groups
abbrev pub with_second_task : List Call → List Group → Plan → Plan
with_second_task calls groups plan =
    record plan {
      sizes = record plan.sizes { tasks = 2 };
      task_names = codes "a" ∷ codes "b" ∷ [];
      calls = task_calls plan 0 ∷ calls ∷ [];
      groups = task_groups plan 0 ∷ groups ∷ [];
    }

-- a hook of one tile, all of one pen
abbrev pub solid : ℕ → Hook
solid pen = record { tiles = replicate 64 pen ∷ []; place = 0 }

-- a hook of one tile, with pen a where column and row have an even sum, and pen b elsewhere
abbrev pub checker : ℕ → ℕ → Hook
checker a b =
    record {
      tiles = flat_map (λ y. map (λ x. if (x + y) % 2 == 0 then a else b) (range_with_len 0 8)) (range_with_len 0 8) ∷ [];
      place = 0;
    }

-- a hook of one tile for each pen, all of that pen
abbrev pub cycle : List ℕ → Hook
cycle pens = record { tiles = map (λ pen. replicate 64 pen) pens; place = 0 }

-- six hooks: two of one pen, two checkered, and two that turn
abbrev pub six_hooks : List Hook
six_hooks = solid 1 ∷ solid 2 ∷ checker 0 1 ∷ checker 2 3 ∷ cycle (1 ∷ 2 ∷ 3 ∷ []) ∷ cycle (3 ∷ 0 ∷ []) ∷ []

-- the columns x0 to x1 and the rows y0 to y1
abbrev pub rect : ℕ → ℕ → ℕ → ℕ → Rectangle
rect x0 y0 x1 y1 = record { min_x = pos x0; min_y = pos y0; max_x = pos x1; max_y = pos y1 }

-- a layer of w columns and h rows at its place on the screen, in front of all others
abbrev pub box : Kind → ℕ → ℕ → ℕ → ℕ → Make
box kind x y w h =
    record {
      kind = kind;
      place = Front;
      x = pos x;
      y = pos y;
      w = pos w;
      h = pos h;
      backdrop = false;
      hook = None;
      bits_w = 0;
      bits_h = 0;
    }

-- a layer that covers the columns x0 to x1 and the rows y0 to y1 of the screen, in front of all others
abbrev pub layer : Kind → ℕ → ℕ → ℕ → ℕ → Make
layer kind x0 y0 x1 y1 = box kind x0 y0 ((x1 + 1) - x0) ((y1 + 1) - y0)

-- create L KIND front X0 Y0 X1 Y1
abbrev pub create : ℕ → Kind → ℕ → ℕ → ℕ → ℕ → Call
create slot kind x0 y0 x1 y1 = Create slot (layer kind x0 y0 x1 y1)

-- create L KIND front X0 Y0 X1 Y1 hook N
abbrev pub create_hooked : ℕ → Kind → ℕ → ℕ → ℕ → ℕ → ℕ → Call
create_hooked slot kind x0 y0 x1 y1 hook = Create slot (record (layer kind x0 y0 x1 y1) { hook = Some hook })

-- create L KIND PLACE X0 Y0 X1 Y1 backdrop
abbrev pub create_backdrop : ℕ → Kind → Place → ℕ → ℕ → ℕ → ℕ → Call
create_backdrop slot kind place x0 y0 x1 y1 = Create slot (record (layer kind x0 y0 x1 y1) { place = place; backdrop = true })

-- create L super front X0 Y0 X1 Y1 BW BH
abbrev pub create_super : ℕ → ℕ → ℕ → ℕ → ℕ → ℕ → ℕ → Call
create_super slot x0 y0 x1 y1 bits_w bits_h = Create slot (record (layer SuperBitmap x0 y0 x1 y1) {
  bits_w = bits_w;
  bits_h = bits_h;
})

-- open L KIND front X Y W H, with a frame or borderless, then the classes of messages as bits, and the title
abbrev pub open_window : ℕ → Kind → ℕ → ℕ → ℕ → ℕ → Bool → ℕ → List ℕ → Call
open_window slot kind x y w h framed asks title = OpenWindow slot (box kind x y w h) framed false asks title

-- fill L X0 Y0 X1 Y1
abbrev pub fill : ℕ → ℕ → ℕ → ℕ → ℕ → Call
fill slot x0 y0 x1 y1 = Fill slot (rect x0 y0 x1 y1)

-- scrollraster L DX 0 X0 Y0 X1 Y1
abbrev pub scroll_left : ℕ → ℕ → ℕ → ℕ → ℕ → ℕ → Call
scroll_left slot dx x0 y0 x1 y1 = ScrollRaster slot (pos dx) (pos 0) (rect x0 y0 x1 y1)

-- blit L SX 0 L X 0 W 1 MM
abbrev pub blit_row : ℕ → ℕ → ℕ → ℕ → ℕ → Call
blit_row slot sx x w minterm =
    Blit slot slot (record { sx = pos sx; sy = pos 0; x = pos x; y = pos 0; w = pos w; h = pos 1; minterm = minterm })

-- blit L SX 0 M X 0 W 1 MM
abbrev pub blit_across : ℕ → ℕ → ℕ → ℕ → ℕ → ℕ → Call
blit_across source sx slot x w minterm =
    Blit source slot (record { sx = pos sx; sy = pos 0; x = pos x; y = pos 0; w = pos w; h = pos 1; minterm = minterm })

-- put BM SX 0 L X 0 W 1 MM, of the first bitmap
abbrev pub put_row : ℤ → ℕ → ℕ → ℕ → ℕ → Call
put_row sx slot x w minterm =
    Put 0 slot (record { sx = sx; sy = pos 0; x = pos x; y = pos 0; w = pos w; h = pos 1; minterm = minterm })
