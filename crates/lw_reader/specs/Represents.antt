-- What the reader's state represents.
use Rattle.std.specs.Prelude.{◌≡◌, ℕ, ◌+◌, ◌*◌, ◌<◌, ◌≤◌, ◌==◌, false, if◌then◌else◌, List, [], ◌∷◌, ◌++◌, length, map, get_or}
use Rattle.std.specs.Prelude.{option_map}
use Rattle.std.specs.List.{list_any}
use Rattle.lw_planes.specs.Bitmap.{Bitmap, row_bytes}
use Rattle.lw_planes.specs.Sizes.{AreSizes}
use Rattle.lw_planes.specs.Storage.{stored}
use Rattle.lw_grammar.specs.Statements.{Statement}
use Rattle.lw_grammar.specs.Told.{told}
use Rattle.lw_grammar.specs.Script.{Setting, added}
use Rattle.lw_grammar.specs.GoodLines.{AreGoodLines}
use Rattle.lw_reader.specs.declared.state.AssetsRead.{AssetsRead}
use Rattle.lw_reader.specs.declared.state.TasksRead.{TasksRead}
use Rattle.lw_reader.specs.declared.state.Reader.{Reader}
use Rattle.lw_words.specs.Cuts.{targets}
use Rattle.lw_statements.specs.GroupMeaning.{group_meaning}
use Rattle.lw_statements.specs.SectionMeaning.{section_meaning}
use Rattle.lw_reader.specs.ReaderKnows.{pair_meaning}

-- the nearest bitmap, where further rows stand after those that were read; none where no row of it is due
abbrev pub unfinished : AssetsRead → List ℕ → List Bitmap
unfinished a rows = if a.due == 0 then [] else stored a.width a.height a.depth (a.rows.items ++ rows) ∷ []

-- Where rows are due, the nearest bitmap has sizes, and its rows so far and those due are all its rows.
pub record IsBitmapBegun (a : AssetsRead) : Type 0 where
  pub sizes : AreSizes a.width a.height a.depth
  pub long : length a.rows.items + a.due * row_bytes a.width ≡ a.depth * a.height * row_bytes a.width

-- glyphs, bitmaps and patterns
pub record AssetsRepresent (a : AssetsRead) (above : List Statement) : Type 0 where
  pub has_glyph : (code : ℕ) → get_or a.has_glyph code false ≡ (told above).has_glyph code
  pub glyphs : (i : ℕ) → i < 95 → get_or a.glyphs i [] ≡ (told above).glyphs (32 + i)
  pub names : targets a.names.keys ≡ (told above).bitmap_names
  pub width : a.width ≡ (told above).row_width
  pub narrow : a.width ≤ 1024
  pub due : a.due ≡ (told above).rows_due
  pub begun : 0 < a.due → IsBitmapBegun a
  pub bitmaps : (rows : List ℕ) → (a.due ≡ 0 → rows ≡ []) → a.bitmaps.items ++ unfinished a rows ≡ (told above).bitmaps rows
  pub pattern_names : targets a.pattern_names.keys ≡ (told above).pattern_names
  pub patterns : a.patterns.items ≡ (told above).patterns

-- tasks, their calls and their groups
pub record TasksRepresent (t : TasksRead) (above : List Statement) : Type 0 where
  pub tasks : targets t.task_names.keys ≡ (told above).tasks
  pub names : targets t.layer_names.keys ≡ (told above).names
  pub names_without_slot : targets t.names_without_slot.keys ≡ (told above).names_without_slot
  pub pairs : map pair_meaning t.pairs.items ≡ (told above).pairs
  pub supers : t.supers ≡ (told above).supers
  pub names_hook : (n : ℕ) → list_any (λ m. n == m) t.hooks_named.keys ≡ (told above).names_hook n
  pub group : option_map group_meaning t.group ≡ (told above).group
  pub calls_before_group : t.calls_before_group ≡ (told above).calls_before_group
  pub calls_in_task : t.calls_in_task ≡ (told above).calls_in_task
  pub calls : map (λ cs. cs.items) t.calls.items ≡ (told above).calls
  pub groups : map (λ gs. gs.items) t.groups.items ≡ (told above).groups

-- The reader, with its setting, represents the lines that it has read: it knows of each thing that they tell what they tell.
pub record Represents (s : Setting) (r : Reader) (above : List Statement) : Type 0 where
  pub hooks : r.hooks ≡ s.hooks
  pub form : r.form ≡ s.form
  pub version : r.version ≡ (told above).version
  pub section : section_meaning r.section ≡ (told above).section
  pub width : r.width ≡ (told above).width
  pub height : r.height ≡ (told above).height
  pub depth : r.depth ≡ (told above).depth
  pub assets : AssetsRepresent r.assets above
  pub tasks : TasksRepresent r.tasks above
  pub order : r.order.items ≡ (told above).order

-- the reader represents lines that were good where they stood
abbrev pub HasRead : Reader → Type 0
HasRead r = (s : Setting) × (above : List Statement) × Represents s r above × AreGoodLines s above

-- the same, where a line with this statement is good below them
abbrev pub CanAdd : Reader → Statement → Type 0
CanAdd r statement = (s : Setting) × (above : List Statement) × Represents s r above × AreGoodLines s (statement ∷ above)

-- the same, where these statements are good below them, one after another
abbrev pub CanAddAll : Reader → List Statement → Type 0
CanAddAll r fs = (s : Setting) × (above : List Statement) × Represents s r above × AreGoodLines s (added fs above)
