-- The lines of a script in the order of its canonical text, nearest first: those of its tasks, below those of its bitmaps,
-- below its glyphs in the order of their codes, below its screen, below its version.
use Rattle.std.proofs.Common.{◌||◌, ◌≡◌, ℕ, ◌+◌, ◌≤◌, Bool, true, false, List, [], ◌∷◌, ◌++◌, filter, reverse, pos, None, Ok}
use Rattle.std.specs.List.{flat_map, range_with_len}
use Rattle.lw_grammar.specs.declared.form.Form.TheVariants.{Plain}
use Rattle.lw_grammar.specs.Statements.{Statement, LayersLine, ScreenLine, GlyphLine, BitmapLine, RowLine, TaskLine, EndLine, CallLine, LockLine, UnlockLine, HoldLine, ReleaseLine, NameWithoutSlot, PairMade, Line, StatementLine, AreaLine, GzzLine}
use Rattle.lw_grammar.specs.Told.{AssetsAreDue, nothing_told, stands_for, told}
use Rattle.lw_grammar.specs.Script.{Setting, is_skipped, is_nothing_due, parts_pair, line_read, added}
use Rattle.lw_canonical.specs.Spelling.{spelled, written}
use Rattle.lw_canonical.specs.Canonical.{lines_of_glyph, lines_of_version}

-- the line stands in a task, or begins or ends one
abbrev pub is_of_tasks : Statement → Bool
is_of_tasks (TaskLine name) = true
is_of_tasks EndLine = true
is_of_tasks (CallLine layers act) = true
is_of_tasks (LockLine name) = true
is_of_tasks (UnlockLine name) = true
is_of_tasks HoldLine = true
is_of_tasks ReleaseLine = true
is_of_tasks (PairMade outer inner) = true
is_of_tasks f = false

-- the line is a bitmap or a row of one
abbrev pub is_of_bitmaps : Statement → Bool
is_of_bitmaps (BitmapLine name w h d) = true
is_of_bitmaps (RowLine bytes) = true
is_of_bitmaps f = false

-- the glyphs with some bit set, in the order of their codes
abbrev pub glyphs_in_order : List Statement → List Statement
glyphs_in_order above = flat_map (λ i. lines_of_glyph (32 + i) ((told above).glyphs (32 + i))) (range_with_len 0 95)

-- the lines of the screen and the version
abbrev pub screen_line_of : List Statement → Statement
screen_line_of above = ScreenLine (pos (told above).width) (pos (told above).height) (pos (told above).depth)

abbrev pub screen_of : List Statement → List Statement
screen_of above = screen_line_of above ∷ lines_of_version (told above).version

-- the line stands in a task, or begins or ends one
abbrev pub is_task_line : Line → Bool
is_task_line (StatementLine f) = is_of_tasks f
is_task_line (AreaLine layer pattern points) = false
is_task_line (GzzLine g act) = true

-- each statement as a line
abbrev pub as_lines : List Statement → List Line
as_lines [] = []
as_lines (f ∷ fs) = StatementLine f ∷ as_lines fs

-- the statements that lines stand for, both nearest first
abbrev pub stated : List Line → List Statement
stated [] = []
stated (l ∷ ls) = added (stands_for (told (stated ls)) l) (stated ls)

-- what stands below the tasks, and all
abbrev pub base_of : List Statement → List Statement
base_of above = filter is_of_bitmaps above ++ (reverse (glyphs_in_order above) ++ screen_of above)

abbrev pub arranged : List Statement → List Statement
arranged above = filter is_of_tasks above ++ base_of above

abbrev pub arranged_lines : List Line → List Line
arranged_lines ls = filter is_task_line ls ++ as_lines (base_of (stated ls))

-- how the canonical text is read
abbrev pub alone : Setting → Setting
alone s = record { hooks = s.hooks; form = Plain }

-- the line is no line of the script: it is skipped, or stands after a line `report`
abbrev pub is_passed : List Statement → List ℕ → Bool
is_passed above line = is_skipped line || is_nothing_due (told above).section

-- each line of statements reads, in its one spelling, as its statement below the others, and isn't passed
abbrev pub AreSpelled : Setting → List Statement → Type 0
AreSpelled t [] = Unit {0}
AreSpelled t (f ∷ above) = (line_read t (told above) (spelled f) ≡ Ok (StatementLine f)) × (is_passed above (spelled f) ≡ false) × AreSpelled t above

-- the statement is what its one spelling says below the others
abbrev pub IsWritten : Setting → List Statement → Statement → Type 0
IsWritten s above f = line_read s (told above) (spelled f) ≡ Ok (StatementLine f)

-- the line stands above the tasks, and is no pattern
abbrev pub is_first : Statement → Bool
is_first LayersLine = true
is_first (ScreenLine w h d) = true
is_first (GlyphLine code rows) = true
is_first (BitmapLine name w h d) = true
is_first (RowLine bytes) = true
is_first f = false

-- each such line is
abbrev pub IsFirstWritten : Setting → List Statement → Statement → Type 0
IsFirstWritten s above f = is_first f ≡ true → IsWritten s above f

abbrev pub AreWritten : Setting → List Statement → Type 0
AreWritten s [] = Unit {0}
AreWritten s (f ∷ above) = IsFirstWritten s above f × AreWritten s above

-- The same of a statement for which a line stands alone: a name that stands alone has none here.
abbrev pub IsOwnWritten : Setting → List Statement → Statement → Type 0
IsOwnWritten s above (NameWithoutSlot name) = Unit {0}
IsOwnWritten s above f = IsWritten s above f

-- The line is what its one spelling says below the others: a statement that parts no window of two layers, or what is done with one.
abbrev pub IsLineWritten : Setting → List Line → Line → Type 0
IsLineWritten s ls (StatementLine f) = IsOwnWritten s (stated ls) f × (parts_pair (told (stated ls)).pairs f ≡ false)
IsLineWritten s ls (AreaLine layer pattern points) = ⊥
IsLineWritten s ls (GzzLine g act) = line_read s (told (stated ls)) (written (GzzLine g act)) ≡ Ok (GzzLine g act)

abbrev pub AreLinesWritten : Setting → List Line → Type 0
AreLinesWritten s [] = Unit {0}
AreLinesWritten s (l ∷ ls) = IsLineWritten s ls l × AreLinesWritten s ls

-- each line reads, as it is written, below the others, and isn't passed
abbrev pub AreLinesSpelled : Setting → List Line → Type 0
AreLinesSpelled t [] = Unit {0}
AreLinesSpelled t (l ∷ ls) = (line_read t (told (stated ls)) (written l) ≡ Ok l) × (is_passed (stated ls) (written l) ≡ false) × AreLinesSpelled t ls

-- lines that tell of version, screen, glyphs and bitmaps what those above tell, and of nothing else, also of no pattern
pub record IsBaseOf (above base : List Statement) : Type 0 where
  pub version : (told base).version ≡ (told above).version
  pub section : (told base).section ≡ AssetsAreDue
  pub due : (told base).rows_due ≡ 0
  pub width : (told base).width ≡ (told above).width
  pub height : (told base).height ≡ (told above).height
  pub depth : (told base).depth ≡ (told above).depth
  pub bitmap_names : (told base).bitmap_names ≡ (told above).bitmap_names
  pub patterns : (told base).pattern_names ≡ []
  pub glyphs : (code : ℕ) → 32 ≤ code → code ≤ 126 → (told base).glyphs code ≡ (told above).glyphs code
  pub bitmaps : (told base).bitmaps [] ≡ (told above).bitmaps []
  pub tasks : (told base).tasks ≡ []
  pub names : (told base).names ≡ []
  pub names_without_slot : (told base).names_without_slot ≡ []
  pub pairs : (told base).pairs ≡ []
  pub supers : (told base).supers ≡ 0
  pub hooks : (told base).names_hook ≡ nothing_told.names_hook
  pub group : (told base).group ≡ None
  pub calls_in_task : (told base).calls_in_task ≡ 0
  pub calls_before_group : (told base).calls_before_group ≡ 0
  pub calls : (told base).calls ≡ []
  pub groups : (told base).groups ≡ []
