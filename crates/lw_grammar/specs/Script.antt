-- The grammar of scripts (docs/FORMATS.md has it with an example): the rule of a line, by what the lines above it tell; which
-- input bytes spell, where no line of the script is bad; and else which line is the first bad one, with its first reason.
use Rattle.std.specs.Prelude.{◌≡◌, ℕ, ◌+◌, ◌-◌, ◌*◌, ◌==◌, Bool, true, false, not, ◌&&◌, ◌||◌, nat_le, nat_lt, min}
use Rattle.std.specs.Prelude.{if◌then◌else◌, List, [], ◌∷◌, ◌++◌, length, map, ℤ, unsigned_abs, Option, Some, None, option_map}
use Rattle.std.specs.Prelude.{is_none, Result, Ok, Err, ok_or, bytes_eq}
use Rattle.std.specs.List.{list_any, list_all, range_with_len}
use Rattle.lw_planes.specs.Row.{row_bit}
use Rattle.lw_area.specs.declared.point.Point.{Point}
use Rattle.lw_area.specs.Polygons.{is_in_range}
use Rattle.lw_grammar.specs.declared.form.Form.{Form}
use Rattle.lw_grammar.specs.declared.form.Form.TheVariants.{Plain, Ordered, Audited}
use Rattle.lw_grammar.specs.declared.reason.Reason.{Reason}
use Rattle.lw_grammar.specs.declared.reason.Reason.TheVariants.{LineTooLong, BadByte, UnknownWord, Misplaced}
use Rattle.lw_grammar.specs.declared.reason.Reason.TheVariants.{Form as FormReason, Range, NoName, DoubleName, Gzz as GzzReason}
use Rattle.lw_grammar.specs.declared.reason.Reason.TheVariants.{Group, TooMany, NoHook, HookUsed, Padding, Missing}
use Rattle.lw_grammar.specs.declared.verb.Verb.{Verb}
use Rattle.lw_grammar.specs.declared.verb.Verb.TheVariants.{Part, Number, Area as AreaVerb, AreaPattern as AreaPatternVerb, Gzz}
use Rattle.lw_grammar.specs.declared.verb.PartVerb.TheVariants.{Layers as LayersVerb, Screen as ScreenVerb, Glyph as GlyphVerb}
use Rattle.lw_grammar.specs.declared.verb.PartVerb.TheVariants.{Bitmap as BitmapVerb, Pattern as PatternVerb, Task as TaskVerb}
use Rattle.lw_grammar.specs.declared.verb.PartVerb.TheVariants.{Order as OrderVerb, Report as ReportVerb}
use Rattle.lw_grammar.specs.declared.verb.NumberVerb.TheVariants.{Hook as HookVerb}
use Rattle.lw_grammar.specs.declared.verb.BareVerb.TheVariants.{Close as CloseVerb, Front as FrontVerb, Behind as BehindVerb}
use Rattle.lw_grammar.specs.declared.verb.BareVerb.TheVariants.{Activate as ActivateVerb, Refresh as RefreshVerb}
use Rattle.lw_grammar.specs.declared.verb.PairVerb.TheVariants.{Move as MoveVerb, Size as SizeVerb}
use Rattle.lw_calls.specs.declared.limits.Limits.{Limits}
use Rattle.lw_calls.specs.Limits.{limits_of, may_replace_hooks, task_limit, bitmap_limit}
use Rattle.lw_calls.specs.Plan.{Plan}
use Rattle.lw_grammar.specs.Lines.{lines}
use Rattle.lw_grammar.specs.Demands.{◌>>=◌, demand}
use Rattle.lw_grammar.specs.Tokens.{tokens, token_of}
use Rattle.lw_grammar.specs.Verbs.{verb_of}
use Rattle.lw_grammar.specs.Statements.{Act, BareAct, NumberAct, PairAct, CreateAct, OpenAct, InFrontAct, BoxAct, PutAct}
use Rattle.lw_grammar.specs.Statements.{EndRefreshAct, GzzAct, OpenGzz, InFrontGzz, Statement, GlyphLine, BitmapLine, RowLine}
use Rattle.lw_grammar.specs.Statements.{PatternLine, TaskLine, EndLine, CallLine, LockLine, UnlockLine, HoldLine, ReleaseLine}
use Rattle.lw_grammar.specs.Statements.{Line, StatementLine, AreaLine, GzzLine, row_line, numbers_line, line_by}
use Rattle.lw_grammar.specs.Statements.{is_line_in_range, is_gzz_in_range}
use Rattle.lw_grammar.specs.Told.{Section, ScreenIsDue, AssetsAreDue, CallsAreDue, TasksAreDue, NumbersAreDue, NothingIsDue}
use Rattle.lw_grammar.specs.Told.{OpenGroup, Locked, Updating, Held, NamedPair, Told, hook_on, told_with, told, stands_for}
use Rattle.lw_grammar.specs.Told.{told_all, plan_of}

-- What a script is read with: how many hooks are handed in, and what input it stands in.
pub record Setting : Type 0 where
  pub hooks : ℕ
  pub form : Form

-- so many hooks are handed in, and the script stands in such an input
abbrev pub reading_with : ℕ → Form → Setting
reading_with hooks form = record { hooks = hooks; form = form }

-- how many bytes a line has at most
abbrev pub line_limit : ℕ
line_limit = 512

-- a line that says nothing: it is empty, or begins with #
abbrev pub is_skipped : List ℕ → Bool
is_skipped [] = true
is_skipped (b ∷ bs) = b == 35

-- a byte of a line's words
abbrev pub is_printable : ℕ → Bool
is_printable b = nat_le 32 b && nat_le b 126

-- this is due in the section
abbrev pub is_screen_due : Section → Bool
is_screen_due ScreenIsDue = true
is_screen_due _ = false

abbrev pub are_assets_due : Section → Bool
are_assets_due AssetsAreDue = true
are_assets_due _ = false

abbrev pub are_calls_due : Section → Bool
are_calls_due CallsAreDue = true
are_calls_due _ = false

abbrev pub are_tasks_due : Section → Bool
are_tasks_due TasksAreDue = true
are_tasks_due _ = false

abbrev pub are_numbers_due : Section → Bool
are_numbers_due NumbersAreDue = true
are_numbers_due _ = false

abbrev pub is_nothing_due : Section → Bool
is_nothing_due NothingIsDue = true
is_nothing_due _ = false

-- the input has an order; a report
abbrev pub is_ordered : Form → Bool
is_ordered Plain = false
is_ordered Ordered = true
is_ordered Audited = false

abbrev pub is_audited : Form → Bool
is_audited Plain = false
is_audited Ordered = false
is_audited Audited = true

-- Some line begins with this verb, where the lines above tell this version: `layers` is known as a script's first line and in
-- version 2, `hook` where hooks may be replaced, and patterns, areas and windows of two layers in version 2.
abbrev pub is_known_in : ℕ → Verb → Bool
is_known_in version (Part LayersVerb) = not (version == 1)
is_known_in version (Part PatternVerb) = version == 2
is_known_in version (Number HookVerb) = may_replace_hooks version
is_known_in version AreaVerb = version == 2
is_known_in version AreaPatternVerb = version == 2
is_known_in version (Gzz verb) = version == 2
is_known_in version verb = true

-- Lines with this verb belong in this section of this input, where the lines above tell this version.
abbrev pub belongs_in : Form → ℕ → Section → Verb → Bool
belongs_in form version section (Part LayersVerb) = is_screen_due section && (version == 0)
belongs_in form version section (Part ScreenVerb) = is_screen_due section
belongs_in form version section (Part GlyphVerb) = are_assets_due section
belongs_in form version section (Part BitmapVerb) = are_assets_due section
belongs_in form version section (Part PatternVerb) = are_assets_due section
belongs_in form version section (Part TaskVerb) = are_assets_due section || are_tasks_due section
belongs_in form version section (Part OrderVerb) = are_tasks_due section && is_ordered form
belongs_in form version section (Part ReportVerb) = are_tasks_due section && is_audited form
belongs_in form version section verb = are_calls_due section

-- the verb of a line's words
abbrev pub verb_on : List (List ℕ) → Option Verb
verb_on [] = None
verb_on (w ∷ ws) = verb_of w

-- the words after a line's first
abbrev pub after_verb : List (List ℕ) → List (List ℕ)
after_verb [] = []
after_verb (w ∷ ws) = ws

-- the line is a `put` whose bitmap isn't one of these
abbrev pub lacks_name : List (List ℕ) → Statement → Bool
lacks_name names (CallLine layers (PutAct bm area)) = not (list_any (bytes_eq bm) names)
lacks_name names statement = false

-- there is a pattern's name, and it isn't one of these
abbrev pub lacks_pattern : List (List ℕ) → Option (List ℕ) → Bool
lacks_pattern names None = false
lacks_pattern names (Some name) = not (list_any (bytes_eq name) names)

-- the line gives a bitmap, a pattern, a task or a code that a line above gave
abbrev pub gives_again : Told → Statement → Bool
gives_again t (GlyphLine code rows) = t.has_glyph code
gives_again t (BitmapLine name w h d) = list_any (bytes_eq name) t.bitmap_names
gives_again t (PatternLine name words) = list_any (bytes_eq name) t.pattern_names
gives_again t (TaskLine name) = list_any (bytes_eq name) t.tasks
gives_again t statement = false

-- the name is that of the outer layer of a window of two; of the inner one; of either
abbrev pub is_outer : List NamedPair → List ℕ → Bool
is_outer pairs name = list_any (λ p. bytes_eq name p.outer) pairs

abbrev pub is_inner : List NamedPair → List ℕ → Bool
is_inner pairs name = list_any (λ p. bytes_eq name p.inner) pairs

abbrev pub is_paired : List NamedPair → List ℕ → Bool
is_paired pairs name = is_outer pairs name || is_inner pairs name

-- the call of the act makes, closes, moves or sizes a layer, or puts it elsewhere in the list
abbrev pub is_placing : Act → Bool
is_placing (BareAct CloseVerb) = true
is_placing (BareAct FrontVerb) = true
is_placing (BareAct BehindVerb) = true
is_placing (PairAct MoveVerb x y) = true
is_placing (PairAct SizeVerb x y) = true
is_placing (CreateAct rect layer) = true
is_placing (OpenAct at layer framed nocare classes title) = true
is_placing InFrontAct = true
is_placing (BoxAct at) = true
is_placing act = false

abbrev pub is_activating : Act → Bool
is_activating (BareAct ActivateVerb) = true
is_activating act = false

-- The statement does by itself what could part a window of two layers: it places one of the two, or a layer in front of one of
-- them, or makes the inner one active.
abbrev pub parts_pair : List NamedPair → Statement → Bool
parts_pair pairs (CallLine layers act) =
    (is_placing act && list_any (is_paired pairs) layers) || (is_activating act && list_any (is_inner pairs) layers)
parts_pair pairs statement = false

-- the name stands on a line above
abbrev pub stands_above : Told → List ℕ → Bool
stands_above t name = list_any (bytes_eq name) t.names || list_any (bytes_eq name) t.names_without_slot

-- the line does something with a window of two layers that no line above opened
abbrev pub lacks_pair : List NamedPair → List ℕ → GzzAct → Bool
lacks_pair pairs g (OpenGzz inner kind place at classes title) = false
lacks_pair pairs g act = not (is_outer pairs g)

-- a name of an opened window stands above, or both are one
abbrev pub names_again : Told → List ℕ → GzzAct → Bool
names_again t g (OpenGzz inner kind place at classes title) =
    (stands_above t g || stands_above t inner) || bytes_eq g inner
names_again t g act = false

-- a window of two layers would come between the two layers of another
abbrev pub comes_between : List NamedPair → GzzAct → Bool
comes_between pairs (InFrontGzz m) = is_outer pairs m
comes_between pairs act = false

-- the call of the act gives a layer another hook
abbrev pub is_hooking : Act → Bool
is_hooking (NumberAct HookVerb z) = true
is_hooking act = false

-- the call of the act is on all layers: it places a layer, makes one active, or gives one another hook
abbrev pub is_on_all : Act → Bool
is_on_all act = is_placing act || (is_activating act || is_hooking act)

-- the call of the act begins an update
abbrev pub is_beginning : Act → Bool
is_beginning (BareAct RefreshVerb) = true
is_beginning act = false

-- the call of the act ends an update
abbrev pub is_ending : Act → Bool
is_ending (EndRefreshAct full) = true
is_ending act = false

-- there is a layer among these, and each is this one
abbrev pub are_all : List ℕ → List (List ℕ) → Bool
are_all l [] = false
are_all l (m ∷ ms) = list_all (bytes_eq l) (m ∷ ms)

-- a call on the one layer
abbrev pub is_on_one : List ℕ → List (List ℕ) → Act → Bool
is_on_one l layers act = are_all l layers && not (is_on_all act)

-- This group, or none, allows such a call.
abbrev pub group_allows : Option OpenGroup → List (List ℕ) → Act → Bool
group_allows None layers act = not (is_ending act)
group_allows (Some (Locked l)) layers act = is_on_one l layers act && (not (is_beginning act) && not (is_ending act))
group_allows (Some (Updating l)) layers act = is_on_one l layers act && not (is_beginning act)
group_allows (Some Held) layers act = is_on_all act

-- the group is a lock on this layer
abbrev pub is_lock_on : List ℕ → Option OpenGroup → Bool
is_lock_on l (Some (Locked m)) = bytes_eq l m
is_lock_on l _ = false

-- the group is a hold
abbrev pub is_hold : Option OpenGroup → Bool
is_hold (Some Held) = true
is_hold _ = false

-- the group that lines left open has a call
abbrev pub group_has_calls : Told → Bool
group_has_calls t = nat_lt t.calls_before_group t.calls_in_task

-- The line may stand where this group is open, or none, and has calls, or not.
abbrev pub fits_group : Option OpenGroup → Bool → Statement → Bool
fits_group group has_calls (CallLine layers act) = group_allows group layers act
fits_group group has_calls (LockLine name) = is_none group
fits_group group has_calls HoldLine = is_none group
fits_group group has_calls EndLine = is_none group
fits_group group has_calls (UnlockLine name) = is_lock_on name group && has_calls
fits_group group has_calls ReleaseLine = is_hold group && has_calls
fits_group group has_calls statement = true

-- This group, or none, allows an area on the layer, whether it has a fill or not.
abbrev pub allows_area : Option OpenGroup → List ℕ → Bool
allows_area None l = true
allows_area (Some (Locked m)) l = bytes_eq m l
allows_area (Some (Updating m)) l = bytes_eq m l
allows_area (Some Held) l = false

-- how many patterns there are at most
abbrev pub pattern_limit : ℕ
pattern_limit = 16

-- how many lines ask for a super-bitmap layer at most
abbrev pub super_limit : ℕ
super_limit = 16

-- lines tell of no more tasks, bitmaps, patterns, layer names, super-bitmap layers and calls of a task than may be by a version's
-- limits
abbrev pub are_few : Limits → Told → Bool
are_few limits t =
    ((nat_le (length t.tasks) task_limit
    && (nat_le (length t.bitmap_names) bitmap_limit && nat_le (length t.pattern_names) pattern_limit))
    && nat_le (length t.names) limits.names)
    && (nat_le t.supers super_limit && nat_le t.calls_in_task limits.calls)

-- there is a hook's number, and it isn't below the number of hooks
abbrev pub is_no_hook : ℕ → Option ℤ → Bool
is_no_hook hooks None = false
is_no_hook hooks (Some n) = not (nat_lt (unsigned_abs n) hooks)

-- there is a hook's number, and a line above names that hook
abbrev pub is_hook_named : (ℕ → Bool) → Option ℤ → Bool
is_hook_named names_hook None = false
is_hook_named names_hook (Some n) = names_hook (unsigned_abs n)

-- a bit of a row after this width is 1
abbrev pub has_padding : ℕ → Statement → Bool
has_padding width (RowLine bytes) = list_any (λ x. row_bit bytes x == 1) (range_with_len width (8 * length bytes - width))
has_padding width statement = false

-- The rule of a line: one demand after another, in the order of the reasons. First the words of a line, or its first reason
-- that asks for bytes alone.
abbrev pub words_read : List ℕ → Result (List (List ℕ)) Reason
words_read line = do
  _ ← demand (nat_le (length line) line_limit) LineTooLong
  _ ← demand (list_all is_printable line) BadByte
  tokens line

-- What a line of these words says that begins with a verb, in this version and section of this input, or its first reason.
abbrev pub verb_read : Form → ℕ → Section → List (List ℕ) → Result Line Reason
verb_read form version section ws = do
  verb ← ok_or (verb_on ws) UnknownWord
  _ ← demand (is_known_in version verb) UnknownWord
  _ ← demand (belongs_in form version section verb) Misplaced
  ok_or (line_by verb (map token_of (after_verb ws))) FormReason

-- a statement that is found is what its line says
abbrev pub stated : Option Statement → Option Line
stated o = option_map (λ statement. StatementLine statement) o

-- What a line of these words says: where so many rows of a bitmap of this width are due, a row; where numbers are due, numbers;
-- and else a line with a verb.
abbrev pub line_made : Form → ℕ → Section → ℕ → ℕ → List (List ℕ) → Result Line Reason
line_made form version section due width ws =
    if not (due == 0)
    then ok_or (stated (row_line width (map token_of ws))) FormReason
    else (if are_numbers_due section
    then ok_or (stated (numbers_line (map token_of ws))) FormReason
    else verb_read form version section ws)

-- The first reason for which a line with this statement is bad, if it is bad, where it would part a window of two layers, or not.
abbrev pub tested_with : Setting → Told → Bool → Statement → Result (Unit {0}) Reason
tested_with s t would_part statement = do
  _ ← demand (is_line_in_range t.version statement) Range
  _ ← demand (not (lacks_name t.bitmap_names statement)) NoName
  _ ← demand (not (gives_again t statement)) DoubleName
  _ ← demand (not would_part) GzzReason
  _ ← demand (fits_group t.group (group_has_calls t) statement) Group
  _ ← demand (are_few (limits_of t.version) (told_with statement t)) TooMany
  _ ← demand (not (is_no_hook s.hooks (hook_on statement))) NoHook
  _ ← demand (not (is_hook_named t.names_hook (hook_on statement))) HookUsed
  demand (not (has_padding t.row_width statement)) Padding

-- The first reason for which such a line is bad, where it isn't asked whether it would part a window of two layers.
abbrev pub statement_tested : Setting → Told → Statement → Result (Unit {0}) Reason
statement_tested s t statement = tested_with s t false statement

-- The first reason for which a line is bad with an area on this layer, with this pattern and these points. Of what it stands for
-- no reason is asked, but that with all of it there are few of everything.
abbrev pub area_tested : Told → List ℕ → Option (List ℕ) → List Point → Result (Unit {0}) Reason
area_tested t layer pattern points = do
  _ ← demand (list_all is_in_range points) Range
  _ ← demand (not (lacks_pattern t.pattern_names pattern)) NoName
  _ ← demand (allows_area t.group layer) Group
  demand (are_few (limits_of t.version) (told_all (stands_for t (AreaLine layer pattern points)) t)) TooMany

-- The first reason for which a line is bad that does this with the window of two layers of which this is the outer one. It stands
-- in no group. Of the statements for which it stands no reason is asked, but that with all of them there are few of everything.
abbrev pub gzz_tested : Told → List ℕ → GzzAct → Result (Unit {0}) Reason
gzz_tested t g act = do
  _ ← demand (is_gzz_in_range t.width t.height act) Range
  _ ← demand (not (lacks_pair t.pairs g act)) NoName
  _ ← demand (not (names_again t g act)) DoubleName
  _ ← demand (not (comes_between t.pairs act)) GzzReason
  _ ← demand (is_none t.group) Group
  demand (are_few (limits_of t.version) (told_all (stands_for t (GzzLine g act)) t)) TooMany

-- The first reason for which a line that says this is bad.
abbrev pub line_tested : Setting → Told → Line → Result (Unit {0}) Reason
line_tested s t (StatementLine statement) = tested_with s t (parts_pair t.pairs statement) statement
line_tested s t (AreaLine layer pattern points) = area_tested t layer pattern points
line_tested s t (GzzLine g act) = gzz_tested t g act

-- What a line of these words says, below lines that tell this, or its first reason.
abbrev pub line_of_words : Setting → Told → List (List ℕ) → Result Line Reason
line_of_words s t ws = do
  line ← line_made s.form t.version t.section t.rows_due t.row_width ws
  _ ← line_tested s t line
  Ok line

-- what a line says that isn't skipped, below lines that tell this, or its first reason
abbrev pub line_read : Setting → Told → List ℕ → Result Line Reason
line_read s t bytes = words_read bytes >>= line_of_words s t

-- the statements with further ones below them, the first one first
abbrev pub added : List Statement → List Statement → List Statement
added [] above = above
added (statement ∷ more) above = added more (statement ∷ above)

-- the statements of lines with those that a further line stands for, unless it is skipped; or its first reason
abbrev pub statements_with : Setting → List Statement → List ℕ → Result (List Statement) Reason
statements_with s above line =
    if is_skipped line then Ok above
    else (line_read s (told above) line >>= (λ l. Ok (added (stands_for (told above) l) above)))

-- Nothing is missing where the lines of a script of this form end in this section.
abbrev pub may_end : Form → Section → Bool
may_end Plain section = are_tasks_due section
may_end Ordered section = are_numbers_due section
may_end Audited section = is_nothing_due section

-- These lines are good or skipped, one after another, below lines with these statements, and none of them stands below a line
-- `report`. `all` are those statements with theirs.
abbrev pub AreGoodBelow : Setting → List Statement → List (List ℕ) → List Statement → Type 0
AreGoodBelow s above [] all = above ≡ all
AreGoodBelow s above (line ∷ ls) all =
    (is_nothing_due (told above).section ≡ false)
    × (more : List Statement) × (statements_with s above line ≡ Ok more) × AreGoodBelow s more ls all

-- These lines aren't lines of the script, below lines with these statements: there are none, or they stand below a line `report`.
abbrev pub AreOutsideBelow : List Statement → List (List ℕ) → Type 0
AreOutsideBelow above [] = Unit {0}
AreOutsideBelow above (line ∷ ls) = is_nothing_due (told above).section ≡ true

-- The first of these lines isn't skipped, stands below no line `report`, and is bad, with this first reason; or there is no line,
-- and something is missing.
abbrev pub IsBadBelow : Setting → List Statement → List (List ℕ) → Reason → Type 0
IsBadBelow s above [] reason = (may_end s.form (told above).section ≡ false) × (reason ≡ Missing)
IsBadBelow s above (line ∷ ls) reason =
    (is_nothing_due (told above).section ≡ false) × (is_skipped line ≡ false) × (line_read s (told above) line ≡ Err reason)

-- how many bytes these lines have, each with a line feed
abbrev pub bytes_in_lines : List (List ℕ) → ℕ
bytes_in_lines [] = 0
bytes_in_lines (line ∷ ls) = (length line + 1) + bytes_in_lines ls

-- What a script gives: its plan, the numbers of its order, and the place after its line `report`, or the number of
-- bytes where there is none.
pub record ScriptInput : Type 0 where
  pub plan : Plan
  pub order : List ℕ
  pub rest : ℕ

abbrev pub input_from : Setting → Told → ℕ → ScriptInput
input_from s t place = record { plan = plan_of s.hooks t; order = t.order; rest = place }

-- The bytes spell this input: the first of their lines are good, one after another; there are no others, or these stand below a
-- line `report`; nothing is missing; and this is what the good lines give. Its place is where they end, which is the end of the
-- bytes where the last line lacks its line feed.
pub record SpellsInput (s : Setting) (bytes : List ℕ) (input : ScriptInput) : Type 0 where
  pub above : List (List ℕ)
  pub below : List (List ℕ)
  pub statements : List Statement
  pub lines_are : lines bytes ≡ above ++ below
  pub read : AreGoodBelow s [] above statements
  pub others : AreOutsideBelow statements below
  pub ended : may_end s.form (told statements).section ≡ true
  pub gives : input ≡ input_from s (told statements) (min (length bytes) (bytes_in_lines above))

-- Line number n is the first bad line, since all above are good, and this is its first reason; or the lines end above it, and
-- something is missing.
pub record IsFirstBadIn (s : Setting) (ls : List (List ℕ)) (n : ℕ) (reason : Reason) : Type 0 where
  pub above : List (List ℕ)
  pub below : List (List ℕ)
  pub statements : List Statement
  pub lines_are : ls ≡ above ++ below
  pub number : n ≡ length above + 1
  pub read : AreGoodBelow s [] above statements
  pub bad : IsBadBelow s statements below reason
