-- What the lines above a line of a script tell: one record, and what each statement adds to it. Skipped lines and those after a
-- line `report` tell nothing. The lines may be taken to be good, since only a script's first bad line counts.
use Rattle.std.specs.Prelude.{ℕ, ◌+◌, ◌-◌, ◌*◌, ◌==◌, Bool, true, false, ◌||◌, if◌then◌else◌, List, [], ◌∷◌, ◌++◌, map, length}
use Rattle.std.specs.Prelude.{ℤ, pos, ◌+ℤ◌, ◌-ℤ◌, unsigned_abs, Option, Some, None, option_map, slice_index, bytes_eq}
use Rattle.std.specs.Prelude.{replicate}
use Rattle.std.specs.List.{list_any, position_or_len, range_with_len, slice_index_or}
use Rattle.lw_region.specs.Rectangle.{Rectangle}
use Rattle.lw_area.specs.Areas.{area_rectangles}
use Rattle.lw_planes.specs.Bitmap.{Bitmap}
use Rattle.lw_planes.specs.Storage.{stored}
use Rattle.lw_calls.specs.declared.make.Kind.TheVariants.{Smart}
use Rattle.lw_calls.specs.declared.make.Make.{Make}
use Rattle.lw_calls.specs.declared.pair.Pair.{Pair}
use Rattle.lw_calls.specs.declared.call.Call.{Call}
use Rattle.lw_calls.specs.declared.call.Call.TheVariants.{RegRect, RegPair, RegClear, Create, OpenWindow, Close, ToFront}
use Rattle.lw_calls.specs.declared.call.Call.TheVariants.{ToBack, InFrontOf, MoveBy, SizeBy, SetBox, Activate, SetHook, Which}
use Rattle.lw_calls.specs.declared.call.Call.TheVariants.{SetA, SetB, SetMode, SetMask, At, WritePixel, ReadPixel, Fill, DrawTo}
use Rattle.lw_calls.specs.declared.call.Call.TheVariants.{Letters, SetRast, ScrollRaster, Put, Blit, Clip, Unclip, BeginRefresh}
use Rattle.lw_calls.specs.declared.call.Call.TheVariants.{EndRefresh, Scroll, SetTitle, TakeMessage}
use Rattle.lw_calls.specs.declared.group.Hold.{Hold}
use Rattle.lw_calls.specs.declared.group.Hold.TheVariants.{Slot, All}
use Rattle.lw_calls.specs.declared.group.Group.{Group}
use Rattle.lw_calls.specs.Kinds.{is_super}
use Rattle.lw_calls.specs.Plan.{Plan}
use Rattle.lw_grammar.specs.declared.verb.BareVerb.{BareVerb}
use Rattle.lw_grammar.specs.declared.verb.BareVerb.TheVariants.{Close as CloseVerb, Front as FrontVerb, Behind as BehindVerb}
use Rattle.lw_grammar.specs.declared.verb.BareVerb.TheVariants.{Activate as ActivateVerb, Unclip as UnclipVerb}
use Rattle.lw_grammar.specs.declared.verb.BareVerb.TheVariants.{Refresh as RefreshVerb, GetMsg as GetMsgVerb}
use Rattle.lw_grammar.specs.declared.verb.NumberVerb.{NumberVerb}
use Rattle.lw_grammar.specs.declared.verb.NumberVerb.TheVariants.{APen as APenVerb, BPen as BPenVerb, Mode as ModeVerb}
use Rattle.lw_grammar.specs.declared.verb.NumberVerb.TheVariants.{Mask as MaskVerb, SetRast as SetRastVerb, Clip as ClipVerb}
use Rattle.lw_grammar.specs.declared.verb.NumberVerb.TheVariants.{Hook as HookVerb}
use Rattle.lw_grammar.specs.declared.verb.PairVerb.{PairVerb}
use Rattle.lw_grammar.specs.declared.verb.PairVerb.TheVariants.{Move as MoveVerb, Size as SizeVerb, At as AtVerb}
use Rattle.lw_grammar.specs.declared.verb.PairVerb.TheVariants.{Write as WriteVerb, Read as ReadVerb, Draw as DrawVerb}
use Rattle.lw_grammar.specs.declared.verb.PairVerb.TheVariants.{Scroll as ScrollVerb}
use Rattle.lw_grammar.specs.declared.verb.TextVerb.{TextVerb}
use Rattle.lw_grammar.specs.declared.verb.TextVerb.TheVariants.{Text as TextOf, Title as TitleVerb}
use Rattle.lw_grammar.specs.Statements.{NewLayer, Act, BareAct, NumberAct, PairAct, TextAct, RegRectAct, RegPairAct}
use Rattle.lw_grammar.specs.Statements.{RegClearAct, CreateAct, OpenAct, InFrontAct, BoxAct, WhichAct, FillAct, ScrollRasterAct}
use Rattle.lw_grammar.specs.Statements.{PutAct, BlitAct, EndRefreshAct, Statement, LayersLine, ScreenLine, GlyphLine}
use Rattle.lw_grammar.specs.Statements.{BitmapLine, RowLine, PatternLine, TaskLine, EndLine, OrderLine, NumbersLine, ReportLine}
use Rattle.lw_grammar.specs.Statements.{CallLine, LockLine, UnlockLine, HoldLine, ReleaseLine, NameWithoutSlot, PairMade, GzzAct}
use Rattle.lw_grammar.specs.Statements.{OpenGzz, BoxGzz, FrontGzz, BehindGzz, InFrontGzz, CloseGzz, Line, StatementLine}
use Rattle.lw_grammar.specs.Statements.{AreaLine, GzzLine, Box, box, new_without_bitmap, version_at_screen}

-- The parts of a script, by what is due in them: the screen, before which the version may stand; glyphs, bitmaps, patterns and
-- the first task; in a task calls, groups or its end; after a task a further one, an order or a report; numbers of an order;
-- and nothing more, after a line `report`.
pub data Section : Type 0 where
  ScreenIsDue : Section
  AssetsAreDue : Section
  CallsAreDue : Section
  TasksAreDue : Section
  NumbersAreDue : Section
  NothingIsDue : Section

-- A group that is open: a lock on a layer, an update of a layer, or a hold.
pub data OpenGroup : Type 0 where
  Locked : List ℕ → OpenGroup
  Updating : List ℕ → OpenGroup
  Held : OpenGroup

-- A window of two layers, by the names of the outer and of the inner one.
pub record NamedPair : Type 0 where
  pub outer : List ℕ
  pub inner : List ℕ

-- What lines tell: the script's version, or 0 where there is no line yet; the section in which the next line stands; the
-- screen's sizes; which codes have a glyph line, and the rows of each code's glyph; the bitmaps' names; the bitmaps, where
-- further rows stand after those of the nearest one; the width of the nearest one, and how many of its rows are due; the
-- patterns' names, and the words of each; the names of the tasks, and those of the layers in the order of their first
-- appearance; the layers' names on lines of areas without a pixel, which have no slot by these; the windows of two layers; how
-- many lines ask for a super-bitmap layer; which hooks are named; the group that is open, and how many calls stand before it in
-- its task; how many calls the nearest task has; each task's calls and groups; and the order.
pub record Told : Type 0 where
  pub version : ℕ
  pub section : Section
  pub width : ℕ
  pub height : ℕ
  pub depth : ℕ
  pub has_glyph : ℕ → Bool
  pub glyphs : ℕ → List ℕ
  pub bitmap_names : List (List ℕ)
  pub bitmaps : List ℕ → List Bitmap
  pub row_width : ℕ
  pub rows_due : ℕ
  pub pattern_names : List (List ℕ)
  pub patterns : List (List ℕ)
  pub tasks : List (List ℕ)
  pub names : List (List ℕ)
  pub names_without_slot : List (List ℕ)
  pub pairs : List NamedPair
  pub supers : ℕ
  pub names_hook : ℕ → Bool
  pub group : Option OpenGroup
  pub calls_before_group : ℕ
  pub calls_in_task : ℕ
  pub calls : List (List Call)
  pub groups : List (List Group)
  pub order : List ℕ

-- no line tells anything: the screen is due, and each code's glyph is empty
abbrev pub nothing_told : Told
nothing_told =
    record {
      version = 0;
      section = ScreenIsDue;
      width = 0;
      height = 0;
      depth = 0;
      has_glyph = λ code. false;
      glyphs = λ code. replicate 8 0;
      bitmap_names = [];
      bitmaps = λ rows. [];
      row_width = 0;
      rows_due = 0;
      pattern_names = [];
      patterns = [];
      tasks = [];
      names = [];
      names_without_slot = [];
      pairs = [];
      supers = 0;
      names_hook = λ hook. false;
      group = None;
      calls_before_group = 0;
      calls_in_task = 0;
      calls = [];
      groups = [];
      order = [];
    }

-- the names with a further one at their end, unless it is one of them
abbrev pub and_name : List (List ℕ) → List ℕ → List (List ℕ)
and_name names name = if list_any (bytes_eq name) names then names else names ++ name ∷ []

-- the names with further ones, from left to right
abbrev pub and_names : List (List ℕ) → List (List ℕ) → List (List ℕ)
and_names names [] = names
and_names names (n ∷ ns) = and_names (and_name names n) ns

-- the place of a name among the names
abbrev pub place_among : List (List ℕ) → List ℕ → ℕ
place_among names name = position_or_len (bytes_eq name) names

-- a list of lists with something put at the end of its last one
abbrev pub onto_last : {A : Type 0} → A → List (List A) → List (List A)
onto_last a [] = []
onto_last a (list ∷ []) = (list ++ a ∷ []) ∷ []
onto_last a (list ∷ next ∷ rest) = list ∷ onto_last a (next ∷ rest)

-- The numbers that a layer is asked for with, as the call has them.
abbrev pub make_of : NewLayer → ℤ → ℤ → ℤ → ℤ → Make
make_of a x y w h =
    record {
      kind = a.kind;
      place = a.place;
      x = x;
      y = y;
      w = w;
      h = h;
      backdrop = a.backdrop;
      hook = option_map unsigned_abs a.hook;
      bits_w = unsigned_abs a.bits_w;
      bits_h = unsigned_abs a.bits_h;
    }

-- the bounds that a creation asks for as a corner and a size
abbrev pub created_make : Rectangle → NewLayer → Make
created_make r a = make_of a r.min_x r.min_y ((r.max_x -ℤ r.min_x) +ℤ pos 1) ((r.max_y -ℤ r.min_y) +ℤ pos 1)

-- an opening asks for a box
abbrev pub opened_make : Box → NewLayer → Make
opened_make at a = make_of a at.x at.y at.w at.h

-- The calls of the verbs that have a layer alone after them, and one with a number, with two numbers or with a text; s is the
-- layer's slot.
abbrev pub bare_call : BareVerb → ℕ → Call
bare_call CloseVerb s = Close s
bare_call FrontVerb s = ToFront s
bare_call BehindVerb s = ToBack s
bare_call ActivateVerb s = Activate s
bare_call UnclipVerb s = Unclip s
bare_call RefreshVerb s = BeginRefresh s
bare_call GetMsgVerb s = TakeMessage s

abbrev pub number_call : NumberVerb → ℕ → ℕ → Call
number_call APenVerb s n = SetA s n
number_call BPenVerb s n = SetB s n
number_call ModeVerb s n = SetMode s n
number_call MaskVerb s n = SetMask s n
number_call SetRastVerb s n = SetRast s n
number_call ClipVerb s n = Clip s n
number_call HookVerb s n = SetHook s n

abbrev pub pair_call : PairVerb → ℕ → ℤ → ℤ → Call
pair_call MoveVerb s x y = MoveBy s x y
pair_call SizeVerb s x y = SizeBy s x y
pair_call AtVerb s x y = At s x y
pair_call WriteVerb s x y = WritePixel s x y
pair_call ReadVerb s x y = ReadPixel s x y
pair_call DrawVerb s x y = DrawTo s x y
pair_call ScrollVerb s x y = Scroll s x y

abbrev pub text_call : TextVerb → ℕ → List ℕ → Call
text_call TextOf s text = Letters s text
text_call TitleVerb s text = SetTitle s text

-- the call that an act is, on the layers in these slots, where the script has bitmaps of these names
abbrev pub spelled_call : List (List ℕ) → Act → List ℕ → Call
spelled_call bitmaps (BareAct verb) slots = bare_call verb (slice_index slots 0)
spelled_call bitmaps (NumberAct verb z) slots = number_call verb (slice_index slots 0) (unsigned_abs z)
spelled_call bitmaps (PairAct verb x y) slots = pair_call verb (slice_index slots 0) x y
spelled_call bitmaps (TextAct verb text) slots = text_call verb (slice_index slots 0) text
spelled_call bitmaps (RegRectAct op r rect) slots = RegRect op (unsigned_abs r) rect
spelled_call bitmaps (RegPairAct op s r) slots = RegPair op (unsigned_abs s) (unsigned_abs r)
spelled_call bitmaps (RegClearAct r) slots = RegClear (unsigned_abs r)
spelled_call bitmaps (CreateAct rect layer) slots = Create (slice_index slots 0) (created_make rect layer)
spelled_call bitmaps (OpenAct at layer framed nocare classes title) slots =
    OpenWindow (slice_index slots 0) (opened_make at layer) framed nocare classes title
spelled_call bitmaps InFrontAct slots = InFrontOf (slice_index slots 0) (slice_index slots 1)
spelled_call bitmaps (BoxAct at) slots = SetBox (slice_index slots 0) at.x at.y at.w at.h
spelled_call bitmaps (WhichAct x y) slots = Which x y
spelled_call bitmaps (FillAct rect) slots = Fill (slice_index slots 0) rect
spelled_call bitmaps (ScrollRasterAct dx dy rect) slots = ScrollRaster (slice_index slots 0) dx dy rect
spelled_call bitmaps (PutAct bm area) slots = Put (place_among bitmaps bm) (slice_index slots 0) area
spelled_call bitmaps (BlitAct area) slots = Blit (slice_index slots 0) (slice_index slots 1) area
spelled_call bitmaps (EndRefreshAct full) slots = EndRefresh (slice_index slots 0) full

-- the call of a call line: its layers' slots are the places of their names
abbrev pub call_below : Told → List (List ℕ) → Act → Call
call_below t layers act = spelled_call t.bitmap_names act (map (place_among (and_names t.names layers)) layers)

-- the line asks for a layer with a bitmap of its own
abbrev pub makes_super : Statement → Bool
makes_super (CallLine layers (CreateAct rect layer)) = is_super layer.kind
makes_super (CallLine layers (OpenAct at layer framed nocare classes title)) = is_super layer.kind
makes_super statement = false

-- the hook that a line names
abbrev pub hook_on : Statement → Option ℤ
hook_on (CallLine layers (CreateAct rect layer)) = layer.hook
hook_on (CallLine layers (OpenAct at layer framed nocare classes title)) = layer.hook
hook_on (CallLine layers (NumberAct HookVerb z)) = Some z
hook_on statement = None

-- which hooks are named, with a further one
abbrev pub and_hook : Option ℤ → (ℕ → Bool) → ℕ → Bool
and_hook None names_hook = names_hook
and_hook (Some n) names_hook = λ hook. (unsigned_abs n == hook) || names_hook hook

-- the group that is open after an act, and how many calls stand before it in its task
abbrev pub left_open_by : List (List ℕ) → Act → Option OpenGroup → Option OpenGroup
left_open_by (l ∷ []) (BareAct RefreshVerb) group = Some (Updating l)
left_open_by layers (EndRefreshAct full) group = None
left_open_by layers act group = group

abbrev pub calls_before_by : Act → ℕ → ℕ → ℕ
calls_before_by (BareAct RefreshVerb) calls_in_task calls_before_group = calls_in_task
calls_before_by act calls_in_task calls_before_group = calls_before_group

-- the group that ends with the last of so many calls of its task
abbrev pub group_from : Told → Hold → ℕ → Group
group_from t hold calls = record { first = t.calls_before_group; last = calls - 1; hold = hold }

-- each task's groups after an act, which ends an update, or ends none
abbrev pub ended_by : List (List ℕ) → Act → Told → List (List Group)
ended_by (l ∷ []) (EndRefreshAct full) t = onto_last (group_from t (Slot (place_among t.names l)) (t.calls_in_task + 1)) t.groups
ended_by layers act t = t.groups

-- What a line with this statement adds to what the lines above it tell.
abbrev pub told_with : Statement → Told → Told
told_with LayersLine t = record t { version = 2 }
told_with (ScreenLine w h d) t =
    record t {
      version = version_at_screen t.version;
      section = AssetsAreDue;
      width = unsigned_abs w;
      height = unsigned_abs h;
      depth = unsigned_abs d;
    }
told_with (GlyphLine code rows) t =
    record t { has_glyph = λ c. (code == c) || t.has_glyph c; glyphs = λ c. if code == c then rows else t.glyphs c }
told_with (BitmapLine name w h d) t =
    record t {
      bitmap_names = t.bitmap_names ++ name ∷ [];
      bitmaps = λ rows. t.bitmaps [] ++ stored (unsigned_abs w) (unsigned_abs h) (unsigned_abs d) rows ∷ [];
      row_width = unsigned_abs w;
      rows_due = unsigned_abs d * unsigned_abs h;
    }
told_with (RowLine bytes) t = record t { bitmaps = λ rows. t.bitmaps (bytes ++ rows); rows_due = t.rows_due - 1 }
told_with (PatternLine name words) t =
    record t { pattern_names = t.pattern_names ++ name ∷ []; patterns = t.patterns ++ words ∷ [] }
told_with (TaskLine name) t =
    record t {
      section = CallsAreDue;
      tasks = t.tasks ++ name ∷ [];
      calls_in_task = 0;
      calls = t.calls ++ [] ∷ [];
      groups = t.groups ++ [] ∷ [];
    }
told_with EndLine t = record t { section = TasksAreDue }
told_with OrderLine t = record t { section = NumbersAreDue }
told_with (NumbersLine zs) t = record t { order = t.order ++ map unsigned_abs zs }
told_with ReportLine t = record t { section = NothingIsDue }
told_with (CallLine layers act) t =
    record t {
      names = and_names t.names layers;
      supers = (if makes_super (CallLine layers act) then 1 else 0) + t.supers;
      names_hook = and_hook (hook_on (CallLine layers act)) t.names_hook;
      group = left_open_by layers act t.group;
      calls_before_group = calls_before_by act t.calls_in_task t.calls_before_group;
      calls_in_task = t.calls_in_task + 1;
      calls = onto_last (call_below t layers act) t.calls;
      groups = ended_by layers act t;
    }
told_with (LockLine name) t =
    record t { names = and_name t.names name; group = Some (Locked name); calls_before_group = t.calls_in_task }
told_with (UnlockLine name) t =
    record t {
      names = and_name t.names name;
      group = None;
      groups = onto_last (group_from t (Slot (place_among t.names name)) t.calls_in_task) t.groups;
    }
told_with HoldLine t = record t { group = Some Held; calls_before_group = t.calls_in_task }
told_with ReleaseLine t = record t { group = None; groups = onto_last (group_from t All t.calls_in_task) t.groups }
told_with (NameWithoutSlot name) t = record t { names_without_slot = and_name t.names_without_slot name }
told_with (PairMade outer inner) t = record t { pairs = t.pairs ++ record { outer = outer; inner = inner } ∷ [] }

-- What lines with these statements tell, the nearest first.
abbrev pub told : List Statement → Told
told [] = nothing_told
told (statement ∷ above) = told_with statement (told above)

-- the words of an area's pattern; an area with none has the one word of sixteen ones
abbrev pub area_words : Told → Option (List ℕ) → List ℕ
area_words t None = 65535 ∷ []
area_words t (Some name) = slice_index_or t.patterns (place_among t.pattern_names name) []

-- the fills of a layer, one for each rectangle
abbrev pub fill_lines : List ℕ → List Rectangle → List Statement
fill_lines layer rects = map (λ r. CallLine (layer ∷ []) (FillAct r)) rects

-- The statements that an area of these rectangles stands for: its fills, which in no group are a lock group of their own. Without
-- a rectangle there is no group either, and the layer's name alone stands on the line.
abbrev pub area_lines : Option OpenGroup → List ℕ → List Rectangle → List Statement
area_lines group layer [] = NameWithoutSlot layer ∷ []
area_lines None layer (r ∷ rs) = LockLine layer ∷ fill_lines layer (r ∷ rs) ++ UnlockLine layer ∷ []
area_lines (Some group) layer (r ∷ rs) = fill_lines layer (r ∷ rs)

-- the inner layer of the window with this outer one
abbrev pub inner_of : List NamedPair → List ℕ → List ℕ
inner_of [] name = []
inner_of (p ∷ ps) name = if bytes_eq name p.outer then p.inner else inner_of ps name

-- The box of the inner layer in that of the outer one: a frame takes 4 columns on each side, 11 rows at the top and 2 at
-- the bottom.
abbrev pub inner_box : Box → Box
inner_box at = box (at.x +ℤ pos 4) (at.y +ℤ pos 11) (at.w -ℤ pos 8) (at.h -ℤ pos 13)

-- the calls of what is done with a window of these two layers
abbrev pub gzz_calls : List ℕ → List ℕ → GzzAct → List Statement
gzz_calls g i (OpenGzz inner kind place at classes title) =
    CallLine (g ∷ []) (OpenAct at (new_without_bitmap Smart place false None) true false classes title)
    ∷ CallLine (i ∷ []) (OpenAct (inner_box at) (new_without_bitmap kind place false None) false false classes [])
    ∷ CallLine (i ∷ g ∷ []) InFrontAct
    ∷ []
gzz_calls g i (BoxGzz at) = CallLine (g ∷ []) (BoxAct at) ∷ CallLine (i ∷ []) (BoxAct (inner_box at)) ∷ []
gzz_calls g i FrontGzz = CallLine (g ∷ []) (BareAct FrontVerb) ∷ CallLine (i ∷ []) (BareAct FrontVerb) ∷ []
gzz_calls g i BehindGzz = CallLine (i ∷ []) (BareAct BehindVerb) ∷ CallLine (g ∷ []) (BareAct BehindVerb) ∷ []
gzz_calls g i (InFrontGzz m) = CallLine (g ∷ m ∷ []) InFrontAct ∷ CallLine (i ∷ g ∷ []) InFrontAct ∷ []
gzz_calls g i CloseGzz = CallLine (g ∷ []) (BareAct CloseVerb) ∷ CallLine (i ∷ []) (BareAct CloseVerb) ∷ []

-- the inner layer of the window, which an opening names itself
abbrev pub inner_by : List NamedPair → List ℕ → GzzAct → List ℕ
inner_by pairs g (OpenGzz inner kind place at classes title) = inner
inner_by pairs g act = inner_of pairs g

-- an opening makes a pair
abbrev pub pair_lines : List ℕ → GzzAct → List Statement
pair_lines g (OpenGzz inner kind place at classes title) = PairMade g inner ∷ []
pair_lines g act = []

-- The statements that it stands for: its calls in a hold group.
abbrev pub gzz_lines : List NamedPair → List ℕ → GzzAct → List Statement
gzz_lines pairs g act = HoldLine ∷ gzz_calls g (inner_by pairs g act) act ++ ReleaseLine ∷ pair_lines g act

-- The statements that a line stands for below lines that tell this, the first one first. It tells what these tell, one after
-- another.
abbrev pub stands_for : Told → Line → List Statement
stands_for t (StatementLine statement) = statement ∷ []
stands_for t (AreaLine layer pattern points) = area_lines t.group layer (area_rectangles points (area_words t pattern))
stands_for t (GzzLine g act) = gzz_lines t.pairs g act

-- what lines tell with further statements below them, the first one first
abbrev pub told_all : List Statement → Told → Told
told_all [] t = t
told_all (statement ∷ more) t = told_all more (told_with statement t)

-- a window of two layers by their slots, which are the places of their names
abbrev pub pair_among : List (List ℕ) → NamedPair → Pair
pair_among names p = record { outer = place_among names p.outer; inner = place_among names p.inner }

-- The plan that the lines of a whole script tell, where so many hooks are handed in.
abbrev pub plan_of : ℕ → Told → Plan
plan_of hooks t =
    record {
      sizes = record {
        version = t.version;
        width = t.width;
        height = t.height;
        depth = t.depth;
        slots = length t.names;
        tasks = length t.tasks;
        hooks = hooks;
        bitmaps = length t.bitmap_names;
      };
      slot_names = t.names;
      task_names = t.tasks;
      bitmap_names = t.bitmap_names;
      calls = t.calls;
      groups = t.groups;
      pairs = map (pair_among t.names) t.pairs;
      assets = record { glyphs = map (λ i. t.glyphs (32 + i)) (range_with_len 0 95); bitmaps = t.bitmaps [] };
    }
