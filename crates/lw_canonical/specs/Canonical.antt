-- The canonical text of a plan: a script without skipped lines that spells the plan. After the line of version 2, in a plan of
-- it, and the screen come the glyphs with some bit set in the order of their codes, the bitmaps with their rows, and the tasks.
-- It has no patterns and no areas: an area's fills are calls like others. A group that stands for what is done with a window
-- of two layers is one line.
use Rattle.std.specs.Prelude.{ℕ, ◌+◌, ◌==◌, Bool, true, false, ◌&&◌, nat_le, if◌then◌else◌, List, [], ◌∷◌, ◌++◌, map, drop}
use Rattle.std.specs.Prelude.{length, ℤ, pos, ◌+ℤ◌, ◌-ℤ◌, Option, Some, None, is_some, option_map, slice_index_or}
use Rattle.std.specs.List.{list_any, list_all, flat_map, range_with_len}
use Rattle.lw_planes.specs.Bitmap.{Bitmap, plane_row}
use Rattle.lw_region.specs.Rectangle.{Rectangle}
use Rattle.lw_calls.specs.declared.make.Make.{Make}
use Rattle.lw_calls.specs.declared.pair.Pair.{Pair}
use Rattle.lw_calls.specs.declared.call.Call.{Call}
use Rattle.lw_calls.specs.declared.call.Call.TheVariants.{RegRect, RegPair, RegClear, Create, OpenWindow, Close, ToFront}
use Rattle.lw_calls.specs.declared.call.Call.TheVariants.{ToBack, InFrontOf, MoveBy, SizeBy, SetBox, Activate, SetHook, Which}
use Rattle.lw_calls.specs.declared.call.Call.TheVariants.{SetA, SetB, SetMode, SetMask, At, WritePixel, ReadPixel, Fill, DrawTo}
use Rattle.lw_calls.specs.declared.call.Call.TheVariants.{Letters, SetRast, ScrollRaster, Put, Blit, Clip, Unclip, BeginRefresh}
use Rattle.lw_calls.specs.declared.call.Call.TheVariants.{EndRefresh, Scroll, SetTitle, TakeMessage}
use Rattle.lw_calls.specs.declared.group.Hold.{Hold}
use Rattle.lw_calls.specs.declared.group.Hold.TheVariants.{Slot, All}
use Rattle.lw_calls.specs.declared.group.Group.{Group}
use Rattle.lw_grammar.specs.declared.form.Form.TheVariants.{Plain}
use Rattle.lw_calls.specs.Plan.{Plan, task_calls, task_groups, group_calls, begins_update}
use Rattle.lw_calls.specs.Written.{line_of}
use Rattle.lw_grammar.specs.declared.verb.BareVerb.TheVariants.{Close as CloseVerb, Front as FrontVerb, Behind as BehindVerb}
use Rattle.lw_grammar.specs.declared.verb.BareVerb.TheVariants.{Activate as ActivateVerb, Unclip as UnclipVerb}
use Rattle.lw_grammar.specs.declared.verb.BareVerb.TheVariants.{Refresh as RefreshVerb, GetMsg as GetMsgVerb}
use Rattle.lw_grammar.specs.declared.verb.NumberVerb.TheVariants.{APen as APenVerb, BPen as BPenVerb, Mode as ModeVerb}
use Rattle.lw_grammar.specs.declared.verb.NumberVerb.TheVariants.{Mask as MaskVerb, SetRast as SetRastVerb, Clip as ClipVerb}
use Rattle.lw_grammar.specs.declared.verb.NumberVerb.TheVariants.{Hook as HookVerb}
use Rattle.lw_grammar.specs.declared.verb.PairVerb.TheVariants.{Move as MoveVerb, Size as SizeVerb, At as AtVerb}
use Rattle.lw_grammar.specs.declared.verb.PairVerb.TheVariants.{Write as WriteVerb, Read as ReadVerb, Draw as DrawVerb}
use Rattle.lw_grammar.specs.declared.verb.PairVerb.TheVariants.{Scroll as ScrollVerb}
use Rattle.lw_grammar.specs.declared.verb.TextVerb.TheVariants.{Text as TextOf, Title as TitleVerb}
use Rattle.lw_grammar.specs.Statements.{NewLayer, Act, BareAct, NumberAct, PairAct, TextAct, RegRectAct, RegPairAct}
use Rattle.lw_grammar.specs.Statements.{RegClearAct, CreateAct, OpenAct, InFrontAct, BoxAct, WhichAct, FillAct, ScrollRasterAct}
use Rattle.lw_grammar.specs.Statements.{PutAct, BlitAct, EndRefreshAct, Statement, LayersLine, ScreenLine, GlyphLine}
use Rattle.lw_grammar.specs.Statements.{BitmapLine, RowLine, TaskLine, EndLine, CallLine, LockLine, UnlockLine, HoldLine}
use Rattle.lw_grammar.specs.Statements.{ReleaseLine, GzzAct, OpenGzz, BoxGzz, FrontGzz, BehindGzz, InFrontGzz, CloseGzz, Line}
use Rattle.lw_grammar.specs.Statements.{StatementLine, GzzLine, Box, box, rectangle}
use Rattle.lw_gzz.specs.declared.word.GzzWord.{GzzWord}
use Rattle.lw_gzz.specs.declared.word.GzzWord.TheVariants.{Open as OpenWord, SetBox as BoxWord, Front as FrontWord}
use Rattle.lw_gzz.specs.declared.word.GzzWord.TheVariants.{Behind as BehindWord, InFrontOf as PlaceWord, Close as CloseWord}
use Rattle.lw_gzz.specs.Recognition.{word_of}
use Rattle.lw_grammar.specs.Script.{Setting, ScriptInput, SpellsInput}
use Rattle.lw_canonical.specs.Spelling.{written}

-- the elements with their numbers from n on
abbrev pub enumerated : {A : Type 0} → ℕ → List A → List (ℕ × A)
enumerated n [] = []
enumerated n (a ∷ as') = (n, a) ∷ enumerated (n + 1) as'

-- what a line asks for of which a call with this layer was made, beside its bounds or its box
abbrev pub new_layer_of : Make → NewLayer
new_layer_of m =
    record {
      kind = m.kind;
      place = m.place;
      backdrop = m.backdrop;
      hook = option_map pos m.hook;
      bits_w = pos m.bits_w;
      bits_h = pos m.bits_h;
    }

-- the bounds of a creation, and the box of an opening
abbrev pub created_bounds : Make → Rectangle
created_bounds m = rectangle m.x m.y ((m.x +ℤ m.w) -ℤ pos 1) ((m.y +ℤ m.h) -ℤ pos 1)

abbrev pub opened_box : Make → Box
opened_box m = box m.x m.y m.w m.h

-- the line of a call on one layer, of this name
abbrev pub on_layer : List (List ℕ) → ℕ → Act → Statement
on_layer names slot act = CallLine (slice_index_or names slot [] ∷ []) act

-- The line of a call, where the layers have these names by slot, and the bitmaps these by number.
abbrev pub line_of_call : List (List ℕ) → List (List ℕ) → Call → Statement
line_of_call names bitmaps (RegRect op r rect) = CallLine [] (RegRectAct op (pos r) rect)
line_of_call names bitmaps (RegPair op s r) = CallLine [] (RegPairAct op (pos s) (pos r))
line_of_call names bitmaps (RegClear r) = CallLine [] (RegClearAct (pos r))
line_of_call names bitmaps (Create s m) = on_layer names s (CreateAct (created_bounds m) (new_layer_of m))
line_of_call names bitmaps (OpenWindow s m framed nocare classes title) =
    on_layer names s (OpenAct (opened_box m) (new_layer_of m) framed nocare classes title)
line_of_call names bitmaps (Close s) = on_layer names s (BareAct CloseVerb)
line_of_call names bitmaps (ToFront s) = on_layer names s (BareAct FrontVerb)
line_of_call names bitmaps (ToBack s) = on_layer names s (BareAct BehindVerb)
line_of_call names bitmaps (InFrontOf s t) = CallLine (slice_index_or names s [] ∷ slice_index_or names t [] ∷ []) InFrontAct
line_of_call names bitmaps (MoveBy s dx dy) = on_layer names s (PairAct MoveVerb dx dy)
line_of_call names bitmaps (SizeBy s dw dh) = on_layer names s (PairAct SizeVerb dw dh)
line_of_call names bitmaps (SetBox s x y w h) = on_layer names s (BoxAct (box x y w h))
line_of_call names bitmaps (Activate s) = on_layer names s (BareAct ActivateVerb)
line_of_call names bitmaps (SetHook s n) = on_layer names s (NumberAct HookVerb (pos n))
line_of_call names bitmaps (Which x y) = CallLine [] (WhichAct x y)
line_of_call names bitmaps (SetA s p) = on_layer names s (NumberAct APenVerb (pos p))
line_of_call names bitmaps (SetB s p) = on_layer names s (NumberAct BPenVerb (pos p))
line_of_call names bitmaps (SetMode s k) = on_layer names s (NumberAct ModeVerb (pos k))
line_of_call names bitmaps (SetMask s p) = on_layer names s (NumberAct MaskVerb (pos p))
line_of_call names bitmaps (At s x y) = on_layer names s (PairAct AtVerb x y)
line_of_call names bitmaps (WritePixel s x y) = on_layer names s (PairAct WriteVerb x y)
line_of_call names bitmaps (ReadPixel s x y) = on_layer names s (PairAct ReadVerb x y)
line_of_call names bitmaps (Fill s rect) = on_layer names s (FillAct rect)
line_of_call names bitmaps (DrawTo s x y) = on_layer names s (PairAct DrawVerb x y)
line_of_call names bitmaps (Letters s text) = on_layer names s (TextAct TextOf text)
line_of_call names bitmaps (SetRast s p) = on_layer names s (NumberAct SetRastVerb (pos p))
line_of_call names bitmaps (ScrollRaster s dx dy rect) = on_layer names s (ScrollRasterAct dx dy rect)
line_of_call names bitmaps (Put b s area) = on_layer names s (PutAct (slice_index_or bitmaps b []) area)
line_of_call names bitmaps (Blit s t area) = CallLine (slice_index_or names s [] ∷ slice_index_or names t [] ∷ []) (BlitAct area)
line_of_call names bitmaps (Clip s r) = on_layer names s (NumberAct ClipVerb (pos r))
line_of_call names bitmaps (Unclip s) = on_layer names s (BareAct UnclipVerb)
line_of_call names bitmaps (BeginRefresh s) = on_layer names s (BareAct RefreshVerb)
line_of_call names bitmaps (EndRefresh s full) = on_layer names s (EndRefreshAct full)
line_of_call names bitmaps (Scroll s dx dy) = on_layer names s (PairAct ScrollVerb dx dy)
line_of_call names bitmaps (SetTitle s text) = on_layer names s (TextAct TitleVerb text)
line_of_call names bitmaps (TakeMessage s) = on_layer names s (BareAct GetMsgVerb)

-- the group's first call begins an update
abbrev pub are_updating : List Call → Bool
are_updating [] = false
are_updating (c ∷ cs) = begins_update c

abbrev pub is_update : List Call → Group → Bool
is_update calls g = are_updating (drop g.first calls)

-- What is done with a pair, by the first of these pairs for which these calls stand for a word.
abbrev pub or_word : Pair → Option GzzWord → Option (Pair × GzzWord) → Option (Pair × GzzWord)
or_word p (Some word) others = Some (p, word)
or_word p None others = others

abbrev pub word_among : List Pair → List Call → Option (Pair × GzzWord)
word_among [] calls = None
word_among (p ∷ ps) calls = or_word p (word_of p calls) (word_among ps calls)

-- that for which a group of these calls stands, if it holds all layers
abbrev pub word_held : List Pair → List Call → Hold → Option (Pair × GzzWord)
word_held pairs calls (Slot s) = None
word_held pairs calls All = word_among pairs calls

abbrev pub word_for : List Pair → List Call → Group → Option (Pair × GzzWord)
word_for pairs calls g = word_held pairs (group_calls calls g) g.hold

-- The line of what is done with a pair, where the layers have these names by slot.
abbrev pub act_of_word : List (List ℕ) → Pair → GzzWord → GzzAct
act_of_word names p (OpenWord kind place x y w h asks title) =
    OpenGzz (slice_index_or names p.inner []) kind place (box x y w h) asks title
act_of_word names p (BoxWord x y w h) = BoxGzz (box x y w h)
act_of_word names p FrontWord = FrontGzz
act_of_word names p BehindWord = BehindGzz
act_of_word names p (PlaceWord other) = InFrontGzz (slice_index_or names other [])
act_of_word names p CloseWord = CloseGzz

abbrev pub line_of_word : List (List ℕ) → Pair × GzzWord → Line
line_of_word names w = GzzLine (slice_index_or names w.0.outer []) (act_of_word names w.0 w.1)

-- The lines that begin and end a group: an update has none but its calls, and what is done with a pair has its own line in place
-- of all.
abbrev pub opening_lines : List (List ℕ) → Hold → Bool → List Line
opening_lines names (Slot s) true = []
opening_lines names (Slot s) false = StatementLine (LockLine (slice_index_or names s [])) ∷ []
opening_lines names All updating = StatementLine HoldLine ∷ []

abbrev pub closing_lines : List (List ℕ) → Hold → Bool → List Line
closing_lines names (Slot s) true = []
closing_lines names (Slot s) false = StatementLine (UnlockLine (slice_index_or names s [])) ∷ []
closing_lines names All updating = StatementLine ReleaseLine ∷ []

abbrev pub or_opening : List (List ℕ) → Option (Pair × GzzWord) → List Line → List Line
or_opening names (Some w) lines = line_of_word names w ∷ []
or_opening names None lines = lines

abbrev pub or_closing : Option (Pair × GzzWord) → List Line → List Line
or_closing (Some w) lines = []
or_closing None lines = lines

abbrev pub lines_opening : Plan → List Call → Group → List Line
lines_opening p calls g =
    or_opening p.slot_names (word_for p.pairs calls g) (opening_lines p.slot_names g.hold (is_update calls g))

abbrev pub lines_closing : Plan → List Call → Group → List Line
lines_closing p calls g = or_closing (word_for p.pairs calls g) (closing_lines p.slot_names g.hold (is_update calls g))

-- the lines before and after call number n of a task with these calls and groups
abbrev pub lines_before : Plan → List Call → List Group → ℕ → List Line
lines_before p calls groups n = flat_map (λ g. if g.first == n then lines_opening p calls g else []) groups

abbrev pub lines_after : Plan → List Call → List Group → ℕ → List Line
lines_after p calls groups n = flat_map (λ g. if g.last == n then lines_closing p calls g else []) groups

-- call number n is of a group that stands for what is done with a pair
abbrev pub is_of_word : Plan → List Call → List Group → ℕ → Bool
is_of_word p calls groups n =
    list_any (λ g. (nat_le g.first n && nat_le n g.last) && is_some (word_for p.pairs calls g)) groups

-- its own line, unless that is so
abbrev pub lines_at : Plan → List Call → List Group → ℕ → Call → List Line
lines_at p calls groups n c =
    if is_of_word p calls groups n then [] else StatementLine (line_of_call p.slot_names p.bitmap_names c) ∷ []

-- the lines of those of the calls that are left from number n on, with those of groups
abbrev pub lines_from : Plan → List Call → List Group → ℕ → List Call → List Line
lines_from p calls groups n [] = []
lines_from p calls groups n (c ∷ cs) =
    lines_before p calls groups n ++ lines_at p calls groups n c ++ lines_after p calls groups n
    ++ lines_from p calls groups (n + 1) cs

-- the lines of a task
abbrev pub lines_of_task : Plan → ℕ → List Line
lines_of_task p t =
    StatementLine (TaskLine (slice_index_or p.task_names t [])) ∷
    lines_from p (task_calls p t) (task_groups p t) 0 (task_calls p t) ++ StatementLine EndLine ∷ []

-- the line of a code's glyph, where some bit of it is set
abbrev pub lines_of_glyph : ℕ → List ℕ → List Statement
lines_of_glyph code rows = if list_all (λ row. row == 0) rows then [] else GlyphLine code rows ∷ []

-- the lines of a bitmap, row by row and plane by plane
abbrev pub lines_of_bitmap : List ℕ → Bitmap → List Statement
lines_of_bitmap name b =
    BitmapLine name (pos b.width) (pos b.height) (pos b.depth) ∷
    flat_map (λ k. map (λ y. RowLine (plane_row b k y)) (range_with_len 0 b.height)) (range_with_len 0 b.depth)

-- the line of version 2: no other version has one
abbrev pub lines_of_version : ℕ → List Statement
lines_of_version version = if version == 2 then LayersLine ∷ [] else []

-- the lines of a plan above its tasks
abbrev pub first_lines_of_plan : Plan → List Statement
first_lines_of_plan p =
    lines_of_version p.sizes.version ++ ScreenLine (pos p.sizes.width) (pos p.sizes.height) (pos p.sizes.depth) ∷
    flat_map (λ i. lines_of_glyph (32 + i) (slice_index_or p.assets.glyphs i [])) (range_with_len 0 95)
    ++ flat_map (λ b. lines_of_bitmap (slice_index_or p.bitmap_names b.0 []) b.1) (enumerated 0 p.assets.bitmaps)

-- the lines of a plan
abbrev pub lines_of_plan : Plan → List Line
lines_of_plan p =
    map (λ f. StatementLine f) (first_lines_of_plan p) ++ flat_map (lines_of_task p) (range_with_len 0 p.sizes.tasks)

-- The canonical text of a plan: its lines, each with a line feed after it.
unfoldable pub canonical_text : Plan → List ℕ
canonical_text p = flat_map (λ line. line_of (written line)) (lines_of_plan p)

-- What a script alone gives of a plan's canonical text, where so many hooks are handed in as the plan has.
abbrev pub canonical_input : Plan → ScriptInput
canonical_input p = record { plan = p; order = []; rest = length (canonical_text p) }

-- The canonical text of a plan that an input spells, whatever input it was read from, spells that plan as a script alone.
abbrev pub CanonicalTextsReadBack : Type 0
CanonicalTextsReadBack =
    (s : Setting) (bytes : List ℕ) (input : ScriptInput) → SpellsInput s bytes input
    → SpellsInput (record { hooks = s.hooks; form = Plain }) (canonical_text input.plan) (canonical_input input.plan)
