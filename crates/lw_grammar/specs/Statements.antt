-- The statements of a script's lines.
use Rattle.std.specs.Prelude.{ℕ, ◌+◌, ◌*◌, ◌%◌, ◌^◌, ◌==◌, Bool, true, false, not, ◌&&◌, nat_le, if◌then◌else◌, List, [], ◌∷◌}
use Rattle.std.specs.Prelude.{length, ℤ, pos, Option, Some, None, option_map, option_and_then, codes, bytes_eq, ◌+ℤ◌, ◌-ℤ◌}
use Rattle.std.specs.List.{list_all}
use Rattle.lw_region.specs.Rectangle.{Rectangle, within}
use Rattle.lw_area.specs.declared.point.Point.{Point}
use Rattle.lw_area.specs.Patterns.{is_pattern_count}
use Rattle.lw_area.specs.Polygons.{is_point_count}
use Rattle.lw_planes.specs.Bitmap.{row_bytes}
use Rattle.lw_calls.specs.declared.operation.RectOp.{RectOp}
use Rattle.lw_calls.specs.declared.operation.PairOp.{PairOp}
use Rattle.lw_calls.specs.declared.make.Kind.{Kind}
use Rattle.lw_calls.specs.declared.make.Kind.TheVariants.{Simple, Smart, SuperBitmap}
use Rattle.lw_calls.specs.declared.make.Place.{Place}
use Rattle.lw_calls.specs.declared.make.Place.TheVariants.{Front, Behind}
use Rattle.lw_calls.specs.declared.area.Area.{Area}
use Rattle.lw_grammar.specs.declared.verb.PartVerb.{PartVerb}
use Rattle.lw_grammar.specs.declared.verb.PartVerb.TheVariants.{Layers as LayersVerb, Screen as ScreenVerb, Glyph as GlyphVerb}
use Rattle.lw_grammar.specs.declared.verb.PartVerb.TheVariants.{Bitmap as BitmapVerb, Pattern as PatternVerb, Task as TaskVerb}
use Rattle.lw_grammar.specs.declared.verb.PartVerb.TheVariants.{End as EndVerb, Order as OrderVerb, Report as ReportVerb}
use Rattle.lw_grammar.specs.declared.verb.PartVerb.TheVariants.{Lock as LockVerb, Unlock as UnlockVerb, Hold as HoldVerb}
use Rattle.lw_grammar.specs.declared.verb.PartVerb.TheVariants.{Release as ReleaseVerb}
use Rattle.lw_grammar.specs.declared.verb.BareVerb.{BareVerb}
use Rattle.lw_grammar.specs.declared.verb.NumberVerb.{NumberVerb}
use Rattle.lw_grammar.specs.declared.verb.NumberVerb.TheVariants.{APen as APenVerb, BPen as BPenVerb, Mode as ModeVerb}
use Rattle.lw_grammar.specs.declared.verb.NumberVerb.TheVariants.{Mask as MaskVerb, SetRast as SetRastVerb, Clip as ClipVerb}
use Rattle.lw_grammar.specs.declared.verb.NumberVerb.TheVariants.{Hook as HookVerb}
use Rattle.lw_grammar.specs.declared.verb.PairVerb.{PairVerb}
use Rattle.lw_grammar.specs.declared.verb.TextVerb.{TextVerb}
use Rattle.lw_grammar.specs.declared.verb.GzzVerb.{GzzVerb}
use Rattle.lw_grammar.specs.declared.verb.GzzVerb.TheVariants.{Open as OpenVerb, Box as BoxVerb, Front as FrontVerb}
use Rattle.lw_grammar.specs.declared.verb.GzzVerb.TheVariants.{Behind as BehindVerb, InFront as InFrontVerb, Close as CloseVerb}
use Rattle.lw_grammar.specs.declared.verb.Verb.{Verb}
use Rattle.lw_grammar.specs.declared.verb.Verb.TheVariants.{Part, Bare, Number, Pair, Text, Rect, Region, ClearRegion, Create}
use Rattle.lw_grammar.specs.declared.verb.Verb.TheVariants.{Open, InFront, Box as BoxOf, Which, Fill, ScrollRaster, Put, Blit}
use Rattle.lw_grammar.specs.declared.verb.Verb.TheVariants.{EndRefresh, Area as AreaVerb, AreaPattern as AreaPatternVerb, Gzz}
use Rattle.lw_calls.specs.Limits.{limits_of, rect_fits, coordinates_fit, is_extent}
use Rattle.lw_grammar.specs.Tokens.{Token, NameToken, NumberToken, TextToken, bytes_in}

-- A box of a line: X Y W H, a place, a width and a height.
pub record Box : Type 0 where
  pub x : ℤ
  pub y : ℤ
  pub w : ℤ
  pub h : ℤ

-- A layer as a line asks for it, beside its bounds or its box: its kind and place, whether it is a backdrop layer, its hook, and
-- the size of a bitmap of its own, or 0 and 0. All numbers are the line's own, in their ranges or not; the call has a `Make` of
-- them, with a corner and a size in any case.
pub record NewLayer : Type 0 where
  pub kind : Kind
  pub place : Place
  pub backdrop : Bool
  pub hook : Option ℤ
  pub bits_w : ℤ
  pub bits_h : ℤ

-- What the line of a call asks for, without the layers that it names.
pub data Act : Type 0 where
  BareAct : BareVerb → Act
  NumberAct : NumberVerb → ℤ → Act
  PairAct : PairVerb → ℤ → ℤ → Act
  TextAct : TextVerb → List ℕ → Act
  RegRectAct : RectOp → ℤ → Rectangle → Act
  RegPairAct : PairOp → ℤ → ℤ → Act
  RegClearAct : ℤ → Act
  CreateAct : Rectangle → NewLayer → Act
  OpenAct : Box → NewLayer → Bool → Bool → ℕ → List ℕ → Act
  InFrontAct : Act
  BoxAct : Box → Act
  WhichAct : ℤ → ℤ → Act
  FillAct : Rectangle → Act
  ScrollRasterAct : ℤ → ℤ → Rectangle → Act
  PutAct : List ℕ → Area → Act
  BlitAct : Area → Act
  EndRefreshAct : Bool → Act

-- how many layers the line of a call names
abbrev pub layers_of : Act → ℕ
layers_of (RegRectAct op r rect) = 0
layers_of (RegPairAct op s r) = 0
layers_of (RegClearAct r) = 0
layers_of (WhichAct x y) = 0
layers_of InFrontAct = 2
layers_of (BlitAct b) = 2
layers_of act = 1

-- What a line says that stands for itself: that the script has version 2; the screen; a glyph by its code and its rows; a
-- bitmap, whose rows then follow; a row of a bitmap; an area pattern by its name and its words; a task's beginning and its end;
-- the beginnings of an order and of a report; numbers of an order; a call with the layers that it names from left to right; the
-- beginnings and ends of groups; and two statements for which no line stands alone: that a layer's name stands on a line, and
-- that two layers, the outer one first, are a window of two layers.
pub data Statement : Type 0 where
  LayersLine : Statement
  ScreenLine : ℤ → ℤ → ℤ → Statement
  GlyphLine : ℕ → List ℕ → Statement
  BitmapLine : List ℕ → ℤ → ℤ → ℤ → Statement
  RowLine : List ℕ → Statement
  PatternLine : List ℕ → List ℕ → Statement
  TaskLine : List ℕ → Statement
  EndLine : Statement
  OrderLine : Statement
  NumbersLine : List ℤ → Statement
  ReportLine : Statement
  CallLine : List (List ℕ) → Act → Statement
  LockLine : List ℕ → Statement
  UnlockLine : List ℕ → Statement
  HoldLine : Statement
  ReleaseLine : Statement
  NameWithoutSlot : List ℕ → Statement
  PairMade : List ℕ → List ℕ → Statement

-- What a line does with a window of two layers: it opens one, whose inner layer has this name and is of this kind, with a place,
-- a box, classes of messages and a title; it gives it a box; it puts it in front of all others, behind them, or in front of a
-- layer; it closes it.
pub data GzzAct : Type 0 where
  OpenGzz : List ℕ → Kind → Place → Box → ℕ → List ℕ → GzzAct
  BoxGzz : Box → GzzAct
  FrontGzz : GzzAct
  BehindGzz : GzzAct
  InFrontGzz : List ℕ → GzzAct
  CloseGzz : GzzAct

-- What a line says, if it isn't skipped: a statement; or what stands for several statements: an area on a layer, by the name of
-- its pattern, or with none, and by its points; or what is done with a window of two layers, by the name of its outer one.
pub data Line : Type 0 where
  StatementLine : Statement → Line
  AreaLine : List ℕ → Option (List ℕ) → List Point → Line
  GzzLine : List ℕ → GzzAct → Line

abbrev pub box : ℤ → ℤ → ℤ → ℤ → Box
box x y w h = record { x = x; y = y; w = w; h = h }

abbrev pub rectangle : ℤ → ℤ → ℤ → ℤ → Rectangle
rectangle x0 y0 x1 y1 = record { min_x = x0; min_y = y0; max_x = x1; max_y = y1 }

-- what is made of four numbers, a rectangle or a box, and what stands after them
abbrev pub four_numbers : {A : Type 0} → (ℤ → ℤ → ℤ → ℤ → A) → List Token → Option (A × List Token)
four_numbers make (NumberToken a x ∷ NumberToken b y ∷ NumberToken c z ∷ NumberToken d w ∷ ts) = Some (make x y z w, ts)
four_numbers make _ = None

-- what is made of four numbers at the end of a line
abbrev pub last_four : {A : Type 0} → (ℤ → ℤ → ℤ → ℤ → A) → List Token → Option A
last_four make (NumberToken a x ∷ NumberToken b y ∷ NumberToken c z ∷ NumberToken d w ∷ []) = Some (make x y z w)
last_four make _ = None

-- layers 2
abbrev pub layers_line : List Token → Option Statement
layers_line (NumberToken a z ∷ []) = if bytes_eq a (codes "2") then Some LayersLine else None
layers_line _ = None

-- screen W H D
abbrev pub screen_line : List Token → Option Statement
screen_line (NumberToken a w ∷ NumberToken b h ∷ NumberToken c d ∷ []) = Some (ScreenLine w h d)
screen_line _ = None

-- the glyph line of a code, which is one byte, and of its rows
abbrev pub glyph_of_bytes : Option (List ℕ) → Option (List ℕ) → Option Statement
glyph_of_bytes (Some (code ∷ [])) (Some rows) = Some (GlyphLine code rows)
glyph_of_bytes _ _ = None

-- glyph CC HHHHHHHHHHHHHHHH
abbrev pub glyph_line : List Token → Option Statement
glyph_line (code ∷ rows ∷ []) = glyph_of_bytes (bytes_in 1 code) (bytes_in 8 rows)
glyph_line _ = None

-- bitmap NAME W H D
abbrev pub bitmap_line : List Token → Option Statement
bitmap_line (NameToken n ∷ NumberToken a w ∷ NumberToken b h ∷ NumberToken c d ∷ []) = Some (BitmapLine n w h d)
bitmap_line _ = None

-- a row of a bitmap of this width: one word of the digits of the row's bytes
abbrev pub row_line : ℕ → List Token → Option Statement
row_line width (t ∷ []) = option_map (λ bytes. RowLine bytes) (bytes_in (row_bytes width) t)
row_line width _ = None

-- a word of a pattern, which is two bytes
abbrev pub pattern_word : Option (List ℕ) → Option ℕ
pattern_word (Some (a ∷ b ∷ [])) = Some (a * 256 + b)
pattern_word _ = None

-- the words of a pattern, of four lower-case hexadecimal digits each
abbrev pub pattern_words : List Token → Option (List ℕ)
pattern_words [] = Some []
pattern_words (t ∷ ts) =
    option_and_then (λ w. option_map (λ ws. w ∷ ws) (pattern_words ts)) (pattern_word (bytes_in 2 t))

-- pattern PN HHHH ..
abbrev pub pattern_line : List Token → Option Statement
pattern_line (NameToken n ∷ ts) =
    if is_pattern_count (length ts) then option_map (λ ws. PatternLine n ws) (pattern_words ts) else None
pattern_line _ = None

-- the numbers of words that are all numbers
abbrev pub all_numbers : List Token → Option (List ℤ)
all_numbers [] = Some []
all_numbers (NumberToken a z ∷ ts) = option_map (λ zs. z ∷ zs) (all_numbers ts)
all_numbers (_ ∷ ts) = None

-- how many numbers of an order a line has at most
abbrev pub numbers_limit : ℕ
numbers_limit = 64

-- numbers of an order
abbrev pub numbers_line : List Token → Option Statement
numbers_line ts = if nat_le (length ts) numbers_limit then option_map (λ zs. NumbersLine zs) (all_numbers ts) else None

-- a verb with a name, as task NAME
abbrev pub name_line : (List ℕ → Statement) → List Token → Option Statement
name_line make (NameToken n ∷ []) = Some (make n)
name_line make _ = None

-- a verb alone, as end
abbrev pub alone_line : Statement → List Token → Option Statement
alone_line statement [] = Some statement
alone_line statement _ = None

-- a line that parts a script or a task
abbrev pub part_line : PartVerb → List Token → Option Statement
part_line LayersVerb ts = layers_line ts
part_line ScreenVerb ts = screen_line ts
part_line GlyphVerb ts = glyph_line ts
part_line BitmapVerb ts = bitmap_line ts
part_line PatternVerb ts = pattern_line ts
part_line TaskVerb ts = name_line (λ n. TaskLine n) ts
part_line EndVerb ts = alone_line EndLine ts
part_line OrderVerb ts = alone_line OrderLine ts
part_line ReportVerb ts = alone_line ReportLine ts
part_line LockVerb ts = name_line (λ n. LockLine n) ts
part_line UnlockVerb ts = name_line (λ n. UnlockLine n) ts
part_line HoldVerb ts = alone_line HoldLine ts
part_line ReleaseVerb ts = alone_line ReleaseLine ts

-- a verb with a layer, as close L
abbrev pub layer_line : BareVerb → List Token → Option Statement
layer_line verb (NameToken l ∷ []) = Some (CallLine (l ∷ []) (BareAct verb))
layer_line verb _ = None

-- a verb with a layer and a number, as apen L P
abbrev pub number_line : NumberVerb → List Token → Option Statement
number_line verb (NameToken l ∷ NumberToken a z ∷ []) = Some (CallLine (l ∷ []) (NumberAct verb z))
number_line verb _ = None

-- a verb with a layer and two numbers, as move L DX DY
abbrev pub pair_line : PairVerb → List Token → Option Statement
pair_line verb (NameToken l ∷ NumberToken a x ∷ NumberToken b y ∷ []) = Some (CallLine (l ∷ []) (PairAct verb x y))
pair_line verb _ = None

-- a verb with a layer and a text, as title L "TEXT"
abbrev pub text_line : TextVerb → List Token → Option Statement
text_line verb (NameToken l ∷ TextToken text ∷ []) = Some (CallLine (l ∷ []) (TextAct verb text))
text_line verb _ = None

-- orrect R X0 Y0 X1 Y1, and its kin
abbrev pub rect_line : RectOp → List Token → Option Statement
rect_line op (NumberToken a r ∷ ts) = option_map (λ rect. CallLine [] (RegRectAct op r rect)) (last_four rectangle ts)
rect_line op _ = None

-- orregion S R, and its kin
abbrev pub region_line : PairOp → List Token → Option Statement
region_line op (NumberToken a s ∷ NumberToken b r ∷ []) = Some (CallLine [] (RegPairAct op s r))
region_line op _ = None

-- clearregion R
abbrev pub clear_line : List Token → Option Statement
clear_line (NumberToken a r ∷ []) = Some (CallLine [] (RegClearAct r))
clear_line _ = None

-- which X Y
abbrev pub which_line : List Token → Option Statement
which_line (NumberToken a x ∷ NumberToken b y ∷ []) = Some (CallLine [] (WhichAct x y))
which_line _ = None

-- infront L M
abbrev pub infront_line : List Token → Option Statement
infront_line (NameToken l ∷ NameToken m ∷ []) = Some (CallLine (l ∷ m ∷ []) InFrontAct)
infront_line _ = None

-- box L X Y W H, and fill L X0 Y0 X1 Y1
abbrev pub four_line : (ℤ → ℤ → ℤ → ℤ → Act) → List Token → Option Statement
four_line act (NameToken l ∷ ts) = option_map (λ a. CallLine (l ∷ []) a) (last_four act ts)
four_line act _ = None

-- scrollraster L DX DY X0 Y0 X1 Y1
abbrev pub scrollraster_line : List Token → Option Statement
scrollraster_line (NameToken l ∷ NumberToken a dx ∷ NumberToken b dy ∷ ts) =
    option_map (λ rect. CallLine (l ∷ []) (ScrollRasterAct dx dy rect)) (last_four rectangle ts)
scrollraster_line _ = None

-- the minterm that bytes are: one byte whose lower four bits are 0
abbrev pub minterm_of : Option (List ℕ) → Option ℕ
minterm_of (Some (m ∷ [])) = if m % 16 == 0 then Some m else None
minterm_of _ = None

-- a minterm at the end of a line
abbrev pub last_minterm : List Token → Option ℕ
last_minterm (mm ∷ []) = minterm_of (bytes_in 1 mm)
last_minterm _ = None

-- what ends the line of a blit: X Y W H MM
abbrev pub blit_end : List Token → Option (Box × ℕ)
blit_end ts = option_and_then (λ target. option_map (λ m. (target.0, m)) (last_minterm target.1)) (four_numbers box ts)

-- a blit from this place to a box, with this minterm
abbrev pub blit_area : ℤ → ℤ → Box → ℕ → Area
blit_area sx sy to m = record { sx = sx; sy = sy; x = to.x; y = to.y; w = to.w; h = to.h; minterm = m }

-- put BM SX SY L X Y W H MM
abbrev pub put_line : List Token → Option Statement
put_line (NameToken bm ∷ NumberToken a sx ∷ NumberToken b sy ∷ NameToken l ∷ ts) =
    option_map (λ end. CallLine (l ∷ []) (PutAct bm (blit_area sx sy end.0 end.1))) (blit_end ts)
put_line _ = None

-- blit L SX SY M X Y W H MM
abbrev pub blit_line : List Token → Option Statement
blit_line (NameToken l ∷ NumberToken a sx ∷ NumberToken b sy ∷ NameToken m ∷ ts) =
    option_map (λ end. CallLine (l ∷ m ∷ []) (BlitAct (blit_area sx sy end.0 end.1))) (blit_end ts)
blit_line _ = None

-- endrefresh L full, endrefresh L part
abbrev pub endrefresh_line : List Token → Option Statement
endrefresh_line (NameToken l ∷ NameToken how ∷ []) =
    if bytes_eq how (codes "full") then Some (CallLine (l ∷ []) (EndRefreshAct true))
    else (if bytes_eq how (codes "part") then Some (CallLine (l ∷ []) (EndRefreshAct false)) else None)
endrefresh_line _ = None

-- the word is one of a layer's kinds
abbrev pub kind_of : List ℕ → Option Kind
kind_of w =
    if bytes_eq w (codes "simple") then Some Simple
    else (if bytes_eq w (codes "smart") then Some Smart else (if bytes_eq w (codes "super") then Some SuperBitmap else None))

-- the word is a place
abbrev pub place_of : List ℕ → Option Place
place_of w = if bytes_eq w (codes "front") then Some Front else (if bytes_eq w (codes "behind") then Some Behind else None)

-- an optional word, and what stands after it
abbrev pub flag : List ℕ → List Token → Bool × List Token
flag w [] = (false, [])
flag w (NameToken n ∷ ts) = if bytes_eq n w then (true, ts) else (false, NameToken n ∷ ts)
flag w (t ∷ ts) = (false, t ∷ ts)

-- optional words hook N, and what stands after them
abbrev pub hook_option : List Token → Option ℤ × List Token
hook_option (NameToken n ∷ NumberToken a z ∷ ts) =
    if bytes_eq n (codes "hook") then (Some z, ts) else (None, NameToken n ∷ NumberToken a z ∷ ts)
hook_option ts = (None, ts)

-- the class of messages that a letter of a set stands for
abbrev pub message_class_of : ℕ → Option ℕ
message_class_of b =
    if b == 114 then Some 0 else (if b == 110 then Some 1
    else (if b == 99 then Some 2 else (if b == 97 then Some 3 else (if b == 105 then Some 4 else None))))

-- the set of classes that letters stand for, in rising order from this class on, each at most once
abbrev pub classes_from : ℕ → List ℕ → Option ℕ
classes_from least [] = Some 0
classes_from least (b ∷ bs) =
    option_and_then (λ k. if nat_le least k then option_map (λ rest. 2 ^ k + rest) (classes_from (k + 1) bs) else None)
    (message_class_of b)

-- what a set is, or none, with what stands after
abbrev pub asked_classes : Option ℕ → List Token → List Token → ℕ × List Token
asked_classes (Some classes) rest all = (classes, rest)
asked_classes None rest all = (0, all)

-- optional words ask SET, and what stands after them
abbrev pub ask_option : List Token → ℕ × List Token
ask_option (NameToken n ∷ NameToken set ∷ ts) =
    if bytes_eq n (codes "ask") then asked_classes (classes_from 0 set) ts (NameToken n ∷ NameToken set ∷ ts)
    else (0, NameToken n ∷ NameToken set ∷ ts)
ask_option ts = (0, ts)

-- the statement, where no word is left
abbrev pub at_end : Statement → List Token → Option Statement
at_end statement [] = Some statement
at_end statement (t ∷ ts) = None

-- a layer that is asked for without a bitmap of its own
abbrev pub new_without_bitmap : Kind → Place → Bool → Option ℤ → NewLayer
new_without_bitmap kind place backdrop hook =
    record { kind = kind; place = place; backdrop = backdrop; hook = hook; bits_w = pos 0; bits_h = pos 0 }

-- a layer that is asked for with a bitmap of its own
abbrev pub new_super : Place → Bool → ℤ → ℤ → NewLayer
new_super place backdrop w h =
    record { kind = SuperBitmap; place = place; backdrop = backdrop; hook = None; bits_w = w; bits_h = h }

-- what stands after the bounds of a creation without a bitmap of its own: [backdrop] [hook N]
abbrev pub create_without_bitmap : List ℕ → Kind → Place → Rectangle → List Token → Option Statement
create_without_bitmap l kind place rect ts =
    let backdrop = flag (codes "backdrop") ts in
    let hook = hook_option backdrop.1 in
    at_end (CallLine (l ∷ []) (CreateAct rect (new_without_bitmap kind place backdrop.0 hook.0))) hook.1

-- what stands after those of a creation with one: BW BH [backdrop]
abbrev pub create_super : List ℕ → Place → Rectangle → List Token → Option Statement
create_super l place rect (NumberToken a w ∷ NumberToken b h ∷ ts) =
    let backdrop = flag (codes "backdrop") ts in
    at_end (CallLine (l ∷ []) (CreateAct rect (new_super place backdrop.0 w h))) backdrop.1
create_super l place rect _ = None

-- what stands after those of a creation of this kind
abbrev pub create_kind : List ℕ → Place → Rectangle → List Token → Kind → Option Statement
create_kind l place rect ts Simple = create_without_bitmap l Simple place rect ts
create_kind l place rect ts Smart = create_without_bitmap l Smart place rect ts
create_kind l place rect ts SuperBitmap = create_super l place rect ts

-- the title, where it is the last word
abbrev pub titled_line : List ℕ → Box → NewLayer → Bool → Bool → ℕ → List Token → Option Statement
titled_line l at layer framed nocare classes (TextToken title ∷ []) =
    Some (CallLine (l ∷ []) (OpenAct at layer framed nocare classes title))
titled_line l at layer framed nocare classes _ = None

-- what stands after the box of an opening without a bitmap of its own: [backdrop] [borderless] [nocare] [hook N]
-- [ask SET] "TITLE"
abbrev pub open_without_bitmap : List ℕ → Kind → Place → Box → List Token → Option Statement
open_without_bitmap l kind place at ts =
    let backdrop = flag (codes "backdrop") ts in
    let borderless = flag (codes "borderless") backdrop.1 in
    let nocare = flag (codes "nocare") borderless.1 in
    let hook = hook_option nocare.1 in
    let ask = ask_option hook.1 in
    titled_line l at (new_without_bitmap kind place backdrop.0 hook.0) (not borderless.0) nocare.0 ask.0 ask.1

-- what stands after those of an opening with one: BW BH [backdrop] [ask SET] "TITLE"
abbrev pub open_super : List ℕ → Place → Box → List Token → Option Statement
open_super l place at (NumberToken a w ∷ NumberToken b h ∷ ts) =
    let backdrop = flag (codes "backdrop") ts in
    let ask = ask_option backdrop.1 in
    titled_line l at (new_super place backdrop.0 w h) false false ask.0 ask.1
open_super l place at _ = None

-- what stands after those of an opening of this kind
abbrev pub open_kind : List ℕ → Place → Box → List Token → Kind → Option Statement
open_kind l place at ts Simple = open_without_bitmap l Simple place at ts
open_kind l place at ts Smart = open_without_bitmap l Smart place at ts
open_kind l place at ts SuperBitmap = open_super l place at ts

-- create L KIND PLACE X0 Y0 X1 Y1 .., and open L KIND PLACE X Y W H ..
abbrev pub new_layer_line
    : {A : Type 0} → (ℤ → ℤ → ℤ → ℤ → A) → (List ℕ → Place → A → List Token → Kind → Option Statement)
    → List Token → Option Statement
new_layer_line make ending (NameToken l ∷ NameToken k ∷ NameToken p ∷ ts) =
    option_and_then (λ n. option_and_then (λ place. option_and_then (ending l place n.0 n.1) (kind_of k)) (place_of p))
    (four_numbers make ts)
new_layer_line make ending _ = None

-- a point by its column and its row
abbrev pub point : ℤ → ℤ → Point
point x y = record { x = x; y = y }

-- points, where all words are numbers, two for each point
abbrev pub points_of : List Token → Option (List Point)
points_of [] = Some []
points_of (NumberToken a x ∷ NumberToken b y ∷ ts) = option_map (λ ps. point x y ∷ ps) (points_of ts)
points_of _ = None

-- the points of an area
abbrev pub area_points : List Token → Option (List Point)
area_points ts = option_and_then (λ ps. if is_point_count (length ps) then Some ps else None) (points_of ts)

-- area L X Y X Y X Y ..
abbrev pub area_line : List Token → Option Line
area_line (NameToken l ∷ ts) = option_map (λ ps. AreaLine l None ps) (area_points ts)
area_line _ = None

-- areapat L PN X Y X Y X Y ..
abbrev pub area_pattern_line : List Token → Option Line
area_pattern_line (NameToken l ∷ NameToken n ∷ ts) = option_map (λ ps. AreaLine l (Some n) ps) (area_points ts)
area_pattern_line _ = None

-- the word is the kind of an inner layer
abbrev pub inner_kind_of : List ℕ → Option Kind
inner_kind_of w = if bytes_eq w (codes "simple") then Some Simple else (if bytes_eq w (codes "smart") then Some Smart else None)

-- the title of a window of two layers, where it is the last word
abbrev pub titled_gzz : List ℕ → List ℕ → Kind → Place → Box → ℕ → List Token → Option Line
titled_gzz g i kind place at classes (TextToken title ∷ []) = Some (GzzLine g (OpenGzz i kind place at classes title))
titled_gzz g i kind place at classes _ = None

-- what stands after its box: [ask SET] "TITLE"
abbrev pub opened_gzz : List ℕ → List ℕ → Place → Box → List Token → Kind → Option Line
opened_gzz g i place at ts kind = let ask = ask_option ts in titled_gzz g i kind place at ask.0 ask.1

-- gopen G I KIND PLACE X Y W H ..
abbrev pub gopen_line : List Token → Option Line
gopen_line (NameToken g ∷ NameToken i ∷ NameToken k ∷ NameToken p ∷ ts) =
    option_and_then
    (λ n. option_and_then (λ place. option_and_then (opened_gzz g i place n.0 n.1) (inner_kind_of k)) (place_of p))
    (four_numbers box ts)
gopen_line _ = None

-- gbox G X Y W H
abbrev pub gbox_line : List Token → Option Line
gbox_line (NameToken g ∷ ts) = option_map (λ at. GzzLine g (BoxGzz at)) (last_four box ts)
gbox_line _ = None

-- gfront G, and its kin
abbrev pub gzz_alone : GzzAct → List Token → Option Line
gzz_alone act (NameToken g ∷ []) = Some (GzzLine g act)
gzz_alone act _ = None

-- ginfront G M
abbrev pub ginfront_line : List Token → Option Line
ginfront_line (NameToken g ∷ NameToken m ∷ []) = Some (GzzLine g (InFrontGzz m))
ginfront_line _ = None

-- a line that is done with a window of two layers
abbrev pub gzz_line : GzzVerb → List Token → Option Line
gzz_line OpenVerb ts = gopen_line ts
gzz_line BoxVerb ts = gbox_line ts
gzz_line FrontVerb ts = gzz_alone FrontGzz ts
gzz_line BehindVerb ts = gzz_alone BehindGzz ts
gzz_line InFrontVerb ts = ginfront_line ts
gzz_line CloseVerb ts = gzz_alone CloseGzz ts

-- The statement of a line with this verb, if the words after it make one. Neither an area nor what is done with a window of two
-- layers is one.
abbrev pub statement_by : Verb → List Token → Option Statement
statement_by (Part verb) ts = part_line verb ts
statement_by (Bare verb) ts = layer_line verb ts
statement_by (Number verb) ts = number_line verb ts
statement_by (Pair verb) ts = pair_line verb ts
statement_by (Text verb) ts = text_line verb ts
statement_by (Rect op) ts = rect_line op ts
statement_by (Region op) ts = region_line op ts
statement_by ClearRegion ts = clear_line ts
statement_by Create ts = new_layer_line rectangle create_kind ts
statement_by Open ts = new_layer_line box open_kind ts
statement_by InFront ts = infront_line ts
statement_by BoxOf ts = four_line (λ x y w h. BoxAct (box x y w h)) ts
statement_by Which ts = which_line ts
statement_by Fill ts = four_line (λ x0 y0 x1 y1. FillAct (rectangle x0 y0 x1 y1)) ts
statement_by ScrollRaster ts = scrollraster_line ts
statement_by Put ts = put_line ts
statement_by Blit ts = blit_line ts
statement_by EndRefresh ts = endrefresh_line ts
statement_by AreaVerb ts = None
statement_by AreaPatternVerb ts = None
statement_by (Gzz verb) ts = None

-- What a line with this verb says, if the words after it make a line.
abbrev pub line_by : Verb → List Token → Option Line
line_by AreaVerb ts = area_line ts
line_by AreaPatternVerb ts = area_pattern_line ts
line_by (Gzz verb) ts = gzz_line verb ts
line_by verb ts = option_map (λ statement. StatementLine statement) (statement_by verb ts)

-- a hook's number has 32 bits
abbrev pub greatest_hook : ℕ
greatest_hook = 4294967295

-- a hook's number, if there is one
abbrev pub is_hook_number : Option ℤ → Bool
is_hook_number None = true
is_hook_number (Some n) = within (pos 0) n (pos greatest_hook)

-- the size of a bitmap of a layer's own, if it has one
abbrev pub is_own_size : Kind → ℤ → ℤ → Bool
is_own_size Simple w h = true
is_own_size Smart w h = true
is_own_size SuperBitmap w h = within (pos 1) w (pos 2048) && within (pos 1) h (pos 2048)

-- the numbers of a layer that is asked for, beside its bounds or its box
abbrev pub is_new_layer_in_range : NewLayer → Bool
is_new_layer_in_range a = is_hook_number a.hook && is_own_size a.kind a.bits_w a.bits_h

-- a box's numbers
abbrev pub box_fits : Box → Bool
box_fits at = coordinates_fit at.x at.y && (is_extent at.w && is_extent at.h)

-- a blit's numbers
abbrev pub is_blit_in_range : Area → Bool
is_blit_in_range a = (coordinates_fit a.sx a.sy && coordinates_fit a.x a.y) && (is_extent a.w && is_extent a.h)

-- the greatest number that a layer may have after it: a mode and a register are at most 7, a pen and a mask at most 255
abbrev pub greatest_number : NumberVerb → ℕ
greatest_number APenVerb = 255
greatest_number BPenVerb = 255
greatest_number ModeVerb = 7
greatest_number MaskVerb = 255
greatest_number SetRastVerb = 255
greatest_number ClipVerb = 7
greatest_number HookVerb = greatest_hook

-- every number of the act is in its range, and no maximum is below its minimum
abbrev pub is_act_in_range : Act → Bool
is_act_in_range (NumberAct verb z) = within (pos 0) z (pos (greatest_number verb))
is_act_in_range (PairAct verb x y) = coordinates_fit x y
is_act_in_range (RegRectAct op r rect) = within (pos 0) r (pos 7) && rect_fits rect
is_act_in_range (RegPairAct op s r) = within (pos 0) s (pos 7) && within (pos 0) r (pos 7)
is_act_in_range (RegClearAct r) = within (pos 0) r (pos 7)
is_act_in_range (CreateAct rect layer) = rect_fits rect && is_new_layer_in_range layer
is_act_in_range (OpenAct at layer framed nocare classes title) = box_fits at && is_new_layer_in_range layer
is_act_in_range (BoxAct at) = box_fits at
is_act_in_range (WhichAct x y) = coordinates_fit x y
is_act_in_range (FillAct rect) = rect_fits rect
is_act_in_range (ScrollRasterAct dx dy rect) = coordinates_fit dx dy && rect_fits rect
is_act_in_range (PutAct bm area) = is_blit_in_range area
is_act_in_range (BlitAct area) = is_blit_in_range area
is_act_in_range act = true

-- the version of a script whose screen line stands below lines that tell this version, or none by 0: without `layers 2` it is 1
abbrev pub version_at_screen : ℕ → ℕ
version_at_screen version = if version == 0 then 1 else version

-- a width and a height up to a limit, and a depth
abbrev pub are_sizes_in_range : ℕ → ℤ → ℤ → ℤ → Bool
are_sizes_in_range limit w h d = (within (pos 1) w (pos limit) && within (pos 1) h (pos limit)) && within (pos 1) d (pos 8)

-- how many columns, and how many rows, a bitmap has at most, in each version
abbrev pub bitmap_size_limit : ℕ
bitmap_size_limit = 1024

-- Every number of the line is in its range, and no maximum is below its minimum, where the lines above tell this version.
abbrev pub is_line_in_range : ℕ → Statement → Bool
is_line_in_range version (ScreenLine w h d) = are_sizes_in_range (limits_of (version_at_screen version)).screen w h d
is_line_in_range version (GlyphLine code rows) = nat_le 32 code && nat_le code 126
is_line_in_range version (BitmapLine name w h d) = are_sizes_in_range bitmap_size_limit w h d
is_line_in_range version (NumbersLine zs) = list_all (λ z. within (pos 0) z (pos 15)) zs
is_line_in_range version (CallLine layers act) = is_act_in_range act
is_line_in_range version statement = true

-- A box that a window of two layers may have on a screen of this width and height: its first and last column and row are
-- coordinates, it has room for a frame, and it is no wider and no higher than the screen.
abbrev pub is_gzz_box : ℕ → ℕ → Box → Bool
is_gzz_box width height at =
    coordinates_fit at.x at.y
    && ((within (pos 9) at.w (pos width) && within (pos 14) at.h (pos height))
    && coordinates_fit ((at.x +ℤ at.w) -ℤ pos 1) ((at.y +ℤ at.h) -ℤ pos 1))

-- the box of what is done with such a window, if it has one, is one that it may have
abbrev pub is_gzz_in_range : ℕ → ℕ → GzzAct → Bool
is_gzz_in_range width height (OpenGzz inner kind place at classes title) = is_gzz_box width height at
is_gzz_in_range width height (BoxGzz at) = is_gzz_box width height at
is_gzz_in_range width height act = true
