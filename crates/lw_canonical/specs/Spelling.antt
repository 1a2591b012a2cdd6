-- The one spelling of each line of a script's lines: its words with single spaces between them.
use Rattle.std.specs.Prelude.{ℕ, ◌/◌, ◌%◌, ◌==◌, Bool, true, false, not, if◌then◌else◌, List, [], ◌∷◌, ◌++◌, map, ℤ, Option}
use Rattle.std.specs.Prelude.{Some, None, codes, slice_index_or}
use Rattle.std.specs.List.{flat_map}
use Rattle.std.specs.Fmt.{signed_decimal}
use Rattle.lw_region.specs.Rectangle.{Rectangle}
use Rattle.lw_area.specs.declared.point.Point.{Point}
use Rattle.lw_calls.specs.declared.make.Kind.{Kind}
use Rattle.lw_calls.specs.declared.make.Kind.TheVariants.{Simple, Smart, SuperBitmap}
use Rattle.lw_calls.specs.declared.make.Place.{Place}
use Rattle.lw_calls.specs.declared.make.Place.TheVariants.{Front, Behind}
use Rattle.lw_grammar.specs.Tokens.{space, quote}
use Rattle.lw_grammar.specs.Verbs.{bare_word, number_word, pair_word, text_verb_word, rect_word, region_word}
use Rattle.lw_grammar.specs.Statements.{Box, NewLayer, Act, BareAct, NumberAct, PairAct, TextAct, RegRectAct, RegPairAct}
use Rattle.lw_grammar.specs.Statements.{RegClearAct, CreateAct, OpenAct, InFrontAct, BoxAct, WhichAct, FillAct, ScrollRasterAct}
use Rattle.lw_grammar.specs.Statements.{PutAct, BlitAct, EndRefreshAct, Statement, LayersLine, ScreenLine, GlyphLine}
use Rattle.lw_grammar.specs.Statements.{BitmapLine, RowLine, PatternLine, TaskLine, EndLine, OrderLine, NumbersLine, ReportLine}
use Rattle.lw_grammar.specs.Statements.{CallLine, LockLine, UnlockLine, HoldLine, ReleaseLine, NameWithoutSlot, PairMade, GzzAct}
use Rattle.lw_grammar.specs.Statements.{OpenGzz, BoxGzz, FrontGzz, BehindGzz, InFrontGzz, CloseGzz, Line, StatementLine}
use Rattle.lw_grammar.specs.Statements.{AreaLine, GzzLine}
use Rattle.lw_calls.specs.Written.{hex_byte}

-- words with single spaces between them
abbrev pub joined : List (List ℕ) → List ℕ
joined [] = []
joined (w ∷ []) = w
joined (w ∷ v ∷ ws) = w ++ space ∷ joined (v ∷ ws)

-- a text between its quotes
abbrev pub text_word : List ℕ → List ℕ
text_word text = quote ∷ text ++ quote ∷ []

-- bytes in two lower-case hexadecimal digits each
abbrev pub hex_word : List ℕ → List ℕ
hex_word bytes = flat_map hex_byte bytes

-- four numbers
abbrev pub four_words : ℤ → ℤ → ℤ → ℤ → List (List ℕ)
four_words a b c d = signed_decimal a ∷ signed_decimal b ∷ signed_decimal c ∷ signed_decimal d ∷ []

-- those of a rectangle, which are its bounds, and those of a box
abbrev pub bounds_words : Rectangle → List (List ℕ)
bounds_words r = four_words r.min_x r.min_y r.max_x r.max_y

abbrev pub box_words : Box → List (List ℕ)
box_words at = four_words at.x at.y at.w at.h

-- the words of a layer's kind and of its place
abbrev pub kind_word : Kind → List ℕ
kind_word Simple = codes "simple"
kind_word Smart = codes "smart"
kind_word SuperBitmap = codes "super"

abbrev pub place_word : Place → List ℕ
place_word Front = codes "front"
place_word Behind = codes "behind"

-- a word that is there, or isn't
abbrev pub flag_words : List ℕ → Bool → List (List ℕ)
flag_words word true = word ∷ []
flag_words word false = []

-- hook N, where there is a hook
abbrev pub hook_words : Option ℤ → List (List ℕ)
hook_words None = []
hook_words (Some n) = codes "hook" ∷ signed_decimal n ∷ []

-- the letter of a class of messages, where the set has it: the lowest bit of what is left of the set
abbrev pub class_letter : ℕ → ℕ → List ℕ
class_letter letter classes = if classes % 2 == 1 then letter ∷ [] else []

-- the letters of a set of classes of messages: r, n, c, a, i for the bits 0 to 4
abbrev pub set_word : ℕ → List ℕ
set_word classes =
    class_letter 114 classes ++ class_letter 110 (classes / 2) ++ class_letter 99 (classes / 4)
    ++ class_letter 97 (classes / 8) ++ class_letter 105 (classes / 16)

-- ask SET, where the set has a class
abbrev pub ask_words : ℕ → List (List ℕ)
ask_words classes = if classes == 0 then [] else codes "ask" ∷ set_word classes ∷ []

-- what a layer is asked for with after its four numbers: BW BH [backdrop], or [backdrop] [hook N]
abbrev pub created_words : Kind → NewLayer → List (List ℕ)
created_words Simple a = flag_words (codes "backdrop") a.backdrop ++ hook_words a.hook
created_words Smart a = flag_words (codes "backdrop") a.backdrop ++ hook_words a.hook
created_words SuperBitmap a = signed_decimal a.bits_w ∷ signed_decimal a.bits_h ∷ flag_words (codes "backdrop") a.backdrop

-- what a window without a bitmap of its own is asked for with there: [backdrop] [borderless] [nocare] [hook N] [ask SET]
abbrev pub opened_words_without_bitmap : NewLayer → Bool → Bool → ℕ → List (List ℕ)
opened_words_without_bitmap a framed nocare classes =
    flag_words (codes "backdrop") a.backdrop ++ flag_words (codes "borderless") (not framed) ++ flag_words (codes "nocare") nocare
    ++ hook_words a.hook ++ ask_words classes

-- what a window is asked for with there: the same, or BW BH [backdrop] [ask SET]
abbrev pub opened_words : Kind → NewLayer → Bool → Bool → ℕ → List (List ℕ)
opened_words Simple a framed nocare classes = opened_words_without_bitmap a framed nocare classes
opened_words Smart a framed nocare classes = opened_words_without_bitmap a framed nocare classes
opened_words SuperBitmap a framed nocare classes =
    signed_decimal a.bits_w ∷ signed_decimal a.bits_h ∷ flag_words (codes "backdrop") a.backdrop ++ ask_words classes

-- the words of a call's line, where it names these layers from left to right
abbrev pub call_words : List (List ℕ) → Act → List (List ℕ)
call_words layers (BareAct verb) = bare_word verb ∷ layers
call_words layers (NumberAct verb z) = number_word verb ∷ layers ++ signed_decimal z ∷ []
call_words layers (PairAct verb x y) = pair_word verb ∷ layers ++ signed_decimal x ∷ signed_decimal y ∷ []
call_words layers (TextAct verb text) = text_verb_word verb ∷ layers ++ text_word text ∷ []
call_words layers (RegRectAct op r rect) = rect_word op ∷ signed_decimal r ∷ bounds_words rect
call_words layers (RegPairAct op s r) = region_word op ∷ signed_decimal s ∷ signed_decimal r ∷ []
call_words layers (RegClearAct r) = codes "clearregion" ∷ signed_decimal r ∷ []
call_words layers (CreateAct rect a) =
    codes "create" ∷ layers ++ kind_word a.kind ∷ place_word a.place ∷ bounds_words rect ++ created_words a.kind a
call_words layers (OpenAct at a framed nocare classes title) =
    codes "open" ∷ layers ++ kind_word a.kind ∷ place_word a.place ∷ box_words at
    ++ opened_words a.kind a framed nocare classes ++ text_word title ∷ []
call_words layers InFrontAct = codes "infront" ∷ layers
call_words layers (BoxAct at) = codes "box" ∷ layers ++ box_words at
call_words layers (WhichAct x y) = codes "which" ∷ signed_decimal x ∷ signed_decimal y ∷ []
call_words layers (FillAct rect) = codes "fill" ∷ layers ++ bounds_words rect
call_words layers (ScrollRasterAct dx dy rect) =
    codes "scrollraster" ∷ layers ++ signed_decimal dx ∷ signed_decimal dy ∷ bounds_words rect
call_words layers (PutAct bm b) =
    codes "put" ∷ bm ∷ signed_decimal b.sx ∷ signed_decimal b.sy ∷ layers
    ++ signed_decimal b.x ∷ signed_decimal b.y ∷ signed_decimal b.w ∷ signed_decimal b.h ∷ hex_byte b.minterm ∷ []
call_words layers (BlitAct b) =
    codes "blit" ∷ slice_index_or layers 0 [] ∷ signed_decimal b.sx ∷ signed_decimal b.sy ∷ slice_index_or layers 1 [] ∷
    signed_decimal b.x ∷ signed_decimal b.y ∷ signed_decimal b.w ∷ signed_decimal b.h ∷ hex_byte b.minterm ∷ []
call_words layers (EndRefreshAct full) = codes "endrefresh" ∷ layers ++ (if full then codes "full" else codes "part") ∷ []

-- a word of a pattern in four digits
abbrev pub pattern_digits : ℕ → List ℕ
pattern_digits word = hex_word (word / 256 ∷ word % 256 ∷ [])

-- the words of a statement's line; there is none for two of them
abbrev pub words_of : Statement → List (List ℕ)
words_of LayersLine = codes "layers" ∷ codes "2" ∷ []
words_of (ScreenLine w h d) = codes "screen" ∷ signed_decimal w ∷ signed_decimal h ∷ signed_decimal d ∷ []
words_of (GlyphLine code rows) = codes "glyph" ∷ hex_byte code ∷ hex_word rows ∷ []
words_of (BitmapLine name w h d) = codes "bitmap" ∷ name ∷ signed_decimal w ∷ signed_decimal h ∷ signed_decimal d ∷ []
words_of (RowLine bytes) = hex_word bytes ∷ []
words_of (PatternLine name words) = codes "pattern" ∷ name ∷ map pattern_digits words
words_of (TaskLine name) = codes "task" ∷ name ∷ []
words_of EndLine = codes "end" ∷ []
words_of OrderLine = codes "order" ∷ []
words_of (NumbersLine zs) = map signed_decimal zs
words_of ReportLine = codes "report" ∷ []
words_of (CallLine layers act) = call_words layers act
words_of (LockLine name) = codes "lock" ∷ name ∷ []
words_of (UnlockLine name) = codes "unlock" ∷ name ∷ []
words_of HoldLine = codes "hold" ∷ []
words_of ReleaseLine = codes "release" ∷ []
words_of (NameWithoutSlot name) = []
words_of (PairMade outer inner) = []

-- the bytes of its line without the line feed
abbrev pub spelled : Statement → List ℕ
spelled statement = joined (words_of statement)

-- the words of an area
abbrev pub area_words : List ℕ → Option (List ℕ) → List Point → List (List ℕ)
area_words layer None points =
    codes "area" ∷ layer ∷ flat_map (λ (p : Point). signed_decimal p.x ∷ signed_decimal p.y ∷ []) points
area_words layer (Some pattern) points =
    codes "areapat" ∷ layer ∷ pattern ∷ flat_map (λ (p : Point). signed_decimal p.x ∷ signed_decimal p.y ∷ []) points

-- the words of what is done with a window of two layers
abbrev pub gzz_words : List ℕ → GzzAct → List (List ℕ)
gzz_words g (OpenGzz inner kind place at classes title) =
    codes "gopen" ∷ g ∷ inner ∷ kind_word kind ∷ place_word place ∷ box_words at ++ ask_words classes ++ text_word title ∷ []
gzz_words g (BoxGzz at) = codes "gbox" ∷ g ∷ box_words at
gzz_words g FrontGzz = codes "gfront" ∷ g ∷ []
gzz_words g BehindGzz = codes "gbehind" ∷ g ∷ []
gzz_words g (InFrontGzz other) = codes "ginfront" ∷ g ∷ other ∷ []
gzz_words g CloseGzz = codes "gclose" ∷ g ∷ []

-- the words of a line
abbrev pub line_words : Line → List (List ℕ)
line_words (StatementLine f) = words_of f
line_words (AreaLine layer pattern points) = area_words layer pattern points
line_words (GzzLine g act) = gzz_words g act

-- the bytes of a line without its line feed
abbrev pub written : Line → List ℕ
written line = joined (line_words line)
