-- The first words of a script's lines.
use Rattle.std.specs.Prelude.{ℕ, if◌then◌else◌, List, [], ◌∷◌, codes, bytes_eq, Option, Some, None}
use Rattle.lw_calls.specs.declared.operation.RectOp.{RectOp}
use Rattle.lw_calls.specs.declared.operation.RectOp.TheVariants.{Or as OrR, And as AndR, Xor as XorR, Clear as ClearR}
use Rattle.lw_calls.specs.declared.operation.PairOp.{PairOp}
use Rattle.lw_calls.specs.declared.operation.PairOp.TheVariants.{Or as OrP, And as AndP, Xor as XorP}
use Rattle.lw_grammar.specs.declared.verb.PartVerb.{PartVerb}
use Rattle.lw_grammar.specs.declared.verb.PartVerb.TheVariants.{Layers, Screen, Glyph, Bitmap, Pattern, Task, End, Order}
use Rattle.lw_grammar.specs.declared.verb.PartVerb.TheVariants.{Report, Lock, Unlock, Hold, Release}
use Rattle.lw_grammar.specs.declared.verb.BareVerb.{BareVerb}
use Rattle.lw_grammar.specs.declared.verb.BareVerb.TheVariants.{Close, Front, Behind, Activate, Unclip, Refresh, GetMsg}
use Rattle.lw_grammar.specs.declared.verb.NumberVerb.{NumberVerb}
use Rattle.lw_grammar.specs.declared.verb.NumberVerb.TheVariants.{APen, BPen, Mode, Mask, SetRast, Clip, Hook}
use Rattle.lw_grammar.specs.declared.verb.PairVerb.{PairVerb}
use Rattle.lw_grammar.specs.declared.verb.PairVerb.TheVariants.{Move, Size, At, Write, Read, Draw, Scroll}
use Rattle.lw_grammar.specs.declared.verb.TextVerb.{TextVerb}
use Rattle.lw_grammar.specs.declared.verb.TextVerb.TheVariants.{Text as TextOf, Title}
use Rattle.lw_grammar.specs.declared.verb.GzzVerb.{GzzVerb}
use Rattle.lw_grammar.specs.declared.verb.GzzVerb.TheVariants.{Open as OpenGzz, Box as BoxGzz, Front as FrontGzz}
use Rattle.lw_grammar.specs.declared.verb.GzzVerb.TheVariants.{Behind as BehindGzz, InFront as InFrontGzz, Close as CloseGzz}
use Rattle.lw_grammar.specs.declared.verb.Verb.{Verb}
use Rattle.lw_grammar.specs.declared.verb.Verb.TheVariants.{Part, Bare, Number, Pair, Text, Rect, Region, ClearRegion, Create}
use Rattle.lw_grammar.specs.declared.verb.Verb.TheVariants.{Open, InFront, Box, Which, Fill, ScrollRaster, Put, Blit}
use Rattle.lw_grammar.specs.declared.verb.Verb.TheVariants.{EndRefresh, Area, AreaPattern, Gzz}

-- the words of verbs, by their kinds
abbrev pub part_word : PartVerb → List ℕ
part_word Layers = codes "layers"
part_word Screen = codes "screen"
part_word Glyph = codes "glyph"
part_word Bitmap = codes "bitmap"
part_word Pattern = codes "pattern"
part_word Task = codes "task"
part_word End = codes "end"
part_word Order = codes "order"
part_word Report = codes "report"
part_word Lock = codes "lock"
part_word Unlock = codes "unlock"
part_word Hold = codes "hold"
part_word Release = codes "release"

abbrev pub bare_word : BareVerb → List ℕ
bare_word Close = codes "close"
bare_word Front = codes "front"
bare_word Behind = codes "behind"
bare_word Activate = codes "activate"
bare_word Unclip = codes "unclip"
bare_word Refresh = codes "refresh"
bare_word GetMsg = codes "getmsg"

abbrev pub number_word : NumberVerb → List ℕ
number_word APen = codes "apen"
number_word BPen = codes "bpen"
number_word Mode = codes "mode"
number_word Mask = codes "mask"
number_word SetRast = codes "setrast"
number_word Clip = codes "clip"
number_word Hook = codes "hook"

abbrev pub pair_word : PairVerb → List ℕ
pair_word Move = codes "move"
pair_word Size = codes "size"
pair_word At = codes "at"
pair_word Write = codes "write"
pair_word Read = codes "read"
pair_word Draw = codes "draw"
pair_word Scroll = codes "scroll"

abbrev pub text_verb_word : TextVerb → List ℕ
text_verb_word TextOf = codes "text"
text_verb_word Title = codes "title"

abbrev pub rect_word : RectOp → List ℕ
rect_word OrR = codes "orrect"
rect_word AndR = codes "andrect"
rect_word XorR = codes "xorrect"
rect_word ClearR = codes "clearrect"

abbrev pub region_word : PairOp → List ℕ
region_word OrP = codes "orregion"
region_word AndP = codes "andregion"
region_word XorP = codes "xorregion"

abbrev pub gzz_word : GzzVerb → List ℕ
gzz_word OpenGzz = codes "gopen"
gzz_word BoxGzz = codes "gbox"
gzz_word FrontGzz = codes "gfront"
gzz_word BehindGzz = codes "gbehind"
gzz_word InFrontGzz = codes "ginfront"
gzz_word CloseGzz = codes "gclose"

-- the word of a verb
abbrev pub verb_word : Verb → List ℕ
verb_word (Part verb) = part_word verb
verb_word (Bare verb) = bare_word verb
verb_word (Number verb) = number_word verb
verb_word (Pair verb) = pair_word verb
verb_word (Text verb) = text_verb_word verb
verb_word (Rect op) = rect_word op
verb_word (Region op) = region_word op
verb_word ClearRegion = codes "clearregion"
verb_word Create = codes "create"
verb_word Open = codes "open"
verb_word InFront = codes "infront"
verb_word Box = codes "box"
verb_word Which = codes "which"
verb_word Fill = codes "fill"
verb_word ScrollRaster = codes "scrollraster"
verb_word Put = codes "put"
verb_word Blit = codes "blit"
verb_word EndRefresh = codes "endrefresh"
verb_word Area = codes "area"
verb_word AreaPattern = codes "areapat"
verb_word (Gzz verb) = gzz_word verb

-- all verbs
abbrev pub verbs : List Verb
verbs =
    Part Layers ∷ Part Screen ∷ Part Glyph ∷ Part Bitmap ∷ Part Pattern ∷ Part Task ∷ Part End ∷ Part Order ∷ Part Report ∷
    Part Lock ∷ Part Unlock ∷ Part Hold ∷ Part Release ∷
    Bare Close ∷ Bare Front ∷ Bare Behind ∷ Bare Activate ∷ Bare Unclip ∷ Bare Refresh ∷ Bare GetMsg ∷
    Number APen ∷ Number BPen ∷ Number Mode ∷ Number Mask ∷ Number SetRast ∷ Number Clip ∷ Number Hook ∷
    Pair Move ∷ Pair Size ∷ Pair At ∷ Pair Write ∷ Pair Read ∷ Pair Draw ∷ Pair Scroll ∷
    Text TextOf ∷ Text Title ∷
    Rect OrR ∷ Rect AndR ∷ Rect XorR ∷ Rect ClearR ∷ Region OrP ∷ Region AndP ∷ Region XorP ∷ ClearRegion ∷
    Create ∷ Open ∷ InFront ∷ Box ∷ Which ∷ Fill ∷ ScrollRaster ∷ Put ∷ Blit ∷ EndRefresh ∷ Area ∷ AreaPattern ∷
    Gzz OpenGzz ∷ Gzz BoxGzz ∷ Gzz FrontGzz ∷ Gzz BehindGzz ∷ Gzz InFrontGzz ∷ Gzz CloseGzz ∷ []

-- the first of these verbs that has the word, if one has
abbrev pub verb_in : List Verb → List ℕ → Option Verb
verb_in [] word = None
verb_in (v ∷ vs) word = if bytes_eq word (verb_word v) then Some v else verb_in vs word

-- The verb that a word is, if it is one.
unfoldable pub verb_of : List ℕ → Option Verb
verb_of word = verb_in verbs word
