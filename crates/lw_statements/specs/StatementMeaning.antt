-- What a statement of the reader means.
use Rattle.std.specs.Prelude.{List, [], ◌∷◌, ℕ, map, option_map}
use Rattle.lw_region.specs.Rectangle.{Rectangle}
use Rattle.lw_area.specs.declared.point.Point.{Point}
use Rattle.lw_calls.specs.declared.area.Area.{Area}
use Rattle.lw_grammar.specs.Statements.{NewLayer as NewLayerMeaning, Act as ActMeaning, BareAct, NumberAct, PairAct, TextAct}
use Rattle.lw_grammar.specs.Statements.{RegRectAct, RegPairAct, RegClearAct, CreateAct, OpenAct, InFrontAct, BoxAct, WhichAct}
use Rattle.lw_grammar.specs.Statements.{FillAct, ScrollRasterAct, PutAct, BlitAct, EndRefreshAct, Statement as Meaning}
use Rattle.lw_grammar.specs.Statements.{LayersLine, ScreenLine, GlyphLine, BitmapLine, RowLine, PatternLine, TaskLine, EndLine}
use Rattle.lw_grammar.specs.Statements.{OrderLine, NumbersLine, ReportLine, CallLine, LockLine, UnlockLine, HoldLine}
use Rattle.lw_grammar.specs.Statements.{ReleaseLine, GzzAct as GzzMeaning, OpenGzz, BoxGzz, FrontGzz, BehindGzz, InFrontGzz}
use Rattle.lw_grammar.specs.Statements.{CloseGzz, Line as LineMeaning, StatementLine, AreaLine, GzzLine, box, rectangle}
use Rattle.lw_grammar.specs.Statements.{Box as BoxMeaning, point}
use Rattle.lw_statements.specs.declared.statement.Corners.{Corners}
use Rattle.lw_statements.specs.declared.statement.AskedBox.{AskedBox}
use Rattle.lw_statements.specs.declared.statement.NewLayer.{NewLayer}
use Rattle.lw_statements.specs.declared.statement.AskedArea.{AskedArea}
use Rattle.lw_statements.specs.declared.statement.Act.{Act}
use Rattle.lw_statements.specs.declared.statement.Act.TheVariants.{RegRect, RegPair, RegClear, Create, Open, InFront, Box}
use Rattle.lw_statements.specs.declared.statement.Act.TheVariants.{Which, Bare, Number, Pair, Text, Fill, ScrollRaster, Put}
use Rattle.lw_statements.specs.declared.statement.Act.TheVariants.{Blit, EndRefresh}
use Rattle.lw_statements.specs.declared.statement.Layers.{Layers}
use Rattle.lw_statements.specs.declared.statement.Layers.TheVariants.{Nothing, One, Two}
use Rattle.lw_statements.specs.declared.statement.Statement.{Statement}
use Rattle.lw_statements.specs.declared.statement.Statement.TheVariants.{Layers as LayersOf, Screen, Glyph, Bitmap, Row}
use Rattle.lw_statements.specs.declared.statement.Statement.TheVariants.{Pattern, Task, End, Order, Numbers, Report, Call, Lock}
use Rattle.lw_statements.specs.declared.statement.Statement.TheVariants.{Unlock, Hold, Release}
use Rattle.lw_statements.specs.declared.statement.AskedPoint.{AskedPoint}
use Rattle.lw_statements.specs.declared.statement.GzzAct.{GzzAct}
use Rattle.lw_statements.specs.declared.statement.GzzAct.TheVariants.{Open as OpenOf, Box as BoxOf, Front as FrontOf}
use Rattle.lw_statements.specs.declared.statement.GzzAct.TheVariants.{Behind as BehindOf, InFront as InFrontOf}
use Rattle.lw_statements.specs.declared.statement.GzzAct.TheVariants.{Close as CloseOf}
use Rattle.lw_statements.specs.declared.statement.Line.{Line}
use Rattle.lw_statements.specs.declared.statement.Line.TheVariants.{Statement as StatementOf, Area as AreaOf, Gzz as GzzOf}
use Rattle.lw_words.specs.Digits.{decoded}

abbrev pub corners_meaning : Corners → Rectangle
corners_meaning c = rectangle c.x0 c.y0 c.x1 c.y1

abbrev pub box_meaning : AskedBox → BoxMeaning
box_meaning b = box b.x b.y b.w b.h

abbrev pub new_layer_meaning : NewLayer → NewLayerMeaning
new_layer_meaning a =
    record {
      kind = a.kind;
      place = a.place;
      backdrop = a.backdrop;
      hook = a.hook;
      bits_w = a.bits_w;
      bits_h = a.bits_h;
    }

abbrev pub area_meaning : AskedArea → Area
area_meaning b = record { sx = b.sx; sy = b.sy; x = b.x; y = b.y; w = b.w; h = b.h; minterm = b.minterm }

-- names and texts by their bytes, and all else as it stands
abbrev pub act_meaning : Act → ActMeaning
act_meaning (RegRect op register c) = RegRectAct op register (corners_meaning c)
act_meaning (RegPair op source into) = RegPairAct op source into
act_meaning (RegClear register) = RegClearAct register
act_meaning (Create c asked) = CreateAct (corners_meaning c) (new_layer_meaning asked)
act_meaning (Open b asked framed nocare classes title) =
    OpenAct (box_meaning b) (new_layer_meaning asked) framed nocare classes title.now
act_meaning InFront = InFrontAct
act_meaning (Box b) = BoxAct (box_meaning b)
act_meaning (Which x y) = WhichAct x y
act_meaning (Bare verb) = BareAct verb
act_meaning (Number verb z) = NumberAct verb z
act_meaning (Pair verb x y) = PairAct verb x y
act_meaning (Text verb t) = TextAct verb t.now
act_meaning (Fill c) = FillAct (corners_meaning c)
act_meaning (ScrollRaster dx dy c) = ScrollRasterAct dx dy (corners_meaning c)
act_meaning (Put bitmap b) = PutAct bitmap.now (area_meaning b)
act_meaning (Blit b) = BlitAct (area_meaning b)
act_meaning (EndRefresh full) = EndRefreshAct full

-- the layers' names by their bytes
abbrev pub layers_meaning : Layers → List (List ℕ)
layers_meaning Nothing = []
layers_meaning (One l) = l.now ∷ []
layers_meaning (Two l m) = l.now ∷ m.now ∷ []

-- names by their bytes, digits by what they spell, and all else as it stands
abbrev pub statement_meaning : Statement → Meaning
statement_meaning LayersOf = LayersLine
statement_meaning (Screen w h d) = ScreenLine w h d
statement_meaning (Glyph code digits) = GlyphLine code (decoded digits.digits.now)
statement_meaning (Bitmap name w h d) = BitmapLine name.now w h d
statement_meaning (Row digits) = RowLine (decoded digits.digits.now)
statement_meaning (Pattern name pattern) = PatternLine name.now pattern
statement_meaning (Task name) = TaskLine name.now
statement_meaning End = EndLine
statement_meaning Order = OrderLine
statement_meaning (Numbers zs) = NumbersLine zs.items
statement_meaning Report = ReportLine
statement_meaning (Call layers act) = CallLine (layers_meaning layers) (act_meaning act)
statement_meaning (Lock name) = LockLine name.now
statement_meaning (Unlock name) = UnlockLine name.now
statement_meaning Hold = HoldLine
statement_meaning Release = ReleaseLine

-- points by their columns and rows
abbrev pub point_meaning : AskedPoint → Point
point_meaning p = point p.x p.y

-- what is done with a window of two layers, by names and texts
abbrev pub gzz_meaning : GzzAct → GzzMeaning
gzz_meaning (OpenOf inner kind place b classes title) = OpenGzz inner.now kind place (box_meaning b) classes title.now
gzz_meaning (BoxOf b) = BoxGzz (box_meaning b)
gzz_meaning FrontOf = FrontGzz
gzz_meaning BehindOf = BehindGzz
gzz_meaning (InFrontOf other) = InFrontGzz other.now
gzz_meaning CloseOf = CloseGzz

-- a statement as it is, an area by its names and points, and what is done with a window of two layers by names
abbrev pub line_meaning : Line → LineMeaning
line_meaning (StatementOf f) = StatementLine (statement_meaning f)
line_meaning (AreaOf a) = AreaLine a.layer.now (option_map (λ n. n.now) a.pattern) (map point_meaning a.points.items)
line_meaning (GzzOf outer act) = GzzLine outer.now (gzz_meaning act)
