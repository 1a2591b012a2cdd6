-- An area that was read, with its rectangles, and what a line says that passes its tests.
use Rattle.std.specs.Prelude.{◌≡◌, ℕ, ◌+◌, ◌==◌, true, false, if◌then◌else◌, List, map, Option, option_map}
use Rattle.std.specs.Prelude.{Result, Ok, Err, Vec, Bool}
use Rattle.std.specs.declared.alloc.Global.{Global}
use Rattle.lw_area.specs.declared.point.Point.{Point}
use Rattle.lw_area.specs.Areas.{area_rectangles}
use Rattle.lw_region.specs.Rectangle.{Rectangle}
use Rattle.lw_calls.specs.Limits.{limits_of}
use Rattle.lw_grammar.specs.declared.reason.Reason.{Reason}
use Rattle.lw_grammar.specs.declared.reason.Reason.TheVariants.{TooMany}
use Rattle.lw_grammar.specs.Demands.{◌>>=◌}
use Rattle.lw_grammar.specs.Statements.{Line, AreaLine}
use Rattle.lw_grammar.specs.Told.{Told, and_name, area_words, stands_for, told_all}
use Rattle.lw_grammar.specs.Script.{Setting, are_few, area_tested, line_tested}
use Rattle.lw_words.specs.declared.stop.Stop.{Stop}
use Rattle.lw_words.specs.declared.stop.Stop.TheVariants.{Refused, Memory}
use Rattle.lw_words.specs.Stops.{Tells}
use Rattle.lw_statements.specs.declared.statement.AskedPolygon.{AskedPolygon}
use Rattle.lw_statements.specs.StatementMeaning.{point_meaning}
use Rattle.lw_reader.specs.declared.read_line.ReadLine.{ReadLine}
use Rattle.lw_reader.specs.LinesRead.{lines_of}
use denote.Ref.{Bor}

-- the name of a pattern by its bytes
abbrev pub names_of : Option (Bor (List ℕ)) → Option (List ℕ)
names_of = option_map (λ n. n.now)

-- an area's points, and its rectangles below lines that tell this
abbrev pub points_of : AskedPolygon → List Point
points_of area = map point_meaning area.points.items

abbrev pub rectangles_of : Told → AskedPolygon → List Rectangle
rectangles_of t area = area_rectangles (points_of area) (area_words t (names_of area.pattern))

-- what lines tell with so many fills of a layer, as far as it is counted
abbrev pub with_fills : Told → List ℕ → ℕ → Told
with_fills t layer fills =
    record t { names = if fills == 0 then t.names else and_name t.names layer; calls_in_task = t.calls_in_task + fills }

-- the line of an area
abbrev pub area_meaning : AskedPolygon → Line
area_meaning area = AreaLine area.layer.now (names_of area.pattern) (points_of area)

-- with what the area stands for nothing is one too many
abbrev pub is_area_few : Told → AskedPolygon → Bool
is_area_few t area = are_few (limits_of t.version) (told_all (stands_for t (area_meaning area)) t)

-- The rectangles where that is so, and else the reason.
abbrev pub MakesFills : Told → AskedPolygon → Result (Vec Rectangle Global) Stop → Type 0
MakesFills t area (Ok rects) = (is_area_few t area ≡ true) × (rects.items ≡ rectangles_of t area)
MakesFills t area (Err (Refused reason)) = (reason ≡ TooMany) × (is_area_few t area ≡ false)
MakesFills t area (Err Memory) = Unit {0}

-- The rectangles where the area passes its tests, and else the first reason.
abbrev pub MakesArea : Told → AskedPolygon → Result (Vec Rectangle Global) Stop → Type 0
MakesArea t area (Ok rects) =
    (area_tested t area.layer.now (names_of area.pattern) (points_of area) ≡ Ok tt) × (rects.items ≡ rectangles_of t area)
MakesArea t area (Err stop) = Tells stop (area_tested t area.layer.now (names_of area.pattern) (points_of area))

-- what a line says, if it passes its tests, or its first reason
abbrev pub if_passed : Setting → Told → Line → Result Line Reason
if_passed s t line = line_tested s t line >>= (λ _. Ok line)

-- What reading a line answers: a line that stands for the same.
abbrev pub ReadsBelow : Told → Result ReadLine Stop → Result Line Reason → Type 0
ReadsBelow t (Ok read) r = (line : Line) × (r ≡ Ok line) × (stands_for t line ≡ lines_of t read)
ReadsBelow t (Err stop) r = Tells stop r
