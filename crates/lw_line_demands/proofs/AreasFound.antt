-- What the reader finds of an area, and of a line.
use Rattle.std.proofs.Common.{◌≡◌, ℕ, ◌+◌, ◌-◌, ◌<◌, ◌≤◌, Bool, true, false, not, cond, ◌||◌, List, [], ◌∷◌, length, map, bytes_eq, Option, Some, None, Result, Ok, Err, Vec, refl, sym, ap, subst, ◌∙◌, arith}
use Rattle.std.specs.List.{list_all, list_any, slice_index_or}
use Rattle.std.specs.declared.alloc.Global.{Global}
use Rattle.lw_region.specs.Rectangle.{Rectangle}
use Rattle.lw_area.specs.declared.point.Point.{Point}
use Rattle.lw_area.specs.declared.spans.Spans.{Spans}
use Rattle.lw_area.specs.declared.spans.Spans.TheVariants.{Rects, TooMany as MoreSpans}
use Rattle.lw_area.specs.Areas.{area_rectangles, AreSpans}
use Rattle.lw_area.specs.Polygons.{is_in_range, is_point_count, IsPolygon}
use Rattle.lw_calls.specs.Limits.{limits_of}
use Rattle.lw_grammar.specs.declared.reason.Reason.{Reason}
use Rattle.lw_grammar.specs.declared.reason.Reason.TheVariants.{Range, NoName, Group, TooMany}
use Rattle.lw_grammar.specs.Demands.{◌>>=◌, demand}
use Rattle.lw_grammar.specs.Statements.{StatementLine}
use Rattle.lw_grammar.specs.Told.{Told, place_among, area_words, area_lines}
use Rattle.lw_grammar.specs.Script.{Setting, lacks_pattern, allows_area, are_few, line_tested}
use Rattle.lw_words.specs.declared.stop.Stop.{Stop}
use Rattle.lw_words.specs.declared.stop.Stop.TheVariants.{Refused, Memory}
use Rattle.lw_statements.specs.declared.statement.AskedPoint.{AskedPoint}
use Rattle.lw_statements.specs.declared.statement.AskedPolygon.{AskedPolygon}
use Rattle.lw_statements.specs.declared.statement.Statement.{Statement}
use Rattle.lw_statements.specs.StatementMeaning.{point_meaning, statement_meaning}
use Rattle.lw_reader.specs.declared.read_line.ReadLine.TheVariants.{Statement as StatementRead, Area as AreaRead}
use Rattle.lw_line_demands.specs.AreasRead.{names_of, points_of, rectangles_of, area_meaning, with_fills, is_area_few, MakesFills, MakesArea, if_passed, ReadsBelow}
use Rattle.lw_line_demands.proofs.AreaCounts.{few_filled, many_fills}
use Rattle.std.proofs.lemmas.List.{length-map, get_or_default}
use Rattle.std.proofs.lemmas.List.Folds.{list_all-map}

-- points in range are those of a polygon
pub polygon_made : (points : List AskedPoint) (corners : List Point) → corners ≡ map point_meaning points → list_all (λ p. is_in_range (point_meaning p)) points ≡ true → is_point_count (length points) ≡ true → IsPolygon corners
polygon_made points corners e range count =
    let long : length (map point_meaning points) ≡ length points = length-map points point_meaning in
    let all : list_all is_in_range (map point_meaning points) ≡ true = list_all-map is_in_range point_meaning points ∙ range in
    subst IsPolygon (sym e) (record { count = ap is_point_count long ∙ count; range = all })

-- the place of a name that is among names
place_within : (name : List ℕ) (ns : List (List ℕ)) → list_any (bytes_eq name) ns ≡ true → place_among ns name < length ns
place_within name [] h = absurd (cc)
place_within name (n ∷ ns) h = go (bytes_eq name n) (list_any (bytes_eq name) ns) (place_within name ns) h
  where
    go : (t any : Bool) → (any ≡ true → place_among ns name < length ns) → (t || any) ≡ true → cond (not t) (1 + place_among ns name) 0 < length (n ∷ ns)
    go true any f e = omega arith
    go false any f e = let within = f e in omega (arith, within)

pub pattern_placed : (ns : List (List ℕ)) (name : List ℕ) → lacks_pattern ns (Some name) ≡ false → place_among ns name < length ns
pattern_placed ns name h = place_within name ns (go (list_any (bytes_eq name) ns) h)
  where
    go : (t : Bool) → not t ≡ false → t ≡ true
    go true e = refl
    go false e = absurd (cc)

-- what stands at a place of a list, whatever would stand past its end
pub same_at : (xs : List (List ℕ)) (i : ℕ) (d e : List ℕ) → i < length xs → slice_index_or xs i d ≡ slice_index_or xs i e
same_at xs i d e h = get_or_default xs i d e h

-- whether an area is few, by how many rectangles it has
room_is : (t : Told) (area : AskedPolygon) (rects : List Rectangle) (n : ℕ) → rects ≡ rectangles_of t area → n ≡ length rects → is_area_few t area ≡ are_few (limits_of t.version) (with_fills t area.layer.now n)
room_is t area rects n e l =
    few_filled area.layer.now (limits_of t.version) t.group (rectangles_of t area) t
    ∙ ap (λ m. are_few (limits_of t.version) (with_fills t area.layer.now m)) (sym (l ∙ ap length e))

pub room_found : (t : Told) (area : AskedPolygon) (rects : Vec Rectangle Global) (n : ℕ) → rects.items ≡ rectangles_of t area → n ≡ length rects.items → are_few (limits_of t.version) (with_fills t area.layer.now n) ≡ true → MakesFills t area (Ok rects)
room_found t area rects n e l h = (room_is t area rects.items n e l ∙ h, e)

pub room_lacking : (t : Told) (area : AskedPolygon) (rects : List Rectangle) (n : ℕ) → rects ≡ rectangles_of t area → n ≡ length rects → are_few (limits_of t.version) (with_fills t area.layer.now n) ≡ false → MakesFills t area (Err (Refused TooMany))
room_lacking t area rects n e l h = (refl, room_is t area rects n e l ∙ h)

pub fills_beyond : (t : Told) (area : AskedPolygon) → (limits_of t.version).calls - t.calls_in_task < length (rectangles_of t area) → MakesFills t area (Err (Refused TooMany))
fills_beyond t area h =
    (refl, room_is t area (rectangles_of t area) _ refl refl ∙ many_fills (limits_of t.version) t area.layer.now (length (rectangles_of t area)) h)

-- what the rectangles are that were made, and where there are too many
pub spans_found : (t : Told) (area : AskedPolygon) (points : List Point) (limit : ℕ) (spans : Spans) (rects : Vec Rectangle Global) → spans ≡ Rects rects → AreSpans points (area_words t (names_of area.pattern)) limit spans → points ≡ points_of area → rects.items ≡ rectangles_of t area
spans_found t area points limit spans rects is a e =
    let words = area_words t (names_of area.pattern) in
    let h : AreSpans points words limit (Rects rects) = subst (AreSpans points words limit) is a in
    h.0 ∙ ap (λ ps. area_rectangles ps words) e

pub spans_beyond : (t : Told) (area : AskedPolygon) (points : List Point) (limit : ℕ) (spans : Spans) → spans ≡ MoreSpans → AreSpans points (area_words t (names_of area.pattern)) limit spans → points ≡ points_of area → limit ≡ (limits_of t.version).calls - t.calls_in_task → MakesFills t area (Err (Refused TooMany))
spans_beyond t area points limit spans is a e l =
    let words = area_words t (names_of area.pattern) in
    let h : AreSpans points words limit MoreSpans = subst (AreSpans points words limit) is a in
    let P : ℕ → Type 0 = λ n. n < length (rectangles_of t area) in
    let Q : List Point → Type 0 = λ ps. limit < length (area_rectangles ps words) in
    fills_beyond t area (subst P l (subst Q e h))

-- the tests of an area one after another
abbrev tests_of : Bool → Bool → Bool → Bool → Result (Unit {0}) Reason
tests_of range lacks allowed few =
    demand range Range >>= (λ _. demand (not lacks) NoName >>= (λ _. demand allowed Group >>= (λ _. demand few TooMany)))

last_test : (range lacks allowed few : Bool) → range ≡ true → lacks ≡ false → allowed ≡ true → tests_of range lacks allowed few ≡ demand few TooMany
last_test range lacks allowed few a b c = rw (a, b, c) refl

pub area_found : (t : Told) (area : AskedPolygon) (r : Result (Vec Rectangle Global) Stop) → list_all is_in_range (points_of area) ≡ true → lacks_pattern t.pattern_names (names_of area.pattern) ≡ false → allows_area t.group area.layer.now ≡ true → MakesFills t area r → MakesArea t area r
area_found t area (Ok rects) a b c h = (last_test _ _ _ (is_area_few t area) a b c ∙ ap (λ f. demand f TooMany) h.0, h.1)
area_found t area (Err (Refused reason)) a b c h =
    last_test _ _ _ (is_area_few t area) a b c ∙ ap (λ f. demand f TooMany) h.1 ∙ ap (λ x. Err x) (sym h.0)
area_found t area (Err Memory) a b c h = tt

-- what a line says that passes its tests
pub statement_found : (s : Setting) (t : Told) (f : Statement) (o : Result (Unit {0}) Reason) → o ≡ line_tested s t (StatementLine (statement_meaning f)) → o ≡ Ok tt → ReadsBelow t (Ok (StatementRead f)) (if_passed s t (StatementLine (statement_meaning f)))
statement_found s t f o e h =
    let l = StatementLine (statement_meaning f) in
    (l, ap (λ (q : Result (Unit {0}) Reason). q >>= (λ _. Ok l)) (sym e ∙ h), refl)

pub area_read : (s : Setting) (t : Told) (area : AskedPolygon) (rects : Vec Rectangle Global) → MakesArea t area (Ok rects) → ReadsBelow t (Ok (AreaRead area.layer rects)) (if_passed s t (area_meaning area))
area_read s t area rects h =
    (area_meaning area, ap (λ (q : Result (Unit {0}) Reason). q >>= (λ _. Ok (area_meaning area))) h.0, ap (area_lines t.group area.layer.now) (sym h.1))
