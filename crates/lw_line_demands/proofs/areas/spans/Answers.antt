use Rattle.std.proofs.Common.{◌≡◌, ℕ, ◌<◌, false, List, [], length, Option, Bor, IfOk, sym, ap, subst, ◌∙◌, arith}
use Rattle.std.specs.List.{slice_index_or}
use Rattle.lw_area.specs.Areas.{AreSpans}
use Rattle.lw_grammar.specs.Told.{place_among, area_words}
use Rattle.lw_grammar.specs.Script.{lacks_pattern}
use Rattle.lw_words.specs.Cuts.{targets}
use Rattle.lw_words.proofs.Targets.{length_targets}
use Rattle.lw_line_demands.specs.AreasRead.{names_of}
use Rattle.lw_reader.specs.ReaderKnows.{known}
use Rattle.lw_line_demands.proofs.AreasFound.{pattern_placed, same_at}
use Rattle.lw_line_demands.proofs.areas.spans.Goals as goal

pub index-requires : goal.index-requires
index-requires c =
    let a = c.args.reader.now.assets in
    let names : List (List ℕ) = targets a.pattern_names.keys in
    let P : Option (Bor (List ℕ)) → Type 0 = λ o. lacks_pattern names (names_of o) ≡ false in
    let within = pattern_placed names c.in-Some.name.now (subst P c.in-Some.is c.requires.named) in
    let named = length_targets a.pattern_names.keys in
    let many : a.patterns.len ≡ length a.patterns.items = a.patterns.ok.0 in
    let fits : c.place_of_name-place.result < a.patterns.len = omega (arith, within, named, many, c.place_of_name-place.ensures.place, c.requires.lists) in
    fits

pub returns-in-Some : goal.returns-in-Some
returns-in-Some c =
    let a = c.args.reader.now.assets in
    let names : List (List ℕ) = targets a.pattern_names.keys in
    let name = c.in-Some.name.now in
    let P : Option (Bor (List ℕ)) → Type 0 = λ o. lacks_pattern names (names_of o) ≡ false in
    let within = pattern_placed names name (subst P c.in-Some.is c.requires.named) in
    let named = length_targets a.pattern_names.keys in
    let lists = c.requires.lists in
    let fits : place_among names name < length a.patterns.items = omega (arith, within, named, lists) in
    let words =
    c.index.ensures
    ∙ ap (λ i. slice_index_or a.patterns.items i c.index.result.now) c.place_of_name-place.ensures.place
    ∙ same_at a.patterns.items (place_among names name) c.index.result.now [] fits
    ∙ ap (λ o. area_words (known c.args.reader.now) (names_of o)) (sym c.in-Some.is) in
    let Q : List ℕ → Type 0 = λ ws. IfOk c.spans_of-in-Some.result (AreSpans c.args.polygon.now ws c.args.limit) in
    subst Q words c.spans_of-in-Some.ensures
