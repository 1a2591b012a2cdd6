use Rattle.std.proofs.Common.{◌≡◌, ◌∙◌, ℤ, pos, ◌+ℤ◌, ◌-ℤ◌, to_z, of_z, w32, arith, rules}
use Rattle.std.proofs.lemmas.Int.{ints}
use Rattle.lw_blit.proofs.PlaceLaws.{places_reached, greater_is, lesser_is}
use Rattle.lw_blit.proofs.places.reached.Goals as goal

-- a number as the code has it
abbrev word : ℤ → ℤ
word z = to_z w32 (of_z w32 z)

pub returns-clause-has : goal.returns-clause-has
returns-clause-has c u inside =
    let first : word c.max.result ≡ c.max.result = search rules in
    let past : word c.min.result ≡ c.min.result = search rules in
    let place = c.args.place in
    let shift = place -ℤ c.args.source in
    let moved = word (word place -ℤ word c.args.source) in
    let to : word place ≡ place = search rules in
    let by : moved ≡ shift = omega (arith, ints) in
    let all : word (word place +ℤ word c.args.count) ≡ place +ℤ c.args.count = omega (arith, ints) in
    let behind : word (moved +ℤ to_z w32 c.args.source_extent) ≡ shift +ℤ pos c.args.source_extent = omega (arith, ints) in
    places_reached place c.args.count c.args.source _ _ c.args.source_extent c.edge-first.result c.edge-end.result _ u
    (first ∙ greater_is (word place) moved place shift c.max.result c.max.ensures.value to by)
    (past ∙ lesser_is (word (word place +ℤ word c.args.count)) (word (moved +ℤ to_z w32 c.args.source_extent)) (place +ℤ c.args.count) (shift +ℤ pos c.args.source_extent) c.min.result c.min.ensures.value all behind)
    (omega (arith, c.max-2.ensures)) (c.edge-first.ensures.from u inside) (c.edge-end.ensures.from u inside)
