use Rattle.std.proofs.Common.{◌≡◌, false, ℤ, pos, ◌+ℤ◌, ◌-ℤ◌, refl, ap, sym, ◌∙◌, subst, to_z, of_z, w32, arith, rules}
use Rattle.std.proofs.lemmas.Int.{ints}
use Rattle.lw_region.proofs.Numbers.{natural_falls}
use Rattle.lw_area.specs.Patterns.{word_has}
use Rattle.lw_area.specs.Rows.{GoOn}
use Rattle.lw_area.proofs.Parts.{OnesUntil, ones_start, ones_skip, ones_push, ones_end}
use Rattle.lw_area.proofs.runs.push_ones.Goals as goal

pub loop-column-preserved-then-not-has : goal.loop-column-preserved-then-not-has
loop-column-preserved-then-not-has c =
    let t = c.loop-column-test.true in
    let high = c.requires.high in
    let column = to_z w32 c.loop-column.column-bits in
    let none : word_has c.args.word column ≡ false = search rules in
    ones_skip c.args.word _ (to_z w32 (of_z w32 c.args.last)) c.args.runs.now.items column _ c.loop-column.runs.items c.loop-column.invariant
    (omega (arith, ints)) (omega (arith, ints)) none

pub loop-column-preserved : goal.loop-column-preserved
loop-column-preserved c =
    let t = c.loop-column-test.true in
    let high = c.requires.high in
    let column = to_z w32 c.loop-column.column-bits in
    let e = c.end_of_ones-end.ensures in
    let least = e.least in
    let most = e.most in
    let low = c.loop-column.invariant.least in
    let below = c.requires.low in
    let last : to_z w32 (of_z w32 (to_z w32 (of_z w32 c.end_of_ones-end.result) -ℤ pos 1)) ≡ c.end_of_ones-end.result -ℤ pos 1 = omega (arith, ints) in
    ones_push c.args.word _ (to_z w32 (of_z w32 c.args.last)) c.args.runs.now.items column c.end_of_ones-end.result _ _ c.loop-column.runs.items c.push_run.new.runs.items c.loop-column.invariant
    (omega (arith, ints)) least most (omega (arith, ints)) e.ones e.ended (ap (λ w. record { first = column; last = w }) last) c.in_ok-push_run.ensures

pub loop-column-smaller : goal.loop-column-smaller
loop-column-smaller c =
    let t = c.loop-column-test.true in
    let high = c.requires.high in
    let e = c.end_of_ones-end.ensures in
    let least = e.least in
    let most = e.most in
    natural_falls (to_z w32 c.loop-column.column-bits) (to_z w32 (of_z w32 (to_z w32 (of_z w32 c.end_of_ones-end.result) +ℤ pos 1))) (omega (arith, ints)) (omega (arith, ints))

pub returns : goal.returns
returns c =
    let t = c.loop-column-test.false in
    let first : to_z w32 (of_z w32 c.args.first) ≡ c.args.first = omega (arith, ints) in
    let last : to_z w32 (of_z w32 c.args.last) ≡ c.args.last = omega (arith, ints) in
    let end : GoOn c.args.word (to_z w32 (of_z w32 c.args.first)) (to_z w32 (of_z w32 c.args.last)) c.args.runs.now.items c.loop-column.runs.items =
    ones_end c.args.word _ _ c.args.runs.now.items (to_z w32 c.loop-column.column-bits) c.loop-column.runs.items c.loop-column.invariant (omega (arith, ints)) in
    subst (λ w. GoOn c.args.word w c.args.last c.args.runs.now.items c.loop-column.runs.items) first
    (subst (λ w. GoOn c.args.word (to_z w32 (of_z w32 c.args.first)) w c.args.runs.now.items c.loop-column.runs.items) last end)
