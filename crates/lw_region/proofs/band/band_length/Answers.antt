use Rattle.std.proofs.Common.{◌≡◌, ◌∙◌, ap, ◌+◌, arith, drop, true, false, to_z, of_z, w16}
use Rattle.std.specs.Ordering.{int_eq}
use Rattle.std.proofs.lemmas.Bool.{false_from_ne_true}
use Rattle.std.proofs.lemmas.Int.{ints}
use Rattle.lw_region.specs.Rows.{band_length}
use Rattle.lw_region.proofs.Numbers.{eq_true, eq_of}
use Rattle.lw_region.proofs.Rows.{length_more, length_stops, length_ends}
use Rattle.lw_region.proofs.band.band_length.Goals as goal

pub returns-then-min_y-top-clause-value : goal.returns-then-min_y-top-clause-value
returns-then-min_y-top-clause-value c =
    let top = to_z w16 (of_z w16 c.args.top) in
    let e : top ≡ c.args.top = omega (arith, ints) in
    let r = c.index-rects-i.result in
    let n : int_eq r.min_y top ≡ false = false_from_ne_true _ (λ t. let f = eq_of r.min_y top t in c.if-min_y-top.true (omega (arith, ints))) in
    let s = length_stops top c.args.rects.now c.loop-i.i r c.loop-i-test.true c.index-rects-i.is n in
    let i : band_length top c.args.rects.now ≡ c.loop-i.i + band_length top (drop c.loop-i.i c.args.rects.now) = c.loop-i.invariant in
    let k : c.loop-i.i ≡ band_length top c.args.rects.now = omega arith in
    k ∙ ap (λ w. band_length w c.args.rects.now) e

pub loop-i-preserved : goal.loop-i-preserved
loop-i-preserved c =
    let top = to_z w16 (of_z w16 c.args.top) in
    let r = c.index-rects-i.result in
    let n : int_eq r.min_y top ≡ true = eq_true r.min_y top (omega (arith, ints)) in
    let s = length_more top c.args.rects.now c.loop-i.i r c.loop-i-test.true c.index-rects-i.is n in
    let i : band_length top c.args.rects.now ≡ c.loop-i.i + band_length top (drop c.loop-i.i c.args.rects.now) = c.loop-i.invariant in
    omega arith

pub returns-clause-value : goal.returns-clause-value
returns-clause-value c =
    let top = to_z w16 (of_z w16 c.args.top) in
    let e : top ≡ c.args.top = omega (arith, ints) in
    let s = length_ends top c.args.rects.now c.loop-i.i c.loop-i-test.false in
    let i : band_length top c.args.rects.now ≡ c.loop-i.i + band_length top (drop c.loop-i.i c.args.rects.now) = c.loop-i.invariant in
    let l = c.loop-i.auto.i-end in
    let k : _ ≡ band_length top c.args.rects.now = omega arith in
    k ∙ ap (λ w. band_length w c.args.rects.now) e
