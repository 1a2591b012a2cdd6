use Rattle.std.proofs.Common.{◌≡◌, ℤ, ◌≤ℤ◌, get_or, to_z, of_z, w16, subst, sym, ◌∙◌, arith}
use Rattle.std.proofs.lemmas.Int.{ints}
use Rattle.std.proofs.lemmas.List.Elements.{All-get_or}
use Rattle.lw_region.specs.Bands.{Run}
use Rattle.lw_area.proofs.Stacked.{rects_more, runs_ordered}
use Rattle.lw_area.proofs.stripes.push_rects.Goals as goal

pub rect_of-requires-clause-columns : goal.rect_of-requires-clause-columns
rect_of-requires-clause-columns c =
    let runs = c.args.runs.now in
    let r = c.run-item.result in
    let o : (get_or runs c.loop-run.run-index r).first ≤ℤ (get_or runs c.loop-run.run-index r).last =
    All-get_or (λ (s : Run). s.first ≤ℤ s.last) runs c.loop-run.run-index r c.loop-run-test.true (runs_ordered runs c.requires.runs) in
    let p : r.first ≤ℤ r.last = subst (λ (s : Run). s.first ≤ℤ s.last) (sym c.run-item.is) o in
    let e = c.first.ensures in
    let f = c.last.ensures in
    omega (arith, ints)

pub loop-run-preserved : goal.loop-run-preserved
loop-run-preserved c =
    let r = c.run-item.result in
    let top = to_z w16 (of_z w16 c.args.top) in
    let bottom = to_z w16 (of_z w16 c.args.bottom) in
    let e = c.first.ensures in
    let f = c.last.ensures in
    let first : to_z w16 (of_z w16 c.first.result) ≡ r.first = omega (arith, ints) in
    let last : to_z w16 (of_z w16 c.last.result) ≡ r.last = omega (arith, ints) in
    rects_more top bottom c.args.rects.now.items c.loop-run.rects.items c.push.new.self.items c.args.runs.now c.loop-run.run-index r c.rect_of.result c.loop-run.invariant c.loop-run-test.true
    c.run-item.is (c.rect_of.ensures ∙ (λ i. record { min_x = first i; min_y = top; max_x = last i; max_y = bottom })) c.in_ok-push.ensures.items
