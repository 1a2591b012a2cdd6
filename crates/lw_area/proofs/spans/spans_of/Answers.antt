use Rattle.std.proofs.Common.{◌≡◌, ℕ, ◌+◌, ◌<◌, ◌≤◌, true, false, length, ℤ, pos, negsuc, ◌+ℤ◌, ◌-ℤ◌, ◌<ℤ◌, ◌≤ℤ◌, refl, ap, sym, ◌∙◌, subst, to_z, of_z, w16, w32, arith}
use Rattle.std.specs.List.{All, list_all}
use Rattle.std.proofs.lemmas.Int.{ints}
use Rattle.lw_area.specs.Polygons.{is_in_range, holds_of_odd}
use Rattle.lw_area.specs.Patterns.{word_at}
use Rattle.lw_area.specs.Areas.{area_rectangles}
use Rattle.lw_area.specs.Rows.{Crosses, is_passed, IsRowPut, AreRunsOf}
use Rattle.lw_area.proofs.Sweeps.{closed_row, swept_start, slab_above, swept_next, swept_many, swept_bands, swept_end, above_points, natural_less}
use Rattle.lw_area.proofs.spans.spans_of.Goals as goal

pub loop-row-init : goal.loop-row-init
loop-row-init c =
    let points = c.points-points.result.now in
    let words = c.args.pattern.now in
    let range : list_all is_in_range points ≡ true = subst (λ w. list_all is_in_range w ≡ true) (sym c.points-points.ensures.value) c.points-points.ensures.polygon.range in
    let top = to_z w32 (of_z w32 c.first_row-top.result) in
    let least = c.first_row-top.ensures.least in
    let most = c.first_row-top.ensures.most in
    let first : top ≡ c.first_row-top.result = omega (arith, ints) in
    let row = to_z w32 (of_z w32 c.slab_top-row.result) in
    let low = c.slab_top-row.ensures.least in
    let high = c.slab_top-row.ensures.most in
    let last : row ≡ c.slab_top-row.result = omega (arith, ints) in
    swept_start points words top row c.new-slab.result.top c.new-slab.result.edges.items c.args.limit 0 c.new-stripes.result.items range
    (subst (λ w. All (λ p. p.y ≤ℤ pos 4095 → p.y ≤ℤ w) points) (sym last) c.slab_top-row.ensures.none) (omega (arith, ints)) (omega (arith, ints)) c.new-slab.ensures.0 c.new-stripes.ensures.items refl

pub slab_for-requires-clause-slab : goal.slab_for-requires-clause-slab
slab_for-requires-clause-slab c =
    let points = c.points-points.result.now in
    let words = c.args.pattern.now in
    let range : list_all is_in_range points ≡ true = subst (λ w. list_all is_in_range w ≡ true) (sym c.points-points.ensures.value) c.points-points.ensures.polygon.range in
    let top = to_z w32 (of_z w32 c.first_row-top.result) in
    let least = c.first_row-top.ensures.least in
    let most = c.first_row-top.ensures.most in
    let first : top ≡ c.first_row-top.result = omega (arith, ints) in
    let i = c.loop-row.invariant in
    let low = i.low in
    let high = i.high in
    let row = to_z w32 c.loop-row.row-bits in
    let t = c.loop-row-test.true in
    let to = to_z w32 (of_z w32 (row -ℤ pos 1)) in
    let next : to +ℤ pos 1 ≡ row = omega (arith, ints) in
    slab_above points words top row c.loop-row.slab.top c.loop-row.slab.edges.items c.args.limit c.loop-row.count c.loop-row.stripes.items to i next

pub row_runs-requires-clause-crosses : goal.row_runs-requires-clause-crosses
row_runs-requires-clause-crosses c =
    let points = c.points-points.result.now in
    let words = c.args.pattern.now in
    let range : list_all is_in_range points ≡ true = subst (λ w. list_all is_in_range w ≡ true) (sym c.points-points.ensures.value) c.points-points.ensures.polygon.range in
    let top = to_z w32 (of_z w32 c.first_row-top.result) in
    let least = c.first_row-top.ensures.least in
    let most = c.first_row-top.ensures.most in
    let first : top ≡ c.first_row-top.result = omega (arith, ints) in
    let i = c.loop-row.invariant in
    let low = i.low in
    let high = i.high in
    let row = to_z w32 c.loop-row.row-bits in
    let t = c.loop-row-test.true in
    let to = to_z w32 (of_z w32 (row -ℤ pos 1)) in
    let next : to +ℤ pos 1 ≡ row = omega (arith, ints) in
    let slab = c.in_ok-slab.slab.top in
    let edges = c.in_ok-slab.slab.edges.items in
    let s = c.in_ok-slab.ensures.slab in
    let l : slab ≤ℤ to = c.in_ok-slab.ensures.top in
    let m : to <ℤ (to +ℤ pos 1) = omega (arith, ints) in
    subst (λ w. All (Crosses to) w) (sym c.edges.ensures) (s.crosses to l m)

pub row_runs-requires-clause-closed : goal.row_runs-requires-clause-closed
row_runs-requires-clause-closed c =
    let points = c.points-points.result.now in
    let words = c.args.pattern.now in
    let range : list_all is_in_range points ≡ true = subst (λ w. list_all is_in_range w ≡ true) (sym c.points-points.ensures.value) c.points-points.ensures.polygon.range in
    let top = to_z w32 (of_z w32 c.first_row-top.result) in
    let least = c.first_row-top.ensures.least in
    let most = c.first_row-top.ensures.most in
    let first : top ≡ c.first_row-top.result = omega (arith, ints) in
    let i = c.loop-row.invariant in
    let low = i.low in
    let high = i.high in
    let row = to_z w32 c.loop-row.row-bits in
    let t = c.loop-row-test.true in
    let to = to_z w32 (of_z w32 (row -ℤ pos 1)) in
    let next : to +ℤ pos 1 ≡ row = omega (arith, ints) in
    let slab = c.in_ok-slab.slab.top in
    let edges = c.in_ok-slab.slab.edges.items in
    let s = c.in_ok-slab.ensures.slab in
    let l : slab ≤ℤ to = c.in_ok-slab.ensures.top in
    let m : to <ℤ (to +ℤ pos 1) = omega (arith, ints) in
    subst (λ w. holds_of_odd (is_passed (pos 4095) to) w ≡ false) (sym c.edges.ensures) (closed_row points slab (to +ℤ pos 1) to edges range s l m)

pub returns-then-count-limit : goal.returns-then-count-limit
returns-then-count-limit c =
    let points = c.points-points.result.now in
    let words = c.args.pattern.now in
    let range : list_all is_in_range points ≡ true = subst (λ w. list_all is_in_range w ≡ true) (sym c.points-points.ensures.value) c.points-points.ensures.polygon.range in
    let top = to_z w32 (of_z w32 c.first_row-top.result) in
    let least = c.first_row-top.ensures.least in
    let most = c.first_row-top.ensures.most in
    let first : top ≡ c.first_row-top.result = omega (arith, ints) in
    let above : All (λ p. top ≤ℤ p.y) points =
    above_points points top range (subst (λ w. All (λ p. negsuc 2047 ≤ℤ p.y → w ≤ℤ p.y) points) (sym first) c.first_row-top.ensures.none) in
    let i = c.loop-row.invariant in
    let low = i.low in
    let high = i.high in
    let row = to_z w32 c.loop-row.row-bits in
    let t = c.loop-row-test.true in
    let to = to_z w32 (of_z w32 (row -ℤ pos 1)) in
    let next : to +ℤ pos 1 ≡ row = omega (arith, ints) in
    let slab = c.in_ok-slab.slab.top in
    let edges = c.in_ok-slab.slab.edges.items in
    let s = c.in_ok-slab.ensures.slab in
    let l : slab ≤ℤ to = c.in_ok-slab.ensures.top in
    let m : to <ℤ (to +ℤ pos 1) = omega (arith, ints) in
    let runs = c.in_ok-runs.runs.items in
    let a : AreRunsOf (word_at words to) to edges runs =
    subst (λ w. AreRunsOf (word_at words to) to w runs) c.edges.ensures (subst (λ w. AreRunsOf w to c.edges.result.now runs) c.word_at-word.ensures c.in_ok-runs.ensures) in
    let place = c.coordinate.ensures in
    let same : to_z w16 (of_z w16 c.coordinate.result) ≡ to = omega (arith, ints) in
    let more = c.in_ok-count.field-0 in
    let kept = c.put_runs.new.stripes.items in
    let p : IsRowPut to runs more c.loop-row.stripes.items kept = subst (λ w. IsRowPut w runs more c.loop-row.stripes.items kept) same c.in_ok-count.ensures.put in
    subst (λ w. c.args.limit < length (area_rectangles w words)) c.points-points.ensures.value
    (swept_many points words top row c.loop-row.slab.top c.loop-row.slab.edges.items c.args.limit c.loop-row.count c.loop-row.stripes.items to slab edges runs more (c.loop-row.count + more) kept i next s l a p refl c.if-count-limit.true (omega (arith, ints)) above)

pub loop-row-smaller : goal.loop-row-smaller
loop-row-smaller c =
    let points = c.points-points.result.now in
    let words = c.args.pattern.now in
    let range : list_all is_in_range points ≡ true = subst (λ w. list_all is_in_range w ≡ true) (sym c.points-points.ensures.value) c.points-points.ensures.polygon.range in
    let top = to_z w32 (of_z w32 c.first_row-top.result) in
    let least = c.first_row-top.ensures.least in
    let most = c.first_row-top.ensures.most in
    let first : top ≡ c.first_row-top.result = omega (arith, ints) in
    let i = c.loop-row.invariant in
    let low = i.low in
    let high = i.high in
    let row = to_z w32 c.loop-row.row-bits in
    let t = c.loop-row-test.true in
    let to = to_z w32 (of_z w32 (row -ℤ pos 1)) in
    let next : to +ℤ pos 1 ≡ row = omega (arith, ints) in
    natural_less (to +ℤ pos 32768) (row +ℤ pos 32768) (omega (arith, ints)) (omega (arith, ints))

pub loop-row-preserved : goal.loop-row-preserved
loop-row-preserved c =
    let points = c.points-points.result.now in
    let words = c.args.pattern.now in
    let range : list_all is_in_range points ≡ true = subst (λ w. list_all is_in_range w ≡ true) (sym c.points-points.ensures.value) c.points-points.ensures.polygon.range in
    let top = to_z w32 (of_z w32 c.first_row-top.result) in
    let least = c.first_row-top.ensures.least in
    let most = c.first_row-top.ensures.most in
    let first : top ≡ c.first_row-top.result = omega (arith, ints) in
    let i = c.loop-row.invariant in
    let low = i.low in
    let high = i.high in
    let row = to_z w32 c.loop-row.row-bits in
    let t = c.loop-row-test.true in
    let to = to_z w32 (of_z w32 (row -ℤ pos 1)) in
    let next : to +ℤ pos 1 ≡ row = omega (arith, ints) in
    let slab = c.in_ok-slab.slab.top in
    let edges = c.in_ok-slab.slab.edges.items in
    let s = c.in_ok-slab.ensures.slab in
    let l : slab ≤ℤ to = c.in_ok-slab.ensures.top in
    let m : to <ℤ (to +ℤ pos 1) = omega (arith, ints) in
    let runs = c.in_ok-runs.runs.items in
    let a : AreRunsOf (word_at words to) to edges runs =
    subst (λ w. AreRunsOf (word_at words to) to w runs) c.edges.ensures (subst (λ w. AreRunsOf w to c.edges.result.now runs) c.word_at-word.ensures c.in_ok-runs.ensures) in
    let place = c.coordinate.ensures in
    let same : to_z w16 (of_z w16 c.coordinate.result) ≡ to = omega (arith, ints) in
    let more = c.in_ok-count.field-0 in
    let kept = c.put_runs.new.stripes.items in
    let p : IsRowPut to runs more c.loop-row.stripes.items kept = subst (λ w. IsRowPut w runs more c.loop-row.stripes.items kept) same c.in_ok-count.ensures.put in
    swept_next points words top row c.loop-row.slab.top c.loop-row.slab.edges.items c.args.limit c.loop-row.count c.loop-row.stripes.items to slab edges runs more (c.loop-row.count + more) kept i next s l a p refl c.if-count-limit.false

pub rects_of-requires : goal.rects_of-requires
rects_of-requires c =
    let points = c.points-points.result.now in
    let words = c.args.pattern.now in
    let range : list_all is_in_range points ≡ true = subst (λ w. list_all is_in_range w ≡ true) (sym c.points-points.ensures.value) c.points-points.ensures.polygon.range in
    let top = to_z w32 (of_z w32 c.first_row-top.result) in
    let least = c.first_row-top.ensures.least in
    let most = c.first_row-top.ensures.most in
    let first : top ≡ c.first_row-top.result = omega (arith, ints) in
    let above : All (λ p. top ≤ℤ p.y) points =
    above_points points top range (subst (λ w. All (λ p. negsuc 2047 ≤ℤ p.y → w ≤ℤ p.y) points) (sym first) c.first_row-top.ensures.none) in
    let i = c.loop-row.invariant in
    let low = i.low in
    let high = i.high in
    let row = to_z w32 c.loop-row.row-bits in
    let t = c.loop-row-test.false in
    (swept_bands points words top row c.loop-row.slab.top c.loop-row.slab.edges.items c.args.limit c.loop-row.count c.loop-row.stripes.items i (omega (arith, ints)) above).1

pub returns : goal.returns
returns c =
    let points = c.points-points.result.now in
    let words = c.args.pattern.now in
    let range : list_all is_in_range points ≡ true = subst (λ w. list_all is_in_range w ≡ true) (sym c.points-points.ensures.value) c.points-points.ensures.polygon.range in
    let top = to_z w32 (of_z w32 c.first_row-top.result) in
    let least = c.first_row-top.ensures.least in
    let most = c.first_row-top.ensures.most in
    let first : top ≡ c.first_row-top.result = omega (arith, ints) in
    let above : All (λ p. top ≤ℤ p.y) points =
    above_points points top range (subst (λ w. All (λ p. negsuc 2047 ≤ℤ p.y → w ≤ℤ p.y) points) (sym first) c.first_row-top.ensures.none) in
    let i = c.loop-row.invariant in
    let low = i.low in
    let high = i.high in
    let row = to_z w32 c.loop-row.row-bits in
    let t = c.loop-row-test.false in
    let rects = c.in_ok-rects.rects.items in
    subst (λ w. (rects ≡ area_rectangles w words) × (length rects ≤ c.args.limit)) c.points-points.ensures.value
    (swept_end points words top row c.loop-row.slab.top c.loop-row.slab.edges.items c.args.limit c.loop-row.count c.loop-row.stripes.items rects i (omega (arith, ints)) above c.in_ok-rects.ensures)
