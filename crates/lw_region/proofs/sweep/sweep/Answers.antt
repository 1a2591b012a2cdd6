use Rattle.std.proofs.Common.{◌≡◌, ◌∙◌, ap, cond, true, false, ℤ, sym, refl, arith, [], length, pos, ◌-ℤ◌, ◌<ℤ◌, to_z, of_z, w32}
use Rattle.std.proofs.lemmas.Int.{ints, clamps}
use Rattle.lw_region.specs.Bands.{covers}
use Rattle.lw_region.specs.Banded.{IsCanonical}
use Rattle.lw_region.specs.Operations.{holds}
use Rattle.lw_region.specs.Rows.{with_rest}
use Rattle.lw_region.proofs.Numbers.{natural_falls}
use Rattle.lw_region.proofs.RegionSweep.{columns_a, columns_b, place_within, rows_left, place_second, sweep_start, sweep_step, sweep_further, sweep_end, row_of_terms, sweep_move, start_move}
use Rattle.lw_region.proofs.sweep.sweep.Goals as goal
use Rattle.lw_region.proofs.sweep.sweep.Goals.{After-begun_band-band_b, In_ok-append_rest, In_ok-append_rest-2}

pub loop-next-init : goal.loop-next-init
loop-next-init c = record {
  state = start_move c.args.operation c.args.a.now c.args.b.now c.args.a.now c.args.b.now _ 0 [] _ _ _ refl refl c.in_ok-out.ensures.items
      (sweep_start c.args.operation c.args.a.now c.args.b.now _ c.requires.canonical_a c.requires.canonical_b
      (omega (arith, ints)) (omega (arith, ints)) (omega (arith, ints, clamps)) (omega (arith, ints)));
  count_a = c.first_length-count_a.ensures.value;
  count_b = c.first_length-count_b.ensures.value;
  inside_a = c.first_length-count_a.ensures.most;
  inside_b = c.first_length-count_b.ensures.most;
}

-- the next row that is looked at is further down
further : (c : After-begun_band-band_b) → to_z w32 c.loop-next.row-bits <ℤ to_z w32 (of_z w32 c.min-next.result)
further c =
    sweep_further c.args.operation c.args.a.now c.args.b.now c.loop-next.left_a.now c.loop-next.left_b.now (to_z w32 c.loop-next.row-bits) c.loop-next.last c.loop-next.out.items
    (to_z w32 (of_z w32 c.min-next.result)) c.loop-next.invariant.state (c.are_both_left.ensures.some c.loop-next-test.true)
    (omega (arith, ints)) (omega (arith, ints)) (omega (arith, ints, clamps))

pub overflow_cast-row : goal.overflow_cast-row
overflow_cast-row c = let f = further c in let i = c.loop-next.invariant.state in let l = i.low in omega (arith, ints)

pub overflow_sub-next : goal.overflow_sub-next
overflow_sub-next c = let f = further c in let i = c.loop-next.invariant.state in let l = i.low in omega (arith, ints)

pub overflow_cast-next : goal.overflow_cast-next
overflow_cast-next c = let f = further c in let i = c.loop-next.invariant.state in let l = i.low in omega (arith, ints)

pub append_row-requires-clause-columns_a : goal.append_row-requires-clause-columns_a
append_row-requires-clause-columns_a c =
    rw c.begun_band-band_a.ensures
    (columns_a c.args.operation c.args.a.now c.args.b.now c.loop-next.left_a.now c.loop-next.left_b.now (to_z w32 c.loop-next.row-bits) c.loop-next.last c.loop-next.out.items c.loop-next.invariant.state)

pub append_row-requires-clause-columns_b : goal.append_row-requires-clause-columns_b
append_row-requires-clause-columns_b c =
    rw c.begun_band-band_b.ensures
    (columns_b c.args.operation c.args.a.now c.args.b.now c.loop-next.left_a.now c.loop-next.left_b.now (to_z w32 c.loop-next.row-bits) c.loop-next.last c.loop-next.out.items c.loop-next.invariant.state)

pub append_row-requires-clause-rows : goal.append_row-requires-clause-rows
append_row-requires-clause-rows c = let f = further (goal.at.append_row-requires-clause-rows c).After-begun_band-band_b in let i = c.loop-next.invariant.state in let l = i.low in omega (arith, ints)

pub join_bands-last-requires-clause-order : goal.join_bands-last-requires-clause-order
join_bands-last-requires-clause-order c =
    let p = place_within c.args.operation c.args.a.now c.args.b.now c.loop-next.left_a.now c.loop-next.left_b.now (to_z w32 c.loop-next.row-bits) c.loop-next.last c.loop-next.out.items c.loop-next.invariant.state in
    let v = c.loop-next.out.ok.0 in
    omega (arith, c.len-start.ensures)

pub loop-next-smaller : goal.loop-next-smaller
loop-next-smaller c =
    let f = further (goal.at.loop-next-smaller c).After-begun_band-band_b in
    natural_falls _ _ f (omega (arith, ints))

pub loop-next-preserved : goal.loop-next-preserved
loop-next-preserved c =
    let f = further (goal.at.loop-next-preserved c).After-begun_band-band_b in
    let l = c.loop-next in
    let i = c.loop-next.invariant.state in
    let low = i.low in
    let row = to_z w32 c.loop-next.row-bits in
    let next = to_z w32 (of_z w32 c.min-next.result) in
    let v = c.loop-next.out.ok.0 in
    let rects = c.append_row.new.out.items in
    record {
      state = sweep_move c.args.operation c.args.a.now c.args.b.now _ _ next c.loop-next.last (length c.loop-next.out.items) c.len-start.result rects _ _ _ _
          c.from_row.ensures.left c.from_row-in-loop-next.ensures.left (omega (arith, c.len-start.ensures)) c.join_bands-last.ensures.place c.join_bands-last.ensures.joined
          (sweep_step c.args.operation c.args.a.now c.args.b.now c.loop-next.left_a.now c.loop-next.left_b.now row c.loop-next.last c.loop-next.out.items i
          next rects f (omega (arith, ints)) (omega (arith, ints)) (omega (arith, ints))
          (row_of_terms c.args.operation _ _ _ _ _ _ _ _ row (next -ℤ pos 1) (sym c.begun_band-band_a.ensures) (sym c.begun_band-band_b.ensures)
          (omega (arith, ints)) (omega (arith, ints)) c.in_ok-append_row.ensures));
      count_a = c.from_row.ensures.count;
      count_b = c.from_row-in-loop-next.ensures.count;
      inside_a = c.from_row.ensures.inside;
      inside_b = c.from_row-in-loop-next.ensures.inside;
    }

pub append_rest-requires-clause-order : goal.append_rest-requires-clause-order
append_rest-requires-clause-order c = λ h.
    let l = c.loop-next in
    let v = l.out.ok.0 in
    omega (arith, place_within c.args.operation c.args.a.now c.args.b.now l.left_a.now l.left_b.now (to_z w32 l.row-bits) l.last l.out.items l.invariant.state)

pub append_rest-requires-clause-rows : goal.append_rest-requires-clause-rows
append_rest-requires-clause-rows c =
    let l = c.loop-next in
    (rows_left c.args.operation c.args.a.now c.args.b.now l.left_a.now l.left_b.now (to_z w32 l.row-bits) l.last l.out.items l.invariant.state).0

-- what is left of the first operand is added
first_rest : (c : In_ok-append_rest) → c.append_rest.new.out.items
    ≡ cond (holds c.args.operation true false) (with_rest c.loop-next.left_a.now (to_z w32 c.loop-next.row-bits) c.loop-next.last c.loop-next.out.items) c.loop-next.out.items
first_rest c =
    c.in_ok-append_rest.ensures
    ∙ ap (λ w. cond w (with_rest c.loop-next.left_a.now (to_z w32 c.loop-next.row-bits) c.loop-next.last c.loop-next.out.items) c.loop-next.out.items) c.holds-keeps_a.ensures

pub append_rest-requires-2-clause-order : goal.append_rest-requires-2-clause-order
append_rest-requires-2-clause-order c = λ h.
    let l = c.loop-next in
    let v = c.append_rest.new.out.ok.0 in
    omega (
      arith,
      place_second (holds c.args.operation true false) l.left_a.now l.left_b.now (to_z w32 l.row-bits) l.last l.out.items c.append_rest.new.out.items
          (c.are_both_left.ensures.none c.loop-next-test.false) (first_rest (goal.at.append_rest-requires-2-clause-order c).In_ok-append_rest)
          (place_within c.args.operation c.args.a.now c.args.b.now l.left_a.now l.left_b.now (to_z w32 l.row-bits) l.last l.out.items l.invariant.state) h,
    )

pub append_rest-requires-2-clause-rows : goal.append_rest-requires-2-clause-rows
append_rest-requires-2-clause-rows c =
    let l = c.loop-next in
    (rows_left c.args.operation c.args.a.now c.args.b.now l.left_a.now l.left_b.now (to_z w32 l.row-bits) l.last l.out.items l.invariant.state).1

-- what the sweep makes
made : (c : In_ok-append_rest-2) → IsCanonical c.append_rest-2.new.out.items × ((x y : ℤ) → covers c.append_rest-2.new.out.items x y ≡ holds c.args.operation (covers c.args.a.now x y) (covers c.args.b.now x y))
made c =
    let l = c.loop-next in
    let first = c.append_rest.new.out.items in
    sweep_end c.args.operation c.args.a.now c.args.b.now l.left_a.now l.left_b.now (to_z w32 l.row-bits) l.last l.out.items first c.append_rest-2.new.out.items l.invariant.state
    (c.are_both_left.ensures.none c.loop-next-test.false)
    (c.in_ok-append_rest.ensures ∙ ap (λ w. cond w (with_rest l.left_a.now (to_z w32 l.row-bits) l.last l.out.items) l.out.items) c.holds-keeps_a.ensures)
    (c.in_ok-append_rest-2.ensures ∙ ap (λ w. cond w (with_rest l.left_b.now (to_z w32 l.row-bits) l.last first) first) c.holds-keeps_b.ensures)

pub returns-clause-canonical : goal.returns-clause-canonical
returns-clause-canonical c = (made c).0

pub returns-clause-pixels : goal.returns-clause-pixels
returns-clause-pixels c = (made c).1
