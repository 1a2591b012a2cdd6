use Rattle.std.proofs.Common.{◌≡◌, ◌∙◌, refl, sym, ap, arith, ◌<◌, ◌+◌, ◌++◌, ◌≤ℤ◌, ◌<ℤ◌, ◌-ℤ◌, cond, pos, length, to_z, of_z, w16, w32}
use Rattle.std.proofs.lemmas.Int.{ints, clamps, by_lt_z}
use Rattle.lw_region.specs.declared.operation.Operation.TheVariants.{SymmetricDifference}
use Rattle.std.specs.Prelude.{vec_len, vec_capacity}
use Rattle.std.specs.Int.{int_min}
use Rattle.lw_region.specs.Columns.{columns, next_bound, some_run, run_rectangles}
use Rattle.lw_region.proofs.Columns.{due_of, row_of_move}
use Rattle.lw_region.proofs.Merges.{first_inside}
use Rattle.lw_region.proofs.Edges.{edges, EdgeStep, edge_step, some_edge, edges_fewer, edges_long, either_start, either_both, either_first, either_swap, either_end, room_edge, HaveRoom, open_low, open_room, closed_first, differ, differ_comm, differ_not, differ_first, differ_second}
use Rattle.lw_region.proofs.row.append_symmetric_difference.Goals as goal
use Rattle.lw_region.proofs.row.append_symmetric_difference.Goals.{After-next_bound-bound_b, After-behind_bound-left_b, After-run_start-first, After-push_run}

pub loop-left_a-init : goal.loop-left_a-init
loop-left_a-init c = record {
  state = either_start _ _ c.args.out.now.items c.args.a.now c.args.b.now _ c.requires.columns_a c.requires.columns_b (omega (arith, ints, clamps)) (omega (arith, ints, clamps));
  room = omega (arith, c.requires.room, edges_long c.args.a.now, edges_long c.args.b.now);
}

pub returns : goal.returns
returns c =
    let n = c.is_any_left.ensures.none c.loop-left_a-test.false in
    let l = c.loop-left_a in
    row_of_move SymmetricDifference c.args.a.now c.args.b.now (to_z w16 (of_z w16 c.args.top)) (to_z w16 (of_z w16 c.args.bottom)) c.args.out.now.items l.out.items c.args.top c.args.bottom
    (omega (arith, ints)) (omega (arith, ints))
    (either_end _ _ c.args.out.now.items c.args.a.now c.args.b.now l.left_a.now l.left_b.now l.is_begun_a l.is_begun_b (to_z w32 l.start-bits) l.out.items l.invariant.state n.0 n.1)

-- one of the two edges is in the range
inside : (c : After-next_bound-bound_b) → int_min c.next_bound-bound_a.result c.next_bound-bound_b.result ≤ℤ pos 32768
inside c =
    first_inside c.loop-left_a.left_a.now c.loop-left_a.left_b.now (pos 32768) c.next_bound-bound_a.result c.next_bound-bound_b.result
    (c.is_any_left.ensures.some c.loop-left_a-test.true) c.next_bound-bound_a.ensures.most c.next_bound-bound_b.ensures.most

-- the first band's edge, where it is no later
step_a : (c : After-next_bound-bound_b) → c.next_bound-bound_a.result ≤ℤ c.next_bound-bound_b.result → EdgeStep c.loop-left_a.is_begun_a c.loop-left_a.left_a.now
step_a c h =
    let i = inside c in
    let s = c.loop-left_a.invariant.state in
    let p = c.loop-left_a.is_begun_a in
    let a = c.loop-left_a.left_a.now in
    let m : next_bound p a ≤ℤ pos 32768 = omega (arith, ints, clamps) in
    edge_step p a (some_edge p a s.some_a (omega (arith, ints))) s.are_a m

-- the second band's edge, where it is no later
step_b : (c : After-next_bound-bound_b) → c.next_bound-bound_b.result ≤ℤ c.next_bound-bound_a.result → EdgeStep c.loop-left_a.is_begun_b c.loop-left_a.left_b.now
step_b c h =
    let i = inside c in
    let s = c.loop-left_a.invariant.state in
    let q = c.loop-left_a.is_begun_b in
    let b = c.loop-left_a.left_b.now in
    let m : next_bound q b ≤ℤ pos 32768 = omega (arith, ints, clamps) in
    edge_step q b (some_edge q b s.some_b (omega (arith, ints))) s.are_b m

-- both bands' edges at one column
both : (c : After-behind_bound-left_b) → (c.next_bound-bound_a.result ≡ c.next_bound-bound_b.result)
both c = omega (arith, ints, ap (to_z w32) c.if-bound_a-bound_b.true)

pub loop-left_a-smaller-then-bound_a-bound_b : goal.loop-left_a-smaller-then-bound_a-bound_b
loop-left_a-smaller-then-bound_a-bound_b c =
    let n = (goal.at.loop-left_a-smaller-then-bound_a-bound_b c).After-next_bound-bound_b in
    let e = both c in
    let f = edges_fewer c.loop-left_a.is_begun_a c.loop-left_a.left_a.now c.behind_bound-left_a.result.now (step_a n (omega (arith, ints))) c.behind_bound-left_a.ensures in
    let g = edges_fewer c.loop-left_a.is_begun_b c.loop-left_a.left_b.now c.behind_bound-left_b.result.now (step_b n (omega (arith, ints))) c.behind_bound-left_b.ensures in
    omega arith

pub loop-left_a-preserved-then-bound_a-bound_b : goal.loop-left_a-preserved-then-bound_a-bound_b
loop-left_a-preserved-then-bound_a-bound_b c =
    let n = (goal.at.loop-left_a-preserved-then-bound_a-bound_b c).After-next_bound-bound_b in
    let i = c.loop-left_a.invariant in
    let e = both c in
    let p = c.loop-left_a.is_begun_a in
    let q = c.loop-left_a.is_begun_b in
    let a = c.loop-left_a.left_a.now in
    let b = c.loop-left_a.left_b.now in
    let s = step_a n (omega (arith, ints)) in
    let t = step_b n (omega (arith, ints)) in
    let f = edges_fewer p a c.behind_bound-left_a.result.now s c.behind_bound-left_a.ensures in
    let g = edges_fewer q b c.behind_bound-left_b.result.now t c.behind_bound-left_b.ensures in
    record {
      state = either_both _ _ c.args.out.now.items _ a b _ _ p q (to_z w32 c.loop-left_a.start-bits) c.loop-left_a.out.items i.state s t
          (sym c.next_bound-bound_a.ensures.value ∙ (e ∙ c.next_bound-bound_b.ensures.value)) c.behind_bound-left_a.ensures c.behind_bound-left_b.ensures;
      room = rw (differ_not p q) (omega (arith, i.room));
    }

pub overflow_sub-column : goal.overflow_sub-column
overflow_sub-column c = let i = inside (goal.at.overflow_sub-column c).After-next_bound-bound_b in omega (arith, ints, clamps)

-- some edge is left
some_left : (c : After-next_bound-bound_b) → 0 < length (edges c.loop-left_a.is_begun_a (columns c.loop-left_a.left_a.now)) + length (edges c.loop-left_a.is_begun_b (columns c.loop-left_a.left_b.now))
some_left c =
    by_lt_z c.next_bound-bound_a.result c.next_bound-bound_b.result
    (λ h. omega (arith, edges_fewer c.loop-left_a.is_begun_a c.loop-left_a.left_a.now _ (step_a c (omega (arith, ints))) refl))
    (λ h. omega (arith, edges_fewer c.loop-left_a.is_begun_b c.loop-left_a.left_b.now _ (step_b c h) refl))

-- where the run that is over begins
first_is : (c : After-run_start-first) → to_z w32 (of_z w32 c.run_start-first.result)
    ≡ cond (differ c.loop-left_a.is_begun_a c.loop-left_a.is_begun_b) (to_z w32 c.loop-left_a.start-bits) (to_z w32 (of_z w32 c.min-column.result))
first_is c =
    let e : to_z w32 (of_z w32 c.run_start-first.result) ≡ c.run_start-first.result = omega (arith, ints) in
    e ∙ (c.run_start-first.ensures ∙ ap (λ w. cond w (to_z w32 c.loop-left_a.start-bits) (to_z w32 (of_z w32 c.min-column.result))) c.holds-is_open.ensures)

pub push_run-requires-clause-columns : goal.push_run-requires-clause-columns
push_run-requires-clause-columns c = λ h.
    let i = inside (goal.at.push_run-requires-clause-columns c).After-next_bound-bound_b in (
      open_low (differ c.loop-left_a.is_begun_a c.loop-left_a.is_begun_b) _ _ _ (first_is (goal.at.push_run-requires-clause-columns c).After-run_start-first) c.loop-left_a.invariant.state.low
          (omega (arith, ints, clamps)),
      omega (arith, ints, clamps),
    )

pub push_run-requires-clause-room : goal.push_run-requires-clause-room
push_run-requires-clause-room c = λ h.
    let n = (goal.at.push_run-requires-clause-room c).After-next_bound-bound_b in
    let r = first_is (goal.at.push_run-requires-clause-room c).After-run_start-first in
    let i = inside n in
    open_room (differ c.loop-left_a.is_begun_a c.loop-left_a.is_begun_b) (to_z w32 c.loop-left_a.start-bits) (to_z w32 (of_z w32 c.min-column.result)) (to_z w32 (of_z w32 c.run_start-first.result)) _ _ _
    r c.loop-left_a.invariant.room (some_left n) (omega (arith, ints, clamps))

-- the column that is looked at
column_is : (c : After-run_start-first) → to_z w32 (of_z w32 c.min-column.result) ≡ int_min c.next_bound-bound_a.result c.next_bound-bound_b.result
column_is c = omega (arith, ints, clamps)

-- the run that is added
added : (c : After-push_run) → int_min c.next_bound-bound_a.result c.next_bound-bound_b.result ≤ℤ pos 32768
    → c.push_run.new.out.items ≡ c.loop-left_a.out.items ++ run_rectangles (to_z w16 (of_z w16 c.args.top)) (to_z w16 (of_z w16 c.args.bottom))
    (some_run (to_z w32 (of_z w32 c.run_start-first.result)) (to_z w32 (of_z w32 c.min-column.result) -ℤ pos 1))
added c i =
    let last : to_z w32 (of_z w32 (to_z w32 (of_z w32 c.min-column.result) -ℤ pos 1)) ≡ to_z w32 (of_z w32 c.min-column.result) -ℤ pos 1 = omega (arith, ints, clamps) in
    c.push_run.ensures.items ∙ ap (λ w. c.loop-left_a.out.items ++ run_rectangles (to_z w16 (of_z w16 c.args.top)) (to_z w16 (of_z w16 c.args.bottom))
    (some_run (to_z w32 (of_z w32 c.run_start-first.result)) w)) last

-- no run is added where none is over
unchanged : (c : After-push_run) → int_min c.next_bound-bound_a.result c.next_bound-bound_b.result ≤ℤ pos 32768
    → (to_z w32 (of_z w32 c.min-column.result) -ℤ pos 1) <ℤ to_z w32 (of_z w32 c.run_start-first.result) → vec_len c.push_run.new.out ≡ vec_len c.loop-left_a.out
unchanged c i h = c.push_run.ensures.none (omega (arith, ints, clamps))

pub loop-left_a-smaller-then-bound_a-bound_b-2 : goal.loop-left_a-smaller-then-bound_a-bound_b-2
loop-left_a-smaller-then-bound_a-bound_b-2 c =
    let n = (goal.at.loop-left_a-smaller-then-bound_a-bound_b-2 c).After-next_bound-bound_b in
    let f = edges_fewer c.loop-left_a.is_begun_a c.loop-left_a.left_a.now c.behind_bound-left_a-then-bound_a-bound_b-2.result.now (step_a n (omega (arith, ints))) c.behind_bound-left_a-then-bound_a-bound_b-2.ensures in
    omega arith

pub loop-left_a-preserved-then-bound_a-bound_b-2 : goal.loop-left_a-preserved-then-bound_a-bound_b-2
loop-left_a-preserved-then-bound_a-bound_b-2 c =
    let n = (goal.at.loop-left_a-preserved-then-bound_a-bound_b-2 c).After-next_bound-bound_b in
    let m = (goal.at.loop-left_a-preserved-then-bound_a-bound_b-2 c).After-run_start-first in
    let u = (goal.at.loop-left_a-preserved-then-bound_a-bound_b-2 c).After-push_run in
    let r = first_is m in
    let h : c.next_bound-bound_a.result <ℤ c.next_bound-bound_b.result = omega (arith, ints) in
    let i = c.loop-left_a.invariant in
    let p = c.loop-left_a.is_begun_a in
    let q = c.loop-left_a.is_begun_b in
    let a = c.loop-left_a.left_a.now in
    let b = c.loop-left_a.left_b.now in
    let start = to_z w32 c.loop-left_a.start-bits in
    let column = to_z w32 (of_z w32 c.min-column.result) in
    let first = to_z w32 (of_z w32 c.run_start-first.result) in
    let k = column_is m in
    let s = step_a n (omega (arith, ints)) in
    let f = edges_fewer p a c.behind_bound-left_a-then-bound_a-bound_b-2.result.now s c.behind_bound-left_a-then-bound_a-bound_b-2.ensures in
    record {
      state = either_first _ _ c.args.out.now.items _ a b _ p q start column first c.loop-left_a.out.items c.push_run.new.out.items i.state s
          (k ∙ omega (arith, ints, clamps)) (rw k (omega (arith, ints, clamps))) (rw k (omega (arith, ints, clamps))) c.behind_bound-left_a-then-bound_a-bound_b-2.ensures r (added u (inside n));
      room = rw (differ_first p q) (room_edge (differ p q) _ _ _ _ _ _ _ i.room f c.push_run.ensures.capacity c.push_run.ensures.len
          (λ o. unchanged u (inside n) (closed_first (differ p q) start column first r o)));
    }

-- the second band's edge is earlier
later : (c : After-push_run) → to_z w32 (of_z w32 c.next_bound-bound_b.result) ≤ℤ to_z w32 (of_z w32 c.next_bound-bound_a.result) → c.next_bound-bound_b.result <ℤ c.next_bound-bound_a.result
later c h =
    by_lt_z c.next_bound-bound_b.result c.next_bound-bound_a.result (λ k. k)
    (λ k. let e : c.next_bound-bound_a.result ≡ c.next_bound-bound_b.result = omega (arith, ints) in absurd (c.if-bound_a-bound_b.false (ap (of_z w32) e)))

pub loop-left_a-smaller : goal.loop-left_a-smaller
loop-left_a-smaller c =
    let n = (goal.at.loop-left_a-smaller c).After-next_bound-bound_b in
    let h = later (goal.at.loop-left_a-smaller c).After-push_run (omega (arith, ints)) in
    let g = edges_fewer c.loop-left_a.is_begun_b c.loop-left_a.left_b.now c.behind_bound-left_b-in-loop-left_a.result.now (step_b n (omega (arith, ints))) c.behind_bound-left_b-in-loop-left_a.ensures in
    omega arith

pub loop-left_a-preserved : goal.loop-left_a-preserved
loop-left_a-preserved c =
    let n = (goal.at.loop-left_a-preserved c).After-next_bound-bound_b in
    let m = (goal.at.loop-left_a-preserved c).After-run_start-first in
    let u = (goal.at.loop-left_a-preserved c).After-push_run in
    let r = first_is m in
    let h = later u (omega (arith, ints)) in
    let i = c.loop-left_a.invariant in
    let p = c.loop-left_a.is_begun_a in
    let q = c.loop-left_a.is_begun_b in
    let a = c.loop-left_a.left_a.now in
    let b = c.loop-left_a.left_b.now in
    let start = to_z w32 c.loop-left_a.start-bits in
    let column = to_z w32 (of_z w32 c.min-column.result) in
    let first = to_z w32 (of_z w32 c.run_start-first.result) in
    let out = c.loop-left_a.out.items in
    let k = column_is m in
    let s = step_b n (omega (arith, ints)) in
    let f = edges_fewer q b c.behind_bound-left_b-in-loop-left_a.result.now s c.behind_bound-left_b-in-loop-left_a.ensures in
    let swapped : HaveRoom (vec_len c.loop-left_a.out) (length (edges q (columns b)) + length (edges p (columns a))) (differ p q) (vec_capacity c.loop-left_a.out) = omega (arith, i.room) in
    let due = due_of SymmetricDifference c.args.a.now c.args.b.now in
    record {
      state = either_swap _ _ c.args.out.now.items due _ a _ p column c.push_run.new.out.items
          (either_first _ _ c.args.out.now.items due b a _ q p start column first out c.push_run.new.out.items (either_swap _ _ c.args.out.now.items due a b p q start out i.state) s
          (k ∙ omega (arith, ints, clamps)) (rw k (omega (arith, ints, clamps))) (rw k (omega (arith, ints, clamps))) c.behind_bound-left_b-in-loop-left_a.ensures
          (r ∙ ap (λ w. cond w start column) (differ_comm p q)) (added u (inside n)));
      room = let t = room_edge (differ p q) (vec_len c.loop-left_a.out) (vec_len c.push_run.new.out) _ _ _ _ _ swapped f c.push_run.ensures.capacity c.push_run.ensures.len
          (λ o. unchanged u (inside n) (closed_first (differ p q) start column first r o)) in
          rw (differ_second p q) (omega (arith, t));
    }
