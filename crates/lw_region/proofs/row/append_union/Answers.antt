use Rattle.std.proofs.Common.{◌<◌, ap, arith, length, pos, ◌+ℤ◌, ◌≤ℤ◌, ◌<ℤ◌, to_z, of_z, w16, w32}
use Rattle.std.proofs.lemmas.Int.{ints, clamps, by_lt_z}
use Rattle.lw_region.proofs.Numbers.{natural_falls}
use Rattle.lw_region.specs.declared.operation.Operation.TheVariants.{Union}
use Rattle.lw_region.proofs.Columns.{row_of_move}
use Rattle.lw_region.proofs.Merges.{some_early, others_fewer, first_inside, union_start, union_swap, union_take, union_close, union_end}
use Rattle.lw_region.proofs.row.append_union.Goals as goal
use Rattle.lw_region.proofs.row.append_union.Goals.{After-min-start-in-loop-left_a}

pub loop-left_a-init : goal.loop-left_a-init
loop-left_a-init c =
    let i = first_inside c.args.a.now c.args.b.now (pos 32767) c.first_column.result c.first_column-2.result c.requires.some c.first_column.ensures.inside c.first_column-2.ensures.inside in
    record {
      state = union_start _ _ c.args.out.now.items c.args.a.now c.args.b.now _ _ c.requires.columns_a c.requires.columns_b
          (omega (arith, ints, clamps)) (omega (arith, ints, clamps)) (omega (arith, ints, clamps)) (omega (arith, ints, clamps));
      room = c.requires.room;
      spare = λ h. absurd (omega (arith, ints, clamps));
    }

pub overflow_add-end : goal.overflow_add-end
overflow_add-end c = let s = c.loop-left_a.invariant.state in let m = s.most in let l = s.low in let o = s.ordered in omega (arith, ints)

pub overflow_add-end-in-loop-left_a : goal.overflow_add-end-in-loop-left_a
overflow_add-end-in-loop-left_a c = let s = c.loop-left_a.invariant.state in let m = s.most in let l = s.low in let o = s.ordered in omega (arith, ints)

-- the first band has a rectangle, which the open run takes in
fewer_a : (c : goal.After-others-left_a) → (0 < length c.loop-left_a.left_a.now) × (length c.others-left_a.result.now < length c.loop-left_a.left_a.now)
fewer_a c =
    let m = c.loop-left_a.invariant.state.most in
    let a = c.loop-left_a.left_a.now in
    let some : 0 < length a = some_early a (to_z w32 c.loop-left_a.end-bits +ℤ pos 1) (omega (arith, ints)) (omega (arith, ints)) in
    (some, omega (arith, others_fewer a some, ap length c.others-left_a.ensures))

pub loop-left_a-smaller-then-column_a-end : goal.loop-left_a-smaller-then-column_a-end
loop-left_a-smaller-then-column_a-end c = let f = fewer_a c in omega arith

pub loop-left_a-preserved-then-column_a-end : goal.loop-left_a-preserved-then-column_a-end
loop-left_a-preserved-then-column_a-end c =
    let i = c.loop-left_a.invariant in
    let m = i.state.most in
    let f = fewer_a c in
    let inside = c.first_end.ensures.inside f.0 in
    record {
      state = union_take _ _ c.args.out.now.items _ c.loop-left_a.left_a.now c.loop-left_a.left_b.now (to_z w32 c.loop-left_a.start-bits) (to_z w32 c.loop-left_a.end-bits) _
          c.loop-left_a.out.items _ i.state (omega (arith, ints)) (omega (arith, ints, clamps)) (omega (arith, ints, clamps)) c.others-left_a.ensures;
      room = omega (arith, i.room);
      spare = λ h. omega (arith, i.room);
    }

-- the second band has a rectangle, which the open run takes in
fewer_b : (c : goal.After-others-left_b) → (0 < length c.loop-left_a.left_b.now) × (length c.others-left_b.result.now < length c.loop-left_a.left_b.now)
fewer_b c =
    let m = c.loop-left_a.invariant.state.most in
    let b = c.loop-left_a.left_b.now in
    let some : 0 < length b = some_early b (to_z w32 c.loop-left_a.end-bits +ℤ pos 1) (omega (arith, ints)) (omega (arith, ints)) in
    (some, omega (arith, others_fewer b some, ap length c.others-left_b.ensures))

pub loop-left_a-smaller-then-column_b-end : goal.loop-left_a-smaller-then-column_b-end
loop-left_a-smaller-then-column_b-end c = let f = fewer_b c in omega arith

pub loop-left_a-preserved-then-column_b-end : goal.loop-left_a-preserved-then-column_b-end
loop-left_a-preserved-then-column_b-end c =
    let i = c.loop-left_a.invariant in
    let m = i.state.most in
    let f = fewer_b c in
    let inside = c.first_end-then-column_b-end.ensures.inside f.0 in
    let a = c.loop-left_a.left_a.now in
    let b = c.loop-left_a.left_b.now in
    let start = to_z w32 c.loop-left_a.start-bits in
    let end' = to_z w32 c.loop-left_a.end-bits in
    let out = c.loop-left_a.out.items in
    record {
      state = union_swap _ _ c.args.out.now.items _ _ a start _ out
          (union_take _ _ c.args.out.now.items _ b a start end' _ out _ (union_swap _ _ c.args.out.now.items _ a b start end' out i.state)
          (omega (arith, ints)) (omega (arith, ints, clamps)) (omega (arith, ints, clamps)) c.others-left_b.ensures);
      room = omega (arith, i.room);
      spare = λ h. omega (arith, i.room);
    }

pub push_run-requires-clause-columns : goal.push_run-requires-clause-columns
push_run-requires-clause-columns c = λ h. let s = c.loop-left_a.invariant.state in (s.low, s.most)

pub push_run-requires-clause-room : goal.push_run-requires-clause-room
push_run-requires-clause-room c = λ h. omega (arith, c.loop-left_a.invariant.spare h)

-- where the next run begins
further : (c : goal.After-min-start-in-loop-left_a) → (to_z w32 c.loop-left_a.start-bits <ℤ to_z w32 (of_z w32 c.min-start-in-loop-left_a.result)) × (to_z w32 (of_z w32 c.min-start-in-loop-left_a.result) ≤ℤ pos 32767)
further c =
    let o = c.loop-left_a.invariant.state.ordered in
    let n = c.is_any_left.ensures.some c.loop-left_a-test.true in
    let i = first_inside c.loop-left_a.left_a.now c.loop-left_a.left_b.now (pos 32767) c.first_column-column_a.result c.first_column-column_b.result n
    c.first_column-column_a.ensures.inside c.first_column-column_b.ensures.inside in
    (omega (arith, ints, clamps), omega (arith, ints, clamps))

pub overflow_sub-end-in-loop-left_a : goal.overflow_sub-end-in-loop-left_a
overflow_sub-end-in-loop-left_a c = let f = further c in let l = c.loop-left_a.invariant.state.low in omega (arith, ints)

pub loop-left_a-smaller : goal.loop-left_a-smaller
loop-left_a-smaller c =
    let f = further (goal.at.loop-left_a-smaller c).After-min-start-in-loop-left_a in
    omega (arith, natural_falls (to_z w32 c.loop-left_a.start-bits) (to_z w32 (of_z w32 c.min-start-in-loop-left_a.result)) f.0 (omega (arith, ints)))

pub loop-left_a-preserved : goal.loop-left_a-preserved
loop-left_a-preserved c =
    let i = c.loop-left_a.invariant in
    let f = further (goal.at.loop-left_a-preserved c).After-min-start-in-loop-left_a in
    let l = i.state.low in
    record {
      state = union_close _ _ c.args.out.now.items _ c.loop-left_a.left_a.now c.loop-left_a.left_b.now (to_z w32 c.loop-left_a.start-bits) (to_z w32 c.loop-left_a.end-bits) _ _
          c.loop-left_a.out.items _ i.state (omega (arith, ints)) (omega (arith, ints)) (omega (arith, ints, clamps)) (omega (arith, ints)) (omega (arith, ints)) c.push_run.ensures.items;
      room = by_lt_z (to_z w32 c.loop-left_a.end-bits) (to_z w32 c.loop-left_a.start-bits)
          (λ h. omega (arith, i.room, c.push_run.ensures.none (omega (arith, ints))))
          (λ h. omega (arith, i.spare h));
      spare = λ h. absurd (omega (arith, ints));
    }

pub push_run-requires-2-clause-columns : goal.push_run-requires-2-clause-columns
push_run-requires-2-clause-columns c = λ h. let s = c.loop-left_a.invariant.state in (s.low, s.most)

pub push_run-requires-2-clause-room : goal.push_run-requires-2-clause-room
push_run-requires-2-clause-room c = λ h. omega (arith, c.loop-left_a.invariant.spare h)

pub returns : goal.returns
returns c =
    let n = c.is_any_left.ensures.none c.loop-left_a-test.false in
    let a = c.args.a.now in
    let b = c.args.b.now in
    let before = c.args.out.now.items in
    let l = c.loop-left_a in
    row_of_move Union a b (to_z w16 (of_z w16 c.args.top)) (to_z w16 (of_z w16 c.args.bottom)) before c.push_run-2.new.out.items c.args.top c.args.bottom
    (omega (arith, ints)) (omega (arith, ints))
    (union_end _ _ before a b l.left_a.now l.left_b.now (to_z w32 l.start-bits) (to_z w32 l.end-bits) l.out.items c.push_run-2.new.out.items l.invariant.state n.0 n.1
    c.push_run-2.ensures.items)
