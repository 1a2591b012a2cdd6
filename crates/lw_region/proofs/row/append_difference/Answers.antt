use Rattle.std.proofs.Common.{arith, to_z, of_z, w16, w32}
use Rattle.std.proofs.lemmas.Int.{ints, clamps}
use Rattle.lw_region.specs.declared.operation.Operation.TheVariants.{Difference}
use Rattle.lw_region.proofs.Columns.{row_of_move}
use Rattle.lw_region.proofs.Merges.{apart_start, apart_first, apart_second, apart_end, apart_rest}
use Rattle.lw_region.proofs.row.append_difference.Goals as goal

pub loop-r-init : goal.loop-r-init
loop-r-init c = record {
  state = apart_start _ _ c.args.out.now.items c.args.a.now c.args.b.now _ c.requires.columns_a c.requires.columns_b (omega (arith, ints, clamps)) (omega (arith, ints, clamps));
  room = c.requires.room;
}

pub loop-r-preserved-then-max_x : goal.loop-r-preserved-then-max_x
loop-r-preserved-then-max_x c =
    let i = c.loop-r.invariant in
    let e = c.in-Some.ensures.cases in
    let f = c.in-Some-split_first.ensures.cases in
    record {
      state = apart_first _ _ c.args.out.now.items _ c.in-Some.r.now c.in-Some-split_first.s.now c.loop-r.left_a.now c.loop-r.left_b.now c.in-Some.rs.now c.in-Some-split_first.ss.now
          (to_z w32 c.loop-r.at-bits) _ _ c.loop-r.out.items c.push_run-in-Some.new.out.items i.state e.0 f.0 (omega (arith, ints)) (omega (arith, ints)) (omega (arith, ints)) c.push_run-in-Some.ensures.items;
      room = omega (arith, i.room);
    }

pub loop-r-preserved : goal.loop-r-preserved
loop-r-preserved c =
    let i = c.loop-r.invariant in
    let e = c.in-Some.ensures.cases in
    let f = c.in-Some-split_first.ensures.cases in
    record {
      state = apart_second _ _ c.args.out.now.items _ c.in-Some.r.now c.in-Some-split_first.s.now c.loop-r.left_a.now c.loop-r.left_b.now c.in-Some.rs.now c.in-Some-split_first.ss.now
          (to_z w32 c.loop-r.at-bits) _ _ _ c.loop-r.out.items c.push_run-in-Some.new.out.items i.state e.0 f.0 (omega (arith, ints)) (omega (arith, ints)) (omega (arith, ints)) (omega (arith, ints))
          c.push_run-in-Some.ensures.items;
      room = omega (arith, i.room);
    }

pub returns-in_default-split_first : goal.returns-in_default-split_first
returns-in_default-split_first c =
    let e = c.in-Some.ensures.cases in
    row_of_move Difference c.args.a.now c.args.b.now (to_z w16 (of_z w16 c.args.top)) (to_z w16 (of_z w16 c.args.bottom)) c.args.out.now.items c.copy_row.new.out.items c.args.top c.args.bottom
    (omega (arith, ints)) (omega (arith, ints))
    (apart_rest _ _ c.args.out.now.items c.args.a.now c.args.b.now c.loop-r.left_a.now c.loop-r.left_b.now c.in-Some.r.now c.in-Some.rs.now (to_z w32 c.loop-r.at-bits) _ _ c.loop-r.out.items c.push_run.new.out.items _
    c.loop-r.invariant.state e.0 c.in_default-split_first.ensures.cases (omega (arith, ints)) (omega (arith, ints)) c.push_run.ensures.items c.copy_row.ensures)

pub push_run-requires-in-Some-clause-columns : goal.push_run-requires-in-Some-clause-columns
push_run-requires-in-Some-clause-columns c = λ h. (omega (arith, ints), omega (arith, ints))

pub returns : goal.returns
returns c =
    row_of_move Difference c.args.a.now c.args.b.now (to_z w16 (of_z w16 c.args.top)) (to_z w16 (of_z w16 c.args.bottom)) c.args.out.now.items c.loop-r.out.items c.args.top c.args.bottom
    (omega (arith, ints)) (omega (arith, ints))
    (apart_end _ _ c.args.out.now.items c.args.a.now c.args.b.now c.loop-r.left_a.now c.loop-r.left_b.now _ c.loop-r.out.items c.loop-r.invariant.state c.in_default.ensures.cases)
