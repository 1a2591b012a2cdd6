use Rattle.std.proofs.Common.{◌≡◌, arith, inl, inr, to_z, of_z, w16, w32}
use Rattle.std.specs.Int.{int_min, int_max}
use Rattle.std.proofs.lemmas.Int.{ints, clamps}
use Rattle.lw_region.specs.declared.operation.Operation.TheVariants.{Intersection}
use Rattle.lw_region.proofs.Columns.{row_of_move}
use Rattle.lw_region.proofs.Merges.{common_start, common_first, common_second, common_end}
use Rattle.lw_region.proofs.row.append_intersection.Goals as goal
use Rattle.lw_region.proofs.row.append_intersection.Goals.{After-from-last}

pub loop-r-init : goal.loop-r-init
loop-r-init c = record {
  state = common_start _ _ c.args.out.now.items c.args.a.now c.args.b.now c.requires.columns_a c.requires.columns_b;
  room = c.requires.room;
}

-- what the two rectangles have in common
common_is : (c : After-from-last) → (to_z w32 (of_z w32 c.from-first.result) ≡ int_max c.in-Some.r.now.min_x c.in-Some-split_first.s.now.min_x)
    × (to_z w32 (of_z w32 c.from-last.result) ≡ int_min c.in-Some.r.now.max_x c.in-Some-split_first.s.now.max_x)
common_is c = (omega (arith, ints, clamps), omega (arith, ints, clamps))

pub loop-r-preserved-then-max_x : goal.loop-r-preserved-then-max_x
loop-r-preserved-then-max_x c =
    let i = c.loop-r.invariant in
    let e = c.in-Some.ensures.cases in
    let f = c.in-Some-split_first.ensures.cases in
    let g = common_is (goal.at.loop-r-preserved-then-max_x c).After-from-last in
    record {
      state = common_first _ _ c.args.out.now.items _ c.in-Some.r.now c.in-Some-split_first.s.now c.loop-r.left_a.now c.loop-r.left_b.now c.in-Some.rs.now c.in-Some-split_first.ss.now _ _
          c.loop-r.out.items c.push_run.new.out.items i.state e.0 f.0 (omega (arith, ints)) g.0 g.1 c.push_run.ensures.items;
      room = omega (arith, i.room);
    }

pub loop-r-preserved : goal.loop-r-preserved
loop-r-preserved c =
    let i = c.loop-r.invariant in
    let e = c.in-Some.ensures.cases in
    let f = c.in-Some-split_first.ensures.cases in
    let g = common_is (goal.at.loop-r-preserved c).After-from-last in
    record {
      state = common_second _ _ c.args.out.now.items _ c.in-Some.r.now c.in-Some-split_first.s.now c.loop-r.left_a.now c.loop-r.left_b.now c.in-Some.rs.now c.in-Some-split_first.ss.now _ _
          c.loop-r.out.items c.push_run.new.out.items i.state e.0 f.0 (omega (arith, ints)) g.0 g.1 c.push_run.ensures.items;
      room = omega (arith, i.room);
    }

pub returns-in_default-split_first : goal.returns-in_default-split_first
returns-in_default-split_first c =
    row_of_move Intersection c.args.a.now c.args.b.now (to_z w16 (of_z w16 c.args.top)) (to_z w16 (of_z w16 c.args.bottom)) c.args.out.now.items c.loop-r.out.items c.args.top c.args.bottom
    (omega (arith, ints)) (omega (arith, ints))
    (common_end _ _ c.args.out.now.items c.args.a.now c.args.b.now c.loop-r.left_a.now c.loop-r.left_b.now c.loop-r.out.items c.loop-r.invariant.state (inr c.in_default-split_first.ensures.cases))

pub returns : goal.returns
returns c =
    row_of_move Intersection c.args.a.now c.args.b.now (to_z w16 (of_z w16 c.args.top)) (to_z w16 (of_z w16 c.args.bottom)) c.args.out.now.items c.loop-r.out.items c.args.top c.args.bottom
    (omega (arith, ints)) (omega (arith, ints))
    (common_end _ _ c.args.out.now.items c.args.a.now c.args.b.now c.loop-r.left_a.now c.loop-r.left_b.now c.loop-r.out.items c.loop-r.invariant.state (inl c.in_default.ensures.cases))
