use Rattle.std.proofs.Common.{◌≡◌, ◌∙◌, sym, ap, arith, List, ◌++◌, cond, take, to_z, of_z, w16, w32, Result, Ok, Err, OnOk, is_ok}
use Rattle.std.proofs.lemmas.Int.{ints, clamps}
use Rattle.std.proofs.lemmas.List.{take_rest}
use Rattle.lw_region.specs.Rectangle.{Rectangle}
use Rattle.lw_region.specs.Columns.{columns, run_rectangles}
use Rattle.lw_region.specs.Rows.{with_rest}
use Rattle.lw_region.proofs.RegionSweep.{rest_empty, top_inside, rest_made}
use Rattle.lw_region.proofs.sweep.append_rest.Goals as goal

pub returns-in_default : goal.returns-in_default
returns-in_default c = sym (rest_empty c.args.is_kept c.args.rects.now c.args.row c.args.last c.args.out.now.items c.in_default.ensures.cases)

pub overflow_cast-top : goal.overflow_cast-top
overflow_cast-top c =
    let e = c.in-Some.ensures.cases in
    let t = top_inside c.args.rects.now c.in-Some.first.now _ c.args.row e.0 (c.requires.rows (omega arith)) (omega (arith, ints)) in
    omega (arith, ints, clamps)

pub copy_row-requires-clause-rows : goal.copy_row-requires-clause-rows
copy_row-requires-clause-rows c =
    let e = c.in-Some.ensures.cases in
    let t = top_inside c.args.rects.now c.in-Some.first.now _ c.args.row e.0 (c.requires.rows (omega arith)) (omega (arith, ints)) in
    omega (arith, ints, clamps)

-- what was added, where there was memory for it
ok_items : {T E : Type 0} (r : Result T E) (x y z w : List Rectangle) → x ≡ cond (is_ok r) y z → y ≡ w → OnOk r (x ≡ w)
ok_items (Ok v) x y z w e f = e ∙ f
ok_items (Err v) x y z w e f = tt

pub returns : goal.returns
returns c =
    let e = c.in-Some.ensures.cases in
    let t = top_inside c.args.rects.now c.in-Some.first.now _ c.args.row e.0 (c.requires.rows (omega arith)) (omega (arith, ints)) in
    let v = c.args.out.now.ok.0 in
    let rects = c.args.rects.now in
    let out = c.args.out.now.items in
    let joined = c.join_bands.new.rects.items in
    let top = to_z w16 (of_z w16 (to_z w32 (of_z w32 c.max-top.result))) in
    let bottom = to_z w16 (of_z w16 c.max_y-bottom.result) in
    ok_items c.extend_from_slice.result _ _ _ _ c.extend_from_slice.ensures.items
    (ap (λ w. joined ++ w) (take_rest rects c.args.count)
    ∙ (rest_made rects c.in-Some.first.now _ c.args.count c.args.row top bottom c.args.last c.len-start.result out c.copy_row.new.out.items joined e.0 c.requires.count
    (omega (arith, ints, clamps)) (omega (arith, ints)) (omega arith)
    (c.copy_row.ensures ∙ ap (λ w. w ++ run_rectangles top bottom (columns (take c.args.count rects))) c.reserve.ensures.items) c.join_bands.ensures.joined
    ∙ sym (ap (λ w. cond w (with_rest rects c.args.row c.args.last out) out) c.if-not-is_kept.false)))
