use Rattle.std.proofs.Common.{◌≡◌, ◌<◌, ◌^◌, [], length, arith, refl, ap, subst, sym, ◌∙◌}
use Rattle.std.specs.List.{flat_map, range_with_len}
use Rattle.lw_planes.specs.Bitmap.{plane_row}
use Rattle.lw_text_output.proofs.Pieces.{piece_written}
use Rattle.lw_ilbm.specs.Packing.{packed}
use Rattle.lw_ilbm.proofs.RowsBack.{length_body}
use Rattle.lw_ilbm.proofs.encoding.packed_rows.Goals as goal

pub loop-y-preserved : goal.loop-y-preserved
loop-y-preserved c =
    piece_written (λ y. flat_map (λ k. packed (plane_row c.args.planes.now k y)) (range_with_len 0 c.args.planes.now.depth)) [] _ _ _
    c.loop-y.y c.loop-y.invariant c.in_ok-push_planes.ensures refl

pub returns-clause-short : goal.returns-clause-short
returns-clause-short c =
    let all : c.loop-y.y ≡ c.args.planes.now.height = omega (arith, c.loop-y-test.false, c.loop-y.auto.y-end, c.height-y-end.ensures.value) in
    let body = c.loop-y.invariant ∙ ap (λ n. flat_map (λ y. flat_map (λ k. packed (plane_row c.args.planes.now k y))
    (range_with_len 0 c.args.planes.now.depth)) (range_with_len 0 n)) all in
    subst (λ l. length l < 2 ^ 24) (sym body) (length_body c.args.planes.now c.height-y-end.ensures.planes)
