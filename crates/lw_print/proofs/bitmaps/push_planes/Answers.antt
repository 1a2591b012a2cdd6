use Rattle.std.proofs.Common.{◌≡◌, ◌++◌, ◌∙◌, ap, sym, refl, arith}
use Rattle.std.specs.List.{flat_map, range_with_len}
use Rattle.lw_planes.specs.Bitmap.{plane_row}
use Rattle.lw_calls.specs.Written.{line_of, hex_byte}
use Rattle.lw_text_output.proofs.Pieces.{piece_written}
use Rattle.lw_print.proofs.ManyLines.{planes_text}
use Rattle.lw_print.proofs.bitmaps.push_planes.Goals as goal

pub loop-plane-preserved : goal.loop-plane-preserved
loop-plane-preserved c =
    let bitmap = c.args.bitmap.now in
    piece_written (λ k. flat_map (λ y. line_of (flat_map hex_byte (plane_row bitmap k y))) (range_with_len 0 bitmap.height)) _ _ _ _ c.loop-plane.plane
    c.loop-plane.invariant c.in_ok-push_rows.ensures.ok refl

pub returns : goal.returns
returns c =
    let bitmap = c.args.bitmap.now in
    let end : c.loop-plane.plane ≡ bitmap.depth = omega (arith, c.loop-plane-test.false, c.loop-plane.auto.plane-end, c.depth-plane-end.ensures.value) in
    c.loop-plane.invariant ∙
    (ap (λ n. c.args.out.now.items ++ flat_map (λ k. flat_map (λ y. line_of (flat_map hex_byte (plane_row bitmap k y))) (range_with_len 0 bitmap.height)) (range_with_len 0 n)) end ∙
    ap (λ xs. c.args.out.now.items ++ xs) (sym (planes_text bitmap)))
