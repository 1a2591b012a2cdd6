use Rattle.std.proofs.Common.{ap, rules}
use Rattle.std.specs.List.{flat_map}
use Rattle.lw_planes.specs.Bitmap.{plane_row}
use Rattle.lw_calls.specs.Written.{line_of, hex_byte}
use Rattle.lw_text_output.specs.Words.{Keeps}
use Rattle.lw_text_output.proofs.Kept.{kept_after}
use Rattle.lw_text_output.proofs.Pieces.{piece_written}
use Rattle.lw_text_output.proofs.Padded.{padded_row}
use Rattle.lw_text_output.proofs.row.push_rows.Goals as goal

pub loop-y-preserved : goal.loop-y-preserved
loop-y-preserved c =
    piece_written (λ y. line_of (flat_map hex_byte (plane_row c.args.planes.now c.args.plane y))) _ _ _ _ c.loop-y.y
    c.loop-y.invariant c.in_ok-push_row.ensures.ok
    (ap (λ bytes. line_of (flat_map hex_byte bytes))
    (padded_row c.args.planes.now c.args.plane c.loop-y.y _ c.row.result.now c.width.ensures.value c.row.ensures.long c.row.ensures.bits))

pub returns-in_err-push_row-clause-err : goal.returns-in_err-push_row-clause-err
returns-in_err-push_row-clause-err c = let kept : Keeps c.args.out.now.items c.push_row.new.out.items = kept_after _ _ _ _ c.loop-y.invariant c.in_err-push_row.ensures.err in search rules
