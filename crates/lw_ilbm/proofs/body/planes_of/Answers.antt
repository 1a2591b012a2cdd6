use Rattle.std.proofs.Common.{arith, ◌∙◌}
use Rattle.lw_planes.specs.Bitmap.{row_bytes}
use Rattle.lw_ilbm.proofs.PictureBytes.{row_within, row_longer, rows_more, planes_have}
use Rattle.lw_ilbm.proofs.body.planes_of.Goals as goal

pub slice_bounds-extend_from_slice-end : goal.slice_bounds-extend_from_slice-end
slice_bounds-extend_from_slice-end c =
    let within = row_within c.args.header.now.height c.args.header.now.depth (row_bytes c.args.header.now.width) c.loop-row.row
    c.requires.sizes.rows.0 c.loop-row-test.true in
    omega (arith, within, c.requires.enough)

pub loop-row-preserved : goal.loop-row-preserved
loop-row-preserved c =
    let within = row_within c.args.header.now.height c.args.header.now.depth (row_bytes c.args.header.now.width) c.loop-row.row
    c.requires.sizes.rows.0 c.loop-row-test.true in
    record {
      long = row_longer (row_bytes c.args.header.now.width) c.loop-row.row _ c.args.bytes.now c.loop-row.planes.items _ c.loop-row.invariant.long
          (omega (arith, within, c.requires.enough)) c.in_ok-extend_from_slice.ensures.items;
      rows = rows_more c.args.header.now.height c.args.header.now.depth (row_bytes c.args.header.now.width) c.loop-row.row c.args.bytes.now
          c.loop-row.planes.items _ c.loop-row.invariant.rows c.loop-row.invariant.long c.in_ok-extend_from_slice.ensures.items;
    }

pub returns : goal.returns
returns c =
    c.from_bytes.ensures ∙ planes_have c.args.header.now c.args.bytes.now c.loop-row.planes.items
    (λ r i low inside. c.loop-row.invariant.rows r i (omega (arith, low, c.loop-row-test.false)) inside)
