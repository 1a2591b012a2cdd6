use Rattle.std.proofs.Common.{◌≡◌, pos, ◌≤ℤ◌, arith}
use Rattle.std.proofs.lemmas.Int.{ints}
use Rattle.lw_machine.specs.Blits.{source_row}
use Rattle.lw_blit.proofs.BetweenLaws.{nothing_taken, rows_taken, later_inside, row_near}
use Rattle.lw_blit.proofs.between_layers.between_rows.Goals as goal

pub loop-y-init : goal.loop-y-init
loop-y-init c = record {
  first = omega arith;
  last = c.args.rows.ordered;
  painted = nothing_taken c.args.to.now c.args.source.now c.args.area c.args.mask c.args.rows.from c.args.columns.from c.args.columns.end c.depth.ensures.bits.bitmap;
}

pub source_index-line-requires-clause-inside : goal.source_index-line-requires-clause-inside
source_index-line-requires-clause-inside c =
    let rows = c.args.rows in
    let columns = c.args.columns in
    let upper : pos 0 ≤ℤ source_row c.args.area c.loop-y.y = (later_inside c.args.source.now.layer.bits c.args.area rows.from c.loop-y.y rows.end columns.from columns.end c.loop-y.invariant.first (omega arith) c.requires.some c.requires.sources).upper in
    omega (arith, ints, upper)

pub band_at-count-requires-clause-inside : goal.band_at-count-requires-clause-inside
band_at-count-requires-clause-inside c =
    let rows = c.args.rows in
    let columns = c.args.columns in
    let b = c.args.source.now.layer.bits in
    let is : pos c.source_index-line.result ≡ source_row c.args.area c.loop-y.y = omega (arith, ints, c.source_index-line.ensures.value) in
    row_near b c.args.area c.loop-y.y rows.end columns.from columns.end c.source_index-line.result (later_inside b c.args.area rows.from c.loop-y.y rows.end columns.from columns.end c.loop-y.invariant.first (omega arith) c.requires.some c.requires.sources) (omega arith) is

pub loop-y-preserved : goal.loop-y-preserved
loop-y-preserved c =
    let done = c.loop-y.invariant in
    record {
      first = omega (arith, done.first);
      last = omega (arith, c.band_at-count.ensures.ends);
      painted = rows_taken c.args.to.now c.loop-y.to c.between_band.new.to c.args.source.now c.args.area c.args.mask c.args.rows.from c.loop-y.y _ c.args.columns.from c.args.columns.end done.first (omega arith) done.painted c.between_band.ensures;
    }
