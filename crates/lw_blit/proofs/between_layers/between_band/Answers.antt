use Rattle.std.proofs.Common.{◌≡◌, ◌+◌, ◌-◌, refl, pos, ◌≤ℤ◌, arith}
use Rattle.std.proofs.lemmas.Int.{ints}
use Rattle.lw_machine.specs.Blits.{source_column}
use Rattle.lw_blit.proofs.BetweenLaws.{no_column_taken, piece_taken, band_taken, kept_leads, all_inside, column_near, row_near, stretch_block}
use Rattle.lw_blit.proofs.between_layers.between_band.Goals as goal

pub source_index-first-requires-clause-inside : goal.source_index-first-requires-clause-inside
source_index-first-requires-clause-inside c =
    let rows = c.args.rows in
    let columns = c.args.columns in
    let left : pos 0 ≤ℤ source_column c.args.area columns.from = (all_inside c.args.source.now.layer.bits c.args.area rows.from rows.end columns.from columns.end c.requires.high c.requires.some c.requires.sources).left in
    omega (arith, ints, left)

pub loop-stretch-init : goal.loop-stretch-init
loop-stretch-init c = record {
  first = omega arith;
  last = omega arith;
  painted = no_column_taken c.args.to.now c.args.source.now c.args.area c.args.mask c.args.rows.from c.args.rows.end c.args.columns.from (c.args.columns.from + (c.source_index-first.result - c.source_index-first.result)) c.depth.ensures.bits.bitmap (omega arith);
}

pub next_kept_stretch-requires-clause-column : goal.next_kept_stretch-requires-clause-column
next_kept_stretch-requires-clause-column c =
    let rows = c.args.rows in
    let columns = c.args.columns in
    let b = c.args.source.now.layer.bits in
    let is : pos c.source_index-first.result ≡ source_column c.args.area columns.from = omega (arith, ints, c.source_index-first.ensures.value) in
    let near = column_near b c.args.area rows.from rows.end columns.from columns.end c.source_index-first.result (all_inside b c.args.area rows.from rows.end columns.from columns.end c.requires.high c.requires.some c.requires.sources) columns.ordered is in
    let wide = c.width.ensures.bits.sizes.columns.1 in
    omega (arith, near, wide, c.loop-stretch.invariant.last)

pub next_kept_stretch-requires-clause-end : goal.next_kept_stretch-requires-clause-end
next_kept_stretch-requires-clause-end c =
    let rows = c.args.rows in
    let columns = c.args.columns in
    let b = c.args.source.now.layer.bits in
    let is : pos c.source_index-first.result ≡ source_column c.args.area columns.from = omega (arith, ints, c.source_index-first.ensures.value) in
    let near = column_near b c.args.area rows.from rows.end columns.from columns.end c.source_index-first.result (all_inside b c.args.area rows.from rows.end columns.from columns.end c.requires.high c.requires.some c.requires.sources) columns.ordered is in
    let wide = c.width.ensures.bits.sizes.columns.1 in
    omega (arith, near, wide)

pub next_kept_stretch-requires-clause-row : goal.next_kept_stretch-requires-clause-row
next_kept_stretch-requires-clause-row c =
    let rows = c.args.rows in
    let columns = c.args.columns in
    let b = c.args.source.now.layer.bits in
    let near = row_near b c.args.area rows.from rows.end columns.from columns.end c.args.line (all_inside b c.args.area rows.from rows.end columns.from columns.end c.requires.high c.requires.some c.requires.sources) rows.ordered c.requires.line in
    let high = c.width.ensures.bits.sizes.rows.1 in
    omega (arith, near, high)

pub between_piece-requires-clause-kept : goal.between_piece-requires-clause-kept
between_piece-requires-clause-kept c =
    stretch_block c.args.source.now c.loop-stretch.x c.args.line _ _ c.in-Some.stretch (omega (arith, c.requires.high)) c.requires.alike c.in-Some.ensures

pub between_piece-requires-clause-sources : goal.between_piece-requires-clause-sources
between_piece-requires-clause-sources c i j row column =
    let s = c.in-Some.stretch in
    let rows = c.args.rows in
    let is : pos c.source_index-first.result ≡ source_column c.args.area c.args.columns.from = omega (arith, ints, c.source_index-first.ensures.value) in
    let reaches : pos c.loop-stretch.x ≤ℤ pos s.x = c.in-Some.ensures.column.reaches in
    kept_leads c.args.area c.source_index-first.result c.args.line c.args.columns.from rows.from rows.end i j (record { x = s.x; y = c.args.line; rows = rows.end - rows.from; run = s.run }) is c.requires.line (omega (arith, ints, reaches, c.loop-stretch.invariant.first)) refl refl row column

pub loop-stretch-preserved : goal.loop-stretch-preserved
loop-stretch-preserved c =
    let s = c.in-Some.stretch in
    let rows = c.args.rows in
    let done = c.loop-stretch.invariant in
    let is : pos c.source_index-first.result ≡ source_column c.args.area c.args.columns.from = omega (arith, ints, c.source_index-first.ensures.value) in
    let reaches : pos c.loop-stretch.x ≤ℤ pos s.x = c.in-Some.ensures.column.reaches in
    record {
      first = omega (arith, ints, reaches, done.first);
      last = c.in-Some.ensures.ends;
      painted = piece_taken c.args.to.now c.loop-stretch.to c.between_piece.new.to c.args.source.now c.args.area c.args.mask c.source_index-first.result c.args.line c.args.columns.from rows.from rows.end c.loop-stretch.x _ s (record { column = is; row = c.requires.line; alike = c.requires.alike }) done.first c.in-Some.ensures done.painted c.between_piece.ensures;
    }

pub returns : goal.returns
returns c =
    let rows = c.args.rows in
    let columns = c.args.columns in
    let done = c.loop-stretch.invariant in
    let is : pos c.source_index-first.result ≡ source_column c.args.area columns.from = omega (arith, ints, c.source_index-first.ensures.value) in
    band_taken c.args.to.now c.loop-stretch.to c.args.source.now c.args.area c.args.mask c.source_index-first.result c.args.line columns.from rows.from rows.end c.loop-stretch.x columns.end _ (record { column = is; row = c.requires.line; alike = c.requires.alike }) done.first done.last refl columns.ordered c.in_default.ensures done.painted
