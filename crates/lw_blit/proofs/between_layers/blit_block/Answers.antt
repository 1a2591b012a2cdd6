use Rattle.std.proofs.Common.{◌≡◌, ◌<◌, ◌≤◌, ◌+◌, ◌^◌, refl, sym, subst, pos, ◌≤ℤ◌, arith}
use Rattle.std.proofs.lemmas.Int.{ints}
use Rattle.lw_region.specs.Rectangle.{width, height}
use Rattle.lw_machine.specs.Blits.{source_column, source_row}
use Rattle.lw_layer.specs.View.{keeps, draws}
use Rattle.lw_layer.specs.Pieces.{layout_of, buffer_rectangle}
use Rattle.lw_draw.proofs.BlockLaws.{block_lines}
use Rattle.lw_blit.proofs.BitmapLaws.{block_near}
use Rattle.lw_blit.proofs.KeptLaws.{kept_sources, are_placed, lent_of, block_as_layer, block_pens}
use Rattle.lw_blit.proofs.between_layers.blit_block.Goals as goal

pub source_index-column-requires-clause-near : goal.source_index-column-requires-clause-near
source_index-column-requires-clause-near c = (block_near c.args.layer.now (λ i j. draws c.args.layer.now i j) c.args.block c.width.ensures.bits c.requires.block).0

pub source_index-row-requires-clause-near : goal.source_index-row-requires-clause-near
source_index-row-requires-clause-near c = (block_near c.args.layer.now (λ i j. draws c.args.layer.now i j) c.args.block c.width.ensures.bits c.requires.block).1

pub source_index-column-requires-clause-inside : goal.source_index-column-requires-clause-inside
source_index-column-requires-clause-inside c =
    let left : pos c.args.kept.x ≤ℤ source_column c.args.area c.args.block.x = (kept_sources c.args.layer.now (λ i j. draws c.args.layer.now i j) c.args.kept c.args.area c.args.block c.requires.block c.requires.sources).left in
    omega (arith, ints, left)

pub source_index-row-requires-clause-inside : goal.source_index-row-requires-clause-inside
source_index-row-requires-clause-inside c =
    let upper : pos c.args.kept.y ≤ℤ source_row c.args.area c.args.block.y = (kept_sources c.args.layer.now (λ i j. draws c.args.layer.now i j) c.args.kept c.args.area c.args.block c.requires.block c.requires.sources).upper in
    omega (arith, ints, upper)

pub step-step-requires : goal.step-step-requires
step-step-requires c =
    (block_lines c.args.source.now (λ i j. keeps c.args.source.now i j) c.args.kept c.requires.kept).buffer

pub overflow_sub-line : goal.overflow_sub-line
overflow_sub-line c =
    let s = c.args.block in
    let b = c.args.kept in
    let a = c.args.area in
    let source = c.args.source.now in
    let are = are_placed b a s c.source_index-column.result c.source_index-row.result (kept_sources c.args.layer.now (λ i j. draws c.args.layer.now i j) b a s c.requires.block c.requires.sources) (omega (arith, ints, c.source_index-column.ensures.value)) (omega (arith, ints, c.source_index-row.ensures.value)) in
    are.upper

pub overflow_add-line : goal.overflow_add-line
overflow_add-line c =
    let s = c.args.block in
    let b = c.args.kept in
    let a = c.args.area in
    let source = c.args.source.now in
    let are = are_placed b a s c.source_index-column.result c.source_index-row.result (kept_sources c.args.layer.now (λ i j. draws c.args.layer.now i j) b a s c.requires.block c.requires.sources) (omega (arith, ints, c.source_index-column.ensures.value)) (omega (arith, ints, c.source_index-row.ensures.value)) in
    let lines = block_lines source (λ i j. keeps source i j) b c.requires.kept in
    let below : b.run.line + b.rows ≤ height (buffer_rectangle (layout_of source) b.run.buffer) = lines.below in
    omega (arith, below, are.upper, are.lower, c.step-step.ensures.high)

pub overflow_sub-bit : goal.overflow_sub-bit
overflow_sub-bit c =
    let s = c.args.block in
    let b = c.args.kept in
    let a = c.args.area in
    let source = c.args.source.now in
    let are = are_placed b a s c.source_index-column.result c.source_index-row.result (kept_sources c.args.layer.now (λ i j. draws c.args.layer.now i j) b a s c.requires.block c.requires.sources) (omega (arith, ints, c.source_index-column.ensures.value)) (omega (arith, ints, c.source_index-row.ensures.value)) in
    are.left

pub overflow_add-bit : goal.overflow_add-bit
overflow_add-bit c =
    let s = c.args.block in
    let b = c.args.kept in
    let a = c.args.area in
    let source = c.args.source.now in
    let are = are_placed b a s c.source_index-column.result c.source_index-row.result (kept_sources c.args.layer.now (λ i j. draws c.args.layer.now i j) b a s c.requires.block c.requires.sources) (omega (arith, ints, c.source_index-column.ensures.value)) (omega (arith, ints, c.source_index-row.ensures.value)) in
    let fits : b.run.bit + b.run.len ≤ width (buffer_rectangle (layout_of source) b.run.buffer) = (c.requires.kept.runs 0 c.requires.kept.some).fits in
    omega (arith, fits, are.left, are.right, c.step-step.ensures.wide)

pub lines-bytes-requires-clause-lines : goal.lines-bytes-requires-clause-lines
lines-bytes-requires-clause-lines c =
    let s = c.args.block in
    let b = c.args.kept in
    let a = c.args.area in
    let source = c.args.source.now in
    let are = are_placed b a s c.source_index-column.result c.source_index-row.result (kept_sources c.args.layer.now (λ i j. draws c.args.layer.now i j) b a s c.requires.block c.requires.sources) (omega (arith, ints, c.source_index-column.ensures.value)) (omega (arith, ints, c.source_index-row.ensures.value)) in
    let lent = lent_of source (λ i j. keeps source i j) b s c.source_index-column.result c.source_index-row.result _ _ c.requires.kept are refl refl in
    lent.lines

pub combine_block-requires-clause-inside : goal.combine_block-requires-clause-inside
combine_block-requires-clause-inside c =
    let s = c.args.block in
    let b = c.args.kept in
    let a = c.args.area in
    let source = c.args.source.now in
    let are = are_placed b a s c.source_index-column.result c.source_index-row.result (kept_sources c.args.layer.now (λ i j. draws c.args.layer.now i j) b a s c.requires.block c.requires.sources) (omega (arith, ints, c.source_index-column.ensures.value)) (omega (arith, ints, c.source_index-row.ensures.value)) in
    let lent = lent_of source (λ i j. keeps source i j) b s c.source_index-column.result c.source_index-row.result _ _ c.requires.kept are refl refl in
    omega (arith, lent.bits, c.step-step.ensures.value)

pub returns : goal.returns
returns c =
    let s = c.args.block in
    let b = c.args.kept in
    let a = c.args.area in
    let source = c.args.source.now in
    let column : source_column a s.x ≡ pos c.source_index-column.result = omega (arith, ints, c.source_index-column.ensures.value) in
    let row : source_row a s.y ≡ pos c.source_index-row.result = omega (arith, ints, c.source_index-row.ensures.value) in
    let are = are_placed b a s c.source_index-column.result c.source_index-row.result (kept_sources c.args.layer.now (λ i j. draws c.args.layer.now i j) b a s c.requires.block c.requires.sources) (omega (arith, ints, c.source_index-column.ensures.value)) (omega (arith, ints, c.source_index-row.ensures.value)) in
    block_as_layer c.args.layer.now c.combine_block.new.layer source (λ i j. keeps source i j) a c.args.plane _ _ _ _ _ c.source_index-column.result c.source_index-row.result b s c.lines-bytes.result.now c.lines-bytes.ensures.planes.bitmap c.requires.kept are column row
    (block_pens source (λ i j. keeps source i j) b c.lines-bytes.ensures.planes.bitmap c.requires.kept) refl refl c.step-step.ensures.value c.lines-bytes.ensures.bits (λ pen old deep small. c.source_plane-from.ensures.value pen old (subst (λ n. pen < 2 ^ n) (sym c.depth.ensures.value) deep) small) c.combine_block.ensures
