use Rattle.std.proofs.Common.{◌<◌, ◌^◌, sym, subst, ◌≡◌, ◌≤◌, ◌*◌, pos, ◌≤ℤ◌, arith}
use Rattle.std.proofs.lemmas.Int.{ints}
use Rattle.lw_planes.specs.Bitmap.{pen_at, row_bytes}
use Rattle.lw_planes.proofs.BitmapLaws.{row_bytes_wide}
use Rattle.lw_machine.specs.Blits.{source_column, source_row}
use Rattle.lw_layer.specs.View.{draws}
use Rattle.lw_blit.proofs.BitmapLaws.{block_sources, block_near, bits_inside, lines_inside, block_as_bitmap}
use Rattle.lw_blit.proofs.bitmaps.blit_plane.Goals as goal

pub source_index-bit-requires-clause-near : goal.source_index-bit-requires-clause-near
source_index-bit-requires-clause-near c = (block_near c.args.layer.now (λ i j. draws c.args.layer.now i j) c.args.block c.width.ensures.bits c.requires.block).0

pub source_index-bit-requires-clause-inside : goal.source_index-bit-requires-clause-inside
source_index-bit-requires-clause-inside c =
    let lies = block_sources c.args.layer.now (λ i j. draws c.args.layer.now i j) c.args.bitmap.now c.args.area c.args.block c.requires.block c.requires.sources in
    let left : pos 0 ≤ℤ source_column c.args.area c.args.block.x = lies.left in
    omega (arith, ints, left)

pub source_index-line-requires-clause-near : goal.source_index-line-requires-clause-near
source_index-line-requires-clause-near c = (block_near c.args.layer.now (λ i j. draws c.args.layer.now i j) c.args.block c.width.ensures.bits c.requires.block).1

pub source_index-line-requires-clause-inside : goal.source_index-line-requires-clause-inside
source_index-line-requires-clause-inside c =
    let lies = block_sources c.args.layer.now (λ i j. draws c.args.layer.now i j) c.args.bitmap.now c.args.area c.args.block c.requires.block c.requires.sources in
    let upper : pos 0 ≤ℤ source_row c.args.area c.args.block.y = lies.upper in
    omega (arith, ints, upper)

pub rows-bytes-requires-clause-inside : goal.rows-bytes-requires-clause-inside
rows-bytes-requires-clause-inside c =
    let s = c.args.block in
    let lies = block_sources c.args.layer.now (λ i j. draws c.args.layer.now i j) c.args.bitmap.now c.args.area s c.requires.block c.requires.sources in
    let row : source_row c.args.area s.y ≡ pos c.source_index-line.result = omega (arith, ints, c.source_index-line.ensures.value) in
    lines_inside c.args.area s.y s.rows c.source_index-line.result c.args.bitmap.now.height row lies.lower

pub combine_block-requires-clause-inside : goal.combine_block-requires-clause-inside
combine_block-requires-clause-inside c =
    let s = c.args.block in
    let lies = block_sources c.args.layer.now (λ i j. draws c.args.layer.now i j) c.args.bitmap.now c.args.area s c.requires.block c.requires.sources in
    let column : source_column c.args.area s.x ≡ pos c.source_index-bit.result = omega (arith, ints, c.source_index-bit.ensures.value) in
    let inside = bits_inside c.args.area s.x s.run.len c.source_index-bit.result c.args.bitmap.now.width column lies.right in
    let wide : c.args.bitmap.now.width ≤ 8 * row_bytes c.args.bitmap.now.width = row_bytes_wide c.args.bitmap.now.width in
    omega (arith, inside, wide, c.width-2.ensures.value)

pub returns : goal.returns
returns c =
    let s = c.args.block in
    let b = c.args.bitmap.now in
    let a = c.args.area in
    let lies = block_sources c.args.layer.now (λ i j. draws c.args.layer.now i j) b a s c.requires.block c.requires.sources in
    let column : source_column a s.x ≡ pos c.source_index-bit.result = omega (arith, ints, c.source_index-bit.ensures.value) in
    let row : source_row a s.y ≡ pos c.source_index-line.result = omega (arith, ints, c.source_index-line.ensures.value) in
    block_as_bitmap c.args.layer.now c.combine_block.new.layer b a c.args.plane _ _ _ c.source_index-bit.result c.source_index-line.result s c.rows-bytes.result.now lies column row (omega (arith, c.width-2.ensures.value)) c.rows-bytes.ensures.bits (λ x y old left low small. c.source_plane-source.ensures.value (pen_at b x y) old (subst (λ n. pen_at b x y < 2 ^ n) (sym c.depth.ensures.value) (c.width-2.ensures.planes.bitmap.pens x y left low)) small) c.combine_block.ensures
