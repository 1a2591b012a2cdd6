use Rattle.std.proofs.Common.{◌≡◌, ℕ, Bool, ◌&&◌, ◌||◌, pos, ◌+ℤ◌, ◌∙◌, refl, ap, w32, ℤ}
use Rattle.std.specs.Int.{bit_at}
use Rattle.std.proofs.lemmas.Int.{to_z-of_z}
use Rattle.lw_kernels.specs.Kernel.{is_between}
use Rattle.lw_machine.specs.Layer.{Raster}
use Rattle.lw_layer.specs.View.{LiveView, draws}
use Rattle.lw_layer.specs.Drafts.{raster_of}
use Rattle.lw_layer.specs.Copied.{kept_bit}
use Rattle.lw_draw.specs.declared.spans.Places.{Places}
use Rattle.lw_draw.specs.Drawn.{drawn, in_mask, in_rows}
use Rattle.lw_draw.proofs.PaintLaws.{layer_alike, layer_more}
use Rattle.lw_scroll.specs.Blocks.{IsBrought}
use Rattle.lw_scroll.specs.Scrolled.{brought_bit}
use Rattle.lw_scroll.proofs.PenLaws.{bit_inside, bit_outside, brought_bits, part_apart, last_apart, last_whole, target_leads, row_beside, column_beside, part_inside, filled_as, pens_drawn}
use Rattle.lw_scroll.proofs.scrolling.scroll_pens.Goals as goal

-- the drawable pixels of some rows and columns, in the planes of a mask
abbrev masked : Raster → LiveView → Places → Places → ℕ → ℕ → ℕ → Bool
masked raster c rows columns p i j = in_mask raster p && in_rows c rows.from rows.end columns.from columns.end i j

-- the bits that a shift by some numbers brings
abbrev IsShift : LiveView → LiveView → Places → Places → Raster → ℤ → ℤ → Type 0
IsShift v w rows columns raster dx dy =
    w ≡ drawn (λ p i j. masked raster v rows columns p i j) (λ p i j old. kept_bit v p (pos i +ℤ dx) (pos j +ℤ dy)) v

pub returns : goal.returns
returns c =
    let v = c.args.layer.now in
    let rect = c.args.rect.now in
    let dx = c.args.dx in
    let dy = c.args.dy in
    let block = c.block_of-block.result in
    let target = c.brought_block-target.result in
    let rows = c.beside-rows.result in
    let columns = c.beside-columns.result in
    let raster = raster_of c.raster-raster.result in
    let solid : Raster = record raster { pen_a = raster.pen_b; mode = 0 } in
    let new = brought_bit v rect dx dy in
    let has = c.block_of-block.ensures.has in
    let are : IsBrought block dx dy target =
    rw (to_z-of_z w32 dx c.ranges.dx, to_z-of_z w32 dy c.ranges.dy) at c.brought_block-target.ensures
    in
    let pen_b : (p i j old : ℕ) → bit_at raster.pen_b p ≡ bit_at v.layer.raster.pen_b p =
    λ p i j old. ap (λ (r : Raster). bit_at r.pen_b p) c.raster-raster.ensures.value
    in
    let shift_on = masked raster v target.rows target.columns in
    let rows_on = masked raster v rows block.columns in
    let columns_on = masked raster v target.rows columns in
    let both : ℕ → ℕ → ℕ → Bool = λ p i j. shift_on p i j || rows_on p i j in
    let shifted : IsShift v c.shift_rows.new.layer target.rows target.columns raster dx dy =
    rw (to_z-of_z w32 dx c.ranges.dx, to_z-of_z w32 dy c.ranges.dy) at c.shift_rows.ensures
    in
    let first : c.shift_rows.new.layer ≡ drawn shift_on new v =
    layer_alike v c.shift_rows.new.layer shift_on (λ p i j old. kept_bit v p (pos i +ℤ dx) (pos j +ℤ dy)) new shifted
    (λ p i j old _ _ _ on _. bit_inside v rect dx dy p i j old
    (target_leads v rect block target dx dy has are (in_mask raster p) (draws v i j) i j on))
    in
    let second =
    filled_as v c.shift_rows.new.layer c.fill_rows.new.layer shift_on new solid rows.from rows.end block.columns.from
    block.columns.end first c.fill_rows.ensures
    (λ p i j old on. pen_b p i j old
    ∙ bit_outside v rect dx dy p i j old
    (row_beside v rect block target rows dx dy has are c.beside-rows.ensures.has (in_mask raster p) (draws v i j) i j on))
    in
    let so_far : c.fill_rows.new.layer ≡ drawn both new v =
    layer_more v c.shift_rows.new.layer c.fill_rows.new.layer shift_on rows_on both new (brought_bits v rect dx dy)
    (record {
      apart = λ p i j _ _ _. part_apart (in_mask raster p) (draws v i j) (is_between block.rows.from block.rows.end j)
          (is_between block.columns.from block.columns.end i) _ _ _ (c.beside-rows.ensures.has j);
      whole = λ p i j _ _ _. refl;
    }) first second
    in
    let third =
    filled_as v c.fill_rows.new.layer c.fill_beside.new.layer both new solid target.rows.from target.rows.end columns.from
    columns.end so_far c.fill_beside.ensures
    (λ p i j old on. pen_b p i j old
    ∙ bit_outside v rect dx dy p i j old
    (column_beside v rect block target columns dx dy has are c.beside-columns.ensures.has (in_mask raster p)
    (draws v i j) i j on))
    in
    layer_more v c.fill_rows.new.layer c.fill_beside.new.layer both columns_on (masked raster v block.rows block.columns) new
    (brought_bits v rect dx dy)
    (record {
      apart = λ p i j _ _ _. last_apart (in_mask raster p) (draws v i j) (is_between block.rows.from block.rows.end j)
          (is_between block.columns.from block.columns.end i) _ _ _ _ (c.beside-rows.ensures.has j)
          (c.beside-columns.ensures.has i);
      whole = λ p i j _ _ _. last_whole (in_mask raster p) (draws v i j) _ _ _ _ _ _ (c.beside-rows.ensures.has j)
          (c.beside-columns.ensures.has i)
          (part_inside block.rows target.rows are.rows.at_side j)
          (part_inside block.columns target.columns are.columns.at_side i);
    }) so_far third
    ∙ pens_drawn v rect dx dy raster block c.block_of-block.ensures.bits.bitmap c.raster-raster.ensures.value has
