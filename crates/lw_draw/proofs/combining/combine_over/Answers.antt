use Rattle.std.proofs.Common.{ℕ, ◌+◌, ◌-◌, ◌*◌, ◌==◌, ◌&&◌, List, length, ◌∙◌, refl, ap, arith}
use Rattle.lw_layer.specs.View.{draws}
use Rattle.lw_draw.specs.Blocks.{in_block, block_bit}
use Rattle.lw_draw.specs.Drawn.{drawn}
use Rattle.lw_draw.proofs.OverlayLaws.{are_over, over_combined}
use Rattle.lw_draw.proofs.combining.combine_over.Goals as goal

pub overflow_sub-above : goal.overflow_sub-above
overflow_sub-above c = (are_over c.args.layer.now (λ i j. draws c.args.layer.now i j) c.args.overlay (length c.args.bytes.now) c.args.block c.requires.block c.requires.over).row

pub split_at-requires : goal.split_at-requires
split_at-requires c =
    let over = are_over c.args.layer.now (λ i j. draws c.args.layer.now i j) c.args.overlay (length c.args.bytes.now) c.args.block c.requires.block c.requires.over in
    omega (arith, over.all)

pub overflow_sub-bit : goal.overflow_sub-bit
overflow_sub-bit c = (are_over c.args.layer.now (λ i j. draws c.args.layer.now i j) c.args.overlay (length c.args.bytes.now) c.args.block c.requires.block c.requires.over).column

pub overflow_add-bit : goal.overflow_add-bit
overflow_add-bit c =
    let over = are_over c.args.layer.now (λ i j. draws c.args.layer.now i j) c.args.overlay (length c.args.bytes.now) c.args.block c.requires.block c.requires.over in
    omega (arith, over.inside, c.args.overlay.near)

pub combine_block-requires-clause-inside : goal.combine_block-requires-clause-inside
combine_block-requires-clause-inside c = (are_over c.args.layer.now (λ i j. draws c.args.layer.now i j) c.args.overlay (length c.args.bytes.now) c.args.block c.requires.block c.requires.over).inside

pub combine_block-requires-clause-all : goal.combine_block-requires-clause-all
combine_block-requires-clause-all c =
    let over = are_over c.args.layer.now (λ i j. draws c.args.layer.now i j) c.args.overlay (length c.args.bytes.now) c.args.block c.requires.block c.requires.over in
    omega (arith, over.all, c.split_at.ensures.back_len)

pub returns : goal.returns
returns c =
    let v = c.args.layer.now in
    let b = c.args.block in
    let o = c.args.overlay in
    let bit : ℕ = o.bit + (b.x - o.column) in
    c.combine_block.ensures ∙
    ap (λ (rows : List ℕ). drawn (λ p i j. p == c.args.plane && in_block b i j) (block_bit c.args.minterm rows o.step bit b) v) c.split_at.ensures.back ∙
    over_combined v c.args.plane c.args.minterm ((b.y - o.row) * o.step) bit b c.args.bytes.now o (are_over v (λ i j. draws v i j) o (length c.args.bytes.now) b c.requires.block c.requires.over) refl refl
