use Rattle.std.proofs.Common.{◌≡◌, ◌∙◌, ap, refl, sym, arith, w16, w32, to_z, of_z}
use Rattle.std.proofs.lemmas.Int.{ints, to_z-of_z}
use Rattle.lw_region.specs.Rectangle.{Rectangle, width, height}
use Rattle.lw_planes.specs.Bitmap.{Bitmap}
use Rattle.lw_strips.specs.Strips.{filled}
use Rattle.lw_super.proofs.ShownLaws.{block_of, block_portion}
use Rattle.lw_super.proofs.shown.read_out.Goals as goal

pub copy_block-requires-clause-block : goal.copy_block-requires-clause-block
copy_block-requires-clause-block c =
    let s = c.args.strip.now in
    let r = s.rect in
    let left = to_z-of_z w32 c.args.left c.ranges.left in
    let top = to_z-of_z w32 c.args.top c.ranges.top in
    let x : to_z w16 (of_z w16 c.min_x.result) ≡ r.min_x = omega (arith, ints, c.min_x.ensures.value, ap (λ (q : Rectangle). q.min_x) c.rect-rect.ensures.value) in
    let y : to_z w16 (of_z w16 c.min_y.result) ≡ r.min_y = omega (arith, ints, c.min_y.ensures.value, ap (λ (q : Rectangle). q.min_y) c.rect-rect.ensures.value) in
    let buffer = c.requires.shown.buffer in
    block_of _ c.args.own.now s.planes r c.args.left c.args.top c.requires.shown refl refl (rw (left, x) at c.offset.ensures) (rw (top, y) at c.offset-2.ensures)
    (c.width.ensures.value ∙ (ap (λ (q : Rectangle). width q) c.rect-rect.ensures.value ∙ sym buffer.width)) (c.height.ensures.value ∙ (ap (λ (q : Rectangle). height q) c.rect-rect.ensures.value ∙ sym buffer.height))

pub returns : goal.returns
returns c =
    let s = c.args.strip.now in
    let r = s.rect in
    let left = to_z-of_z w32 c.args.left c.ranges.left in
    let top = to_z-of_z w32 c.args.top c.ranges.top in
    let x : to_z w16 (of_z w16 c.min_x.result) ≡ r.min_x = omega (arith, ints, c.min_x.ensures.value, ap (λ (q : Rectangle). q.min_x) c.rect-rect.ensures.value) in
    let y : to_z w16 (of_z w16 c.min_y.result) ≡ r.min_y = omega (arith, ints, c.min_y.ensures.value, ap (λ (q : Rectangle). q.min_y) c.rect-rect.ensures.value) in
    let buffer = c.requires.shown.buffer in
    c.copy_block.ensures
    ∙ ap (λ (b : Bitmap). filled b s)
    (block_portion _ c.args.own.now s.planes r c.args.left c.args.top buffer refl refl (rw (left, x) at c.offset.ensures) (rw (top, y) at c.offset-2.ensures)
    (c.width.ensures.value ∙ (ap (λ (q : Rectangle). width q) c.rect-rect.ensures.value ∙ sym buffer.width)) (c.height.ensures.value ∙ (ap (λ (q : Rectangle). height q) c.rect-rect.ensures.value ∙ sym buffer.height)))
