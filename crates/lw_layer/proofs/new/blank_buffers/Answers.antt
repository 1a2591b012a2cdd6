use Rattle.std.proofs.Common.{◌≡◌, ℤ, true, sym, subst}
use Rattle.lw_region.specs.Rectangle.{Rectangle, has_pixel}
use Rattle.lw_layer.proofs.NewLaws.{lies_at}
use Rattle.lw_layer.proofs.new.blank_buffers.Goals as goal

pub blank-requires-clause-inside : goal.blank-requires-clause-inside
blank-requires-clause-inside c =
    let P : Rectangle → Type 0 = λ r. (x y : ℤ) → has_pixel r x y ≡ true → has_pixel c.args.bounds.now x y ≡ true in
    subst P (sym c.rect-item.is) (lies_at c.args.bounds.now c.args.rects.now c.loop-rect.rect-index c.rect-item.result c.requires.inside c.loop-rect-test.true)
