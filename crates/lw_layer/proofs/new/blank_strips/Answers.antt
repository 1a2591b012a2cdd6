use Rattle.std.proofs.Common.{◌≡◌, ℕ, ◌+◌, ℤ, true, List, take, sym, subst}
use Rattle.lw_strips.specs.Strips.{StripView}
use Rattle.lw_layer.specs.New.{AreBlankStrips}
use Rattle.lw_layer.proofs.NewDraftLaws.{strips_more}
use Rattle.lw_region.specs.Rectangle.{Rectangle, has_pixel}
use Rattle.lw_layer.proofs.NewLaws.{lies_at}
use Rattle.lw_layer.proofs.new.blank_strips.Goals as goal

pub blank-requires-clause-inside : goal.blank-requires-clause-inside
blank-requires-clause-inside c =
    let P : Rectangle → Type 0 = λ r. (x y : ℤ) → has_pixel r x y ≡ true → has_pixel c.args.bounds.now x y ≡ true in
    subst P (sym c.rect-item.is) (lies_at c.args.bounds.now c.args.rects.now c.loop-rect.rect-index c.rect-item.result c.requires.inside c.loop-rect-test.true)

pub loop-rect-preserved : goal.loop-rect-preserved
loop-rect-preserved c =
    let k : ℕ = c.loop-rect.rect-index in
    let P : List StripView → Type 0 = λ ss. AreBlankStrips c.args.depth (take (k + 1) c.args.rects.now) ss in
    subst P (sym c.in_ok-push.ensures.items)
    (strips_more c.args.depth c.args.rects.now c.loop-rect.strips.items k c.rect-item.result c.in_ok-blank.field-0 c.new.result c.loop-rect.invariant c.loop-rect-test.true c.rect-item.is c.in_ok-blank.ensures c.new.ensures)
