use Rattle.std.proofs.Common.{◌&&◌, sym, ap, ◌∙◌, arith}
use Rattle.std.proofs.lemmas.List.{take_all}
use Rattle.lw_region.specs.Bands.{covers}
use Rattle.lw_arrange.proofs.PieceLaws.{shares_none, shares_no_more}
use Rattle.lw_arrange.proofs.pieces.share_places.Goals as goal

pub loop-rect-init : goal.loop-rect-init
loop-rect-init c = shares_none c.args.lost.now

pub loop-rect-preserved : goal.loop-rect-preserved
loop-rect-preserved c =
    shares_no_more c.args.lost.now c.rects-rects.result.now c.loop-rect.rect-index c.rect-item.result c.loop-rect-test.true c.rect-item.is
    c.loop-rect.invariant (c.meets.ensures.0 c.if-meets.false)

pub returns : goal.returns
returns c =
    λ none x y.
    ap (λ l. covers c.args.lost.now x y && covers l x y)
    (sym c.rects-rects.ensures.value ∙ sym (take_all c.loop-rect.rect-index c.rects-rects.result.now (omega (arith, c.loop-rect-test.false))))
    ∙ c.loop-rect.invariant x y
