use Rattle.std.proofs.Common.{sym, subst}
use Rattle.lw_region.specs.Rectangle.{Rectangle}
use Rattle.lw_strips.specs.Laying.{screen, LiesIn}
use Rattle.lw_arrange.proofs.ExchangeLaws.{piece_sizes}
use Rattle.lw_arrange.proofs.desktop.push_blank.Goals as goal

pub blank-requires : goal.blank-requires
blank-requires c =
    let sizes = c.args.sizes.now in
    let P : Rectangle → Type 0 = λ r. LiesIn r (screen sizes.width sizes.height) in
    piece_sizes sizes c.rect-item.result c.requires.sizes c.min_x.ensures.ordered
    (subst P (sym c.rect-item.is) (c.requires.inside c.loop-rect.rect-index c.rect-item.result c.loop-rect-test.true))
