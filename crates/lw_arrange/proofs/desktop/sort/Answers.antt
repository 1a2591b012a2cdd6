use Rattle.std.proofs.Common.{◌||◌, refl, inr, ap, ◌∙◌}
use Rattle.std.proofs.lemmas.Result.{on_ok_weaker}
use Rattle.lw_region.specs.Rectangle.{Rectangle, has_pixel}
use Rattle.lw_region.specs.Bands.{covers}
use Rattle.lw_stack.proofs.ShownLaws.{covers_more}
use Rattle.lw_arrange.proofs.desktop.sort.Goals as goal

pub returns-then-is_near : goal.returns-then-is_near
returns-then-is_near c =
    let near = c.args.near.now in
    on_ok_weaker c.or_rect.result
    (λ list. inr (
      refl,
      λ x y. covers_more c.rect-then-is_near.result.now near c.or_rect.new.self list x y
          ∙ ap (λ (r : Rectangle). covers near x y || has_pixel r x y) c.rect-then-is_near.ensures.value,
    )) c.or_rect.ensures.list
