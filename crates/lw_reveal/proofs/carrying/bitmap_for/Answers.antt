use Rattle.std.proofs.Common.{◌≡◌, ◌∙◌, ap}
use Rattle.std.proofs.lemmas.Result.{IfOk-weaker}
use Rattle.lw_region.specs.Rectangle.{width, height}
use Rattle.lw_planes.specs.Bitmap.{bitmap}
use Rattle.lw_reveal.specs.Carrying.{IsForPens}
use Rattle.lw_reveal.proofs.CarryingLaws.{blank_for}
use Rattle.lw_reveal.proofs.carrying.bitmap_for.Goals as goal

pub returns : goal.returns
returns c =
    IfOk-weaker c.new.result (λ b. b ≡ bitmap c.width-width.result c.height-height.result c.depth-2.result (λ _ _. 0))
    (λ b. IsForPens c.args.layer.now c.args.x c.args.y (width c.args.rect.now) (height c.args.rect.now) b)
    (λ b is.
    blank_for c.args.layer.now c.args.x c.args.y (width c.args.rect.now) (height c.args.rect.now) b
    (is ∙ (ap (λ n. bitmap n c.height-height.result c.depth-2.result (λ _ _. 0)) c.width-width.ensures.value
    ∙ (ap (λ n. bitmap (width c.args.rect.now) n c.depth-2.result (λ _ _. 0)) c.height-height.ensures.value
    ∙ ap (λ n. bitmap (width c.args.rect.now) (height c.args.rect.now) n (λ _ _. 0)) c.depth-2.ensures.value))))
    c.new.ensures
