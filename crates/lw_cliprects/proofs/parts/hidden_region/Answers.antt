use Rattle.std.proofs.Common.{List, ◌≡◌, ◌∙◌}
use Rattle.std.proofs.lemmas.Result.{IfOk-weaker}
use Rattle.lw_region.specs.Rectangle.{Rectangle}
use Rattle.lw_cliprects.specs.Parts.{hidden_of}
use Rattle.lw_cliprects.proofs.HiddenLaws.{hidden_bands}
use Rattle.lw_cliprects.proofs.parts.hidden_region.Goals as goal

pub returns : goal.returns
returns c =
    IfOk-weaker c.difference.result _ (λ (made : List Rectangle). made ≡ hidden_of c.args.bounds.now c.args.visible.now)
    (λ made e. e ∙ hidden_bands c.args.bounds.now c.args.visible.now) (rw (c.as_list.ensures.value, c.rects.ensures.value) at c.difference.ensures)
