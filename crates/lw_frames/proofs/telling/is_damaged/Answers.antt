use Rattle.std.proofs.Common.{◌==◌, not, length, ◌∙◌, ap}
use Rattle.lw_frames.proofs.TellingLaws.{some_damage}
use Rattle.lw_frames.proofs.telling.is_damaged.Goals as goal

pub returns : goal.returns
returns c =
    ap not (c.is_empty.ensures ∙ ap (λ l. length l == 0) c.rects.ensures.value)
    ∙ some_damage c.args.layer.now c.damage.result.now c.region.result.now c.damage.ensures c.region.ensures.value c.rects.ensures.canonical
