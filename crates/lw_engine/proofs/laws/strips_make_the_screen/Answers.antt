use Rattle.std.proofs.Common.{ap, sym, ◌∙◌}
use Rattle.lw_calls.specs.declared.sizes.Sizes.{Sizes}
use Rattle.lw_engine.proofs.LayerLaws.{layers_of_desk}
use Rattle.lw_engine.proofs.OwnersLaws.{are_whole}
use Rattle.lw_engine.proofs.laws.strips_make_the_screen.Goals as goal

pub returns : goal.returns
returns c = λ sizes assets i cells d layers desktop parts lent.
    are_whole i.stack cells d layers desktop (parts.many ∙ ap (λ (s : Sizes). s.slots) (sym parts.info.sizes))
    (layers_of_desk sizes assets i cells d parts) lent
