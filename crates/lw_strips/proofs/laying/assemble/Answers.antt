use Rattle.std.proofs.Common.{◌≡◌, ◌∙◌}
use Rattle.std.proofs.lemmas.Result.{IfOk-weaker}
use Rattle.lw_strips.specs.Laying.{assembled}
use Rattle.lw_strips.proofs.LayingLaws.{screen_sizes, screen_composed}
use Rattle.lw_strips.proofs.laying.assemble.Goals as goal

pub compose-requires-clause-sizes : goal.compose-requires-clause-sizes
compose-requires-clause-sizes c = screen_sizes c.args.width c.args.height c.args.depth c.screen_of-screen.result c.screen_of-screen.ensures c.requires.sizes

pub returns : goal.returns
returns c =
    IfOk-weaker c.compose.result _ (λ made. made ≡ assembled c.args.width c.args.height c.args.depth c.args.strips.now)
    (λ made is. is ∙ screen_composed c.args.width c.args.height c.args.depth c.args.strips.now c.screen_of-screen.result c.screen_of-screen.ensures) c.compose.ensures
