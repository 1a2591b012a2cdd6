use Rattle.std.proofs.Common.{◌≡◌, ◌∙◌, ap, rules, length, Some}
use Rattle.lw_layer.specs.Drafts.{layout}
use Rattle.lw_layer.proofs.ReachLaws.{free_in_own}
use Rattle.lw_layer.proofs.draft.LiveDraft.kept_reach.Goals as goal

pub own_reach-requires-clause-free : goal.own_reach-requires-clause-free
own_reach-requires-clause-free c =
    let d = c.args.self.now in
    let same : c.args.number ≡ length d.parts.visible = search rules in
    free_in_own (layout d) c.args.x c.args.y (c.requires.found ∙ ap Some same)
