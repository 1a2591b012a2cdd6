use Rattle.std.proofs.Common.{[], get_or, sym, ap, ◌∙◌}
use Rattle.lw_stack.specs.Sets.{SetsView, set_of}
use Rattle.lw_stack.proofs.SetsLaws.{set_in}
use Rattle.lw_stack.proofs.sets.SlotSets.get.Goals as goal

pub returns : goal.returns
returns c =
    let slot = c.args.slot in
    let fields = c.self.inside in
    c.region_of.ensures
    ∙ (ap (λ ps. set_of ps slot) c.as_slice.ensures.value
    ∙ (sym (set_in fields.count fields.parts.items slot c.self.invariant.0)
    ∙ ap (λ (v : SetsView). get_or v.items slot []) c.self.view_is))
