use Rattle.std.proofs.Common.{◌≡◌, length, sym, ap, subst, ◌∙◌}
use Rattle.lw_stack.specs.Sets.{SetsView, sets_of, AreOfSlots}
use Rattle.lw_stack.proofs.SetsLaws.{sets_many}
use Rattle.lw_stack.proofs.sets.SlotSets.parts.Goals as goal

pub returns-clause-slots : goal.returns-clause-slots
returns-clause-slots c =
    let fields = c.self.inside in
    let many : fields.count ≡ length c.args.self.now.items =
    sym (sets_many fields.count fields.parts.items) ∙ ap (λ (v : SetsView). length v.items) c.self.view_is in
    subst (λ n. AreOfSlots n c.as_slice.result.now) many
    (subst (λ ps. AreOfSlots fields.count ps) (sym c.as_slice.ensures.value) c.self.invariant.0)

pub returns-clause-sets : goal.returns-clause-sets
returns-clause-sets c =
    let fields = c.self.inside in
    let many : fields.count ≡ length c.args.self.now.items =
    sym (sets_many fields.count fields.parts.items) ∙ ap (λ (v : SetsView). length v.items) c.self.view_is in
    sym (ap (λ (v : SetsView). v.items) c.self.view_is)
    ∙ (ap (λ n. sets_of n fields.parts.items) many
    ∙ ap (λ ps. sets_of (length c.args.self.now.items) ps) (sym c.as_slice.ensures.value))
