use Rattle.std.proofs.Common.{◌<◌, length, refl, sym, ap, subst, ◌∙◌}
use Rattle.std.proofs.lemmas.Result.{on_ok_weaker}
use Rattle.lw_stack.specs.Sets.{SetsView, sets_of}
use Rattle.lw_stack.proofs.SetsLaws.{sets_many, view_added}
use Rattle.lw_stack.proofs.sets.SlotSets.add.Goals as goal

pub invariant_of-self : goal.invariant_of-self
invariant_of-self c =
    let fields = c.self.inside in
    let below : c.args.slot < fields.count =
    subst (λ n. c.args.slot < n)
    (sym (ap (λ (v : SetsView). length v.items) c.self.view_is) ∙ sets_many fields.count fields.parts.items) c.requires in
    (c.add_to.ensures.slots fields.count below c.self.invariant.0, c.self.invariant.1)

pub returns-clause-sets : goal.returns-clause-sets
returns-clause-sets c =
    let fields = c.self.inside in
    let parts = c.add_to.new.parts.items in
    let below : c.args.slot < fields.count =
    subst (λ n. c.args.slot < n)
    (sym (ap (λ (v : SetsView). length v.items) c.self.view_is) ∙ sets_many fields.count fields.parts.items) c.requires in
    on_ok_weaker c.add_to.result
    (view_added fields.count fields.parts.items parts c.args.self.now.items (sets_of fields.count parts) c.args.slot c.args.region
    c.self.invariant.0 (c.add_to.ensures.slots fields.count below c.self.invariant.0) (ap (λ (v : SetsView). v.items) c.self.view_is) refl)
    c.add_to.ensures.sets
