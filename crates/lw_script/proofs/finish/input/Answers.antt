use Rattle.std.proofs.Common.{◌+◌, ◌∙◌}
use Rattle.lw_grammar.specs.Told.{told}
use Rattle.lw_words.specs.Cuts.{targets}
use Rattle.lw_script.proofs.ReadPlans.{none_due, placed_pairs, plan_is, plan_runs, input_is}
use Rattle.lw_script.proofs.finish.input.Goals as goal

pub new-plan-requires : goal.new-plan-requires
new-plan-requires c =
    let r = c.args.reader in
    let n = c.args.names in
    let h = c.requires.read in
    let k = h.2 in
    let due = none_due r h c.requires.ended in
    plan_runs r h c.requires.ended _ (plan_is h.0 r h.1 k due c.sizes-sizes.result n.slot_names.items n.task_names.items n.bitmap_names.items n.pairs.items c.assets_of.result (c.sizes-sizes.ensures h.0 h.1 k) c.requires.named.slots c.requires.named.tasks c.requires.named.bitmaps (c.requires.named.windows ∙ placed_pairs (targets r.tasks.layer_names.keys) r.tasks.pairs.items) (c.assets_of.ensures.glyphs (λ i. (told h.1).glyphs (32 + i)) k.assets.glyphs) c.assets_of.ensures.bitmaps)

pub returns : goal.returns
returns c = λ s above k.
    (let r = c.args.reader in
    let n = c.args.names in
    let due = none_due r c.requires.read c.requires.ended in
    let same = plan_is s r above k due c.sizes-sizes.result n.slot_names.items n.task_names.items n.bitmap_names.items n.pairs.items c.assets_of.result (c.sizes-sizes.ensures s above k) c.requires.named.slots c.requires.named.tasks c.requires.named.bitmaps (c.requires.named.windows ∙ placed_pairs (targets r.tasks.layer_names.keys) r.tasks.pairs.items) (c.assets_of.ensures.glyphs (λ i. (told above).glyphs (32 + i)) k.assets.glyphs) c.assets_of.ensures.bitmaps in
    input_is s above c.args.rest c.new-plan.result c.new.result (c.new-plan.ensures ∙ same) (c.new.ensures ∙ k.order))
