use Rattle.std.proofs.Common.{ap, map, option_map, slice_set, None, ◌∙◌}
use Rattle.std.proofs.lemmas.List.{map-set}
use Rattle.lw_backfill.proofs.shelf.Shelf.take.Goals as goal

pub returns-clause-shelf : goal.returns-clause-shelf
returns-clause-shelf g c =
    map-set (λ held. option_map g.B.Backfill.hook held) c.self.inside.hooks.items c.args.hook c.take.new.self ∙
    (ap (λ held. slice_set (map (λ k. option_map g.B.Backfill.hook k) c.self.inside.hooks.items) c.args.hook (option_map g.B.Backfill.hook held)) c.take.ensures.after ∙
    ap (λ hooks. slice_set hooks c.args.hook None) c.self.view_is)
