use Rattle.std.proofs.Common.{◌≡◌, ap, map, option_map, Some, None, ◌∙◌, sym}
use Rattle.std.specs.List.{slice_index_or}
use Rattle.std.proofs.lemmas.Iterator.Adapters.{YieldsList-from_vec}
use Rattle.std.proofs.lemmas.Iterator.Consumers.{YieldsList-end}
use Rattle.std.proofs.lemmas.List.{map-id}
use Rattle.lw_backfill.proofs.ShelfLaws.{all_there}
use Rattle.lw_backfill.proofs.shelf.Shelf.new.Goals as goal

pub returns : goal.returns
returns g c =
    let hooks = c.args.hooks in
    let given = c.into_iter-hook-iterator.ensures.into_iter_gives in
    let yields = YieldsList-from_vec {s = c.into_iter-hook-iterator.result} hooks.items given.0 (given.1 ∙ hooks.ok.0) in
    let end = YieldsList-end yields c.loop-hook.yielded c.loop-hook.hook-iterator c.loop-hook.yielded_by c.next.result c.next.new.self c.in-None.is c.next.ensures.steps in
    let all : c.loop-hook.yielded ≡ hooks.items = sym (map-id c.loop-hook.yielded) ∙ end.0 in
    λ n. ap (λ held. slice_index_or (map (λ h. option_map g.B.Backfill.hook h) held) n None) (c.loop-hook.invariant ∙ ap (λ xs. map (λ x. Some x) xs) all) ∙
    all_there g.B.Backfill.hook hooks.items n
