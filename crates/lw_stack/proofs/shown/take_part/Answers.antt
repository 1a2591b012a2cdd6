use Rattle.std.proofs.lemmas.Result.{on_ok_weaker}
use Rattle.lw_stack.proofs.AreaLaws.{part_added, part_taken}
use Rattle.lw_stack.proofs.shown.take_part.Goals as goal

pub returns-clause-rest : goal.returns-clause-rest
returns-clause-rest c =
    on_ok_weaker c.clear_rect.result (part_taken c.args.rest.now c.clear_rect.new.self c.args.rect.now) c.clear_rect.ensures.list

pub returns-clause-sets : goal.returns-clause-sets
returns-clause-sets c =
    on_ok_weaker c.clear_rect.result
    (λ _. part_added c.args.rest.now c.in_ok-part.part c.args.rect.now c.args.slot c.args.sets.now.items c.add.new.self.items
    (rw (c.rects.ensures.value, c.as_list.ensures.value) at c.in_ok-part.ensures) c.in_ok-add.ensures.sets) c.clear_rect.ensures.list
