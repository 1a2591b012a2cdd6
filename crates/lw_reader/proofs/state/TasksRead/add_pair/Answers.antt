use Rattle.std.proofs.Common.{[], ◌∷◌, ◌++◌, map, ap, ◌∙◌}
use Rattle.lw_reader.specs.ReaderKnows.{pair_meaning}
use Rattle.std.proofs.lemmas.List.{map-append}
use Rattle.lw_reader.proofs.state.TasksRead.add_pair.Goals as goal

pub returns : goal.returns
returns c = λ above s.
    let ps = c.args.self.now.pairs.items in
    let p = c.args.pair.now in
    record {
      tasks = s.tasks;
      names = s.names;
      names_without_slot = s.names_without_slot;
      pairs = ap (map pair_meaning) c.in_ok-push.ensures.items ∙ map-append pair_meaning ps (p ∷ []) ∙ ap (λ qs. qs ++ pair_meaning p ∷ []) s.pairs;
      supers = s.supers;
      names_hook = s.names_hook;
      group = s.group;
      calls_before_group = s.calls_before_group;
      calls_in_task = s.calls_in_task;
      calls = s.calls;
      groups = s.groups;
    }
