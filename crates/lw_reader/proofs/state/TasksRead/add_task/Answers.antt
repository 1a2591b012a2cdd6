use Rattle.std.proofs.Common.{[], ◌∷◌, ◌++◌, refl, ap, ◌∙◌}
use Rattle.lw_words.specs.Cuts.{targets}
use Rattle.lw_reader.proofs.ListsOfLists.{begun}
use Rattle.lw_reader.proofs.NamesAdded.{name_added}
use Rattle.lw_reader.proofs.state.TasksRead.add_task.Goals as goal

pub returns : goal.returns
returns c = λ above s.
    let ks = c.args.self.now.task_names.keys in
    record {
      tasks = ap targets c.in_ok-insert.ensures.keys ∙ name_added ks c.args.name c.requires.new ∙ ap (λ ns. ns ++ c.args.name.now ∷ []) s.tasks;
      names = s.names;
      names_without_slot = s.names_without_slot;
      pairs = s.pairs;
      supers = s.supers;
      names_hook = s.names_hook;
      group = s.group;
      calls_before_group = s.calls_before_group;
      calls_in_task = refl;
      calls = begun _ _ _ c.new.result _ s.calls c.in_ok-push.ensures.items c.new.ensures.items;
      groups = begun _ _ _ c.new-2.result _ s.groups c.in_ok-push-2.ensures.items c.new-2.ensures.items;
    }
