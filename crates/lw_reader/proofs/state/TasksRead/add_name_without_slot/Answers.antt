use Rattle.std.proofs.Common.{ap, ◌∙◌}
use Rattle.lw_grammar.specs.Told.{and_name}
use Rattle.lw_words.specs.Cuts.{targets}
use Rattle.lw_reader.proofs.NamesAdded.{targets_insert}
use Rattle.lw_reader.proofs.state.TasksRead.add_name_without_slot.Goals as goal

pub returns : goal.returns
returns c = λ above s.
    record {
      tasks = s.tasks;
      names = s.names;
      names_without_slot = ap targets c.in_ok-insert.ensures.keys ∙ targets_insert c.args.self.now.names_without_slot.keys c.args.name ∙ ap (λ ns. and_name ns c.args.name.now) s.names_without_slot;
      pairs = s.pairs;
      supers = s.supers;
      names_hook = s.names_hook;
      group = s.group;
      calls_before_group = s.calls_before_group;
      calls_in_task = s.calls_in_task;
      calls = s.calls;
      groups = s.groups;
    }
