use Rattle.lw_line_additions.proofs.Addable.{task_new}
use Rattle.lw_line_additions.proofs.Passing.{assets_pass}
use Rattle.std.proofs.Common.{refl}
use Rattle.lw_grammar.specs.Statements.{TaskLine}
use Rattle.lw_line_additions.proofs.adding.add_task.Goals as goal

pub add_task-requires : goal.add_task-requires
add_task-requires c = record { new = task_new c.args.reader.now c.args.name.now c.requires }

pub returns : goal.returns
returns c = λ s above k.
    let f = TaskLine c.args.name.now in
    record {
      hooks = k.hooks;
      form = k.form;
      version = k.version;
      section = refl;
      width = k.width;
      height = k.height;
      depth = k.depth;
      assets = assets_pass c.args.reader.now.assets above f refl k.assets;
      tasks = c.in_ok-add_task.ensures above k.tasks;
      order = k.order;
    }
