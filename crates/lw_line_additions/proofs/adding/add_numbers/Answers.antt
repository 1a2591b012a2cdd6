use Rattle.std.proofs.Common.{◌++◌, map, unsigned_abs, ◌∙◌, ap, refl}
use Rattle.lw_grammar.specs.Statements.{NumbersLine}
use Rattle.lw_line_additions.proofs.Addable.{tests_of}
use Rattle.lw_line_additions.proofs.Passing.{assets_pass, tasks_pass, on_done}
use Rattle.lw_line_additions.proofs.adding.add_numbers.Goals as goal

pub push_numbers-requires : goal.push_numbers-requires
push_numbers-requires c = (tests_of c.args.reader.now (NumbersLine c.args.numbers.now) c.requires).range

pub returns : goal.returns
returns c = λ s above k.
    let f = NumbersLine c.args.numbers.now in
    on_done c.push_numbers.result _ _ (λ e.
    record {
      hooks = k.hooks;
      form = k.form;
      version = k.version;
      section = k.section;
      width = k.width;
      height = k.height;
      depth = k.depth;
      assets = assets_pass c.args.reader.now.assets above f refl k.assets;
      tasks = tasks_pass c.args.reader.now.tasks above f refl k.tasks;
      order = e ∙ ap (λ ns. ns ++ map unsigned_abs c.args.numbers.now) k.order;
    }) c.push_numbers.ensures
