use Rattle.std.proofs.Common.{refl, ap, ◌∙◌, unsigned_abs, w64, arith}
use Rattle.lw_grammar.specs.Statements.{ScreenLine, version_at_screen}
use Rattle.lw_line_additions.proofs.Addable.{screen_ranged, count_64}
use Rattle.lw_line_additions.proofs.Passing.{assets_pass, tasks_pass}
use Rattle.std.proofs.lemmas.Int.{to_z-of_z}
use Rattle.lw_line_additions.proofs.adding.add_screen.Goals as goal

pub count-reader-requires : goal.count-reader-requires
count-reader-requires c =
    count_64 c.args.width 2048 (omega arith) (screen_ranged c.args.reader.now c.args.width c.args.height c.args.depth c.requires).width

pub count-reader-requires-2 : goal.count-reader-requires-2
count-reader-requires-2 c =
    count_64 c.args.height 2048 (omega arith) (screen_ranged c.args.reader.now c.args.width c.args.height c.args.depth c.requires).height

pub count-reader-requires-3 : goal.count-reader-requires-3
count-reader-requires-3 c =
    count_64 c.args.depth 8 (omega arith) (screen_ranged c.args.reader.now c.args.width c.args.height c.args.depth c.requires).depth

pub returns : goal.returns
returns c = λ s above k.
    let f = ScreenLine c.args.width c.args.height c.args.depth in
    record {
      hooks = k.hooks;
      form = k.form;
      version = c.version_at_screen-reader.ensures ∙ ap version_at_screen k.version;
      section = refl;
      width = c.count-reader.ensures ∙ ap unsigned_abs (to_z-of_z w64 c.args.width c.ranges.width);
      height = c.count-reader-2.ensures ∙ ap unsigned_abs (to_z-of_z w64 c.args.height c.ranges.height);
      depth = c.count-reader-3.ensures ∙ ap unsigned_abs (to_z-of_z w64 c.args.depth c.ranges.depth);
      assets = assets_pass c.args.reader.now.assets above f refl k.assets;
      tasks = tasks_pass c.args.reader.now.tasks above f refl k.tasks;
      order = k.order;
    }
