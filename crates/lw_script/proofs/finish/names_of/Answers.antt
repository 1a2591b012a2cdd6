use Rattle.std.proofs.Common.{map, ap, ◌∙◌}
use Rattle.lw_words.specs.Cuts.{targets}
use Rattle.lw_reader.specs.ReaderKnows.{placed}
use Rattle.lw_script.proofs.ReadPlans.{names_few}
use Rattle.lw_script.proofs.finish.names_of.Goals as goal

pub pairs_among-requires : goal.pairs_among-requires
pairs_among-requires c = names_few c.args.reader.now c.requires

pub returns : goal.returns
returns c =
    record {
      slots = c.in_ok-slot_names.ensures ∙ ap targets c.as_slice.ensures.keys;
      tasks = c.in_ok-task_names.ensures ∙ ap targets c.as_slice-2.ensures.keys;
      bitmaps = c.in_ok-bitmap_names.ensures ∙ ap targets c.as_slice-3.ensures.keys;
      windows = c.in_ok-pairs.ensures ∙ ap (map (placed (targets c.args.reader.now.tasks.layer_names.keys))) c.as_slice-4.ensures.value;
    }
