-- One more write: the front that was written grows by what this write took.
use Rattle.std.proofs.Common.{◌∙◌, arith, length-drop}
use Rattle.std.proofs.lemmas.List.{take_rest}
use Rattle.lw_io.proofs.StreamLemmas.{written_more}
use Rattle.lw_io.proofs.writing.write_all.Goals as goal

pub loop-at-preserved : goal.loop-at-preserved
loop-at-preserved g c = record {
  in_range = grind (arith, length-drop);
  count = c.in_ok-at.ensures.not_failed ∙ c.loop-at.invariant.count;
  prefix = written_more c.loop-at.at _ c.args.bytes.now _ _ _ _ (take_rest c.args.bytes.now c.loop-at.at) c.loop-at.invariant.prefix c.in_ok-at.ensures.bytes;
}
