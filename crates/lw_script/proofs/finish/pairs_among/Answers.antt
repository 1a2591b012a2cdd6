use Rattle.std.proofs.Common.{[]}
use Rattle.lw_words.specs.Cuts.{targets}
use Rattle.lw_reader.specs.declared.state.NamedPair.{NamedPair}
use Rattle.lw_script.proofs.ReadPlans.{one_placed}
use Rattle.lw_script.proofs.finish.pairs_among.Goals as goal

pub loop-pair-preserved : goal.loop-pair-preserved
loop-pair-preserved c =
    let none : NamedPair = record { outer = record { ref_ptr = (0, 0); now = [] }; inner = record { ref_ptr = (0, 0); now = [] } } in
    one_placed (targets c.args.names.now.keys) c.args.pairs.now c.loop-pair.pair-index none c.loop-pair.slots.items c.push.new.self.items c.pair_among.result c.loop-pair-test.true c.loop-pair.invariant c.pair_among.ensures c.in_ok-push.ensures.items
