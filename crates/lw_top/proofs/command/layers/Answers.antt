use Rattle.std.proofs.Common.{List, ℕ, subst}
use Rattle.lw_io.specs.Streams.{change}
use Rattle.lw_top.specs.declared.status.Status.TheVariants.{Usage}
use Rattle.lw_top.specs.Status.{Says}
use Rattle.lw_top.proofs.command.layers.Goals as goal

pub returns-in-None-clause-usage : goal.returns-in-None-clause-usage
returns-in-None-clause-usage g c =
    λ none. subst (λ (text : List ℕ). Says text Usage c.say.result (change g.K.Sink.written g.K.Sink.faults c.args.sink.now c.say.new.sink)) c.as_bytes.ensures.value c.say.ensures.said
