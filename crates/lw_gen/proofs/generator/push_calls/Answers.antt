use Rattle.std.proofs.Common.{◌≡◌, suc, ◌+◌, ◌-◌, arith}
use Rattle.lw_gen.proofs.Drawn.{drawn}
use Rattle.lw_gen.proofs.generator.push_calls.Goals as goal

pub loop-preserved : goal.loop-preserved
loop-preserved c =
    let more = c.loop-test.true in
    let many : c.args.count - c.loop.counter ≡ suc (c.args.count - (c.loop.counter + 1)) = omega (arith, more) in
    drawn c.loop.calls.items c.push.new.self.items _ (c.args.count - c.loop.counter)
    (c.args.count - (c.loop.counter + 1)) c.args.first c.args.columns c.loop.word c.call_after-call.result many
    c.call_after-call.ensures c.in_ok-push.ensures.items c.loop.invariant
