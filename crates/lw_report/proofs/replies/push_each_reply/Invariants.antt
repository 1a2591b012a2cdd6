use Rattle.std.proofs.Common.{◌≡◌, ◌++◌, take}
use Rattle.std.specs.List.{flat_map}
use Rattle.lw_calls.specs.Written.{line_of}
use Rattle.lw_machine.specs.Report.{reply_text}
use Rattle.lw_report.proofs.replies.push_each_reply.Given as goal

abbrev pub invariant-loop-reply : goal.invariant-loop-reply
invariant-loop-reply l = l.out.items ≡ l.initial.out.items ++ flat_map (λ r. line_of (reply_text l.names r)) (take l.reply-index l.replies)
