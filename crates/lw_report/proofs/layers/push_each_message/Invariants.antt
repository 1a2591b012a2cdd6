use Rattle.std.proofs.Common.{◌≡◌, ◌++◌, take}
use Rattle.std.specs.List.{flat_map}
use Rattle.lw_calls.specs.Written.{line_of}
use Rattle.lw_machine.specs.Report.{message_text}
use Rattle.lw_report.proofs.layers.push_each_message.Given as goal

abbrev pub invariant-loop-message : goal.invariant-loop-message
invariant-loop-message l = l.out.items ≡ l.initial.out.items ++ flat_map (λ m. line_of (message_text m)) (take l.message-index l.messages)
