use Rattle.std.proofs.Common.{◌≡◌, ap, refl, arith}
use Rattle.lw_calls.specs.declared.sizes.Sizes.{Sizes}
use Rattle.lw_canonical.specs.Spelling.{written}
use Rattle.lw_canonical.specs.Canonical.{lines_of_task}
use Rattle.lw_text_output.proofs.Pieces.{piece_written}
use Rattle.lw_print.specs.Behind.{text_of}
use Rattle.lw_print.proofs.ManyLines.{pieces_text}
use Rattle.lw_print.proofs.whole.push_tasks.Goals as goal

pub loop-task-preserved : goal.loop-task-preserved
loop-task-preserved c =
    piece_written (λ t. text_of (lines_of_task c.args.plan.now t)) _ _ _ _ c.loop-task.task c.loop-task.invariant c.in_ok-push_task.ensures refl

pub returns : goal.returns
returns c =
    let count : c.sizes.result.now.tasks ≡ c.args.plan.now.sizes.tasks = ap (λ (s : Sizes). s.tasks) c.sizes.ensures.value in
    let end : c.loop-task.task ≡ c.args.plan.now.sizes.tasks = omega (arith, count, c.loop-task-test.false, c.loop-task.auto.task-end) in
    pieces_text written (lines_of_task c.args.plan.now) _ _ _ _ end c.loop-task.invariant
