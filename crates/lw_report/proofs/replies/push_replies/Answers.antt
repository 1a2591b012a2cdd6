use Rattle.std.proofs.Common.{[], ◌∙◌, ap}
use Rattle.std.specs.List.{slice_index_or}
use Rattle.std.proofs.lemmas.List.{get_or_default}
use Rattle.lw_machine.specs.Report.{reply_lines}
use Rattle.lw_text_output.proofs.Pieces.{piece_written}
use Rattle.lw_report.proofs.replies.push_replies.Goals as goal

pub loop-task-preserved : goal.loop-task-preserved
loop-task-preserved c =
    let list = c.list.ensures ∙ (c.index-replies-task.is ∙ get_or_default c.args.replies.now c.loop-task.task c.index-replies-task.result [] c.loop-task-test.true) in
    piece_written (λ t. reply_lines c.args.names.now (slice_index_or c.args.tasks.now t []) (slice_index_or c.args.replies.now t [])) _ _ _ _ c.loop-task.task
    c.loop-task.invariant c.in_ok-push_task.ensures
    (ap (λ n. reply_lines c.args.names.now n c.list.result.now) c.name_of.ensures ∙ ap (reply_lines c.args.names.now _) list)
