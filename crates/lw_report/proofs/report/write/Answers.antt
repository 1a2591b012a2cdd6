use Rattle.std.proofs.Common.{◌≡◌, ◌++◌, ◌∙◌, ap, subst}
use Rattle.lw_calls.specs.Final.{Final}
use Rattle.lw_machine.specs.Report.{order_part, visible_text, damage_text, messages_text, report}
use Rattle.lw_report.proofs.Whole.{parts_written, slots_as_given, replies_as_given}
use Rattle.lw_report.proofs.report.write.Goals as goal

pub returns : goal.returns
unfolding report
returns c =
    let names = c.slot_names-names.ensures in
    let slots = c.as_slice-slots.ensures.value in
    let tasks = c.task_names.ensures in
    let answers = c.as_slice.ensures.value in
    let P : Final → Type 0 = λ last. c.push_line.new.out.items ≡ report c.args.plan.now c.args.order.now last in
    subst P c.last.view_is
    (parts_written _ _ _ _ _ _ _ c.push_order.new.out.items c.push_planes.new.out.items c.push_part.new.out.items c.push_part-2.new.out.items c.push_part-3.new.out.items c.push_replies.new.out.items c.push_line.new.out.items
    (c.in_ok-push_order.ensures ∙ (ap (λ xs. xs ++ order_part c.tasks.result.now) c.new-out.ensures.items ∙ ap order_part c.tasks.ensures))
    c.in_ok-push_planes.ensures
    (slots_as_given visible_text _ _ names slots c.in_ok-push_part.ensures)
    (slots_as_given damage_text _ _ names slots c.in_ok-push_part-2.ensures)
    (slots_as_given messages_text _ _ names slots c.in_ok-push_part-3.ensures)
    (replies_as_given _ _ names tasks answers c.in_ok-push_replies.ensures)
    c.in_ok-push_line.ensures.ok)
