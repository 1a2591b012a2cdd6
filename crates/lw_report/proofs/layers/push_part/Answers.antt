use Rattle.std.proofs.Common.{[], None, ◌∙◌, ap}
use Rattle.std.specs.List.{slice_index_or}
use Rattle.std.proofs.lemmas.List.{get_or_default}
use Rattle.lw_machine.specs.Report.{of_seen}
use Rattle.lw_report.specs.Words.{part_text}
use Rattle.lw_text_output.proofs.Pieces.{piece_written}
use Rattle.lw_report.proofs.layers.push_part.Goals as goal

pub loop-slot-preserved : goal.loop-slot-preserved
loop-slot-preserved c =
    let seen = c.index-slots-slot.is ∙ get_or_default c.args.slots.now c.loop-slot.slot c.index-slots-slot.result None c.loop-slot-test.true in
    piece_written (λ s. of_seen (part_text c.args.part (slice_index_or c.args.names.now s [])) (slice_index_or c.args.slots.now s None)) _ _ _ _ c.loop-slot.slot
    c.loop-slot.invariant c.in_ok-push_slot.ensures
    (ap (λ name. of_seen (part_text c.args.part name) c.index-slots-slot.result) c.name_of.ensures ∙ ap (of_seen (part_text c.args.part _)) seen)
