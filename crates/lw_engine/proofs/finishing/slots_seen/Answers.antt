use Rattle.std.proofs.Common.{◌∙◌, sym, ap, arith}
use Rattle.lw_final_state.specs.Shown.{seen_in}
use Rattle.lw_engine.specs.Desks.{cell_at}
use Rattle.lw_engine.specs.Slots.{hook_in}
use Rattle.lw_engine.proofs.FinishedLast.{more_mapped, cell_read}
use Rattle.lw_engine.proofs.HookedLaws.{seen_hooked}
use Rattle.lw_engine.proofs.finishing.slots_seen.Goals as goal

pub loop-slot-preserved : goal.loop-slot-preserved
loop-slot-preserved g c =
    let info = c.args.info.now in
    let cells = c.args.slots.now in
    let n = c.loop-slot.slot-index in
    let read = cell_read cells n c.slot-item.result (omega (arith, c.loop-slot-test.true)) c.slot-item.is in
    more_mapped (λ s. seen_in info (cell_at cells s)) c.loop-slot.all.items c.push.new.self.items n _ c.loop-slot.invariant (c.in_ok-seen.ensures ∙ (seen_hooked info (hook_in c.slot-item.result) c.cell.result.now ∙ ap (seen_in info) (sym c.cell.ensures ∙ read))) c.in_ok-push.ensures.items
