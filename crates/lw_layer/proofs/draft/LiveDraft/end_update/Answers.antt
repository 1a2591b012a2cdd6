use Rattle.std.proofs.Common.{false, refl}
use Rattle.lw_layer.proofs.UpdateLaws.{update_ended, full_end_viewed}
use Rattle.lw_layer.proofs.WindowLaws.{window_changed}
use Rattle.lw_layer.proofs.draft.LiveDraft.end_update.Goals as goal

pub returns-then-full-clause-sound : goal.returns-then-full-clause-sound
returns-then-full-clause-sound c =
    window_changed _ c.set_asked.new.window (λ w. record w { asked = false }) c.set_asked.ensures.window (λ v. refl)
    (update_ended c.args.self.now c.end.new.self _ c.end.ensures c.requires)

pub returns-then-full-clause-view : goal.returns-then-full-clause-view
returns-then-full-clause-view c =
    full_end_viewed c.args.self.now c.end.new.self c.set_asked.new.window c.args.full c.if-full.true c.end.ensures c.set_asked.ensures.window c.set_asked.ensures.room

pub returns-else-full-clause-sound : goal.returns-else-full-clause-sound
returns-else-full-clause-sound c = update_ended c.args.self.now c.end.new.self _ c.end.ensures c.requires
