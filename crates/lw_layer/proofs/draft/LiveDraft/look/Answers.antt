use Rattle.std.proofs.Common.{sym}
use Rattle.lw_cliprects.specs.Parts.{hidden_of, AreDivided}
use Rattle.lw_layer.proofs.SoundLaws.{live_sound}
use Rattle.lw_layer.proofs.draft.LiveDraft.look.Goals as goal

pub returns-clause-sound : goal.returns-clause-sound
returns-clause-sound c =
    let d = c.args.self.now in
    let divided : AreDivided d.bounds d.parts.visible (hidden_of d.bounds d.parts.visible) = rw (sym c.requires.place.bounds) (rw c.hidden.ensures.value at c.hidden.ensures.divided) in
    live_sound d c.requires c.min_x.ensures.ordered c.visible.ensures.canonical divided
