use Rattle.lw_layer.proofs.StartLaws.{kept_start_simple}
use Rattle.lw_layer.proofs.draft.LiveDraft.kept_start.Goals as goal

pub returns-in-Simple : goal.returns-in-Simple
returns-in-Simple c = kept_start_simple c.args.self.now c.args.x c.args.y c.shown_start.result c.in-Simple.is c.requires.column c.requires.row c.shown_start.ensures
