use Rattle.lw_layer.proofs.StartLaws.{drawn_start_is}
use Rattle.lw_layer.proofs.draft.LiveDraft.drawn_start.Goals as goal

pub returns : goal.returns
returns c = drawn_start_is c.args.self.now c.args.x c.args.y c.kept_start-kept.result c.open_start.result c.requires.row c.kept_start-kept.ensures c.open_start.ensures
