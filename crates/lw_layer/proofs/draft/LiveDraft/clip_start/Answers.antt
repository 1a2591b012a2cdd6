use Rattle.std.proofs.Common.{List, Option, sym, subst}
use Rattle.lw_region.specs.Rectangle.{Rectangle}
use Rattle.lw_machine.specs.Kept.{in_clip}
use Rattle.lw_layer.specs.Drafts.{clip_set}
use Rattle.lw_layer.specs.Code.{IsStart}
use Rattle.lw_layer.proofs.StartLaws.{clip_start_some}
use Rattle.lw_layer.proofs.draft.LiveDraft.clip_start.Goals as goal

pub returns-in-Some : goal.returns-in-Some
returns-in-Some c =
    let P : Option (List Rectangle) → Type 0 = λ o. IsStart (λ u. in_clip (clip_set o) u c.args.y) c.args.x c.start.result in
    subst P (sym c.in-Some.is) (clip_start_some c.in-Some.region c.args.x c.args.y c.start.result c.start.ensures)
