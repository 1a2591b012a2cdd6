use Rattle.std.proofs.Common.{List, Option, sym, subst}
use Rattle.lw_region.specs.Rectangle.{Rectangle}
use Rattle.lw_machine.specs.Kept.{in_clip}
use Rattle.lw_layer.specs.Drafts.{clip_set}
use Rattle.lw_layer.specs.Code.{IsReach}
use Rattle.lw_layer.proofs.ReachLaws.{clip_reach_some}
use Rattle.lw_layer.proofs.draft.LiveDraft.clip_reach.Goals as goal

pub returns-in-Some : goal.returns-in-Some
returns-in-Some c =
    let P : Option (List Rectangle) → Type 0 = λ o. IsReach (λ u. in_clip (clip_set o) u c.args.y) c.args.x c.args.len c.reach.result in
    subst P (sym c.in-Some.is) (clip_reach_some c.in-Some.region c.args.x c.args.y c.args.len c.reach.result c.reach.ensures)
