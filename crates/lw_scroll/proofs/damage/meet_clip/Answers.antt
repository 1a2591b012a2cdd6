use Rattle.lw_region.proofs.SetOps.{combined_lists}
use Rattle.lw_scroll.proofs.MarkLaws.{clip_met, clip_none}
use Rattle.lw_scroll.proofs.damage.meet_clip.Goals as goal

pub returns-in_ok-and_region : goal.returns-in_ok-and_region
returns-in_ok-and_region c = λ x y.
    let both = (combined_lists.intersections _ _ _ c.in_ok-and_region.ensures.list).pixels x y in
    clip_met c.args.into.now c.and_region.new.into c.args.layer.now.layer.clip c.in-Some.clip.now x y c.in-Some.ensures both

pub returns-in_default : goal.returns-in_default
returns-in_default c = λ x y. clip_none c.args.into.now c.args.layer.now.layer.clip x y c.in_default.ensures
