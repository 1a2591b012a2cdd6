use Rattle.lw_final_state.proofs.SeenLaws.{visible_top}
use Rattle.lw_final_state.proofs.seeing.visible.Goals as goal

pub returns : goal.returns
returns c = visible_top c.args.info.now c.args.slot c.in_ok-region.region c.rects.ensures.canonical c.in_ok-region.ensures
