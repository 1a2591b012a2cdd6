use Rattle.std.proofs.Common.{◌∙◌, sym}
use Rattle.lw_reveal.proofs.GainedCounts.{IsFrame, frame_read, frameless_counts, same_counts, same_place}
use Rattle.lw_reveal.proofs.damage.counted_region.Goals as goal
use Rattle.lw_reveal.proofs.damage.counted_region.Goals.{then-not-look-via-then-not-look, then-not-look-via-else-not-look+then-eq}

pub returns-then-not-look : goal.returns-then-not-look
returns-then-not-look c =
    let live = c.args.layer.now in
    let bounds = c.args.bounds.now in
    let kept = c.in_ok-kept.kept in
    let look = c.look-look.result in
    let sees = c.look-look.ensures.look in
    let former = c.inner_rectangle-former.result in
    let new = c.inner_rectangle-new.result in
    let read : IsFrame live bounds kept look.framed former new =
    frame_read live bounds look.bounds look.kind c.visible.result.now kept look.framed former new sees.kind sees.bounds c.visible.ensures.value sees.framed
    c.in_ok-kept.ensures.kept c.inner_rectangle-former.ensures c.inner_rectangle-new.ensures
    in
    elim c.then-not-look.branch [
      | then-not-look-via-then-not-look w ↦ frameless_counts live bounds kept look.framed former new read w.if-not-look.true
      | then-not-look-via-else-not-look+then-eq w ↦
          same_counts live bounds kept look.framed former new read (same_place former new (sym w.eq.ensures ∙ w.if-eq.true))
    ]
