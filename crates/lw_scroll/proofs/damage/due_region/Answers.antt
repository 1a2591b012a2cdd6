use Rattle.std.proofs.Common.{not, ◌&&◌, ◌||◌, ◌∙◌, ap}
use Rattle.lw_region.specs.Bands.{covers}
use Rattle.lw_region.proofs.SetOps.{combined_lists}
use Rattle.lw_scroll.proofs.MarkLaws.{due_pixel}
use Rattle.lw_scroll.proofs.damage.due_region.Goals as goal

pub returns : goal.returns
returns c = λ x y.
    let former = c.args.former.now in
    let reached = c.args.reached in
    let hurt = c.args.hurt.now in
    let left = (combined_lists.differences former reached _ (rw (c.rects.ensures.value, c.rects-2.ensures.value) at c.in_ok-due.ensures)).pixels x y in
    let taken = (combined_lists.intersections reached hurt _ c.in_ok-and_region.ensures.list).pixels x y in
    let both = (combined_lists.unions _ _ _ c.in_ok-or_region.ensures.list).pixels x y in
    both
    ∙ (ap (λ w. w || covers c.and_region.new.into x y)
    left
    ∙ (ap (λ w. (covers former x y && not (covers reached x y)) || w) taken
    ∙ due_pixel (covers former x y) (covers reached x y) (covers hurt x y)))
