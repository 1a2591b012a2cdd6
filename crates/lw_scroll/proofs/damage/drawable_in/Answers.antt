use Rattle.std.proofs.Common.{Bool, ◌&&◌, ◌∙◌, sym, ap}
use Rattle.lw_region.specs.Rectangle.{has_pixel}
use Rattle.lw_region.specs.Bands.{covers}
use Rattle.lw_region.proofs.SetOps.{combined_lists}
use Rattle.lw_machine.specs.Kept.{holds_at}
use Rattle.lw_layer.specs.View.{keeps, draws}
use Rattle.lw_scroll.specs.Marks.{clip_has, is_damaged}
use Rattle.lw_scroll.proofs.MarkLaws.{former_marks, drawable_is, drawn_updating, drawn_idle, alone_pixel}
use Rattle.lw_scroll.proofs.damage.drawable_in.Goals as goal
use Rattle.lw_scroll.proofs.damage.drawable_in.Goals.{then-updating+in_ok-and_region-2, else-updating}

pub returns : goal.returns
returns c = λ x y.
    let v = c.args.layer.now in
    let target = c.args.target.now in
    let former = c.args.former.now in
    let kept : Bool = holds_at (λ i j. keeps v i j) x y in
    let clip : Bool = clip_has v.layer.clip x y in
    let alone = alone_pixel c.new-reached.result _ target x y c.new-reached.ensures c.in_ok-or_rect.ensures.list in
    let met = (combined_lists.intersections _ c.args.kept.now _ c.in_ok-and_region.ensures.list).pixels x y in
    let cut =
    c.in_ok-meet_clip.ensures x y
    ∙ ap (λ t. t && clip)
    (met ∙ (ap (λ t. t && covers c.args.kept.now x y) alone ∙ ap (λ t. has_pixel target x y && t) (c.requires.kept x y)))
    in
    elim c.if-updating.branch [
      | then-updating+in_ok-and_region-2 w ↦
          ap (λ l. covers l x y) w.reached-is
          ∙ drawn_updating _ _ (has_pixel target x y) kept clip v.layer.updating (is_damaged v x y)
          (holds_at (λ i j. draws v i j) x y)
          (sym c.requires.former.updating ∙ (sym c.updating.ensures ∙ w.if-updating.true)) cut
          ((combined_lists.intersections _ _ _ w.in_ok-and_region-2.ensures.list).pixels x y
          ∙ ap (λ t. covers c.meet_clip.new.into x y && t)
          (ap (λ l. covers l x y) w.region.ensures.value ∙ former_marks v former c.requires.former x y))
          (drawable_is v x y)
      | else-updating w ↦
          ap (λ l. covers l x y) w.reached-is
          ∙ drawn_idle _ (has_pixel target x y) kept clip v.layer.updating (is_damaged v x y)
          (holds_at (λ i j. draws v i j) x y)
          (sym c.requires.former.updating ∙ (sym c.updating.ensures ∙ w.if-updating.false)) cut (drawable_is v x y)
    ]
