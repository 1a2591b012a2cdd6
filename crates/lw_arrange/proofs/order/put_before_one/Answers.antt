use Rattle.std.proofs.Common.{◌==◌, sym, ap, ◌∙◌}
use Rattle.std.specs.List.{insert, position_or_len}
use Rattle.lw_arrange.proofs.OrderLaws.{put_before_is_insert, put_so}
use Rattle.lw_arrange.proofs.order.put_before_one.Goals as goal

pub returns : goal.returns
returns c =
    let us = c.args.order.items in
    let place = c.place_of-place.ensures.value ∙ ap (λ l. position_or_len (λ t. t == c.args.other) l) c.as_slice.ensures.value in
    let e = ap (λ n. insert us n c.args.slot) place ∙ sym (put_before_is_insert (λ t. t == c.args.other) c.args.slot us) in
    put_so (λ v. v.items) c.put_at.result _ _ e c.put_at.ensures
