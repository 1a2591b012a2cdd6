use Rattle.std.proofs.Common.{sym, ap, ◌∙◌}
use Rattle.std.specs.List.{insert, position_or_len}
use Rattle.lw_arrange.specs.Planning.{is_backdrop_at}
use Rattle.lw_arrange.proofs.OrderLaws.{put_before_is_insert, put_so}
use Rattle.lw_arrange.proofs.order.put_before_backdrops.Goals as goal

pub returns : goal.returns
returns c =
    let us = c.args.order.items in
    let test = is_backdrop_at c.args.looks.now in
    let place = c.first_backdrop-place.ensures.value ∙ ap (λ l. position_or_len test l) c.as_slice.ensures.value in
    let e = ap (λ n. insert us n c.args.slot) place ∙ sym (put_before_is_insert test c.args.slot us) in
    put_so (λ v. v.items) c.put_at.result _ _ e c.put_at.ensures
