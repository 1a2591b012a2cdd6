use Rattle.std.proofs.Common.{sym, ap, ◌∙◌}
use Rattle.std.specs.List.{insert}
use Rattle.lw_arrange.proofs.OrderLaws.{put_last_is_insert, put_so}
use Rattle.lw_arrange.proofs.order.put_last.Goals as goal

pub returns : goal.returns
returns c =
    let o = c.args.order in
    let e =
    ap (λ n. insert o.items n c.args.slot) (c.len-place.ensures ∙ o.ok.0) ∙ sym (put_last_is_insert c.args.slot o.items) in
    put_so (λ v. v.items) c.put_at.result _ _ e c.put_at.ensures
