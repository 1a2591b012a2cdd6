use Rattle.std.proofs.Common.{rules}
use Rattle.std.proofs.lemmas.Result.{on_ok_weaker, on_err_weaker}
use Rattle.lw_text_output.specs.Words.{Keeps}
use Rattle.lw_text_output.proofs.Kept.{kept_after}
use Rattle.lw_text_output.proofs.FourBounds.{bound_read, bounds_written}
use Rattle.lw_text_output.proofs.bounds.push_bounds.Goals as goal

pub returns-clause-ok : goal.returns-clause-ok
returns-clause-ok c =
    on_ok_weaker c.push_spaced_signed-3.result
    (bounds_written c.args.rect.now _ _ _ _ _ _ _ _ _
    (bound_read c.min_x.result _ (search rules) c.min_x.ensures.value)
    (bound_read c.min_y.result _ (search rules) c.min_y.ensures.value)
    (bound_read c.max_x.result _ (search rules) c.max_x.ensures.value)
    (bound_read c.max_y.result _ (search rules) c.max_y.ensures.value)
    c.in_ok-push_signed.ensures.ok c.in_ok-push_spaced_signed.ensures.ok c.in_ok-push_spaced_signed-2.ensures.ok)
    c.push_spaced_signed-3.ensures.ok

pub returns-in_err-push_spaced_signed-2-clause-err : goal.returns-in_err-push_spaced_signed-2-clause-err
returns-in_err-push_spaced_signed-2-clause-err c =
    let kept : Keeps c.args.out.now.items c.push_spaced_signed-2.new.out.items = kept_after _ _ _ _ c.in_ok-push_signed.ensures.ok (kept_after _ _ _ _ c.in_ok-push_spaced_signed.ensures.ok c.in_err-push_spaced_signed-2.ensures.err) in
    search rules

pub returns-clause-err : goal.returns-clause-err
returns-clause-err c =
    on_err_weaker c.push_spaced_signed-3.result
    (λ kept. kept_after _ _ _ _ c.in_ok-push_signed.ensures.ok (kept_after _ _ _ _ c.in_ok-push_spaced_signed.ensures.ok (kept_after _ _ _ _ c.in_ok-push_spaced_signed-2.ensures.ok kept)))
    c.push_spaced_signed-3.ensures.err
