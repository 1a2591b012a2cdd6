use Rattle.std.proofs.Common.{◌∙◌, sym, ap}
use Rattle.lw_windows.specs.Messages.{listed}
use Rattle.lw_frames.specs.Telling.{with_put, as_asked}
use Rattle.lw_frames.proofs.TellingLaws.{five_put, as_unasked}
use Rattle.lw_frames.proofs.telling.put_all.Goals as goal

pub returns-else-due : goal.returns-else-due
returns-else-due c =
    let v = c.args.layer.now in
    let due = c.args.due.now in
    five_put v c.put_if.new.layer c.put_if-2.new.layer c.put_if-3.new.layer c.put_if-4.new.layer c.put_if-5.new.layer _ _ _ _ _ c.put_if.ensures c.put_if-2.ensures c.put_if-3.ensures c.put_if-4.ensures c.put_if-5.ensures
    ∙ as_unasked (with_put (listed due) v)
    ∙ ap (λ t. as_asked t (with_put (listed due) v)) (sym c.if-due.false)
