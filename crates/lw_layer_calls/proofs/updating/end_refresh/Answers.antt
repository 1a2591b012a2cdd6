use Rattle.std.proofs.Common.{true, false, not, ◌∙◌, sym, ap}
use Rattle.lw_layer_calls.proofs.UpdatingLaws.{end_foreign, end_not_in_update, end_step}
use Rattle.lw_layer_calls.proofs.WindowLaws.{foreign_told}
use Rattle.lw_layer_calls.proofs.updating.end_refresh.Goals as goal

pub returns-then-is_other : goal.returns-then-is_other
returns-then-is_other c =
    λ slot.
    end_foreign c.args.task slot c.args.layer.now c.args.full (foreign_told c.args.task c.args.layer.now c.look-look.result c.is_other.result true c.look-look.ensures.look c.is_other.ensures c.if-is_other.true)

pub returns-then-not-look : goal.returns-then-not-look
returns-then-not-look c =
    λ slot.
    end_not_in_update c.args.task slot c.args.layer.now c.args.full (foreign_told c.args.task c.args.layer.now c.look-look.result c.is_other.result false c.look-look.ensures.look c.is_other.ensures c.if-is_other.false)
    (sym (ap not c.look-look.ensures.look.updating) ∙ c.if-not-look.true)

pub returns : goal.returns
returns c =
    λ slot.
    end_step c.args.task slot c.args.layer.now c.end_update.new.self c.args.full (foreign_told c.args.task c.args.layer.now c.look-look.result c.is_other.result false c.look-look.ensures.look c.is_other.ensures c.if-is_other.false)
    (sym (ap not c.look-look.ensures.look.updating) ∙ c.if-not-look.false) c.end_update.ensures
