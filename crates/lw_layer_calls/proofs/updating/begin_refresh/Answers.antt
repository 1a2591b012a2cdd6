use Rattle.std.proofs.Common.{true, false, ◌∙◌, sym}
use Rattle.lw_layer_calls.proofs.UpdatingLaws.{begin_foreign, begin_in_update, begin_step}
use Rattle.lw_layer_calls.proofs.WindowLaws.{foreign_told}
use Rattle.lw_layer_calls.proofs.updating.begin_refresh.Goals as goal

pub returns-then-is_other : goal.returns-then-is_other
returns-then-is_other c =
    λ slot.
    begin_foreign c.args.task slot c.args.layer.now (foreign_told c.args.task c.args.layer.now c.look-look.result c.is_other.result true c.look-look.ensures.look c.is_other.ensures c.if-is_other.true)

pub returns-then-look : goal.returns-then-look
returns-then-look c =
    λ slot.
    begin_in_update c.args.task slot c.args.layer.now (foreign_told c.args.task c.args.layer.now c.look-look.result c.is_other.result false c.look-look.ensures.look c.is_other.ensures c.if-is_other.false)
    (sym c.look-look.ensures.look.updating ∙ c.if-look.true)

pub returns : goal.returns
returns c =
    λ slot.
    begin_step c.args.task slot c.args.layer.now c.begin_update.new.self (foreign_told c.args.task c.args.layer.now c.look-look.result c.is_other.result false c.look-look.ensures.look c.is_other.ensures c.if-is_other.false)
    (sym c.look-look.ensures.look.updating ∙ c.if-look.false) c.begin_update.ensures
