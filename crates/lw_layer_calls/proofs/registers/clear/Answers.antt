use Rattle.std.proofs.Common.{sym, subst, List}
use Rattle.lw_region.specs.Rectangle.{Rectangle}
use Rattle.lw_calls.specs.declared.call.Call.TheVariants.{RegClear}
use Rattle.lw_calls.specs.declared.reply.Reply.TheVariants.{Done}
use Rattle.lw_layer_calls.specs.Parts.{IsRegistersStep}
use Rattle.lw_layer_calls.proofs.RegisterSteps.{clear_step}
use Rattle.lw_layer_calls.proofs.registers.clear.Goals as goal

pub returns-clause-step : goal.returns-clause-step
returns-clause-step c =
    let a = c.args in
    let P : List (List Rectangle) → Type 0 = IsRegistersStep a.regs.now (RegClear a.reg) Done in
    subst P (sym c.clear.ensures.regions) (clear_step a.regs.now a.reg c.clear.ensures.before c.requires)
