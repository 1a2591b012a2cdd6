use Rattle.std.proofs.Common.{sym, ◌∙◌}
use Rattle.lw_script.proofs.Outcomes.{advances}
use Rattle.lw_script.proofs.taking.take_line.Goals as goal

pub returns : goal.returns
returns c = λ s above k.
    advances s c.take.new.reader above c.args.number c.take.result c.args.line.now (sym c.is_skipped.ensures ∙ c.if-is_skipped.false) (c.take.ensures s above k)
