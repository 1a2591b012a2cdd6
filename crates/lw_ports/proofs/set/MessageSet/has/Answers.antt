use Rattle.std.proofs.Common.{◌∙◌, ap}
use Rattle.std.specs.Prelude.{◌==◌}
use Rattle.std.specs.Int.RustNames.{bit_and}
use Rattle.lw_ports.specs.Sets.{classes_of}
use Rattle.lw_ports.proofs.SetLaws.{class_contained}
use Rattle.lw_ports.proofs.set.MessageSet.has.Goals as goal

pub returns : goal.returns
returns c =
    c.contains.ensures tt ∙ ap (λ s. bit_and (classes_of c.args.self) s == s) c.of.ensures
    ∙ class_contained (classes_of c.args.self) c.args.message
