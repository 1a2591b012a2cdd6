use Rattle.std.proofs.Common.{refl}
use Rattle.lw_ports.proofs.SetLaws.{class_laws}
use Rattle.lw_ports.proofs.classes.laws_of_classes.Goals as goal

pub returns : goal.returns
returns c = record { asked = λ w m. refl; classes = class_laws }
