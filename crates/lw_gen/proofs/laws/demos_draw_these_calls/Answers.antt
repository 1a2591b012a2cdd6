use Rattle.std.proofs.Common.{refl}
use Rattle.lw_gen.specs.Generator.{stirred, picked}
use Rattle.lw_gen.proofs.laws.demos_draw_these_calls.Goals as goal

pub returns : goal.returns
unfolding stirred picked
returns c = record { created = refl; first = refl; second = refl; first_end = refl; second_end = refl }
