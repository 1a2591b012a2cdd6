use Rattle.std.proofs.Common.{rules, refl}
use Rattle.std.proofs.lemmas.Bool.{false≢true}
use Rattle.lw_c_calls.specs.Meant.{meant}
use Rattle.lw_c_desk.proofs.HandleLaws.{no_text}
use Rattle.lw_c_desk.proofs.calling.made.Goals as goal

pub returns-in_default : goal.returns-in_default
returns-in_default c = record {
  answered = λ other. absurd (other refl);
  memory = λ free _.
      absurd (false≢true (c.in_default.ensures.memory (no_text c.args.desk.now.sizes (meant c.args.words.now c.args.text.now) free)));
  step = search rules;
  kept = search rules;
  sizes = refl;
}
