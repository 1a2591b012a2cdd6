use Rattle.lw_history.proofs.ScrollTold.{scrolls_hurt}
use Rattle.lw_history.proofs.laws.scrolls_hurt_what_they_bring.Goals as goal

pub returns : goal.returns
returns c = scrolls_hurt
