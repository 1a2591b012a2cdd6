-- What a stop at a line tells.
use Rattle.std.specs.Prelude.{◌≡◌, Result, Err}
use Rattle.lw_grammar.specs.declared.reason.Reason.{Reason}
use Rattle.lw_words.specs.declared.stop.Stop.{Stop}
use Rattle.lw_words.specs.declared.stop.Stop.TheVariants.{Refused, Memory}

-- a refusal is what the grammar gives; running out of memory may come instead
abbrev pub Tells : {A : Type 0} → Stop → Result A Reason → Type 0
Tells (Refused reason) r = r ≡ Err reason
Tells Memory r = Unit {0}
