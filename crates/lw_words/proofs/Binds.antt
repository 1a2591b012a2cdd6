-- Steps in a row, where one stops or goes on.
use Rattle.std.proofs.Common.{◌≡◌, Result, Err, refl}
use Rattle.lw_grammar.specs.declared.reason.Reason.{Reason}
use Rattle.lw_grammar.specs.Demands.{◌>>=◌}
use Rattle.lw_words.specs.declared.stop.Stop.{Stop}
use Rattle.lw_words.specs.declared.stop.Stop.TheVariants.{Refused, Memory}
use Rattle.lw_words.specs.Stops.{Tells}

-- a stop before a further step
pub stops_before : {A B : Type 0} (stop : Stop) (r : Result A Reason) (f : A → Result B Reason) → Tells stop r → Tells stop (r >>= f)
stops_before (Refused reason) r f h = let e : r ≡ Err reason = h in rw e refl
stops_before Memory r f h = tt
