-- Tests in a row, each with a reason to stop, as a reader makes them.
use Rattle.std.specs.Prelude.{Bool, true, false, Result, Ok, Err}
use Rattle.lw_grammar.specs.declared.reason.Reason.{Reason}

infixl 10 ◌>>=◌
-- what is found is handed on, unless there was a reason to stop
abbrev pub ◌>>=◌ : {A B R : Type 0} → Result A R → (A → Result B R) → Result B R
◌>>=◌ (Ok a) f = f a
◌>>=◌ (Err r) f = Err r

-- the reason to stop, unless the test holds
abbrev pub demand : Bool → Reason → Result (Unit {0}) Reason
demand true reason = Ok tt
demand false reason = Err reason
