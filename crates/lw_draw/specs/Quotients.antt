-- For private contracts.
-- A quotient that is stepped.
use Rattle.std.specs.Prelude.{◌≡◌, ℕ, ◌+◌, ◌*◌}
use Rattle.lw_draw.specs.declared.quotients.Quotient.{Quotient}

-- what is divided
abbrev pub total_of : Quotient → ℕ
total_of q = q.divisor * q.value + q.rest

-- what that gains at each step
abbrev pub gain_of : Quotient → ℕ
gain_of q = q.divisor * q.whole + q.part

-- the quotient is that of a total that gains this much at each step
pub record IsQuotient (total gain divisor : ℕ) (q : Quotient) : Type 0 where
  pub total_is : total_of q ≡ total
  pub gain_is : gain_of q ≡ gain
  pub divisor_is : q.divisor ≡ divisor
