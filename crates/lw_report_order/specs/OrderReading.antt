-- For private contracts.
-- How the numbers of an order section are read: one after another, each of which can go on up to the byte at which it stops.
use Rattle.std.specs.Prelude.{ℕ, zero, suc, ◌+◌, ◌-◌, ◌==◌, ◌&&◌, nat_le, if◌then◌else◌, List, [], ◌∷◌, ◌++◌, drop, replicate}
use Rattle.std.specs.Prelude.{Result, Ok, Err}
use Rattle.lw_grammar.specs.Demands.{◌>>=◌}
use Rattle.lw_machine.specs.Report.{separator}

-- The end of number n, of which so many bytes were read: the number, and its bytes with that end; or how many bytes begin one.
abbrev pub end_read : ℕ → ℕ → ℕ → List ℕ → Result (ℕ × ℕ) ℕ
end_read end n used [] = Err used
end_read end n used (b ∷ bs) = if b == end then Ok (n, used + 1) else Err used

-- what stands after a 1: a second digit from 0 to 5, or the end
abbrev pub after_one : ℕ → List ℕ → Result (ℕ × ℕ) ℕ
after_one end [] = Err 1
after_one end (b ∷ bs) = if nat_le 48 b && nat_le b 53 then end_read end (b - 38) 2 bs else end_read end 1 1 (b ∷ bs)

-- A number below 16 that this byte ends: the number, and its bytes with that end; or how many bytes begin one.
abbrev pub number_read : ℕ → List ℕ → Result (ℕ × ℕ) ℕ
number_read end [] = Err 0
number_read end (b ∷ bs) =
    if b == 49 then after_one end bs else (if nat_le 48 b && nat_le b 57 then end_read end (b - 48) 1 bs else Err 0)

-- what is read behind these numbers, which have so many bytes
abbrev pub onto : List ℕ → ℕ → Result (List ℕ) ℕ → Result (List ℕ) ℕ
onto front used (Ok numbers) = Ok (front ++ numbers)
onto front used (Err n) = Err (used + n)

-- The last m numbers of an order, of which k stand above; or how many bytes begin them.
abbrev pub numbers_read : ℕ → ℕ → List ℕ → Result (List ℕ) ℕ
numbers_read k zero bytes = Ok []
numbers_read k (suc m) bytes =
    number_read (separator (k + 1) (replicate m 0)) bytes >>= (λ x. onto (x.0 ∷ []) x.1 (numbers_read (k + 1) m (drop x.1 bytes)))
