-- Reading the lines of a script one after another, from the first to the last, up to the first bad one. By the grammar's laws that
-- gives the input which the bytes spell, or else fails at their first bad line, with its first reason.
use Rattle.std.specs.Prelude.{ℕ, ◌+◌, if◌then◌else◌, List, [], ◌∷◌, length, min, Result, Ok, Err}
use Rattle.lw_grammar.specs.declared.reason.Reason.{Reason}
use Rattle.lw_grammar.specs.declared.reason.Reason.TheVariants.{Missing}
use Rattle.lw_grammar.specs.Demands.{◌>>=◌, demand}
use Rattle.lw_grammar.specs.Lines.{lines}
use Rattle.lw_grammar.specs.Statements.{Statement}
use Rattle.lw_grammar.specs.Told.{told}
use Rattle.lw_grammar.specs.Script.{Setting, is_nothing_due, statements_with, may_end, ScriptInput, input_from}

-- How far lines were read: the statements for which those stand that aren't skipped, the nearest first; the number of the next
-- line, counted from 1; and how many bytes the lines have, each with a line feed.
pub record Reached : Type 0 where
  pub statements : List Statement
  pub number : ℕ
  pub place : ℕ

abbrev pub at_the_top : Reached
at_the_top = record { statements = []; number = 1; place = 0 }

-- how far they were read with a further line, where these are the statements with it
abbrev pub with_line : Reached → List ℕ → List Statement → Reached
with_line p line statements = record { statements = statements; number = p.number + 1; place = p.place + (length line + 1) }

-- what is found at a line of this number, or the number with the reason
abbrev pub at_number : {A : Type 0} → ℕ → Result A Reason → Result A (ℕ × Reason)
at_number n (Ok a) = Ok a
at_number n (Err reason) = Err (n, reason)

-- the end of the lines, below which the input may end or something is missing
abbrev pub end_read : Setting → Reached → Result Reached (ℕ × Reason)
end_read s p = do
  _ ← at_number p.number (demand (may_end s.form (told p.statements).section) Missing)
  Ok p

-- What lines give that stand below others: they are read one after another, up to a line `report` if there is one, or up to
-- the first bad one, whose number is told with its first reason.
abbrev pub lines_read : Setting → Reached → List (List ℕ) → Result Reached (ℕ × Reason)
lines_read s p [] = end_read s p
lines_read s p (line ∷ ls) =
    if is_nothing_due (told p.statements).section
    then end_read s p
    else (at_number p.number (statements_with s p.statements line)
    >>= (λ statements. lines_read s (with_line p line statements) ls))

-- The outcome of bytes as a script: the input that their lines give, or the first bad line's number, with its first reason.
abbrev pub outcome_of : Setting → List ℕ → Result ScriptInput (ℕ × Reason)
outcome_of s bytes = do
  p ← lines_read s at_the_top (lines bytes)
  Ok (input_from s (told p.statements) (min (length bytes) p.place))
