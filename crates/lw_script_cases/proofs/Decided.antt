-- Reading a script that is written out decides it: the check computes what it reads.
use Rattle.std.proofs.Common.{ℕ, List, [], ◌∷◌, ◌++◌, codes, length, min, Result, Ok, Err, MatchResult}
use Rattle.lw_grammar.specs.Told.{told}
use Rattle.lw_grammar.specs.Script.{Setting, input_from, SpellsInput, IsFirstBadIn}
use Rattle.lw_grammar.specs.Reading.{Reached, at_the_top, lines_read}
use Rattle.lw_grammar.specs.declared.reason.Reason.{Reason}
use Rattle.lw_grammar.specs.Lines.{lines}
use Rattle.lw_grammar.proofs.ScriptOutcome.{reads_decide}
use Rattle.lw_script_cases.specs.WholeScripts.{IsSpelled, alone, script}
use Rattle.lw_script_cases.specs.Refused.{Refused}
use Rattle.lw_script_cases.specs.GzzScripts.{paired}

-- the bytes spell an input, or have a first bad line, as what is read says
abbrev Decides : Setting → List ℕ → Result Reached (ℕ × Reason) → Type 0
Decides s bytes r = MatchResult r (λ p. IsSpelled s bytes) (λ e. IsFirstBadIn s (lines bytes) e.0 e.1)

pub decided : (s : Setting) (bytes : List ℕ) → Decides s bytes (lines_read s at_the_top (lines bytes))
decided s bytes = go (lines_read s at_the_top (lines bytes)) (reads_decide s bytes)
  where
    go : (r : Result Reached (ℕ × Reason)) → MatchResult r (λ p. SpellsInput s bytes (input_from s (told p.statements) (min (length bytes) p.place))) (λ e. IsFirstBadIn s (lines bytes) e.0 e.1) → Decides s bytes r
    go (Ok p) h = (input_from s (told p.statements) (min (length bytes) p.place), h)
    go (Err e) h = h

-- the same of each of these scripts, read alone and with no hook
abbrev pub AreDecided : List Refused → Type 0
AreDecided [] = Unit {0}
AreDecided (r ∷ rs) = Decides (alone 0) r.bytes (lines_read (alone 0) at_the_top (lines r.bytes)) × AreDecided rs

pub all_decided : (rs : List Refused) → AreDecided rs
all_decided [] = tt
all_decided (r ∷ rs) = (decided (alone 0) r.bytes, all_decided rs)

-- the same of these lines below a window of two layers
abbrev pub allowed_bytes : List ℕ → List ℕ
allowed_bytes ls = paired ++ ls ++ script (codes "end/")

abbrev AreAllowed : List (List ℕ) → Type 0
AreAllowed [] = Unit {0}
AreAllowed (ls ∷ rest) = Decides (alone 0) (allowed_bytes ls) (lines_read (alone 0) at_the_top (lines (allowed_bytes ls))) × AreAllowed rest

pub all_allowed : (rest : List (List ℕ)) → AreAllowed rest
all_allowed [] = tt
all_allowed (ls ∷ rest) = (decided (alone 0) (allowed_bytes ls), all_allowed rest)
