-- For private contracts.
-- The lines around a call, where the groups that ended before it are left out: of the others the first alone can have it, or
-- begin or end at it.
use Rattle.std.specs.Prelude.{ℕ, ◌==◌, Bool, ◌&&◌, nat_le, if◌then◌else◌, List, [], ◌∷◌, ◌++◌, Option, None}
use Rattle.lw_calls.specs.declared.pair.Pair.{Pair}
use Rattle.lw_calls.specs.declared.call.Call.{Call}
use Rattle.lw_calls.specs.declared.group.Group.{Group}
use Rattle.lw_calls.specs.Plan.{Plan}
use Rattle.lw_gzz.specs.declared.word.GzzWord.{GzzWord}
use Rattle.lw_grammar.specs.Statements.{Line, StatementLine}
use Rattle.lw_canonical.specs.Canonical.{line_of_call, is_update, word_for, opening_lines, closing_lines, or_opening, or_closing}

-- call number n is of the group
abbrev pub has_call : Group → ℕ → Bool
has_call g n = nat_le g.first n && nat_le n g.last

-- what is done with a pair by the first of these groups, if it has call number n and stands for it
abbrev pub word_at : List Pair → List Call → List Group → ℕ → Option (Pair × GzzWord)
word_at pairs calls [] n = None
word_at pairs calls (g ∷ gs) n = if has_call g n then word_for pairs calls g else None

-- the lines that begin the first of these groups, where it begins at call number n and stands for this, or nothing
abbrev pub opening_at : List (List ℕ) → List Call → List Group → ℕ → Option (Pair × GzzWord) → List Line
opening_at names calls [] n word = []
opening_at names calls (g ∷ gs) n word =
    if g.first == n then or_opening names word (opening_lines names g.hold (is_update calls g)) else []

-- the lines that end it, where it ends at call number n
abbrev pub closing_at : List (List ℕ) → List Call → List Group → ℕ → Option (Pair × GzzWord) → List Line
closing_at names calls [] n word = []
closing_at names calls (g ∷ gs) n word =
    if g.last == n then or_closing word (closing_lines names g.hold (is_update calls g)) else []

-- the lines of call number n, with those of its group, which stands for this, or nothing
abbrev pub lines_with : Plan → List Call → List Group → ℕ → Call → Option (Pair × GzzWord) → List Line
lines_with p calls groups n c word =
    opening_at p.slot_names calls groups n word
    ++ (or_closing word (StatementLine (line_of_call p.slot_names p.bitmap_names c) ∷ [])
    ++ closing_at p.slot_names calls groups n word)

abbrev pub lines_around : Plan → List Call → List Group → ℕ → Call → List Line
lines_around p calls groups n c = lines_with p calls groups n c (word_at p.pairs calls groups n)

-- the groups that are left after call number n
abbrev pub left_after : List Group → ℕ → List Group
left_after [] n = []
left_after (g ∷ gs) n = if g.last == n then gs else g ∷ gs
