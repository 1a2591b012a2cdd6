-- For private contracts.
-- What is done with a window of two layers, as it was read, and as far as it is counted.
use Rattle.std.specs.Prelude.{◌≡◌, ℕ, ◌+◌, if◌then◌else◌, List, [], ◌∷◌, Ok}
use Rattle.lw_calls.specs.Kinds.{is_super}
use Rattle.lw_grammar.specs.Statements.{GzzAct, OpenGzz, BehindGzz, InFrontGzz}
use Rattle.lw_grammar.specs.Told.{Told, and_names}
use Rattle.lw_grammar.specs.Script.{gzz_tested}

-- the names of its calls' layers, in the order of their first appearance
abbrev pub gzz_names : List ℕ → List ℕ → GzzAct → List (List ℕ)
gzz_names g i BehindGzz = i ∷ g ∷ []
gzz_names g i (InFrontGzz m) = g ∷ m ∷ i ∷ []
gzz_names g i act = g ∷ i ∷ []

-- how many lines ask for a super-bitmap layer with its calls
abbrev pub gzz_supers : GzzAct → ℕ → ℕ
gzz_supers (OpenGzz inner kind place r classes title) supers = (if is_super kind then 1 else 0) + supers
gzz_supers act supers = supers

-- how many calls it has
abbrev pub gzz_count : GzzAct → ℕ
gzz_count (OpenGzz inner kind place r classes title) = 3
gzz_count act = 2

-- what lines tell with its calls, as far as it is counted, where these are the outer and the inner layer
abbrev pub with_gzz : Told → List ℕ → List ℕ → GzzAct → Told
with_gzz t g i act =
    record t {
      names = and_names t.names (gzz_names g i act);
      supers = gzz_supers act t.supers;
      calls_in_task = t.calls_in_task + gzz_count act;
    }

-- it passes its tests
abbrev pub PassesGzz : Told → List ℕ → GzzAct → Type 0
PassesGzz t g act = gzz_tested t g act ≡ Ok tt
