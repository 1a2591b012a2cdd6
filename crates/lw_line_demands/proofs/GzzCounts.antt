-- How many of everything lines tell with what is done with a window of two layers.
use Rattle.std.proofs.Common.{◌≡◌, ℕ, ◌+◌, true, List, [], ◌∷◌, bytes_eq, refl, sym, ap, ◌∙◌, arith}
use Rattle.std.specs.List.{list_any}
use Rattle.lw_calls.specs.declared.limits.Limits.{Limits}
use Rattle.lw_grammar.specs.Statements.{GzzAct, OpenGzz, BoxGzz, FrontGzz, BehindGzz, InFrontGzz, CloseGzz, GzzLine}
use Rattle.lw_grammar.specs.Told.{Told, and_name, inner_by, stands_for, told_all}
use Rattle.lw_grammar.specs.Script.{are_few}
use Rattle.lw_grammar.proofs.ScriptNames.{any_kept, one_named}
use Rattle.lw_line_demands.specs.GzzRead.{gzz_names, with_gzz}

-- lines tell as many of everything
record AreAsMany (t u : Told) : Type 0 where
  tasks : t.tasks ≡ u.tasks
  bitmaps : t.bitmap_names ≡ u.bitmap_names
  patterns : t.pattern_names ≡ u.pattern_names
  names : t.names ≡ u.names
  supers : t.supers ≡ u.supers
  calls : t.calls_in_task ≡ u.calls_in_task

few_as_many : (limits : Limits) (t u : Told) → AreAsMany t u → are_few limits t ≡ are_few limits u
few_as_many limits t u k = rw (k.tasks, k.bitmaps, k.patterns, k.names, k.supers, k.calls) refl

-- a name that stands among names is put there no more
stays : (ns : List (List ℕ)) (n : List ℕ) → list_any (bytes_eq n) ns ≡ true → and_name ns n ≡ ns
stays ns n e = rw e refl

-- the names of an opening's calls, and of those that put a window in front of a layer
opened_names : (ns : List (List ℕ)) (g i : List ℕ) → and_name (and_name (and_name (and_name ns g) i) i) g ≡ and_name (and_name ns g) i
opened_names ns g i =
    ap (λ ms. and_name ms g) (stays (and_name (and_name ns g) i) i (one_named (and_name ns g) i))
    ∙ stays (and_name (and_name ns g) i) g (any_kept (bytes_eq g) (and_name ns g) (i ∷ []) (one_named ns g))

placed_names : (ns : List (List ℕ)) (g m i : List ℕ) → and_name (and_name (and_name (and_name ns g) m) i) g ≡ and_name (and_name (and_name ns g) m) i
placed_names ns g m i =
    stays (and_name (and_name (and_name ns g) m) i) g (any_kept (bytes_eq g) (and_name ns g) (m ∷ i ∷ []) (one_named ns g))

-- no call but an opening asks for a layer with a bitmap of its own
none_more : (n : ℕ) → 0 + (0 + n) ≡ n
none_more n = omega arith

one_asks : (k n : ℕ) → 0 + (k + (0 + n)) ≡ k + n
one_asks k n = omega arith

two_calls : (n : ℕ) → (n + 1) + 1 ≡ n + 2
two_calls n = omega arith

three_calls : (n : ℕ) → ((n + 1) + 1) + 1 ≡ n + 3
three_calls n = omega arith

as_many : (t : Told) (g : List ℕ) (act : GzzAct) → AreAsMany (told_all (stands_for t (GzzLine g act)) t) (with_gzz t g (inner_by t.pairs g act) act)
as_many t g (OpenGzz inner kind place r classes title) =
    record { tasks = refl; bitmaps = refl; patterns = refl; names = opened_names t.names g inner; supers = one_asks _ t.supers; calls = three_calls t.calls_in_task }
as_many t g (BoxGzz r) =
    record { tasks = refl; bitmaps = refl; patterns = refl; names = refl; supers = none_more t.supers; calls = two_calls t.calls_in_task }
as_many t g FrontGzz =
    record { tasks = refl; bitmaps = refl; patterns = refl; names = refl; supers = none_more t.supers; calls = two_calls t.calls_in_task }
as_many t g BehindGzz =
    record { tasks = refl; bitmaps = refl; patterns = refl; names = refl; supers = none_more t.supers; calls = two_calls t.calls_in_task }
as_many t g (InFrontGzz m) =
    record { tasks = refl; bitmaps = refl; patterns = refl; names = placed_names t.names g m (inner_by t.pairs g (InFrontGzz m)); supers = none_more t.supers; calls = two_calls t.calls_in_task }
as_many t g CloseGzz =
    record { tasks = refl; bitmaps = refl; patterns = refl; names = refl; supers = none_more t.supers; calls = two_calls t.calls_in_task }

-- whether all of it are few
pub few_gzz : (limits : Limits) (t : Told) (g : List ℕ) (act : GzzAct) → are_few limits (told_all (stands_for t (GzzLine g act)) t) ≡ are_few limits (with_gzz t g (inner_by t.pairs g act) act)
few_gzz limits t g act = few_as_many limits _ _ (as_many t g act)
