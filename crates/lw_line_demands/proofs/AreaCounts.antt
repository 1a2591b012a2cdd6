-- How many of everything lines tell with the fills of an area.
use Rattle.std.proofs.Common.{◌≡◌, ℕ, ◌+◌, ◌-◌, ◌<◌, Bool, true, false, ◌&&◌, nat_le, if◌then◌else◌, ◌==◌, List, [], ◌∷◌, length, Option, Some, None, refl, ap, ◌∙◌, arith}
use Rattle.lw_region.specs.Rectangle.{Rectangle}
use Rattle.lw_calls.specs.declared.limits.Limits.{Limits}
use Rattle.lw_grammar.specs.Statements.{FillAct, CallLine, LockLine, UnlockLine}
use Rattle.lw_grammar.specs.Told.{OpenGroup, Told, and_name, fill_lines, area_lines, told_with, told_all}
use Rattle.lw_grammar.specs.Script.{super_limit, are_few}
use Rattle.lw_grammar.proofs.ScriptNames.{one_named}
use Rattle.lw_grammar.proofs.AreaLines.{told_parts}
use Rattle.lw_line_demands.specs.AreasRead.{with_fills}
use Rattle.std.proofs.lemmas.Bool.{ne_eqb}
use Rattle.std.proofs.lemmas.Bool.Decides.{nat_tests}

-- names with that of a layer, if it has a fill
abbrev pub filled : List (List ℕ) → List ℕ → List Rectangle → List (List ℕ)
filled ns l [] = ns
filled ns l (r ∷ rs) = and_name ns l

-- the same by how many fills there are
some_filled : {A : Type 0} (n : ℕ) (a b : A) → 0 < n → b ≡ (if n == 0 then a else b)
some_filled n a b h = rw (ne_eqb n 0 (λ e. omega (arith, h, e))) refl

filled_names : (ns : List (List ℕ)) (l : List ℕ) (rs : List Rectangle) → filled ns l rs ≡ (if length rs == 0 then ns else and_name ns l)
filled_names ns l [] = refl
filled_names ns l (r ∷ rs) = some_filled (length (r ∷ rs)) ns (and_name ns l) (omega arith)

-- a name that was put among names is put there once
once : (ns : List (List ℕ)) (l : List ℕ) → and_name (and_name ns l) l ≡ and_name ns l
once ns l = rw (one_named ns l) refl

twice : (ns : List (List ℕ)) (l : List ℕ) (rs : List Rectangle) → filled (and_name ns l) l rs ≡ and_name ns l
twice ns l [] = refl
twice ns l (r ∷ rs) = once ns l

-- What lines tell with so many fills more, and with these names.
record HasFills (t u : Told) (ns : List (List ℕ)) (n : ℕ) : Type 0 where
  tasks : u.tasks ≡ t.tasks
  bitmaps : u.bitmap_names ≡ t.bitmap_names
  patterns : u.pattern_names ≡ t.pattern_names
  supers : u.supers ≡ t.supers
  names : u.names ≡ ns
  calls : u.calls_in_task ≡ t.calls_in_task + n

module _ (layer : List ℕ) where
  fills_count : (rs : List Rectangle) (t : Told) → HasFills t (told_all (fill_lines layer rs) t) (filled t.names layer rs) (length rs)
  fills_count [] t =
      record { tasks = refl; bitmaps = refl; patterns = refl; supers = refl; names = refl; calls = omega arith }
  fills_count (r ∷ rs) t =
      let k = fills_count rs (told_with (CallLine (layer ∷ []) (FillAct r)) t) in
      let more : (told_all (fill_lines layer (r ∷ rs)) t).calls_in_task ≡ (t.calls_in_task + 1) + length rs = k.calls in
      let asked : (told_all (fill_lines layer (r ∷ rs)) t).supers ≡ 0 + t.supers = k.supers in
      record { tasks = k.tasks; bitmaps = k.bitmaps; patterns = k.patterns; supers = omega (arith, asked); names = k.names ∙ twice t.names layer rs; calls = omega (arith, more) }

  area_counts : (o : Option OpenGroup) (rs : List Rectangle) (t : Told) → HasFills t (told_all (area_lines o layer rs) t) (filled t.names layer rs) (length rs)
  area_counts o [] t =
      record { tasks = refl; bitmaps = refl; patterns = refl; supers = refl; names = refl; calls = omega arith }
  area_counts (Some group) (r ∷ rs) t = fills_count (r ∷ rs) t
  area_counts None (r ∷ rs) t =
      let u = told_with (LockLine layer) t in
      let v = told_all (fill_lines layer (r ∷ rs)) u in
      let k = fills_count (r ∷ rs) u in
      let named : and_name v.names layer ≡ and_name t.names layer = ap (λ ns. and_name ns layer) k.names ∙ once u.names layer ∙ once t.names layer in
      rw (told_parts (fill_lines layer (r ∷ rs)) (UnlockLine layer ∷ []) u)
      (record { tasks = k.tasks; bitmaps = k.bitmaps; patterns = k.patterns; supers = k.supers; names = named; calls = k.calls })

  -- whether all of it are few
  pub few_filled : (limits : Limits) (o : Option OpenGroup) (rs : List Rectangle) (t : Told) → are_few limits (told_all (area_lines o layer rs) t) ≡ are_few limits (with_fills t layer (length rs))
  few_filled limits o rs t =
      let k = area_counts o rs t in
      rw (k.tasks, k.bitmaps, k.patterns, k.supers, k.names ∙ filled_names t.names layer rs, k.calls) refl

-- not so with too many calls
beyond : (a b : Bool) (m n : ℕ) → n < m → (a && (b && nat_le m n)) ≡ false
beyond false b m n h = refl
beyond true false m n h = refl
beyond true true m n h = grind (arith, nat_tests)

pub many_fills : (limits : Limits) (t : Told) (layer : List ℕ) (n : ℕ) → limits.calls - t.calls_in_task < n → are_few limits (with_fills t layer n) ≡ false
many_fills limits t layer n h = beyond _ (nat_le t.supers super_limit) (t.calls_in_task + n) limits.calls (omega (arith, h))
