-- What the line of an area tells.
use Rattle.std.proofs.Common.{◌≡◌, ℕ, suc, ◌+◌, ◌-◌, cond, List, [], ◌∷◌, ◌++◌, length, Option, Some, None, is_none, refl, sym, ap, ◌∙◌, arith}
use Rattle.lw_region.specs.Rectangle.{Rectangle}
use Rattle.lw_area.specs.Areas.{area_rectangles}
use Rattle.lw_calls.specs.declared.call.Call.TheVariants.{Fill}
use Rattle.lw_calls.specs.declared.group.Hold.TheVariants.{Slot}
use Rattle.lw_calls.specs.declared.group.Group.{Group}
use Rattle.lw_grammar.specs.Statements.{FillAct, CallLine, LockLine, UnlockLine}
use Rattle.lw_grammar.specs.Told.{OpenGroup, Told, and_name, place_among, onto_last, area_words, fill_lines, area_lines, told_with, told_all}
use Rattle.lw_grammar.proofs.ScriptNames.{one_named}
use Rattle.lw_grammar.proofs.AreaLines.{told_parts}
use Rattle.lw_fills.specs.Fills.{fills}
use Rattle.lw_fills.specs.AreaLines.{with_calls, slot_on, groups_after, AreaLinesAreOneDrawing}
use Rattle.lw_fills.proofs.OneDrawing.{areas_are}

-- a name that is told twice is told once
named_again : (names : List (List ℕ)) (n : List ℕ) → and_name (and_name names n) n ≡ and_name names n
named_again names n = ap (λ b. cond b (and_name names n) (and_name names n ++ n ∷ [])) (one_named names n)

-- what fills of a layer tell, by these names
record AreFillsOf (layer : List ℕ) (names : List (List ℕ)) (rs : List Rectangle) (t u : Told) : Type 0 where
  named : and_name u.names layer ≡ names
  kept : t.names ≡ names → u.names ≡ names
  calls : u.calls ≡ with_calls (fills (place_among names layer) rs) t.calls
  groups : u.groups ≡ t.groups
  calls_before_group : u.calls_before_group ≡ t.calls_before_group
  calls_in_task : u.calls_in_task ≡ t.calls_in_task + length rs

fills_told : (layer : List ℕ) (names : List (List ℕ)) (rs : List Rectangle) (t : Told) → and_name t.names layer ≡ names
    → AreFillsOf layer names rs t (told_all (fill_lines layer rs) t)
fills_told layer names [] t e = record { named = e; kept = λ same. same; calls = refl; groups = refl; calls_before_group = refl; calls_in_task = omega arith }
fills_told layer names (r ∷ rs) t e =
    let k = fills_told layer names rs (told_with (CallLine (layer ∷ []) (FillAct r)) t) (named_again t.names layer ∙ e) in
    let more : (told_all (fill_lines layer (r ∷ rs)) t).calls_in_task ≡ (t.calls_in_task + 1) + length rs = k.calls_in_task in
    record {
      named = k.named;
      kept = λ same. k.kept e;
      calls = k.calls ∙ ap (λ ns. with_calls (fills (place_among names layer) rs) (onto_last (Fill (place_among ns layer) r) t.calls)) e;
      groups = k.groups;
      calls_before_group = k.calls_before_group;
      calls_in_task = omega (arith, more);
    }

-- what an area tells
record IsAreaTold (layer : List ℕ) (rs : List Rectangle) (t u : Told) : Type 0 where
  calls : u.calls ≡ with_calls (fills (slot_on t layer) rs) t.calls
  groups : u.groups ≡ groups_after t (slot_on t layer) (length rs)

area_told : (o : Option OpenGroup) (layer : List ℕ) (rs : List Rectangle) (t : Told) → t.group ≡ o
    → IsAreaTold layer rs t (told_all (area_lines o layer rs) t)
area_told None layer [] t is = record { calls = refl; groups = refl }
area_told (Some x) layer [] t is = record { calls = refl; groups = refl }
area_told (Some x) layer (r ∷ rs) t is =
    let k = fills_told layer (and_name t.names layer) (r ∷ rs) t refl in
    let own : Group = record { first = t.calls_in_task; last = t.calls_in_task + length rs; hold = Slot (slot_on t layer) } in
    record {
      calls = k.calls;
      groups =
          k.groups ∙ sym (ap (λ (g : Option OpenGroup). cond (is_none g) (onto_last own t.groups) t.groups) is);
    }
area_told None layer (r ∷ rs) t is =
    let locked : Told = told_with (LockLine layer) t in
    let u : Told = told_all (fill_lines layer (r ∷ rs)) locked in
    let k = fills_told layer (and_name t.names layer) (r ∷ rs) locked (named_again t.names layer) in
    let parts = told_parts (fill_lines layer (r ∷ rs)) (UnlockLine layer ∷ []) locked in
    let calls_in_task : u.calls_in_task ≡ t.calls_in_task + suc (length rs) = k.calls_in_task in
    let last : u.calls_in_task - 1 ≡ t.calls_in_task + length rs = omega (arith, calls_in_task) in
    let own : Group = record { first = t.calls_in_task; last = t.calls_in_task + length rs; hold = Slot (slot_on t layer) } in
    let ended : (told_with (UnlockLine layer) u).groups ≡ onto_last own t.groups =
    λ i. onto_last (record { first = k.calls_before_group i; last = last i; hold = Slot (place_among (k.kept refl i) layer) }) (k.groups i) in
    record {
      calls = ap (λ (w : Told). w.calls) parts ∙ k.calls;
      groups =
          ap (λ (w : Told). w.groups) parts
          ∙ (ended ∙ sym (ap (λ (g : Option OpenGroup). cond (is_none g) (onto_last own t.groups) t.groups) is));
    }

pub area_lines_are : AreaLinesAreOneDrawing
area_lines_are t layer pattern points =
    let k = area_told t.group layer (area_rectangles points (area_words t pattern)) t refl in
    record {
      calls = k.calls;
      groups = k.groups;
      drawing = λ d task ok. areas_are d task (slot_on t layer) points (area_words t pattern) ok;
    }
