-- What the line of a call makes of the lines above it.
use Rattle.std.proofs.Common.{◌≡◌, ℕ, ◌+◌, ◌-◌, ◌≤◌, cond, List, [], ◌∷◌, length, map, refl, sym, ap, ◌∙◌, arith}
use Rattle.std.specs.Bool.{IsTrue}
use Rattle.lw_calls.specs.declared.call.Call.{Call}
use Rattle.lw_calls.specs.declared.group.Group.{Group}
use Rattle.lw_calls.specs.declared.group.Hold.TheVariants.{Slot}
use Rattle.lw_grammar.specs.declared.verb.NumberVerb.TheVariants.{Hook as HookVerb}
use Rattle.lw_grammar.specs.Statements.{Act, NumberAct, RegRectAct, RegPairAct, RegClearAct, CreateAct, OpenAct, InFrontAct, WhichAct, PutAct, BlitAct, EndRefreshAct, Statement, CallLine, layers_of, is_hook_number, is_act_in_range}
use Rattle.lw_grammar.specs.Told.{and_names, place_among, onto_last, spelled_call, call_below, hook_on, told}
use Rattle.lw_grammar.specs.Script.{is_ending}
use Rattle.lw_statements.specs.CallMeaning.{IsBitmapAt}
use Rattle.lw_reader.specs.CallParts.{first_place, second_place, bitmap_place}
use Rattle.std.proofs.lemmas.Bool.{and_parts}
use Rattle.lw_reader.proofs.NamesAdded.{place_of_one, places_of_two}

-- an act that names no layer doesn't look at slots
named_none : (b : List (List ℕ)) (act : Act) (s o : ℕ) → 0 ≡ layers_of act → spelled_call b act (s ∷ o ∷ []) ≡ spelled_call b act []
named_none b (RegRectAct op r rect) s o e = refl
named_none b (RegPairAct op t r) s o e = refl
named_none b (RegClearAct r) s o e = refl
named_none b (WhichAct x y) s o e = refl
named_none b InFrontAct s o e = absurd (omega (arith, e))
named_none b (BlitAct area) s o e = absurd (omega (arith, e))
named_none b act s o e = absurd (omega (arith, e))

-- one that names one layer doesn't look at further ones
named_one : (b : List (List ℕ)) (act : Act) (s o : ℕ) → 1 ≡ layers_of act → spelled_call b act (s ∷ o ∷ []) ≡ spelled_call b act (s ∷ [])
named_one b InFrontAct s o e = absurd (omega (arith, e))
named_one b (BlitAct area) s o e = absurd (omega (arith, e))
named_one b act s o e = refl

-- no act names three
at_most_two : (act : Act) → layers_of act ≤ 2
at_most_two (RegRectAct op r rect) = omega arith
at_most_two (RegPairAct op t r) = omega arith
at_most_two (RegClearAct r) = omega arith
at_most_two (WhichAct x y) = omega arith
at_most_two InFrontAct = omega arith
at_most_two (BlitAct area) = omega arith
at_most_two act = omega arith

-- the call, by the numbers of the layers that its line names
pub call_spelled : (b names ls : List (List ℕ)) (act : Act) → length ls ≡ layers_of act → spelled_call b act (first_place names ls ∷ second_place names ls ∷ []) ≡ spelled_call b act (map (place_among (and_names names ls)) ls)
call_spelled b names [] act e = named_none b act _ _ e
call_spelled b names (l ∷ []) act e = named_one b act _ _ e ∙ ap (spelled_call b act) (sym (place_of_one names l _ refl))
call_spelled b names (l ∷ m ∷ []) act e = ap (spelled_call b act) (sym (places_of_two names l m _ _ refl refl))
call_spelled b names (l ∷ m ∷ k ∷ ls) act e = absurd (omega (arith, e, at_most_two act))

-- the groups, where a call ends one or not
pub groups_with : (above : List Statement) (ls : List (List ℕ)) (act : Act) → length ls ≡ layers_of act → (told (CallLine ls act ∷ above)).groups ≡ cond (is_ending act) (onto_last (record { first = (told above).calls_before_group; last = (told above).calls_in_task; hold = Slot (first_place (told above).names ls) }) (told above).groups) (told above).groups
groups_with above [] (EndRefreshAct full) e = absurd (omega (arith, e))
groups_with above (l ∷ []) (EndRefreshAct full) e =
    let n : ((told above).calls_in_task + 1) - 1 ≡ (told above).calls_in_task = omega arith in
    ap (λ last. onto_last (record { first = (told above).calls_before_group; last = last; hold = Slot (place_among (told above).names l) }) (told above).groups) n
groups_with above (l ∷ m ∷ ls) (EndRefreshAct full) e = absurd (omega (arith, e))
groups_with above ls act e = refl

-- a hook's number is in its range where the act's numbers are
pub hook_fits : (ls : List (List ℕ)) (act : Act) → IsTrue (is_act_in_range act) → IsTrue (is_hook_number (hook_on (CallLine ls act)))
hook_fits ls (CreateAct rect asked) h = (and_parts _ _ (and_parts _ _ h).1).0
hook_fits ls (OpenAct at asked framed nocare classes title) h = (and_parts _ _ (and_parts _ _ h).1).0
hook_fits ls (NumberAct HookVerb z) h = h
hook_fits ls act h = refl

-- the groups that are kept
pub groups_kept : (above : List Statement) (ls : List (List ℕ)) (act : Act) (calls_before_group calls_in_task s : ℕ) (old new : List (List Group)) → length ls ≡ layers_of act → old ≡ (told above).groups → calls_before_group ≡ (told above).calls_before_group → calls_in_task ≡ (told above).calls_in_task → s ≡ first_place (told above).names ls → new ≡ cond (is_ending act) (onto_last (record { first = calls_before_group; last = calls_in_task; hold = Slot s }) old) old → new ≡ (told (CallLine ls act ∷ above)).groups
groups_kept above ls act calls_before_group calls_in_task s old new m e f g h k =
    let same : cond (is_ending act) (onto_last (record { first = calls_before_group; last = calls_in_task; hold = Slot s }) old) old ≡ cond (is_ending act) (onto_last (record { first = (told above).calls_before_group; last = (told above).calls_in_task; hold = Slot (first_place (told above).names ls) }) (told above).groups) (told above).groups = rw (e, f, g, h) refl in
    k ∙ same ∙ sym (groups_with above ls act m)

-- the number of the bitmap that an act names, or 0, is its place
pub bitmap_stands : (bitmaps : List (List ℕ)) (place : ℕ) (act : Act) → place ≡ bitmap_place bitmaps act → IsBitmapAt bitmaps place act
bitmap_stands bitmaps place (PutAct bm area) e = e
bitmap_stands bitmaps place act e = tt

-- the calls that are kept
pub calls_kept : (above : List Statement) (ls : List (List ℕ)) (act : Act) (s o : ℕ) (call : Call) (old new : List (List Call)) → length ls ≡ layers_of act → old ≡ (told above).calls → s ≡ first_place (told above).names ls → o ≡ second_place (told above).names ls → call ≡ spelled_call (told above).bitmap_names act (s ∷ o ∷ []) → new ≡ onto_last call old → new ≡ (told (CallLine ls act ∷ above)).calls
calls_kept above ls act s o call old new m e f g h k =
    let b = (told above).bitmap_names in
    let same : call ≡ call_below (told above) ls act = h ∙ ap (λ p. spelled_call b act (p ∷ o ∷ [])) f ∙ ap (λ p. spelled_call b act (first_place (told above).names ls ∷ p ∷ [])) g ∙ call_spelled b (told above).names ls act m in
    k ∙ ap (onto_last call) e ∙ ap (λ c. onto_last c (told above).calls) same
