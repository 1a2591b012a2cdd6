-- Numbers of acts that are in their ranges, in 64 bits.
use Rattle.std.proofs.Common.{◌≡◌, ℕ, ◌≤◌, List, ◌∷◌, true, ℤ, pos, to_z, of_z, w64, unsigned_abs, IsTrue, sym, subst, arith}
use Rattle.lw_region.specs.Rectangle.{within}
use Rattle.lw_calls.specs.declared.call.Call.{Call}
use Rattle.lw_calls.specs.Limits.{is_coordinate}
use Rattle.lw_grammar.specs.declared.verb.NumberVerb.{NumberVerb}
use Rattle.lw_grammar.specs.declared.verb.NumberVerb.TheVariants.{Mode, Clip, Hook}
use Rattle.lw_grammar.specs.declared.verb.PairVerb.{PairVerb}
use Rattle.lw_grammar.specs.Statements.{greatest_number, is_act_in_range}
use Rattle.lw_grammar.specs.Told.{number_call, pair_call, spelled_call}
use Rattle.lw_statements.specs.declared.statement.Act.{Act}
use Rattle.lw_statements.specs.declared.statement.Act.TheVariants.{Number, Pair}
use Rattle.lw_statements.specs.StatementMeaning.{act_meaning}
use Rattle.std.proofs.lemmas.Bool.{and_parts}
use Rattle.std.proofs.lemmas.Int.{ints}
use Rattle.std.proofs.lemmas.Bool.Decides.{nat_tests}

-- a number of a range is the same in 64 bits
counted_64 : (z : ℤ) (m : ℕ) → within (pos 0) z (pos m) ≡ true → m ≤ 4294967295 → to_z w64 (of_z w64 z) ≡ z
unfolding within
counted_64 z m h le = grind (arith, ints, nat_tests)

placed_64 : (z : ℤ) → is_coordinate z ≡ true → to_z w64 (of_z w64 z) ≡ z
unfolding within
placed_64 z h = grind (arith, ints, nat_tests)

-- no number needs more than 32 bits
greatest_small : (verb : NumberVerb) → greatest_number verb ≤ 4294967295
greatest_small Mode = omega arith
greatest_small Clip = omega arith
greatest_small Hook = omega arith
greatest_small verb = omega arith

-- the call of a verb with a number
pub number_act_call : (bitmaps : List (List ℕ)) (act : Act) (verb : NumberVerb) (z : ℤ) (slot : ℕ) (slots : List ℕ) (call : Call) → act ≡ Number verb z → IsTrue (is_act_in_range (act_meaning act)) → call ≡ number_call verb slot (unsigned_abs (to_z w64 (of_z w64 z))) → call ≡ spelled_call bitmaps (act_meaning act) (slot ∷ slots)
number_act_call bitmaps act verb z slot slots call e h d =
    let P : Act → Type 0 = λ x. is_act_in_range (act_meaning x) ≡ true in
    let Q : Act → Type 0 = λ x. call ≡ spelled_call bitmaps (act_meaning x) (slot ∷ slots) in
    let R : ℤ → Type 0 = λ y. call ≡ number_call verb slot (unsigned_abs y) in
    subst Q (sym e) (subst R (counted_64 z (greatest_number verb) (subst P e h) (greatest_small verb)) d)

-- and of a verb with two numbers
pub pair_act_call : (bitmaps : List (List ℕ)) (act : Act) (verb : PairVerb) (x y : ℤ) (slot : ℕ) (slots : List ℕ) (call : Call) → act ≡ Pair verb x y → IsTrue (is_act_in_range (act_meaning act)) → call ≡ pair_call verb slot (to_z w64 (of_z w64 x)) (to_z w64 (of_z w64 y)) → call ≡ spelled_call bitmaps (act_meaning act) (slot ∷ slots)
pair_act_call bitmaps act verb x y slot slots call e h d =
    let P : Act → Type 0 = λ x. is_act_in_range (act_meaning x) ≡ true in
    let Q : Act → Type 0 = λ x. call ≡ spelled_call bitmaps (act_meaning x) (slot ∷ slots) in
    let R : ℤ → Type 0 = λ z. call ≡ pair_call verb slot z (to_z w64 (of_z w64 y)) in
    let S : ℤ → Type 0 = λ z. call ≡ pair_call verb slot x z in
    let range = and_parts (is_coordinate x) (is_coordinate y) (subst P e h) in
    subst Q (sym e) (subst S (placed_64 y range.1) (subst R (placed_64 x range.0) d))
