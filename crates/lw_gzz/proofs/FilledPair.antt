-- A plan with a pair is apart.
use Rattle.std.proofs.Common.{◌≡◌, ℕ, zero, suc, ◌≤◌, ◌==◌, Bool, false, [], All, Contains, Option, Some, None, refl, arith}
use Rattle.std.proofs.Common.{inl, inr, ◌⊎◌, pos, sym, ap, subst, ◌∙◌}
use Rattle.std.specs.List.{slice_get}
use Rattle.std.proofs.lemmas.Int.{ints}
use Rattle.lw_calls.specs.declared.pair.Pair.{Pair}
use Rattle.lw_calls.specs.declared.call.Call.{Call}
use Rattle.lw_calls.specs.declared.make.Kind.TheVariants.{Smart}
use Rattle.lw_calls.specs.declared.make.Place.TheVariants.{Front}
use Rattle.lw_calls.specs.declared.group.Group.{Group}
use Rattle.lw_calls.specs.declared.group.Hold.TheVariants.{All as AllLayers}
use Rattle.lw_calls.specs.Plan.{task_groups, group_calls, task_calls}
use Rattle.lw_gzz.specs.declared.word.GzzWord.{GzzWord}
use Rattle.lw_gzz.specs.declared.word.GzzWord.TheVariants.{Open}
use Rattle.lw_gzz.specs.Words.{expansion}
use Rattle.lw_gzz.specs.Recognition.{word_of}
use Rattle.lw_gzz.specs.Together.{may_part, HasPairBox, puts_before, IsPairBox}
use Rattle.lw_gzz.specs.Apart.{StandsForWord, IsInPairGroup, IsOpenedOnce, IsApart}
use Rattle.lw_gzz.specs.Examples.{filled_pair}
use Rattle.lw_gzz.proofs.Spelling.{found}

abbrev pair : Pair
pair = record { outer = 0; inner = 1 }

abbrev word : GzzWord
word = Open Smart Front (pos 0) (pos 0) (pos 16) (pos 20) 0 []

abbrev group : Group
group = record { first = 0; last = 2; hold = AllLayers }

stands : StandsForWord filled_pair 0 group pair word
stands = record { listed = (0, omega arith, refl); holds = refl; spells = (refl, refl) }

box : IsPairBox filled_pair.sizes (pos 0) (pos 0) (pos 16) (pos 20)
box = record {
  left = omega (arith, ints);
  right = omega (arith, ints);
  upper = omega (arith, ints);
  lower = omega (arith, ints);
  least_columns = omega (arith, ints);
  columns = omega (arith, ints);
  least_rows = omega (arith, ints);
  rows = omega (arith, ints);
}

-- the groups of the plan, and its calls
only_group : (t : ℕ) (g : Group) → Contains (task_groups filled_pair t) g → (t ≡ 0) × (g ≡ group)
only_group zero g (zero, low, is) = (refl, sym is)
only_group zero g (suc k, low, is) = absurd (omega (arith, low))
only_group (suc t) g (k, low, is) = absurd (omega (arith, low))

in_group : (n : ℕ) → n ≤ 2 → IsInPairGroup filled_pair 0 n
in_group n low = record {
  group = group;
  pair_group = record { pair = pair; word = word; of_plan = (0, omega arith, refl); stands = stands };
  low = omega arith;
  high = low;
}

-- what holds of the pair holds of each pair of the plan
of_each : (P : Pair → Type 0) → P pair → All P filled_pair.pairs
of_each P h zero d low = h
of_each P h (suc k) d low = absurd (omega (arith, low))

abbrev parts : Option Call → Bool
parts None = false
parts (Some c) = may_part pair c

each_call : (t n : ℕ) (c : Call) → slice_get (task_calls filled_pair t) n ≡ Some c
    → All (λ p. may_part p c ≡ false) filled_pair.pairs ⊎ IsInPairGroup filled_pair t n
each_call zero zero c at = inr (in_group 0 (omega arith))
each_call zero (suc zero) c at = inr (in_group 1 (omega arith))
each_call zero (suc (suc zero)) c at = inr (in_group 2 (omega arith))
each_call zero (suc (suc (suc zero))) c at = inl (of_each (λ p. may_part p c ≡ false) (sym (ap parts at)))
each_call zero (suc (suc (suc (suc n)))) c at = let none : None ≡ Some c = at in absurd (cc)
each_call (suc t) n c at = let none : None ≡ Some c = at in absurd (cc)

-- the group stands for no other word
same_word : (t : ℕ) (g : Group) (p : Pair) (w : GzzWord) → Contains filled_pair.pairs p
    → StandsForWord filled_pair t g p w → word ≡ w
same_word t g p w (suc k, low, own) s = absurd (omega (arith, low))
same_word t g p w (zero, low, own) s =
    let only = only_group t g s.listed in
    let is : expansion p w ≡ group_calls (task_calls filled_pair 0) group =
    s.spells.1 ∙ (λ i. group_calls (task_calls filled_pair (only.0 i)) (only.1 i)) in
    let some : Some word ≡ Some w =
    (λ i. word_of (own i) (group_calls (task_calls filled_pair 0) group)) ∙ (ap (word_of p) (sym is) ∙ found p w s.spells.0) in
    cc

once : IsOpenedOnce filled_pair pair
once = record {
  task = 0;
  group = group;
  word = word;
  stands = stands;
  opens = refl;
  only = λ t g w s is. only_group t g s.listed;
}

pub is_apart : IsApart filled_pair
is_apart = record {
  version = inl refl;
  slots = of_each (λ p. (p.inner == p.outer) ≡ false) refl;
  disjoint = λ i j d less low. absurd (omega (arith, less, low));
  opened = of_each (IsOpenedOnce filled_pair) once;
  calls = each_call;
  boxes = λ t g p w has s. subst (HasPairBox filled_pair.sizes) (same_word t g p w has s) box;
  places = λ t g p w has s. of_each (λ q. puts_before q.outer w ≡ false) (ap (puts_before 0) (sym (same_word t g p w has s)));
}
