-- Sets of classes of messages, letter by letter.
use Rattle.std.proofs.Common.{◌≡◌, ℕ, zero, suc, ◌+◌, ◌*◌, ◌%◌, ◌^◌, ◌<◌, ◌≤◌, List, ◌∷◌, length, drop, get_or, drop-cons, add-one, Option, Some, None, option_map, refl, sym, ap, subst, ◌∙◌, arith}
use Rattle.lw_grammar.specs.Statements.{message_class_of, classes_from}
use native.Mathlib.Numerals.{unary_clauses}
use Rattle.std.proofs.Math.Pow.{pow_mono}
use Rattle.std.proofs.lemmas.Bool.{le-leb, lt-leb}

-- a sum of three
regroup : (n m : ℕ) (o : Option ℕ) → option_map (λ r. n + r) (option_map (λ r. m + r) o) ≡ option_map (λ r. (n + m) + r) o
regroup n m None = refl
regroup n m (Some r) = let e : n + (m + r) ≡ (n + m) + r = omega arith in ap Some e

-- a letter whose class comes next
more_classes : (n least b k : ℕ) (bs : List ℕ) → message_class_of b ≡ Some k → least ≤ k → option_map (λ r. n + r) (classes_from least (b ∷ bs)) ≡ option_map (λ r. (n + 2 ^ k) + r) (classes_from (k + 1) bs)
more_classes n least b k bs e h = rw (e, le-leb least k h) (regroup n (2 ^ k) (classes_from (k + 1) bs))

-- a letter without a class, and one whose class came before
no_class : (n least b : ℕ) (bs : List ℕ) → message_class_of b ≡ None → option_map (λ r. n + r) (classes_from least (b ∷ bs)) ≡ None
no_class n least b bs e = rw e refl

late_class : (n least b k : ℕ) (bs : List ℕ) → message_class_of b ≡ Some k → k < least → option_map (λ r. n + r) (classes_from least (b ∷ bs)) ≡ None
late_class n least b k bs e h = rw (e, lt-leb least k h) refl

-- a class as one bit of a byte
bit_of_class : (k : ℕ) → k ≤ 4 → (1 * 2 ^ k) % 256 ≡ 2 ^ k
bit_of_class zero h = refl
bit_of_class (suc zero) h = refl
bit_of_class (suc (suc zero)) h = refl
bit_of_class (suc (suc (suc zero))) h = refl
bit_of_class (suc (suc (suc (suc zero)))) h = refl
bit_of_class (suc (suc (suc (suc (suc k))))) h = absurd (omega arith)

-- the set with a further class is still small
pub small_more : (n least k : ℕ) → n < 2 ^ least → least ≤ k → k ≤ 4 → n + ((1 * 2 ^ k) % 256) < 2 ^ (k + 1)
small_more n least k small h le =
    let m : 2 ^ least ≤ 2 ^ k = pow_mono h in
    let e : (1 * 2 ^ k) % 256 ≡ 2 ^ k = bit_of_class k le in
    let d : 2 ^ (k + 1) ≡ 2 * 2 ^ k = double k in
    omega (arith, m, e, d)
  where
    double : (k : ℕ) → 2 ^ (k + 1) ≡ 2 * 2 ^ k
    double k = let e : k + 1 ≡ suc k = omega arith in rw e (simp unary_clauses (omega arith))

-- the classes with those of a further letter
pub told_more : (bs : List ℕ) (i n least k : ℕ) → i < length bs → message_class_of (get_or bs i 0) ≡ Some k → least ≤ k → k ≤ 4 → option_map (λ r. n + r) (classes_from least (drop i bs)) ≡ classes_from 0 bs → option_map (λ r. (n + ((1 * 2 ^ k) % 256)) + r) (classes_from (k + 1) (drop (i + 1) bs)) ≡ classes_from 0 bs
told_more bs i n least k lt e h le told =
    let d : drop i bs ≡ get_or bs i 0 ∷ drop (i + 1) bs = rw add-one (drop-cons bs i 0 lt) in
    let P : List ℕ → Type 0 = λ cs. option_map (λ r. n + r) (classes_from least cs) ≡ classes_from 0 bs in
    let Q : ℕ → Type 0 = λ m. option_map (λ r. (n + m) + r) (classes_from (k + 1) (drop (i + 1) bs)) ≡ classes_from 0 bs in
    subst Q (sym (bit_of_class k le)) (sym (more_classes n least (get_or bs i 0) k (drop (i + 1) bs) e h) ∙ subst P d told)

-- where a letter has no class, or one that came before, they are no set
pub told_none : (bs : List ℕ) (i n least : ℕ) → i < length bs → message_class_of (get_or bs i 0) ≡ None → option_map (λ r. n + r) (classes_from least (drop i bs)) ≡ classes_from 0 bs → None ≡ classes_from 0 bs
told_none bs i n least lt e told =
    let d : drop i bs ≡ get_or bs i 0 ∷ drop (i + 1) bs = rw add-one (drop-cons bs i 0 lt) in
    let P : List ℕ → Type 0 = λ cs. option_map (λ r. n + r) (classes_from least cs) ≡ classes_from 0 bs in
    sym (no_class n least (get_or bs i 0) (drop (i + 1) bs) e) ∙ subst P d told

pub told_late : (bs : List ℕ) (i n least k : ℕ) → i < length bs → message_class_of (get_or bs i 0) ≡ Some k → k < least → option_map (λ r. n + r) (classes_from least (drop i bs)) ≡ classes_from 0 bs → None ≡ classes_from 0 bs
told_late bs i n least k lt e h told =
    let d : drop i bs ≡ get_or bs i 0 ∷ drop (i + 1) bs = rw add-one (drop-cons bs i 0 lt) in
    let P : List ℕ → Type 0 = λ cs. option_map (λ r. n + r) (classes_from least cs) ≡ classes_from 0 bs in
    sym (late_class n least (get_or bs i 0) k (drop (i + 1) bs) e h) ∙ subst P d told
