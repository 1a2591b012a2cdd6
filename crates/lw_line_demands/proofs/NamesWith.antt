-- How many names there are with further ones.
use Rattle.std.proofs.Common.{◌≡◌, ℕ, ◌+◌, ◌≤◌, Bool, true, false, ◌||◌, nat_le, nat_lt, if◌then◌else◌, List, [], ◌∷◌, ◌++◌, length, bytes_eq, refl, sym, ap, ◌∙◌, arith, length-append}
use Rattle.std.specs.List.{list_any}
use Rattle.lw_grammar.specs.Told.{Told, and_name, told_with}
use Rattle.lw_grammar.proofs.ScriptNames.{equal_names}
use Rattle.lw_statements.specs.declared.statement.Layers.TheVariants.{Nothing, One, Two}
use Rattle.lw_statements.specs.declared.statement.Statement.{Statement}
use Rattle.lw_statements.specs.declared.statement.Statement.TheVariants.{Call, Lock, Unlock}
use Rattle.lw_statements.specs.StatementMeaning.{statement_meaning}
use Rattle.lw_words.proofs.Targets.{length_targets}
use Rattle.lw_reader.specs.declared.state.Reader.{Reader}
use Rattle.lw_reader.specs.ReaderKnows.{known}
use Rattle.std.proofs.lemmas.Bool.{or_right, le-leb}
use Rattle.std.proofs.lemmas.Bool.Decides.{nat_tests}
use Rattle.std.proofs.lemmas.List.Folds.{list_any-append}
use Rattle.std.proofs.Math.Bool.{or-false}

-- a test of names with one at the end
any_with : (p : List ℕ → Bool) (ns : List (List ℕ)) (n : List ℕ) → list_any p (ns ++ n ∷ []) ≡ (list_any p ns || p n)
any_with p ns n = list_any-append p ns (n ∷ []) ∙ ap (λ b. list_any p ns || b) (or-false (p n))

-- a name that stands among them, and one that doesn't
pub known_first : (ns : List (List ℕ)) (l m : List ℕ) → list_any (bytes_eq l) ns ≡ true → length (and_name ns m) ≡ length (and_name (and_name ns l) m)
known_first ns l m e = rw e refl

-- with both alike
pub alike : (ns : List (List ℕ)) (l m : List ℕ) → list_any (bytes_eq l) ns ≡ false → bytes_eq m l ≡ true → length ns + 1 ≡ length (and_name (and_name ns l) m)
alike ns l m e f =
    let t : list_any (bytes_eq m) (ns ++ l ∷ []) ≡ true = any_with (bytes_eq m) ns l ∙ or_right (list_any (bytes_eq m) ns) (bytes_eq m l) f in
    rw (e, t) (sym (length-append ns (l ∷ [])))

-- with the second one known
pub known_second : (ns : List (List ℕ)) (l m : List ℕ) → list_any (bytes_eq l) ns ≡ false → list_any (bytes_eq m) ns ≡ true → length ns + 1 ≡ length (and_name (and_name ns l) m)
known_second ns l m e f =
    let t : list_any (bytes_eq m) (ns ++ l ∷ []) ≡ true = any_with (bytes_eq m) ns l ∙ rw f refl in
    rw (e, t) (sym (length-append ns (l ∷ [])))

-- with two new ones
pub both_new : (ns : List (List ℕ)) (l m : List ℕ) → list_any (bytes_eq l) ns ≡ false → bytes_eq m l ≡ false → list_any (bytes_eq m) ns ≡ false → length ns + 2 ≡ length (and_name (and_name ns l) m)
both_new ns l m e f g =
    let t : list_any (bytes_eq m) (ns ++ l ∷ []) ≡ false = any_with (bytes_eq m) ns l ∙ rw (g, f) refl in
    let d : length (ns ++ l ∷ []) ≡ length ns + 1 = length-append ns (l ∷ []) in
    let c : length ((ns ++ l ∷ []) ++ m ∷ []) ≡ length (ns ++ l ∷ []) + 1 = length-append (ns ++ l ∷ []) (m ∷ []) in
    rw (e, t) (omega (arith, c, d))

-- a name is among others with a further one exactly where it is among them or is that one
named_with : (ns : List (List ℕ)) (l n : List ℕ) → list_any (bytes_eq n) (and_name ns l) ≡ (list_any (bytes_eq n) ns || bytes_eq n l)
named_with ns l n = go (list_any (bytes_eq l) ns) refl (bytes_eq n l) refl
  where
    go : (t : Bool) → list_any (bytes_eq l) ns ≡ t → (u : Bool) → bytes_eq n l ≡ u → list_any (bytes_eq n) (if t then ns else ns ++ l ∷ []) ≡ (list_any (bytes_eq n) ns || u)
    go false e u f = any_with (bytes_eq n) ns l ∙ ap (λ b. list_any (bytes_eq n) ns || b) f
    go true e false f = sym (or-false (list_any (bytes_eq n) ns))
    go true e true f =
        let there : list_any (bytes_eq n) ns ≡ true = ap (λ m. list_any (bytes_eq m) ns) (equal_names n l f) ∙ e in
        rw there refl

named_with_two : (ns : List (List ℕ)) (l m n : List ℕ) → ((list_any (bytes_eq n) ns || bytes_eq n l) || bytes_eq n m) ≡ list_any (bytes_eq n) (and_name (and_name ns l) m)
named_with_two ns l m n = ap (λ b. b || bytes_eq n m) (sym (named_with ns l n)) ∙ sym (named_with (and_name ns l) m n)

pub named_known : (ns : List (List ℕ)) (l m n : List ℕ) → list_any (bytes_eq n) ns ≡ true → true ≡ list_any (bytes_eq n) (and_name (and_name ns l) m)
named_known ns l m n e = ap (λ a. (a || bytes_eq n l) || bytes_eq n m) (sym e) ∙ named_with_two ns l m n

pub named_new : (ns : List (List ℕ)) (l m n : List ℕ) (first : Bool) → list_any (bytes_eq n) ns ≡ false → bytes_eq n l ≡ first → (first || bytes_eq n m) ≡ list_any (bytes_eq n) (and_name (and_name ns l) m)
named_new ns l m n first e f =
    ap (λ a. (a || first) || bytes_eq n m) (sym e) ∙ ap (λ b. (list_any (bytes_eq n) ns || b) || bytes_eq n m) (sym f) ∙ named_with_two ns l m n

below_next : (a b : ℕ) → nat_lt a b ≡ nat_le (a + 1) b
below_next a b = grind (arith, nat_tests)

-- so there are as many, or one more
pub third_named : (ns : List (List ℕ)) (n : List ℕ) (limit : ℕ) → list_any (bytes_eq n) ns ≡ true → nat_le (length ns) limit ≡ nat_le (length (and_name ns n)) limit
third_named ns n limit e = rw e refl

pub third_new : (ns : List (List ℕ)) (n : List ℕ) (limit : ℕ) → list_any (bytes_eq n) ns ≡ false → nat_lt (length ns) limit ≡ nat_le (length (and_name ns n)) limit
third_new ns n limit e =
    let d : length (ns ++ n ∷ []) ≡ length ns + 1 = length-append ns (n ∷ []) in
    rw (e, d) (below_next (length ns) limit)

-- with a further one
one_more : (ns : List (List ℕ)) (n : List ℕ) → length (and_name ns n) ≤ length ns + 1
one_more ns n = go (list_any (bytes_eq n) ns)
  where
    go : (t : Bool) → length (if t then ns else ns ++ n ∷ []) ≤ length ns + 1
    go true = omega arith
    go false = let e : length (ns ++ n ∷ []) ≡ length ns + 1 = length-append ns (n ∷ []) in omega (arith, e)

-- with those of a line
pub two_more : (statement : Statement) (t : Told) → length (told_with (statement_meaning statement) t).names ≤ length t.names + 2
two_more (Call Nothing act) t = omega arith
two_more (Call (One l) act) t = omega (arith, one_more t.names l.now)
two_more (Call (Two l m) act) t = omega (arith, one_more t.names l.now, one_more (and_name t.names l.now) m.now)
two_more (Lock l) t = omega (arith, one_more t.names l.now)
two_more (Unlock l) t = omega (arith, one_more t.names l.now)
two_more statement t = omega arith

-- where two more have room, those of a line have
pub room_for_two : (statement : Statement) (r : Reader) (n : ℕ) → length r.tasks.layer_names.keys + 2 ≤ n → true ≡ nat_le (length (told_with (statement_meaning statement) (known r)).names) n
room_for_two statement r n h =
    sym (le-leb _ _ (omega (arith, h, two_more statement (known r), length_targets r.tasks.layer_names.keys)))
