-- The names of a demo's tasks and layers, as the lines of its script tell them.
use Rattle.std.proofs.Common.{◌≡◌, ℕ, zero, suc, ◌+◌, ◌*◌, ◌<◌, ◌≤◌, ◌==◌, Bool, true, false, not, ◌&&◌, nat_le, cond, List, [], ◌∷◌, ◌++◌, length, bytes_eq, slice_index_or, refl}
use Rattle.std.specs.List.{list_any, list_all, range_with_len}
use Rattle.std.specs.Fmt.{digits}
use Rattle.lw_calls.proofs.OrdersComplete.{all_below}
use Rattle.lw_grammar.specs.Tokens.{NameToken, is_a_text, is_a_name, token_of}
use Rattle.lw_grammar.specs.Told.{and_name, place_among}
use Rattle.lw_gen.specs.Demo.{task_name, layer_names}
use Rattle.lw_canonical.proofs.PlainWords.{is_plain, name_token}
use Rattle.std.proofs.lemmas.Bool.{leb-true, eqb-true, and_parts, not-true}

-- the name of layer 0, 1 or 2 of a task
abbrev pub layer_name : ℕ → ℕ → List ℕ
layer_name task layer = slice_index_or (layer_names task) layer []

-- what so many tasks have, one after another
abbrev pub of_tasks : {A : Type 0} → (ℕ → A) → ℕ → List A
of_tasks f zero = []
of_tasks f (suc n) = of_tasks f n ++ f n ∷ []

-- the names of so many tasks, and of their layers
abbrev pub tasks_named : ℕ → List (List ℕ)
tasks_named n = of_tasks task_name n

abbrev pub one_named : ℕ → List (List ℕ) → List (List ℕ)
one_named n names = names ++ layer_name n 0 ∷ []

abbrev pub two_named : ℕ → List (List ℕ) → List (List ℕ)
two_named n names = one_named n names ++ layer_name n 1 ∷ []

abbrev pub layers_named : ℕ → List (List ℕ)
layers_named zero = []
layers_named (suc n) = two_named n (layers_named n) ++ layer_name n 2 ∷ []

-- A name on a call's line: by it the names of layers become others, among which it stands at this slot.
pub record IsNamed (old new : List (List ℕ)) (l : List ℕ) (slot : ℕ) : Type 0 where
  pub plain : is_plain l ≡ true
  pub name : token_of l ≡ NameToken l
  pub becomes : and_name old l ≡ new
  pub place : place_among new l ≡ slot
  pub few : length new ≤ 64

-- a plain name
abbrev is_plain_name : List ℕ → Bool
is_plain_name w = is_plain w && (not (is_a_text w) && is_a_name w)

plain_name : (w : List ℕ) → is_plain_name w ≡ true → (is_plain w ≡ true) × (token_of w ≡ NameToken w)
plain_name w h =
    let k = and_parts (is_plain w) (not (is_a_text w) && is_a_name w) h in
    let m = and_parts (not (is_a_text w)) (is_a_name w) k.1 in
    (k.0, name_token w (not-true (is_a_text w) m.0) m.1)

-- a name that is none of these, and stands at this slot with them; and one of these
abbrev stands_at : List (List ℕ) → List ℕ → ℕ → Bool
stands_at new l slot = is_plain_name l && ((place_among new l == slot) && nat_le (length new) 64)

abbrev is_new_at : List (List ℕ) → List ℕ → ℕ → Bool
is_new_at old l slot = not (list_any (bytes_eq l) old) && stands_at (old ++ l ∷ []) l slot

abbrev is_known_at : List (List ℕ) → List ℕ → ℕ → Bool
is_known_at names l slot = list_any (bytes_eq l) names && stands_at names l slot

named_at : (old new : List (List ℕ)) (l : List ℕ) (slot : ℕ) → and_name old l ≡ new → stands_at new l slot ≡ true → IsNamed old new l slot
named_at old new l slot e h =
    let k = and_parts (is_plain_name l) ((place_among new l == slot) && nat_le (length new) 64) h in
    let m = and_parts (place_among new l == slot) (nat_le (length new) 64) k.1 in
    let w = plain_name l k.0 in
    record { plain = w.0; name = w.1; becomes = e; place = eqb-true (place_among new l) slot m.0; few = leb-true (length new) 64 m.1 }

new_at : (old : List (List ℕ)) (l : List ℕ) (slot : ℕ) → is_new_at old l slot ≡ true → IsNamed old (old ++ l ∷ []) l slot
new_at old l slot h =
    let k = and_parts (not (list_any (bytes_eq l) old)) (stands_at (old ++ l ∷ []) l slot) h in
    let no = not-true (list_any (bytes_eq l) old) k.0 in
    named_at old (old ++ l ∷ []) l slot (λ i. cond (no i) old (old ++ l ∷ [])) k.1

known_at : (names : List (List ℕ)) (l : List ℕ) (slot : ℕ) → is_known_at names l slot ≡ true → IsNamed names names l slot
known_at names l slot h =
    let k = and_parts (list_any (bytes_eq l) names) (stands_at names l slot) h in
    named_at names names l slot (λ i. cond (k.0 i) names (names ++ l ∷ [])) k.1

-- A task's name is a plain one, and no other task's above it.
abbrev is_task_named : ℕ → Bool
is_task_named n = not (list_any (bytes_eq (task_name n)) (tasks_named n)) && is_plain_name (task_name n)

tasks_are_named : list_all is_task_named (range_with_len 0 16) ≡ true
unfolding digits
tasks_are_named = refl

pub record IsNewTask (n : ℕ) : Type 0 where
  pub plain : is_plain (task_name n) ≡ true
  pub name : token_of (task_name n) ≡ NameToken (task_name n)
  pub new : list_any (bytes_eq (task_name n)) (tasks_named n) ≡ false

pub new_task : (n : ℕ) → n < 16 → IsNewTask n
new_task n low =
    let k = and_parts (not (list_any (bytes_eq (task_name n)) (tasks_named n))) (is_plain_name (task_name n)) (all_below is_task_named 16 n tasks_are_named low) in
    let w = plain_name (task_name n) k.1 in
    record { plain = w.0; name = w.1; new = not-true (list_any (bytes_eq (task_name n)) (tasks_named n)) k.0 }

-- Its layers' names are new where they are created, and then they are known.
abbrev are_new : ℕ → Bool
are_new n =
    is_new_at (layers_named n) (layer_name n 0) (3 * n)
    && (is_new_at (one_named n (layers_named n)) (layer_name n 1) (3 * n + 1) && is_new_at (two_named n (layers_named n)) (layer_name n 2) (3 * n + 2))

layers_are_new : list_all are_new (range_with_len 0 16) ≡ true
unfolding digits
layers_are_new = refl

pub record AreNewLayers (n : ℕ) : Type 0 where
  pub back : IsNamed (layers_named n) (one_named n (layers_named n)) (layer_name n 0) (3 * n)
  pub middle : IsNamed (one_named n (layers_named n)) (two_named n (layers_named n)) (layer_name n 1) (3 * n + 1)
  pub front : IsNamed (two_named n (layers_named n)) (layers_named (suc n)) (layer_name n 2) (3 * n + 2)

pub new_layers : (n : ℕ) → n < 16 → AreNewLayers n
new_layers n low =
    let k = and_parts (is_new_at (layers_named n) (layer_name n 0) (3 * n)) _ (all_below are_new 16 n layers_are_new low) in
    let m = and_parts (is_new_at (one_named n (layers_named n)) (layer_name n 1) (3 * n + 1)) _ k.1 in
    record { back = new_at _ _ _ k.0; middle = new_at _ _ _ m.0; front = new_at _ _ _ m.1 }

abbrev is_known : ℕ → ℕ → Bool
is_known n layer = is_known_at (layers_named (suc n)) (layer_name n layer) (3 * n + layer)

layers_are_known : list_all (λ n. list_all (is_known n) (range_with_len 0 3)) (range_with_len 0 16) ≡ true
unfolding digits
layers_are_known = refl

pub known_layer : (n layer : ℕ) → n < 16 → layer < 3 → IsNamed (layers_named (suc n)) (layers_named (suc n)) (layer_name n layer) (3 * n + layer)
known_layer n layer low few =
    known_at _ _ _ (all_below (is_known n) 3 layer (all_below (λ m. list_all (is_known m) (range_with_len 0 3)) 16 n layers_are_known low) few)
