-- The calls of lines of their own are free of the pairs of the plan, so that no group of them stands for a word.
use Rattle.std.proofs.Common.{◌≡◌, ℕ, ◌==◌, Bool, true, false, not, ◌&&◌, ◌||◌, List, [], ◌∷◌, length, map, slice_index, slice_index_or, bytes_eq, Option, Some, None, refl, sym, ap, ap₂, ◌∙◌, arith}
use Rattle.std.specs.List.{list_any, list_all}
use Rattle.lw_calls.specs.declared.pair.Pair.{Pair}
use Rattle.lw_calls.specs.declared.call.Call.{Call}
use Rattle.lw_gzz.specs.declared.word.GzzWord.{GzzWord}
use Rattle.lw_gzz.specs.Words.{expansion}
use Rattle.lw_gzz.specs.Together.{is_of, may_part}
use Rattle.lw_gzz.specs.Recognition.{word_of}
use Rattle.lw_gzz.proofs.Spelling.{exact}
use Rattle.lw_gzz.proofs.OnePair.{words_part}
use Rattle.lw_grammar.specs.declared.verb.BareVerb.TheVariants.{Close as CloseVerb, Front as FrontVerb, Behind as BehindVerb, Activate as ActivateVerb}
use Rattle.lw_grammar.specs.declared.verb.NumberVerb.TheVariants.{APen as APenVerb}
use Rattle.lw_grammar.specs.declared.verb.PairVerb.TheVariants.{Move as MoveVerb, Size as SizeVerb}
use Rattle.lw_grammar.specs.declared.verb.TextVerb.TheVariants.{Text as TextOf}
use Rattle.lw_grammar.specs.Statements.{Act, BareAct, NumberAct, PairAct, TextAct, CreateAct, OpenAct, InFrontAct, BoxAct, CallLine, layers_of}
use Rattle.lw_grammar.specs.Told.{NamedPair, place_among, spelled_call, pair_among}
use Rattle.lw_grammar.specs.Script.{is_outer, is_inner, is_paired, is_placing, is_activating, parts_pair}
use Rattle.lw_grammar.proofs.ScriptNames.{same_name}
use Rattle.lw_canonical.specs.Canonical.{or_word, word_among}
use Rattle.std.proofs.lemmas.Bool.{true≢false, false≢true, ne_eqb, and_parts, and_from, or_parts, or_from}

-- none of these pairs is parted by the call
abbrev pub is_free_call : List Pair → Call → Bool
is_free_call pairs c = list_all (λ q. not (may_part q c)) pairs

-- calls of which the first one is free of a pair stand for no word of it
first_of_word : (q : Pair) (word : GzzWord) (c : Call) (cs : List Call) → expansion q word ≡ c ∷ cs → may_part q c ≡ true
first_of_word q word c cs e =
    let all : list_all (may_part q) (c ∷ cs) ≡ true = ap (list_all (may_part q)) (sym e) ∙ words_part q word in
    (and_parts (may_part q c) _ all).0

no_word_of : (q : Pair) (c : Call) (cs : List Call) → may_part q c ≡ false → word_of q (c ∷ cs) ≡ None
no_word_of q c cs h = go (word_of q (c ∷ cs)) refl
  where
    go : (o : Option GzzWord) → word_of q (c ∷ cs) ≡ o → o ≡ None
    go None e = refl
    go (Some word) e =
        let spells = (exact q (c ∷ cs)).spelled word e in
        absurd (true≢false (sym (first_of_word q word c cs spells.1) ∙ h))

pub not_so : (b : Bool) → not b ≡ true → b ≡ false
not_so false h = refl
not_so true h = absurd (false≢true h)

-- So calls that begin with a free one stand for no word.
pub no_word_among : (pairs : List Pair) (c : Call) (cs : List Call) → is_free_call pairs c ≡ true → word_among pairs (c ∷ cs) ≡ None
no_word_among [] c cs h = refl
no_word_among (q ∷ qs) c cs h =
    let k = and_parts (not (may_part q c)) (is_free_call qs c) h in
    ap₂ (λ (o : Option GzzWord) (w : Option (Pair × GzzWord)). or_word q o w) (no_word_of q c cs (not_so (may_part q c) k.0)) (no_word_among qs c cs k.1)

-- both names of a window are found by their slots
pub record IsFoundPair (names : List (List ℕ)) (q : NamedPair) : Type 0 where
  pub outer : slice_index_or names (place_among names q.outer) [] ≡ q.outer
  pub inner : slice_index_or names (place_among names q.inner) [] ≡ q.inner

-- a layer of another name has another slot
pub other_slot : (names : List (List ℕ)) (k : ℕ) (n : List ℕ) → slice_index_or names (place_among names n) [] ≡ n → bytes_eq (slice_index_or names k []) n ≡ false → (k == place_among names n) ≡ false
other_slot names k n found e =
    ne_eqb k (place_among names n) (λ same.
    let is : slice_index_or names k [] ≡ n = ap (λ i. slice_index_or names i []) same ∙ found in
    true≢false (sym (same_name n) ∙ (ap (λ l. bytes_eq l n) (sym is) ∙ e)))

-- the name of a slot
abbrev pub name_at : List (List ℕ) → ℕ → List ℕ
name_at names k = slice_index_or names k []

-- neither name of the window is that of the slot
abbrev is_beside : List (List ℕ) → NamedPair → ℕ → Bool
is_beside names q k = bytes_eq (name_at names k) q.outer || bytes_eq (name_at names k) q.inner

beside : (names : List (List ℕ)) (q : NamedPair) (k : ℕ) → IsFoundPair names q → is_beside names q k ≡ false → is_of (pair_among names q) k ≡ false
beside names q k found h =
    let e = or_parts (bytes_eq (name_at names k) q.outer) _ h in
    or_from _ _ (other_slot names k q.outer found.outer e.0) (other_slot names k q.inner found.inner e.1)

-- The act parts the window, where its layers are those of these slots.
abbrev pub parts_one : List (List ℕ) → NamedPair → List ℕ → Act → Bool
parts_one names q slots act =
    (is_placing act && list_any (is_beside names q) slots) || (is_activating act && list_any (λ k. bytes_eq (name_at names k) q.inner) slots)

-- what an act on one layer, or on two, tells of them
one_slot : (P : ℕ → Bool) (slots : List ℕ) → length slots ≡ 1 → list_any P slots ≡ false → P (slice_index slots 0) ≡ false
one_slot P [] n h = absurd (omega arith)
one_slot P (k ∷ ks) n h = (or_parts (P k) _ h).0

two_slots : (P : ℕ → Bool) (slots : List ℕ) → length slots ≡ 2 → list_any P slots ≡ false → (P (slice_index slots 0) ≡ false) × (P (slice_index slots 1) ≡ false)
two_slots P [] n h = absurd (omega arith)
two_slots P (k ∷ []) n h = absurd (omega arith)
two_slots P (k ∷ j ∷ ks) n h =
    let a = or_parts (P k) _ h in
    (a.0, (or_parts (P j) _ a.1).0)

-- the call of an act that parts a window not
pub one_free : (names bitmaps : List (List ℕ)) (q : NamedPair) (slots : List ℕ) (act : Act) → length slots ≡ layers_of act → IsFoundPair names q → parts_one names q slots act ≡ false → may_part (pair_among names q) (spelled_call bitmaps act slots) ≡ false
one_free names bitmaps q slots (BareAct CloseVerb) n f h = beside names q (slice_index slots 0) f (one_slot (is_beside names q) slots n (or_parts (list_any (is_beside names q) slots) _ h).0)
one_free names bitmaps q slots (BareAct FrontVerb) n f h = beside names q (slice_index slots 0) f (one_slot (is_beside names q) slots n (or_parts (list_any (is_beside names q) slots) _ h).0)
one_free names bitmaps q slots (BareAct BehindVerb) n f h = beside names q (slice_index slots 0) f (one_slot (is_beside names q) slots n (or_parts (list_any (is_beside names q) slots) _ h).0)
one_free names bitmaps q slots (BareAct ActivateVerb) n f h = other_slot names (slice_index slots 0) q.inner f.inner (one_slot (λ k. bytes_eq (name_at names k) q.inner) slots n h)
one_free names bitmaps q slots (BareAct verb) n f h = refl
one_free names bitmaps q slots (NumberAct APenVerb z) n f h = refl
one_free names bitmaps q slots (NumberAct verb z) n f h = refl
one_free names bitmaps q slots (PairAct MoveVerb x y) n f h = beside names q (slice_index slots 0) f (one_slot (is_beside names q) slots n (or_parts (list_any (is_beside names q) slots) _ h).0)
one_free names bitmaps q slots (PairAct SizeVerb x y) n f h = beside names q (slice_index slots 0) f (one_slot (is_beside names q) slots n (or_parts (list_any (is_beside names q) slots) _ h).0)
one_free names bitmaps q slots (PairAct verb x y) n f h = refl
one_free names bitmaps q slots (TextAct TextOf text) n f h = refl
one_free names bitmaps q slots (TextAct verb text) n f h = refl
one_free names bitmaps q slots (CreateAct rect layer) n f h = beside names q (slice_index slots 0) f (one_slot (is_beside names q) slots n (or_parts (list_any (is_beside names q) slots) _ h).0)
one_free names bitmaps q slots (OpenAct at layer framed nocare classes title) n f h = beside names q (slice_index slots 0) f (one_slot (is_beside names q) slots n (or_parts (list_any (is_beside names q) slots) _ h).0)
one_free names bitmaps q slots (BoxAct r) n f h = beside names q (slice_index slots 0) f (one_slot (is_beside names q) slots n (or_parts (list_any (is_beside names q) slots) _ h).0)
one_free names bitmaps q slots InFrontAct n f h =
    let both = two_slots (is_beside names q) slots n (or_parts (list_any (is_beside names q) slots) _ h).0 in
    or_from _ _ (beside names q (slice_index slots 0) f both.0) (beside names q (slice_index slots 1) f both.1)
one_free names bitmaps q slots act n f h = refl

-- what is none of several windows is none of the first, nor of the others
both_false : (a b c d : Bool) → ((a || b) || (c || d)) ≡ false → ((a || c) ≡ false) × ((b || d) ≡ false)
both_false false false false false h = (refl, refl)
both_false true b c d h = absurd (true≢false h)
both_false false true c d h = absurd (true≢false h)
both_false false false true d h = absurd (true≢false h)
both_false false false false true h = absurd (true≢false h)

paired_split : (names : List (List ℕ)) (q : NamedPair) (qs : List NamedPair) (slots : List ℕ) → list_any (is_paired (q ∷ qs)) (map (name_at names) slots) ≡ false → (list_any (is_beside names q) slots ≡ false) × (list_any (is_paired qs) (map (name_at names) slots) ≡ false)
paired_split names q qs [] h = (refl, refl)
paired_split names q qs (k ∷ ks) h =
    let a = or_parts (is_paired (q ∷ qs) (name_at names k)) _ h in
    let first = both_false (bytes_eq (name_at names k) q.outer) (is_outer qs (name_at names k)) (bytes_eq (name_at names k) q.inner) (is_inner qs (name_at names k)) a.0 in
    let rest = paired_split names q qs ks a.1 in
    (or_from _ _ first.0 rest.0, or_from _ _ first.1 rest.1)

inner_split : (names : List (List ℕ)) (q : NamedPair) (qs : List NamedPair) (slots : List ℕ) → list_any (is_inner (q ∷ qs)) (map (name_at names) slots) ≡ false → (list_any (λ k. bytes_eq (name_at names k) q.inner) slots ≡ false) × (list_any (is_inner qs) (map (name_at names) slots) ≡ false)
inner_split names q qs [] h = (refl, refl)
inner_split names q qs (k ∷ ks) h =
    let a = or_parts (is_inner (q ∷ qs) (name_at names k)) _ h in
    let first = or_parts (bytes_eq (name_at names k) q.inner) _ a.0 in
    let rest = inner_split names q qs ks a.1 in
    (or_from _ _ first.0 rest.0, or_from _ _ first.1 rest.1)

-- a test that is asked where another one holds
if_asked : (t x y z : Bool) → (x ≡ false → (y ≡ false) × (z ≡ false)) → (t && x) ≡ false → ((t && y) ≡ false) × ((t && z) ≡ false)
if_asked true x y z f h = f h
if_asked false x y z f h = (refl, refl)

parts_split : (names : List (List ℕ)) (q : NamedPair) (qs : List NamedPair) (slots : List ℕ) (act : Act) → parts_pair (q ∷ qs) (CallLine (map (name_at names) slots) act) ≡ false → (parts_one names q slots act ≡ false) × (parts_pair qs (CallLine (map (name_at names) slots) act) ≡ false)
parts_split names q qs slots act h =
    let a = or_parts (is_placing act && list_any (is_paired (q ∷ qs)) (map (name_at names) slots)) _ h in
    let first = if_asked (is_placing act) _ (list_any (is_beside names q) slots) (list_any (is_paired qs) (map (name_at names) slots)) (paired_split names q qs slots) a.0 in
    let second = if_asked (is_activating act) _ (list_any (λ k. bytes_eq (name_at names k) q.inner) slots) (list_any (is_inner qs) (map (name_at names) slots)) (inner_split names q qs slots) a.1 in
    (or_from _ _ first.0 second.0, or_from _ _ first.1 second.1)

-- each of these windows is found
abbrev pub AreFoundPairs : List (List ℕ) → List NamedPair → Type 0
AreFoundPairs names [] = Unit {0}
AreFoundPairs names (q ∷ qs) = IsFoundPair names q × AreFoundPairs names qs

not_it : (b : Bool) → b ≡ false → not b ≡ true
not_it false h = refl
not_it true h = absurd (true≢false h)

-- So the call of a line that parts none of them is free of all.
pub call_is_free : (names bitmaps : List (List ℕ)) (qs : List NamedPair) (slots : List ℕ) (act : Act) → length slots ≡ layers_of act → AreFoundPairs names qs → parts_pair qs (CallLine (map (name_at names) slots) act) ≡ false → is_free_call (map (pair_among names) qs) (spelled_call bitmaps act slots) ≡ true
call_is_free names bitmaps [] slots act n f h = refl
call_is_free names bitmaps (q ∷ qs) slots act n f h =
    let k = parts_split names q qs slots act h in
    and_from _ _ (not_it _ (one_free names bitmaps q slots act n f.0 k.0)) (call_is_free names bitmaps qs slots act n f.1 k.1)
