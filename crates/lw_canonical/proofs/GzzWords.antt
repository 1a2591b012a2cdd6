-- The calls of a line that is done with a window of two layers stand for a word, by which the canonical text has that line.
use Rattle.std.proofs.Common.{◌≡◌, ℕ, true, false, List, [], ◌∷◌, slice_index_or, Option, Some, None, refl, sym, ap, ap₂, ◌∙◌, inl, inr, ◌⊎◌}
use Rattle.lw_calls.specs.declared.make.Kind.TheVariants.{Smart}
use Rattle.lw_calls.specs.declared.pair.Pair.{Pair}
use Rattle.lw_calls.specs.declared.call.Call.{Call}
use Rattle.lw_gzz.specs.declared.word.GzzWord.{GzzWord}
use Rattle.lw_gzz.specs.declared.word.GzzWord.TheVariants.{Open as OpenWord, SetBox as BoxWord, Front as FrontWord, Behind as BehindWord, InFrontOf as PlaceWord, Close as CloseWord}
use Rattle.lw_gzz.specs.Words.{Spells}
use Rattle.lw_gzz.specs.Recognition.{word_of}
use Rattle.lw_gzz.proofs.Spelling.{exact}
use Rattle.lw_gzz.proofs.OnePair.{one_pair}
use Rattle.lw_grammar.specs.declared.verb.BareVerb.TheVariants.{Close as CloseVerb, Front as FrontVerb, Behind as BehindVerb}
use Rattle.lw_grammar.specs.Statements.{BareAct, OpenAct, InFrontAct, BoxAct, GzzAct, OpenGzz, BoxGzz, FrontGzz, BehindGzz, InFrontGzz, CloseGzz, GzzLine, new_without_bitmap}
use Rattle.lw_grammar.specs.Told.{spelled_call, inner_box}
use Rattle.lw_grammar.proofs.ScriptStatements.{IsGzzMade}
use Rattle.lw_canonical.specs.Canonical.{or_word, word_among, line_of_word}
use Rattle.std.proofs.lemmas.Bool.{not_from_false}

-- the word that a line does, where the layer in front of which it puts its window has this slot
abbrev pub word_done : GzzAct → ℕ → GzzWord
word_done (OpenGzz inner kind place r classes title) m = OpenWord kind place r.x r.y r.w r.h classes title
word_done (BoxGzz r) m = BoxWord r.x r.y r.w r.h
word_done FrontGzz m = FrontWord
word_done BehindGzz m = BehindWord
word_done (InFrontGzz other) m = PlaceWord m
word_done CloseGzz m = CloseWord

-- its calls on these slots
abbrev pub calls_done : List (List ℕ) → ℕ → ℕ → ℕ → GzzAct → List Call
calls_done bitmaps o i m (OpenGzz inner kind place r classes title) =
    spelled_call bitmaps (OpenAct r (new_without_bitmap Smart place false None) true false classes title) (o ∷ [])
    ∷ spelled_call bitmaps (OpenAct (inner_box r) (new_without_bitmap kind place false None) false false classes []) (i ∷ [])
    ∷ spelled_call bitmaps InFrontAct (i ∷ o ∷ [])
    ∷ []
calls_done bitmaps o i m (BoxGzz r) = spelled_call bitmaps (BoxAct r) (o ∷ []) ∷ spelled_call bitmaps (BoxAct (inner_box r)) (i ∷ []) ∷ []
calls_done bitmaps o i m FrontGzz = spelled_call bitmaps (BareAct FrontVerb) (o ∷ []) ∷ spelled_call bitmaps (BareAct FrontVerb) (i ∷ []) ∷ []
calls_done bitmaps o i m BehindGzz = spelled_call bitmaps (BareAct BehindVerb) (i ∷ []) ∷ spelled_call bitmaps (BareAct BehindVerb) (o ∷ []) ∷ []
calls_done bitmaps o i m (InFrontGzz other) = spelled_call bitmaps InFrontAct (o ∷ m ∷ []) ∷ spelled_call bitmaps InFrontAct (i ∷ o ∷ []) ∷ []
calls_done bitmaps o i m CloseGzz = spelled_call bitmaps (BareAct CloseVerb) (o ∷ []) ∷ spelled_call bitmaps (BareAct CloseVerb) (i ∷ []) ∷ []

-- a pair by its slots
abbrev pub pair_at : ℕ → ℕ → Pair
pair_at o i = record { outer = o; inner = i }

-- They are the word's.
pub calls_spell : (bitmaps : List (List ℕ)) (o i m : ℕ) (act : GzzAct) → IsGzzMade act → Spells (pair_at o i) (word_done act m) (calls_done bitmaps o i m act)
calls_spell bitmaps o i m (OpenGzz inner kind place r classes title) h = (not_from_false _ h.0, refl)
calls_spell bitmaps o i m (BoxGzz r) h = (refl, refl)
calls_spell bitmaps o i m FrontGzz h = (refl, refl)
calls_spell bitmaps o i m BehindGzz h = (refl, refl)
calls_spell bitmaps o i m (InFrontGzz other) h = (refl, refl)
calls_spell bitmaps o i m CloseGzz h = (refl, refl)

-- the pair is one of these
abbrev pub IsIn : Pair → List Pair → Type 0
IsIn p [] = ⊥
IsIn p (q ∷ qs) = (p ≡ q) ⊎ IsIn p qs

-- Calls that stand for a word of one of the pairs stand for it among all.
pub among_has : (pairs : List Pair) (p : Pair) (word : GzzWord) (cs : List Call) → Spells p word cs → IsIn p pairs → word_among pairs cs ≡ Some (p, word)
among_has [] p word cs s h = absurd h
among_has (q ∷ qs) p word cs s h = go (word_of q cs) refl (λ k. among_has qs p word cs s k) h
  where
    go : (o : Option GzzWord) → word_of q cs ≡ o → (IsIn p qs → word_among qs cs ≡ Some (p, word)) → (p ≡ q) ⊎ IsIn p qs → or_word q (word_of q cs) (word_among qs cs) ≡ Some (p, word)
    go (Some v) e rest k =
        let both = one_pair p q cs word v s ((exact q cs).spelled v e) in
        ap (λ (w : Option GzzWord). or_word q w (word_among qs cs)) e ∙ ap₂ (λ (r : Pair) (u : GzzWord). (let o : Option (Pair × GzzWord) = Some (r, u) in o)) (sym both.0) (sym both.1)
    go None e rest (inl same) =
        let is : word_of q cs ≡ Some word = ap (λ r. word_of r cs) (sym same) ∙ (exact p cs).found word s in
        let bare : None ≡ Some word = sym e ∙ is in
        absurd (cc)
    go None e rest (inr k) = ap (λ (w : Option GzzWord). or_word q w (word_among qs cs)) e ∙ rest k

-- the further name of the line is that of its slot
abbrev pub IsNamedBy : List (List ℕ) → ℕ → ℕ → GzzAct → Type 0
IsNamedBy names i m (OpenGzz inner kind place r classes title) = slice_index_or names i [] ≡ inner
IsNamedBy names i m (InFrontGzz other) = slice_index_or names m [] ≡ other
IsNamedBy names i m act = Unit {0}

-- The line of that word is the line.
pub word_line_back : (names : List (List ℕ)) (o i m : ℕ) (g : List ℕ) (act : GzzAct) → slice_index_or names o [] ≡ g → IsNamedBy names i m act → line_of_word names (pair_at o i, word_done act m) ≡ GzzLine g act
word_line_back names o i m g (OpenGzz own kind place r classes title) e h = ap₂ (λ (n k : List ℕ). GzzLine n (OpenGzz k kind place r classes title)) e h
word_line_back names o i m g (BoxGzz r) e h = ap (λ (n : List ℕ). GzzLine n (BoxGzz r)) e
word_line_back names o i m g FrontGzz e h = ap (λ (n : List ℕ). GzzLine n FrontGzz) e
word_line_back names o i m g BehindGzz e h = ap (λ (n : List ℕ). GzzLine n BehindGzz) e
word_line_back names o i m g (InFrontGzz other) e h = ap₂ (λ (n k : List ℕ). GzzLine n (InFrontGzz k)) e h
word_line_back names o i m g CloseGzz e h = ap (λ (n : List ℕ). GzzLine n CloseGzz) e
