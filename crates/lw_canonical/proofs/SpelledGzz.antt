-- The words of what is done with a window of two layers are those that it was read from.
use Rattle.std.proofs.Common.{◌≡◌, ℕ, ◌≤◌, Bool, true, false, List, [], ◌∷◌, ◌++◌, map, codes, bytes_eq, None, IfSome, refl, sym, ap, ◌∙◌}
use Rattle.lw_calls.specs.declared.make.Kind.{Kind}
use Rattle.lw_calls.specs.declared.make.Kind.TheVariants.{Simple, Smart}
use Rattle.lw_calls.specs.declared.make.Place.{Place}
use Rattle.lw_grammar.specs.declared.verb.GzzVerb.{GzzVerb}
use Rattle.lw_grammar.specs.declared.verb.GzzVerb.TheVariants.{Open as OpenVerb, Box as BoxVerb, Front as FrontVerb, Behind as BehindVerb, InFront as InFrontVerb, Close as CloseVerb}
use Rattle.lw_grammar.specs.Tokens.{Token, NameToken, NumberToken, TextToken}
use Rattle.lw_grammar.specs.Verbs.{gzz_word}
use Rattle.lw_grammar.specs.Statements.{GzzAct, OpenGzz, BoxGzz, FrontGzz, BehindGzz, CloseGzz, Line, StatementLine, AreaLine, GzzLine, ask_option, place_of, inner_kind_of, titled_gzz, opened_gzz, gopen_line, gbox_line, gzz_alone, ginfront_line, gzz_line, is_gzz_in_range, Box, box}
use Rattle.lw_canonical.specs.Spelling.{text_word, kind_word, place_word, ask_words, gzz_words}
use Rattle.lw_grammar.proofs.ScriptNames.{equal_names}
use Rattle.lw_grammar.proofs.GzzLines.{boxes_fit}
use Rattle.lw_canonical.proofs.SpelledNumbers.{found_if}
use Rattle.lw_canonical.proofs.SpelledWords.{token_word, AreTokens}
use Rattle.lw_canonical.proofs.SpelledRanges.{AreSmall, also, box_small}
use Rattle.lw_canonical.proofs.SpelledLayers.{ask_taken, place_spelt, then_by}

-- the numbers of a box
abbrev pub HasSmallBox : GzzAct → Type 0
HasSmallBox (OpenGzz inner kind place r classes title) = AreSmall r.x r.y r.w r.h
HasSmallBox (BoxGzz r) = AreSmall r.x r.y r.w r.h
HasSmallBox act = Unit {0}

pub small_box : (width height : ℕ) (act : GzzAct) → width ≤ 32767 → height ≤ 32767 → is_gzz_in_range width height act ≡ true → HasSmallBox act
small_box width height (OpenGzz inner kind place r classes title) wide high h = box_small r.x r.y r.w r.h (boxes_fit width height r wide high h).0
small_box width height (BoxGzz r) wide high h = box_small r.x r.y r.w r.h (boxes_fit width height r wide high h).0
small_box width height act wide high h = tt

-- The line's words are these, where its box is small and the words are good ones.
abbrev pub IsGzzSpelt : List ℕ → List Token → Line → Type 0
IsGzzSpelt word ts (StatementLine f) = Unit {0}
IsGzzSpelt word ts (AreaLine layer pattern points) = Unit {0}
IsGzzSpelt word ts (GzzLine g act) = AreTokens ts → HasSmallBox act → gzz_words g act ≡ word ∷ map token_word ts

-- the kind of the inner layer has one word
inner_kind_spelt : (w : List ℕ) → IfSome (inner_kind_of w) (λ kind. w ≡ kind_word kind)
inner_kind_spelt w =
    let P : Kind → Type 0 = λ kind. w ≡ kind_word kind in
    found_if P (bytes_eq w (codes "simple")) Simple _ (equal_names w (codes "simple")) (found_if P (bytes_eq w (codes "smart")) Smart None (equal_names w (codes "smart")) tt)

-- what is found where the title is left
titled_has : (P : Line → Type 0) (g i : List ℕ) (kind : Kind) (place : Place) (r : Box) (classes : ℕ) (ts : List Token) → ((title : List ℕ) → map token_word ts ≡ text_word title ∷ [] → P (GzzLine g (OpenGzz i kind place r classes title))) → IfSome (titled_gzz g i kind place r classes ts) P
titled_has P g i kind place r classes (TextToken title ∷ []) h = h title refl
titled_has P g i kind place r classes _ h = tt

-- gopen G I KIND PLACE X Y W H ..
gopen_spelt : (ts : List Token) → IfSome (gopen_line ts) (IsGzzSpelt (codes "gopen") ts)
gopen_spelt (NameToken g ∷ NameToken i ∷ NameToken k ∷ NameToken p ∷ NumberToken a x ∷ NumberToken b y ∷ NumberToken c z ∷ NumberToken d w ∷ ts) =
    then_by (λ place. p ≡ place_word place) P _ (place_of p) (place_spelt p) (λ place e. then_by (λ kind. k ≡ kind_word kind) P _ (inner_kind_of k) (inner_kind_spelt k) (λ kind f. at_title place kind e f))
  where
    P : Line → Type 0
    P = IsGzzSpelt (codes "gopen") (NameToken g ∷ NameToken i ∷ NameToken k ∷ NameToken p ∷ NumberToken a x ∷ NumberToken b y ∷ NumberToken c z ∷ NumberToken d w ∷ ts)

    at_title : (place : Place) (kind : Kind) → p ≡ place_word place → k ≡ kind_word kind → IfSome (opened_gzz g i place (box x y z w) ts kind) P
    at_title place kind e f =
        titled_has P g i kind place (box x y z w) (ask_option ts).0 (ask_option ts).1 (λ title left t s.
        let rest = t.1.1.1.1 in
        let taken = ask_taken ts rest.1.1.1.1 in
        let last : ask_words (ask_option ts).0 ++ text_word title ∷ [] ≡ map token_word ts = ap (λ us. ask_words (ask_option ts).0 ++ us) (sym left) ∙ sym taken.0 in
        also refl (also refl (also refl (also (sym f) (also (sym e) (also (rest.0 s.0) (also (rest.1.0 s.1.0) (also (rest.1.1.0 s.1.1.0) (also (rest.1.1.1.0 s.1.1.1) last)))))))))
gopen_spelt _ = tt

-- gbox G X Y W H
gbox_spelt : (ts : List Token) → IfSome (gbox_line ts) (IsGzzSpelt (codes "gbox") ts)
gbox_spelt (NameToken g ∷ NumberToken a x ∷ NumberToken b y ∷ NumberToken c w ∷ NumberToken d h ∷ []) = λ t s.
    also refl (also refl (also (t.1.0 s.0) (also (t.1.1.0 s.1.0) (also (t.1.1.1.0 s.1.1.0) (also (t.1.1.1.1.0 s.1.1.1) refl)))))
gbox_spelt _ = tt

-- gfront G, and its kin
alone_spelt : (word : List ℕ) (act : GzzAct) → ((g : List ℕ) → gzz_words g act ≡ word ∷ g ∷ []) → (ts : List Token) → IfSome (gzz_alone act ts) (IsGzzSpelt word ts)
alone_spelt word act e (NameToken g ∷ []) = λ t s. e g
alone_spelt word act e _ = tt

-- ginfront G M
ginfront_spelt : (ts : List Token) → IfSome (ginfront_line ts) (IsGzzSpelt (codes "ginfront") ts)
ginfront_spelt (NameToken g ∷ NameToken m ∷ []) = λ t s. refl
ginfront_spelt _ = tt

-- The words of each such line.
pub gzz_spelt : (verb : GzzVerb) (ts : List Token) → IfSome (gzz_line verb ts) (IsGzzSpelt (gzz_word verb) ts)
gzz_spelt OpenVerb ts = gopen_spelt ts
gzz_spelt BoxVerb ts = gbox_spelt ts
gzz_spelt FrontVerb ts = alone_spelt (codes "gfront") FrontGzz (λ g. refl) ts
gzz_spelt BehindVerb ts = alone_spelt (codes "gbehind") BehindGzz (λ g. refl) ts
gzz_spelt InFrontVerb ts = ginfront_spelt ts
gzz_spelt CloseVerb ts = alone_spelt (codes "gclose") CloseGzz (λ g. refl) ts

-- They are such lines.
abbrev pub is_gzz : Line → Bool
is_gzz (StatementLine f) = false
is_gzz (AreaLine layer pattern points) = false
is_gzz (GzzLine g act) = true

gopen_only : (ts : List Token) → IfSome (gopen_line ts) (λ l. is_gzz l ≡ true)
gopen_only (NameToken g ∷ NameToken i ∷ NameToken k ∷ NameToken p ∷ NumberToken a x ∷ NumberToken b y ∷ NumberToken c z ∷ NumberToken d w ∷ ts) =
    then_by (λ place. p ≡ place_word place) P _ (place_of p) (place_spelt p) (λ place e. then_by (λ kind. k ≡ kind_word kind) P _ (inner_kind_of k) (inner_kind_spelt k) (λ kind f. titled_has P g i kind place (box x y z w) (ask_option ts).0 (ask_option ts).1 (λ title left. refl)))
  where
    P : Line → Type 0
    P = λ l. is_gzz l ≡ true
gopen_only _ = tt

gbox_only : (ts : List Token) → IfSome (gbox_line ts) (λ l. is_gzz l ≡ true)
gbox_only (NameToken g ∷ NumberToken a x ∷ NumberToken b y ∷ NumberToken c w ∷ NumberToken d h ∷ []) = refl
gbox_only _ = tt

alone_only : (act : GzzAct) (ts : List Token) → IfSome (gzz_alone act ts) (λ l. is_gzz l ≡ true)
alone_only act (NameToken g ∷ []) = refl
alone_only act _ = tt

ginfront_only : (ts : List Token) → IfSome (ginfront_line ts) (λ l. is_gzz l ≡ true)
ginfront_only (NameToken g ∷ NameToken m ∷ []) = refl
ginfront_only _ = tt

pub gzz_only : (verb : GzzVerb) (ts : List Token) → IfSome (gzz_line verb ts) (λ l. is_gzz l ≡ true)
gzz_only OpenVerb ts = gopen_only ts
gzz_only BoxVerb ts = gbox_only ts
gzz_only FrontVerb ts = alone_only FrontGzz ts
gzz_only BehindVerb ts = alone_only BehindGzz ts
gzz_only InFrontVerb ts = ginfront_only ts
gzz_only CloseVerb ts = alone_only CloseGzz ts
