-- The words of a layer that is asked for are those that it was read from.
use Rattle.std.proofs.Common.{◌≡◌, ℕ, ◌==◌, Bool, true, false, not, cond, List, [], ◌∷◌, ◌++◌, map, ℤ, pos, codes, bytes_eq, Option, Some, None, option_and_then, IfSome, refl, sym, ap, ◌∙◌, arith, append-nil, append_assoc}
use Rattle.lw_region.specs.Rectangle.{within}
use Rattle.lw_calls.specs.declared.make.Kind.{Kind}
use Rattle.lw_calls.specs.declared.make.Kind.TheVariants.{Simple, Smart, SuperBitmap}
use Rattle.lw_calls.specs.declared.make.Place.{Place}
use Rattle.lw_calls.specs.declared.make.Place.TheVariants.{Front, Behind}
use Rattle.lw_calls.specs.Limits.{rect_fits}
use Rattle.lw_grammar.specs.Tokens.{is_a_name, Token, NameToken, NumberToken, TextToken, OddToken}
use Rattle.lw_grammar.specs.Statements.{NewLayer, CreateAct, OpenAct, Statement, CallLine, kind_of, place_of, flag, hook_option, classes_from, asked_classes, ask_option, at_end, new_without_bitmap, create_without_bitmap, create_super, create_kind, titled_line, open_without_bitmap, open_super, open_kind, new_layer_line, is_hook_number, is_line_in_range, Box, box, rectangle, box_fits}
use Rattle.lw_canonical.specs.Spelling.{text_word, four_words, kind_word, place_word, flag_words, hook_words, set_word, ask_words, words_of}
use Rattle.lw_grammar.proofs.ScriptNames.{equal_names}
use Rattle.lw_canonical.proofs.SpelledNumbers.{found_if, IsSetOf, set_spelled}
use Rattle.lw_canonical.proofs.SpelledWords.{token_word, AreTokens}
use Rattle.lw_canonical.proofs.SpelledRanges.{AreSmall, hook_small, own_small, rect_small, also, box_small}
use Rattle.lw_canonical.proofs.SpelledStatements.{IsSpelt}
use Rattle.std.proofs.lemmas.Bool.{false≢true, eqb-true, and_parts}

-- What was taken of words, and what is left of them, give the words back, and the rest is good for what it is.
abbrev pub IsTaken : List Token → List (List ℕ) → List Token → Type 0
IsTaken ts taken rest = (map token_word ts ≡ taken ++ map token_word rest) × AreTokens rest

-- an optional word
flag_taken : (w : List ℕ) (ts : List Token) → AreTokens ts → IsTaken ts (flag_words w (flag w ts).0) (flag w ts).1
flag_taken w [] t = (refl, tt)
flag_taken w (NameToken n ∷ ts) t = step (bytes_eq n w) refl
  where
    P : Bool × List Token → Type 0
    P = λ p. IsTaken (NameToken n ∷ ts) (flag_words w p.0) p.1

    step : (b : Bool) → bytes_eq n w ≡ b → P (cond b (true, ts) (false, NameToken n ∷ ts))
    step true e = (also (equal_names n w e) refl, t.1)
    step false e = (refl, t)
flag_taken w (NumberToken a z ∷ ts) t = (refl, t)
flag_taken w (TextToken a ∷ ts) t = (refl, t)
flag_taken w (OddToken a ∷ ts) t = (refl, t)

-- optional words hook N
hook_taken : (ts : List Token) → AreTokens ts → is_hook_number (hook_option ts).0 ≡ true → IsTaken ts (hook_words (hook_option ts).0) (hook_option ts).1
hook_taken [] t r = (refl, tt)
hook_taken (NameToken n ∷ []) t r = (refl, t)
hook_taken (NameToken n ∷ NumberToken a z ∷ ts) t r = step (bytes_eq n (codes "hook")) refl r
  where
    P : Option ℤ × List Token → Type 0
    P = λ p. is_hook_number p.0 ≡ true → IsTaken (NameToken n ∷ NumberToken a z ∷ ts) (hook_words p.0) p.1

    step : (b : Bool) → bytes_eq n (codes "hook") ≡ b → P (cond b (Some z, ts) (None, NameToken n ∷ NumberToken a z ∷ ts))
    step true e k = (also (equal_names n (codes "hook") e) (also (sym (t.1.0 (hook_small z k))) refl), t.1.1)
    step false e k = (refl, t)
hook_taken (NameToken n ∷ NameToken a ∷ ts) t r = (refl, t)
hook_taken (NameToken n ∷ TextToken a ∷ ts) t r = (refl, t)
hook_taken (NameToken n ∷ OddToken a ∷ ts) t r = (refl, t)
hook_taken (NumberToken a z ∷ ts) t r = (refl, t)
hook_taken (TextToken a ∷ ts) t r = (refl, t)
hook_taken (OddToken a ∷ ts) t r = (refl, t)

-- optional words ask SET
pub ask_taken : (ts : List Token) → AreTokens ts → IsTaken ts (ask_words (ask_option ts).0) (ask_option ts).1
ask_taken [] t = (refl, tt)
ask_taken (NameToken n ∷ []) t = (refl, t)
ask_taken (NameToken n ∷ NameToken set ∷ ts) t = step (bytes_eq n (codes "ask")) refl
  where
    P : ℕ × List Token → Type 0
    P = λ p. IsTaken (NameToken n ∷ NameToken set ∷ ts) (ask_words p.0) p.1

    written : bytes_eq n (codes "ask") ≡ true → (c : ℕ) → set_word c ≡ set → (b : Bool) → (c == 0) ≡ b → n ∷ set ∷ map token_word ts ≡ cond b [] (codes "ask" ∷ set_word c ∷ []) ++ map token_word ts
    written e c s true z = absurd (false≢true (ap is_a_name (ap set_word (sym (eqb-true c 0 z)) ∙ s) ∙ t.1.0))
    written e c s false z = also (equal_names n (codes "ask") e) (also (sym s) refl)

    found : bytes_eq n (codes "ask") ≡ true → (o : Option ℕ) → IfSome o (IsSetOf 0 set) → P (asked_classes o ts (NameToken n ∷ NameToken set ∷ ts))
    found e None h = (refl, t)
    found e (Some c) h = (written e c h.2 (c == 0) refl, t.1.1)

    step : (b : Bool) → bytes_eq n (codes "ask") ≡ b → P (cond b (asked_classes (classes_from 0 set) ts (NameToken n ∷ NameToken set ∷ ts)) (0, NameToken n ∷ NameToken set ∷ ts))
    step true e = found e (classes_from 0 set) (set_spelled 0 set (omega arith))
    step false e = (refl, t)
ask_taken (NameToken n ∷ NumberToken a z ∷ ts) t = (refl, t)
ask_taken (NameToken n ∷ TextToken a ∷ ts) t = (refl, t)
ask_taken (NameToken n ∷ OddToken a ∷ ts) t = (refl, t)
ask_taken (NumberToken a z ∷ ts) t = (refl, t)
ask_taken (TextToken a ∷ ts) t = (refl, t)
ask_taken (OddToken a ∷ ts) t = (refl, t)

-- what is found where no word is left
end_has : (P : Statement → Type 0) (f : Statement) (ts : List Token) → (ts ≡ [] → P f) → IfSome (at_end f ts) P
end_has P f [] h = h refl
end_has P f (t ∷ ts) h = tt

-- what is found where the title is left
titled_has : (P : Statement → Type 0) (l : List ℕ) (at : Box) (layer : NewLayer) (framed nocare : Bool) (classes : ℕ) (ts : List Token) → ((title : List ℕ) → map token_word ts ≡ text_word title ∷ [] → P (CallLine (l ∷ []) (OpenAct at layer framed nocare classes title))) → IfSome (titled_line l at layer framed nocare classes ts) P
titled_has P l at layer framed nocare classes (TextToken title ∷ []) h = h title refl
titled_has P l at layer framed nocare classes _ h = tt

-- What stands after four numbers: with these words, and with the four numbers in range.
abbrev IsNewLayerSpelt : List ℕ → List ℕ → Place → ℤ → ℤ → ℤ → ℤ → Kind → List Token → Statement → Type 0
IsNewLayerSpelt word l place x0 y0 x1 y1 kind ts f = AreTokens ts → (version : ℕ) → is_line_in_range version f ≡ true → AreSmall x0 y0 x1 y1 × (words_of f ≡ word ∷ l ∷ kind_word kind ∷ place_word place ∷ (four_words x0 y0 x1 y1 ++ map token_word ts))

-- the words in front of what stands after four numbers
abbrev in_front : List ℕ → List ℕ → Kind → Place → ℤ → ℤ → ℤ → ℤ → List (List ℕ) → List (List ℕ)
in_front word l kind place x0 y0 x1 y1 rest = word ∷ l ∷ kind_word kind ∷ place_word place ∷ (four_words x0 y0 x1 y1 ++ rest)

-- [backdrop] [hook N]
created_without_bitmap : (l : List ℕ) (kind : Kind) (place : Place) (x0 y0 x1 y1 : ℤ) (ts : List Token) → ((backdrop : Bool) (hook : Option ℤ) → words_of (CallLine (l ∷ []) (CreateAct (rectangle x0 y0 x1 y1) (new_without_bitmap kind place backdrop hook))) ≡ in_front (codes "create") l kind place x0 y0 x1 y1 (flag_words (codes "backdrop") backdrop ++ hook_words hook)) → IfSome (create_without_bitmap l kind place (rectangle x0 y0 x1 y1) ts) (IsNewLayerSpelt (codes "create") l place x0 y0 x1 y1 kind ts)
created_without_bitmap l kind place x0 y0 x1 y1 ts w =
    let backdrop = flag (codes "backdrop") ts in
    let hook = hook_option backdrop.1 in
    end_has (IsNewLayerSpelt (codes "create") l place x0 y0 x1 y1 kind ts) _ hook.1 (λ e t v r.
    let k = and_parts (rect_fits (rectangle x0 y0 x1 y1)) _ r in
    let m = and_parts (is_hook_number hook.0) _ k.1 in
    let one = flag_taken (codes "backdrop") ts t in
    let two = hook_taken backdrop.1 one.1 m.0 in
    let end : map token_word backdrop.1 ≡ hook_words hook.0 = two.0 ∙ (ap (λ rest. hook_words hook.0 ++ map token_word rest) e ∙ append-nil (hook_words hook.0)) in (
      rect_small x0 y0 x1 y1 k.0,
      w backdrop.0 hook.0 ∙ ap (in_front (codes "create") l kind place x0 y0 x1 y1) (ap (λ rest. flag_words (codes "backdrop") backdrop.0 ++ rest) (sym end) ∙ sym one.0),
    ))

-- BW BH [backdrop]
super_created : (l : List ℕ) (place : Place) (x0 y0 x1 y1 : ℤ) (ts : List Token) → IfSome (create_super l place (rectangle x0 y0 x1 y1) ts) (IsNewLayerSpelt (codes "create") l place x0 y0 x1 y1 SuperBitmap ts)
super_created l place x0 y0 x1 y1 (NumberToken a w ∷ NumberToken b h ∷ ts) =
    let backdrop = flag (codes "backdrop") ts in
    end_has (IsNewLayerSpelt (codes "create") l place x0 y0 x1 y1 SuperBitmap (NumberToken a w ∷ NumberToken b h ∷ ts)) _ backdrop.1 (λ e t v r.
    let k = and_parts (rect_fits (rectangle x0 y0 x1 y1)) _ r in
    let m = and_parts (within (pos 1) w (pos 2048)) _ k.1 in
    let one = flag_taken (codes "backdrop") ts t.1.1 in
    let end : flag_words (codes "backdrop") backdrop.0 ≡ map token_word ts = sym (one.0 ∙ (ap (λ rest. flag_words (codes "backdrop") backdrop.0 ++ map token_word rest) e ∙ append-nil (flag_words (codes "backdrop") backdrop.0))) in (
      rect_small x0 y0 x1 y1 k.0,
      ap (in_front (codes "create") l SuperBitmap place x0 y0 x1 y1) (also (t.0 (own_small w m.0)) (also (t.1.0 (own_small h m.1)) end)),
    ))
super_created l place x0 y0 x1 y1 _ = tt

created_spelt : (l : List ℕ) (place : Place) (x0 y0 x1 y1 : ℤ) (ts : List Token) (kind : Kind) → IfSome (create_kind l place (rectangle x0 y0 x1 y1) ts kind) (IsNewLayerSpelt (codes "create") l place x0 y0 x1 y1 kind ts)
created_spelt l place x0 y0 x1 y1 ts Simple = created_without_bitmap l Simple place x0 y0 x1 y1 ts (λ b h. refl)
created_spelt l place x0 y0 x1 y1 ts Smart = created_without_bitmap l Smart place x0 y0 x1 y1 ts (λ b h. refl)
created_spelt l place x0 y0 x1 y1 ts SuperBitmap = super_created l place x0 y0 x1 y1 ts

-- what has no frame has no word of it, and what has the word has none
not_twice : (b : Bool) → not (not b) ≡ b
not_twice true = refl
not_twice false = refl

-- [backdrop] [borderless] [nocare] [hook N] [ask SET] "TITLE"
opened_without_bitmap : (l : List ℕ) (kind : Kind) (place : Place) (x0 y0 x1 y1 : ℤ) (ts : List Token) → ((backdrop : Bool) (hook : Option ℤ) (framed nocare : Bool) (classes : ℕ) (title : List ℕ) → words_of (CallLine (l ∷ []) (OpenAct (box x0 y0 x1 y1) (new_without_bitmap kind place backdrop hook) framed nocare classes title)) ≡ in_front (codes "open") l kind place x0 y0 x1 y1 (((((flag_words (codes "backdrop") backdrop ++ flag_words (codes "borderless") (not framed)) ++ flag_words (codes "nocare") nocare) ++ hook_words hook) ++ ask_words classes) ++ text_word title ∷ [])) → IfSome (open_without_bitmap l kind place (box x0 y0 x1 y1) ts) (IsNewLayerSpelt (codes "open") l place x0 y0 x1 y1 kind ts)
opened_without_bitmap l kind place x0 y0 x1 y1 ts w =
    let backdrop = flag (codes "backdrop") ts in
    let borderless = flag (codes "borderless") backdrop.1 in
    let nocare = flag (codes "nocare") borderless.1 in
    let hook = hook_option nocare.1 in
    let ask = ask_option hook.1 in
    titled_has (IsNewLayerSpelt (codes "open") l place x0 y0 x1 y1 kind ts) l _ _ _ _ _ ask.1 (λ title e t v r.
    let k = and_parts (box_fits (box x0 y0 x1 y1)) _ r in
    let m = and_parts (is_hook_number hook.0) _ k.1 in
    let one = flag_taken (codes "backdrop") ts t in
    let two = flag_taken (codes "borderless") backdrop.1 one.1 in
    let three = flag_taken (codes "nocare") borderless.1 two.1 in
    let four = hook_taken nocare.1 three.1 m.0 in
    let five = ask_taken hook.1 four.1 in
    let f1 = flag_words (codes "backdrop") backdrop.0 in
    let f2 = flag_words (codes "borderless") borderless.0 in
    let f3 = flag_words (codes "nocare") nocare.0 in
    let last : map token_word hook.1 ≡ ask_words ask.0 ++ text_word title ∷ [] = five.0 ∙ ap (λ rest. ask_words ask.0 ++ rest) e in
    let all : map token_word ts ≡ f1 ++ (f2 ++ (f3 ++ (hook_words hook.0 ++ (ask_words ask.0 ++ text_word title ∷ [])))) =
    one.0 ∙ ap (λ rest. f1 ++ rest) (two.0 ∙ ap (λ rest. f2 ++ rest) (three.0 ∙ ap (λ rest. f3 ++ rest) (four.0 ∙ ap (λ rest. hook_words hook.0 ++ rest) last))) in (
      box_small x0 y0 x1 y1 k.0,
      w backdrop.0 hook.0 (not borderless.0) nocare.0 ask.0 title
          ∙ (ap (λ b. in_front (codes "open") l kind place x0 y0 x1 y1 (((((f1 ++ flag_words (codes "borderless") b) ++ f3) ++ hook_words hook.0) ++ ask_words ask.0) ++ text_word title ∷ [])) (not_twice borderless.0)
          ∙ ap (in_front (codes "open") l kind place x0 y0 x1 y1) (five_append f1 f2 f3 (hook_words hook.0) (ask_words ask.0) (text_word title ∷ []) ∙ sym all)),
    ))
  where
    five_append : (a b c d e f : List (List ℕ)) → ((((a ++ b) ++ c) ++ d) ++ e) ++ f ≡ a ++ (b ++ (c ++ (d ++ (e ++ f))))
    five_append a b c d e f = simp append_assoc

-- BW BH [backdrop] [ask SET] "TITLE"
super_opened : (l : List ℕ) (place : Place) (x0 y0 x1 y1 : ℤ) (ts : List Token) → IfSome (open_super l place (box x0 y0 x1 y1) ts) (IsNewLayerSpelt (codes "open") l place x0 y0 x1 y1 SuperBitmap ts)
super_opened l place x0 y0 x1 y1 (NumberToken a w ∷ NumberToken b h ∷ ts) =
    let backdrop = flag (codes "backdrop") ts in
    let ask = ask_option backdrop.1 in
    titled_has (IsNewLayerSpelt (codes "open") l place x0 y0 x1 y1 SuperBitmap (NumberToken a w ∷ NumberToken b h ∷ ts)) l _ _ _ _ _ ask.1 (λ title e t v r.
    let k = and_parts (box_fits (box x0 y0 x1 y1)) _ r in
    let m = and_parts (within (pos 1) w (pos 2048)) _ k.1 in
    let one = flag_taken (codes "backdrop") ts t.1.1 in
    let two = ask_taken backdrop.1 one.1 in
    let f1 = flag_words (codes "backdrop") backdrop.0 in
    let all : map token_word ts ≡ f1 ++ (ask_words ask.0 ++ text_word title ∷ []) = one.0 ∙ ap (λ rest. f1 ++ rest) (two.0 ∙ ap (λ rest. ask_words ask.0 ++ rest) e) in (
      box_small x0 y0 x1 y1 k.0,
      ap (in_front (codes "open") l SuperBitmap place x0 y0 x1 y1) (also (t.0 (own_small w m.0)) (also (t.1.0 (own_small h m.1)) (append_assoc f1 (ask_words ask.0) (text_word title ∷ []) ∙ sym all))),
    ))
super_opened l place x0 y0 x1 y1 _ = tt

opened_spelt : (l : List ℕ) (place : Place) (x0 y0 x1 y1 : ℤ) (ts : List Token) (kind : Kind) → IfSome (open_kind l place (box x0 y0 x1 y1) ts kind) (IsNewLayerSpelt (codes "open") l place x0 y0 x1 y1 kind ts)
opened_spelt l place x0 y0 x1 y1 ts Simple = opened_without_bitmap l Simple place x0 y0 x1 y1 ts (λ b h f n c t. refl)
opened_spelt l place x0 y0 x1 y1 ts Smart = opened_without_bitmap l Smart place x0 y0 x1 y1 ts (λ b h f n c t. refl)
opened_spelt l place x0 y0 x1 y1 ts SuperBitmap = super_opened l place x0 y0 x1 y1 ts

-- a kind and a place have one word each
kind_spelt : (w : List ℕ) → IfSome (kind_of w) (λ kind. w ≡ kind_word kind)
kind_spelt w =
    let P : Kind → Type 0 = λ kind. w ≡ kind_word kind in
    found_if P (bytes_eq w (codes "simple")) Simple _ (equal_names w (codes "simple")) (found_if P (bytes_eq w (codes "smart")) Smart _ (equal_names w (codes "smart")) (found_if P (bytes_eq w (codes "super")) SuperBitmap None (equal_names w (codes "super")) tt))

pub place_spelt : (w : List ℕ) → IfSome (place_of w) (λ place. w ≡ place_word place)
place_spelt w =
    let P : Place → Type 0 = λ place. w ≡ place_word place in
    found_if P (bytes_eq w (codes "front")) Front _ (equal_names w (codes "front")) (found_if P (bytes_eq w (codes "behind")) Behind None (equal_names w (codes "behind")) tt)

-- what is found first, and then next
pub then_by : {A B : Type 0} (Q : A → Type 0) (P : B → Type 0) (g : A → Option B) (o : Option A) → IfSome o Q → ((a : A) → Q a → IfSome (g a) P) → IfSome (option_and_then g o) P
then_by Q P g None q h = tt
then_by Q P g (Some a) q h = h a q

-- create L KIND PLACE X0 Y0 X1 Y1 .., and open L KIND PLACE X Y W H ..
new_layer_spelt : {A : Type 0} (make : ℤ → ℤ → ℤ → ℤ → A) (word : List ℕ) (rest : List ℕ → Place → A → List Token → Kind → Option Statement) → ((l : List ℕ) (place : Place) (x0 y0 x1 y1 : ℤ) (ts : List Token) (kind : Kind) → IfSome (rest l place (make x0 y0 x1 y1) ts kind) (IsNewLayerSpelt word l place x0 y0 x1 y1 kind ts)) → (ts : List Token) → IfSome (new_layer_line make rest ts) (IsSpelt word ts)
new_layer_spelt make word rest made (NameToken l ∷ NameToken k ∷ NameToken p ∷ NumberToken a x ∷ NumberToken b y ∷ NumberToken c z ∷ NumberToken d w ∷ ts) =
    then_by (λ place. p ≡ place_word place) P _ (place_of p) (place_spelt p) (λ place e. then_by (λ kind. k ≡ kind_word kind) P _ (kind_of k) (kind_spelt k) (λ kind f. at_statement place kind e f (rest l place (make x y z w) ts kind) (made l place x y z w ts kind)))
  where
    P : Statement → Type 0
    P = IsSpelt word (NameToken l ∷ NameToken k ∷ NameToken p ∷ NumberToken a x ∷ NumberToken b y ∷ NumberToken c z ∷ NumberToken d w ∷ ts)

    at_statement : (place : Place) (kind : Kind) → p ≡ place_word place → k ≡ kind_word kind → (o : Option Statement) → IfSome o (IsNewLayerSpelt word l place x y z w kind ts) → IfSome o P
    at_statement place kind e f None h = tt
    at_statement place kind e f (Some g) h = λ t v r.
        let got = h t.1.1.1.1.1.1.1 v r in
        let s = got.0 in
        got.1 ∙ also refl (also refl (also (sym f) (also (sym e) (also (t.1.1.1.0 s.0) (also (t.1.1.1.1.0 s.1.0) (also (t.1.1.1.1.1.0 s.1.1.0) (also (t.1.1.1.1.1.1.0 s.1.1.1) refl)))))))
new_layer_spelt make word rest made _ = tt

pub create_spelt : (ts : List Token) → IfSome (new_layer_line rectangle create_kind ts) (IsSpelt (codes "create") ts)
create_spelt ts = new_layer_spelt rectangle (codes "create") create_kind created_spelt ts

pub open_spelt : (ts : List Token) → IfSome (new_layer_line box open_kind ts) (IsSpelt (codes "open") ts)
open_spelt ts = new_layer_spelt box (codes "open") open_kind opened_spelt ts
