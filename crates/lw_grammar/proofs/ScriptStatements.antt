-- What the words of a line that has a statement were good for: where the line stands, and how the statement is made.
use Rattle.std.proofs.Common.{ℤ, ◌≡◌, ℕ, suc, ◌+◌, ◌*◌, ◌%◌, ◌^◌, ◌<◌, ◌≤◌, ◌==◌, Bool, true, false, not, cond, ◌&&◌, nat_le, List, [], ◌∷◌, length, map, drop, codes, bytes_eq, Option, Some, None, option_map, option_and_then, ok_or, IfSome, refl, sym, ap, subst, ◌∙◌, arith, pow_mono, pow-suc, add-one}
use Rattle.std.specs.Result.{IfOk}
use Rattle.lw_planes.specs.Bitmap.{row_bytes}
use Rattle.lw_calls.specs.declared.operation.RectOp.{RectOp}
use Rattle.lw_calls.specs.declared.operation.PairOp.{PairOp}
use Rattle.lw_calls.specs.declared.make.Kind.{Kind}
use Rattle.lw_calls.specs.declared.make.Kind.TheVariants.{Simple, Smart, SuperBitmap}
use Rattle.lw_calls.specs.declared.make.Place.{Place}
use Rattle.lw_region.specs.Rectangle.{Rectangle}
use Rattle.lw_grammar.specs.declared.form.Form.{Form}
use Rattle.lw_grammar.specs.declared.reason.Reason.{Reason}
use Rattle.lw_grammar.specs.declared.reason.Reason.TheVariants.{UnknownWord, Misplaced, Form as FormReason}
use Rattle.lw_grammar.specs.declared.verb.PartVerb.{PartVerb}
use Rattle.lw_grammar.specs.declared.verb.PartVerb.TheVariants.{Layers as LayersVerb, Screen as ScreenVerb, Glyph as GlyphVerb, Bitmap as BitmapVerb, Pattern as PatternVerb, Task as TaskVerb, End as EndVerb, Order as OrderVerb, Report as ReportVerb, Lock as LockVerb, Unlock as UnlockVerb, Hold as HoldVerb, Release as ReleaseVerb}
use Rattle.lw_grammar.specs.declared.verb.BareVerb.{BareVerb}
use Rattle.lw_grammar.specs.declared.verb.NumberVerb.{NumberVerb}
use Rattle.lw_grammar.specs.declared.verb.PairVerb.{PairVerb}
use Rattle.lw_grammar.specs.declared.verb.TextVerb.{TextVerb}
use Rattle.lw_grammar.specs.declared.verb.GzzVerb.{GzzVerb}
use Rattle.lw_grammar.specs.declared.verb.GzzVerb.TheVariants.{Open as OpenVerb, Box as BoxVerb, Front as FrontVerb, Behind as BehindVerb, InFront as InFrontVerb, Close as CloseVerb}
use Rattle.lw_grammar.specs.declared.verb.Verb.{Verb}
use Rattle.lw_grammar.specs.declared.verb.Verb.TheVariants.{Part, Bare, Number, Pair, Text, Rect, Region, ClearRegion, Create, Open, InFront, Box as BoxOf, Which, Fill, ScrollRaster, Put, Blit, EndRefresh, Area as AreaVerb, AreaPattern as AreaPatternVerb, Gzz}
use Rattle.lw_calls.specs.Limits.{is_minterm}
use Rattle.lw_calls.specs.Kinds.{is_super}
use Rattle.lw_grammar.specs.Tokens.{Token, NameToken, NumberToken, TextToken, OddToken, is_a_text, is_a_name, is_a_number, without_last, value_of_number, token_of, is_hex, hex_value, hex_bytes, spelled_bytes, bytes_in}
use Rattle.lw_area.specs.Patterns.{is_pattern_count}
use Rattle.lw_grammar.specs.Statements.{layers_of, NewLayer, Act, BareAct, NumberAct, PairAct, TextAct, RegRectAct, RegPairAct, RegClearAct, OpenAct, InFrontAct, BoxAct, WhichAct, FillAct, ScrollRasterAct, PutAct, BlitAct, EndRefreshAct, Statement, LayersLine, ScreenLine, GlyphLine, BitmapLine, RowLine, PatternLine, TaskLine, EndLine, OrderLine, NumbersLine, ReportLine, CallLine, LockLine, UnlockLine, HoldLine, ReleaseLine, Line, StatementLine, AreaLine, layers_line, screen_line, glyph_of_bytes, glyph_line, bitmap_line, row_line, pattern_words, pattern_line, all_numbers, numbers_limit, numbers_line, name_line, alone_line, part_line, layer_line, number_line, pair_line, text_line, rect_line, region_line, clear_line, which_line, infront_line, last_four, four_line, scrollraster_line, minterm_of, blit_end, blit_area, put_line, blit_line, endrefresh_line, kind_of, place_of, flag, hook_option, message_class_of, classes_from, asked_classes, ask_option, at_end, create_super, create_kind, titled_line, open_super, open_kind, new_layer_line, area_points, area_line, area_pattern_line, statement_by, line_by, GzzAct, OpenGzz, BoxGzz, FrontGzz, BehindGzz, InFrontGzz, CloseGzz, GzzLine, inner_kind_of, titled_gzz, opened_gzz, gopen_line, gbox_line, gzz_alone, ginfront_line, gzz_line, Box, box, rectangle}
use Rattle.lw_grammar.specs.Told.{Section, told}
use Rattle.lw_grammar.specs.Script.{Setting, is_screen_due, are_assets_due, are_calls_due, are_numbers_due, is_known_in, belongs_in, verb_on, after_verb, verb_read, stated, line_made}
use Rattle.lw_grammar.specs.GoodLines.{belongs_at, is_known_act, is_known_line, IsNewLayerOf, IsActMade, IsStatementMade, AreBytes, IsStatementHere}
use Rattle.lw_grammar.specs.Demands.{◌>>=◌, demand}
use Rattle.std.proofs.lemmas.Bool.{false≢true, eqb-true, leb-true, le-leb, and_parts, and_from, and_right}
use Rattle.std.proofs.lemmas.Bool.Decides.{nat_tests}

-- The statement is made of words after a verb that is known and whose lines stand here, or not.
pub record IsVerbStatement (form : Form) (version : ℕ) (s : Section) (stands : Bool) (f : Statement) : Type 0 where
  pub place : stands ≡ true → belongs_at form version s f ≡ true
  pub known : stands ≡ true → is_known_line version f ≡ true
  pub made : IsStatementMade f

-- a statement whose lines stand where the verb's do
belongs_so : (form : Form) (version : ℕ) (s : Section) (f : Statement) → is_known_line version f ≡ true → IsStatementMade f → IsVerbStatement form version s (belongs_at form version s f) f
belongs_so form version s f k h = record { place = λ e. e; known = λ e. k; made = h }

-- the statement of a call, which stands where calls are due
call_so : (form : Form) (version : ℕ) (s : Section) (layers : List (List ℕ)) (act : Act) → length layers ≡ layers_of act → IsActMade act → IsVerbStatement form version s (is_known_act version act && are_calls_due s) (CallLine layers act)
call_so form version s layers act n h =
    record {
      place = λ e. (and_parts (is_known_act version act) _ e).1;
      known = λ e. (and_parts (is_known_act version act) _ e).0;
      made = (n, h);
    }

-- of two options that have a property, each has it
pub either_has : {A : Type 0} (P : A → Type 0) (b : Bool) (x y : Option A) → IfSome x P → IfSome y P → IfSome (cond b x y) P
either_has P true x y h k = h
either_has P false x y h k = k

-- what is made of whatever is found has it
then_has : {A B : Type 0} (P : B → Type 0) (g : A → Option B) (o : Option A) → ((a : A) → IfSome (g a) P) → IfSome (option_and_then g o) P
then_has P g None h = tt
then_has P g (Some a) h = h a

-- what is made of what is found, by what is known of this
pub map_has : {A B : Type 0} (Q : A → Type 0) (P : B → Type 0) (g : A → B) (o : Option A) → IfSome o Q → ((a : A) → Q a → P (g a)) → IfSome (option_map g o) P
map_has Q P g None q h = tt
map_has Q P g (Some a) q h = h a q

-- the same where it is of anything that is found
pub map_all : {A B : Type 0} (P : B → Type 0) (g : A → B) (o : Option A) → ((a : A) → P (g a)) → IfSome (option_map g o) P
map_all P g None h = tt
map_all P g (Some a) h = h a

-- the same of what is made of this in turn
pub twice_has : {A B C : Type 0} (Q : A → Type 0) (P : C → Type 0) (f : B → C) (g : A → B) (o : Option A) → IfSome o Q → ((a : A) → Q a → P (f (g a))) → IfSome (option_map f (option_map g o)) P
twice_has Q P f g None q h = tt
twice_has Q P f g (Some a) q h = h a q

-- a hexadecimal digit counts at most 15
pub hex_small : (b : ℕ) → is_hex b ≡ true → hex_value b ≤ 15
hex_small b h = grind (arith, nat_tests)

-- bytes that so many digits spell
abbrev pub AreSpelled : ℕ → List ℕ → Type 0
AreSpelled digits bytes = (2 * length bytes ≡ digits) × AreBytes bytes

-- one byte more
hex_more : (a b n : ℕ) → (is_hex a && is_hex b) ≡ true → (bytes : List ℕ) → AreSpelled n bytes → AreSpelled (suc (suc n)) (((hex_value a * 16) + hex_value b) ∷ bytes)
hex_more a b n h bytes k =
    let both = and_parts (is_hex a) (is_hex b) h in
    let first = hex_small a both.0 in
    let second = hex_small b both.1 in
    (omega (arith, k.0), (omega arith, k.1))

-- digits spell half as many bytes
hex_spelled : (word : List ℕ) → IfSome (hex_bytes word) (AreSpelled (length word))
hex_spelled [] = (refl, tt)
hex_spelled (a ∷ []) = tt
hex_spelled (a ∷ b ∷ rest) = step (is_hex a && is_hex b) refl (hex_spelled rest)
  where
    step : (t : Bool) → (is_hex a && is_hex b) ≡ t → IfSome (hex_bytes rest) (AreSpelled (length rest)) → IfSome (cond t (option_map (λ bytes. ((hex_value a * 16) + hex_value b) ∷ bytes) (hex_bytes rest)) None) (AreSpelled (suc (suc (length rest))))
    step true e h = map_has (AreSpelled (length rest)) (AreSpelled (suc (suc (length rest)))) _ (hex_bytes rest) h (λ bytes k. hex_more a b (length rest) e bytes k)
    step false e h = tt

-- so many bytes
abbrev pub AreSoMany : ℕ → List ℕ → Type 0
AreSoMany count bytes = (length bytes ≡ count) × AreBytes bytes

-- a word spells just as many bytes as are asked for
word_spelled : (count : ℕ) (word : List ℕ) → IfSome (spelled_bytes count word) (AreSoMany count)
word_spelled count word = step (length word == 2 * count) refl (hex_bytes word) (hex_spelled word)
  where
    step : (t : Bool) → (length word == 2 * count) ≡ t → (o : Option (List ℕ)) → IfSome o (AreSpelled (length word)) → IfSome (cond t o None) (AreSoMany count)
    step false e o h = tt
    step true e None h = tt
    step true e (Some bytes) h = let same : length word ≡ 2 * count = eqb-true _ _ e in (omega (arith, h.0, same), h.1)

-- the same of what a word is
pub token_spelled : (count : ℕ) (t : Token) → IfSome (bytes_in count t) (AreSoMany count)
token_spelled count (NameToken word) = word_spelled count word
token_spelled count (NumberToken word z) = word_spelled count word
token_spelled count (TextToken text) = tt
token_spelled count (OddToken word) = word_spelled count word

-- one byte whose lower bits are 0 is a minterm
minterm_made : (o : Option (List ℕ)) → IfSome o (AreSoMany 1) → IfSome (minterm_of o) (λ m. is_minterm m ≡ true)
minterm_made None h = tt
minterm_made (Some []) h = tt
minterm_made (Some (m ∷ [])) h = step (m % 16 == 0) refl
  where
    step : (t : Bool) → (m % 16 == 0) ≡ t → IfSome (cond t (Some m) None) (λ k. is_minterm k ≡ true)
    step true e = and_from (nat_le m 255) (m % 16 == 0) (le-leb m 255 h.1.0) e
    step false e = tt
minterm_made (Some (m ∷ n ∷ ms)) h = tt

-- what ends a blit's line has one
end_minterm : (ts : List Token) → IfSome (blit_end ts) (λ end. is_minterm end.1 ≡ true)
end_minterm (NumberToken a x ∷ NumberToken b y ∷ NumberToken c w ∷ NumberToken d h ∷ mm ∷ []) =
    map_has (λ m. is_minterm m ≡ true) (λ (end : Box × ℕ). is_minterm end.1 ≡ true) _ (minterm_of (bytes_in 1 mm)) (minterm_made (bytes_in 1 mm) (token_spelled 1 mm)) (λ m k. k)
end_minterm _ = tt

-- the least power that a class from this one on adds
class_step : (least k rest : ℕ) → least ≤ k → rest + 2 ^ (k + 1) ≤ 32 → (2 ^ k + rest) + 2 ^ least ≤ 32
class_step least k rest h r =
    let power : 2 ^ least ≤ 2 ^ k = pow_mono h in
    let twice : 2 ^ (k + 1) ≡ 2 ^ k * 2 = ap (λ n. 2 ^ n) (add-one k) ∙ pow-suc 2 k in
    omega (arith, power, twice, r)

-- a letter stands for one of five classes
class_small : (b : ℕ) → IfSome (message_class_of b) (λ k. k ≤ 4)
class_small b =
    let P : ℕ → Type 0 = λ k. k ≤ 4 in
    either_has P (b == 114) _ _ (omega arith) (either_has P (b == 110) _ _ (omega arith) (either_has P (b == 99) _ _ (omega arith) (either_has P (b == 97) _ _ (omega arith) (either_has P (b == 105) (Some 4) None (omega arith) tt))))

-- a set of classes lies below 32
classes_small : (least : ℕ) (bs : List ℕ) → least ≤ 5 → IfSome (classes_from least bs) (λ c. c + 2 ^ least ≤ 32)
classes_small least [] h = let small : 2 ^ least ≤ 2 ^ 5 = pow_mono h in omega (arith, small)
classes_small least (b ∷ bs) h = step (message_class_of b) (class_small b) (λ k small. classes_small (k + 1) bs (omega (arith, small)))
  where
    step : (o : Option ℕ) → IfSome o (λ k. k ≤ 4) → ((k : ℕ) → k ≤ 4 → IfSome (classes_from (k + 1) bs) (λ c. c + 2 ^ (k + 1) ≤ 32)) → IfSome (option_and_then (λ k. cond (nat_le least k) (option_map (λ rest. 2 ^ k + rest) (classes_from (k + 1) bs)) None) o) (λ c. c + 2 ^ least ≤ 32)
    step None small go = tt
    step (Some k) small go = test (nat_le least k) refl
      where
        test : (t : Bool) → nat_le least k ≡ t → IfSome (cond t (option_map (λ rest. 2 ^ k + rest) (classes_from (k + 1) bs)) None) (λ c. c + 2 ^ least ≤ 32)
        test false e = tt
        test true e = map_has (λ rest. rest + 2 ^ (k + 1) ≤ 32) (λ c. c + 2 ^ least ≤ 32) (λ rest. 2 ^ k + rest) (classes_from (k + 1) bs) (go k small) (λ rest r. class_step least k rest (leb-true least k e) r)

-- so is what words ask for
ask_small : (ts : List Token) → (ask_option ts).0 < 32
ask_small [] = omega arith
ask_small (NameToken n ∷ []) = omega arith
ask_small (NameToken n ∷ NameToken set ∷ ts) = step (bytes_eq n (codes "ask"))
  where
    found : (o : Option ℕ) → IfSome o (λ c. c + 2 ^ 0 ≤ 32) → (asked_classes o ts (NameToken n ∷ NameToken set ∷ ts)).0 < 32
    found None h = omega arith
    found (Some c) h = let small : c + 1 ≤ 32 = h in omega arith

    step : (t : Bool) → (cond t (asked_classes (classes_from 0 set) ts (NameToken n ∷ NameToken set ∷ ts)) (0, NameToken n ∷ NameToken set ∷ ts)).0 < 32
    step true = found (classes_from 0 set) (classes_small 0 set (omega arith))
    step false = omega arith
ask_small (NameToken n ∷ NumberToken a z ∷ ts) = omega arith
ask_small (NameToken n ∷ TextToken a ∷ ts) = omega arith
ask_small (NameToken n ∷ OddToken a ∷ ts) = omega arith
ask_small (NumberToken a z ∷ ts) = omega arith
ask_small (TextToken a ∷ ts) = omega arith
ask_small (OddToken a ∷ ts) = omega arith

-- what stands after an opening's words up to its hook
abbrev behind_hook : List Token → List Token
behind_hook ts = (hook_option (flag (codes "nocare") (flag (codes "borderless") (flag (codes "backdrop") ts).1).1).1).1

-- The lines of each family of verbs.
module _ (form : Form) (version : ℕ) (s : Section) where
  -- layers 2
  layers_made : (ts : List Token) → IfSome (layers_line ts) (IsVerbStatement form version s (not (version == 1) && (is_screen_due s && (version == 0))))
  layers_made (NumberToken a z ∷ []) =
      either_has (IsVerbStatement form version s (not (version == 1) && (is_screen_due s && (version == 0)))) (bytes_eq a (codes "2")) (Some LayersLine) None (record { place = λ e. (and_parts (not (version == 1)) _ e).1; known = λ e. refl; made = tt }) tt
  layers_made _ = tt

  -- screen W H D
  screen_made : (ts : List Token) → IfSome (screen_line ts) (IsVerbStatement form version s (is_screen_due s))
  screen_made (NumberToken a w ∷ NumberToken b h ∷ NumberToken c d ∷ []) = belongs_so form version s (ScreenLine w h d) refl tt
  screen_made _ = tt

  -- a glyph of the bytes that its words spell
  glyph_bytes_made : (code rows : Option (List ℕ)) → IfSome rows (AreSoMany 8) → IfSome (glyph_of_bytes code rows) (IsVerbStatement form version s (are_assets_due s))
  glyph_bytes_made (Some (code ∷ [])) (Some rows) h = belongs_so form version s (GlyphLine code rows) refl h.0
  glyph_bytes_made _ _ h = tt

  -- glyph CC HHHHHHHHHHHHHHHH
  glyph_made : (ts : List Token) → IfSome (glyph_line ts) (IsVerbStatement form version s (are_assets_due s))
  glyph_made (code ∷ rows ∷ []) = glyph_bytes_made (bytes_in 1 code) (bytes_in 8 rows) (token_spelled 8 rows)
  glyph_made _ = tt

  -- bitmap NAME W H D
  bitmap_made : (ts : List Token) → IfSome (bitmap_line ts) (IsVerbStatement form version s (are_assets_due s))
  bitmap_made (NameToken n ∷ NumberToken a w ∷ NumberToken b h ∷ NumberToken c d ∷ []) = belongs_so form version s (BitmapLine n w h d) refl tt
  bitmap_made _ = tt

  -- pattern PN HHHH ..
  pattern_made : (ts : List Token) → IfSome (pattern_line ts) (IsVerbStatement form version s ((version == 2) && are_assets_due s))
  pattern_made (NameToken n ∷ ts) =
      let P : Statement → Type 0 = IsVerbStatement form version s ((version == 2) && are_assets_due s) in
      either_has P (is_pattern_count (length ts)) _ None (map_all P (λ ws. PatternLine n ws) (pattern_words ts) (λ ws. record { place = λ e. (and_parts (version == 2) _ e).1; known = λ e. refl; made = tt })) tt
  pattern_made _ = tt

  -- a verb with a name
  name_made : (f : List ℕ → Statement) (stands : Bool) → ((n : List ℕ) → IsVerbStatement form version s stands (f n)) → (ts : List Token) → IfSome (name_line f ts) (IsVerbStatement form version s stands)
  name_made f stands h (NameToken n ∷ []) = h n
  name_made f stands h _ = tt

  -- a verb alone
  bare_made : (f : Statement) (stands : Bool) → IsVerbStatement form version s stands f → (ts : List Token) → IfSome (alone_line f ts) (IsVerbStatement form version s stands)
  bare_made f stands h [] = h
  bare_made f stands h _ = tt

  -- a line that parts a script or a task
  part_made : (verb : PartVerb) (ts : List Token) → IfSome (part_line verb ts) (IsVerbStatement form version s (is_known_in version (Part verb) && belongs_in form version s (Part verb)))
  part_made LayersVerb ts = layers_made ts
  part_made ScreenVerb ts = screen_made ts
  part_made GlyphVerb ts = glyph_made ts
  part_made BitmapVerb ts = bitmap_made ts
  part_made PatternVerb ts = pattern_made ts
  part_made TaskVerb ts = name_made _ _ (λ n. belongs_so form version s (TaskLine n) refl tt) ts
  part_made EndVerb ts = bare_made EndLine _ (belongs_so form version s EndLine refl tt) ts
  part_made OrderVerb ts = bare_made OrderLine _ (belongs_so form version s OrderLine refl tt) ts
  part_made ReportVerb ts = bare_made ReportLine _ (belongs_so form version s ReportLine refl tt) ts
  part_made LockVerb ts = name_made _ _ (λ n. belongs_so form version s (LockLine n) refl tt) ts
  part_made UnlockVerb ts = name_made _ _ (λ n. belongs_so form version s (UnlockLine n) refl tt) ts
  part_made HoldVerb ts = bare_made HoldLine _ (belongs_so form version s HoldLine refl tt) ts
  part_made ReleaseVerb ts = bare_made ReleaseLine _ (belongs_so form version s ReleaseLine refl tt) ts

  -- a verb with a layer
  layer_made : (verb : BareVerb) (ts : List Token) → IfSome (layer_line verb ts) (IsVerbStatement form version s (are_calls_due s))
  layer_made verb (NameToken l ∷ []) = call_so form version s (l ∷ []) (BareAct verb) refl tt
  layer_made verb _ = tt

  -- a verb with a layer and a number
  number_made : (verb : NumberVerb) (ts : List Token) → IfSome (number_line verb ts) (IsVerbStatement form version s (is_known_in version (Number verb) && are_calls_due s))
  number_made verb (NameToken l ∷ NumberToken a z ∷ []) = call_so form version s (l ∷ []) (NumberAct verb z) refl tt
  number_made verb _ = tt

  -- a verb with a layer and two numbers
  pair_made : (verb : PairVerb) (ts : List Token) → IfSome (pair_line verb ts) (IsVerbStatement form version s (are_calls_due s))
  pair_made verb (NameToken l ∷ NumberToken a x ∷ NumberToken b y ∷ []) = call_so form version s (l ∷ []) (PairAct verb x y) refl tt
  pair_made verb _ = tt

  -- a verb with a layer and a text
  text_made : (verb : TextVerb) (ts : List Token) → IfSome (text_line verb ts) (IsVerbStatement form version s (are_calls_due s))
  text_made verb (NameToken l ∷ TextToken text ∷ []) = call_so form version s (l ∷ []) (TextAct verb text) refl tt
  text_made verb _ = tt

  -- a verb with a layer and four numbers
  four_made : (act : ℤ → ℤ → ℤ → ℤ → Act) → ((x y w h : ℤ) → is_known_act version (act x y w h) ≡ true) → ((x y w h : ℤ) → 1 ≡ layers_of (act x y w h)) → ((x y w h : ℤ) → IsActMade (act x y w h)) → (ts : List Token) → IfSome (four_line act ts) (IsVerbStatement form version s (are_calls_due s))
  four_made act k n h (NameToken l ∷ NumberToken a x ∷ NumberToken b y ∷ NumberToken c w ∷ NumberToken d z ∷ []) =
      let P : Bool → Type 0 = λ known. IsVerbStatement form version s (known && are_calls_due s) (CallLine (l ∷ []) (act x y w z)) in
      subst P (k x y w z) (call_so form version s (l ∷ []) (act x y w z) (n x y w z) (h x y w z))
  four_made act k n h _ = tt

  -- orrect R X0 Y0 X1 Y1, and its kin
  rect_made : (op : RectOp) (ts : List Token) → IfSome (rect_line op ts) (IsVerbStatement form version s (are_calls_due s))
  rect_made op (NumberToken a r ∷ NumberToken b x0 ∷ NumberToken c y0 ∷ NumberToken d x1 ∷ NumberToken e y1 ∷ []) =
      call_so form version s [] (RegRectAct op r (rectangle x0 y0 x1 y1)) refl tt
  rect_made op _ = tt

  -- orregion S R, and its kin
  region_made : (op : PairOp) (ts : List Token) → IfSome (region_line op ts) (IsVerbStatement form version s (are_calls_due s))
  region_made op (NumberToken a r ∷ NumberToken b q ∷ []) = call_so form version s [] (RegPairAct op r q) refl tt
  region_made op _ = tt

  -- clearregion R
  clear_made : (ts : List Token) → IfSome (clear_line ts) (IsVerbStatement form version s (are_calls_due s))
  clear_made (NumberToken a r ∷ []) = call_so form version s [] (RegClearAct r) refl tt
  clear_made _ = tt

  -- which X Y
  which_made : (ts : List Token) → IfSome (which_line ts) (IsVerbStatement form version s (are_calls_due s))
  which_made (NumberToken a x ∷ NumberToken b y ∷ []) = call_so form version s [] (WhichAct x y) refl tt
  which_made _ = tt

  -- infront L M
  infront_made : (ts : List Token) → IfSome (infront_line ts) (IsVerbStatement form version s (are_calls_due s))
  infront_made (NameToken l ∷ NameToken m ∷ []) = call_so form version s (l ∷ m ∷ []) InFrontAct refl tt
  infront_made _ = tt

  -- scrollraster L DX DY X0 Y0 X1 Y1
  scrollraster_made : (ts : List Token) → IfSome (scrollraster_line ts) (IsVerbStatement form version s (are_calls_due s))
  scrollraster_made (NameToken l ∷ NumberToken a dx ∷ NumberToken b dy ∷ NumberToken c x0 ∷ NumberToken d y0 ∷ NumberToken e x1 ∷ NumberToken f y1 ∷ []) =
      call_so form version s (l ∷ []) (ScrollRasterAct dx dy (rectangle x0 y0 x1 y1)) refl tt
  scrollraster_made _ = tt

  -- put BM SX SY L X Y W H MM
  put_made : (ts : List Token) → IfSome (put_line ts) (IsVerbStatement form version s (are_calls_due s))
  put_made (NameToken bm ∷ NumberToken a sx ∷ NumberToken b sy ∷ NameToken l ∷ ts) =
      map_has (λ end. is_minterm end.1 ≡ true) (IsVerbStatement form version s (are_calls_due s)) _ (blit_end ts) (end_minterm ts) (λ end k. call_so form version s (l ∷ []) (PutAct bm (blit_area sx sy end.0 end.1)) refl k)
  put_made _ = tt

  -- blit L SX SY M X Y W H MM
  blit_made : (ts : List Token) → IfSome (blit_line ts) (IsVerbStatement form version s (are_calls_due s))
  blit_made (NameToken l ∷ NumberToken a sx ∷ NumberToken b sy ∷ NameToken m ∷ ts) =
      map_has (λ end. is_minterm end.1 ≡ true) (IsVerbStatement form version s (are_calls_due s)) _ (blit_end ts) (end_minterm ts) (λ end k. call_so form version s (l ∷ m ∷ []) (BlitAct (blit_area sx sy end.0 end.1)) refl k)
  blit_made _ = tt

  -- endrefresh L full, endrefresh L part
  endrefresh_made : (ts : List Token) → IfSome (endrefresh_line ts) (IsVerbStatement form version s (are_calls_due s))
  endrefresh_made (NameToken l ∷ NameToken how ∷ []) =
      either_has (IsVerbStatement form version s (are_calls_due s)) (bytes_eq how (codes "full")) _ _ (call_so form version s (l ∷ []) (EndRefreshAct true) refl tt) (either_has (IsVerbStatement form version s (are_calls_due s)) (bytes_eq how (codes "part")) _ None (call_so form version s (l ∷ []) (EndRefreshAct false) refl tt) tt)
  endrefresh_made _ = tt

  -- the statement at the end of a creation's words
  end_made : (f : Statement) → IsVerbStatement form version s (are_calls_due s) f → (ts : List Token) → IfSome (at_end f ts) (IsVerbStatement form version s (are_calls_due s))
  end_made f h [] = h
  end_made f h (t ∷ ts) = tt

  -- what stands after a creation's bounds
  create_super_made : (l : List ℕ) (place : Place) (rect : Rectangle) (ts : List Token) → IfSome (create_super l place rect ts) (IsVerbStatement form version s (are_calls_due s))
  create_super_made l place rect (NumberToken a w ∷ NumberToken b h ∷ ts) = end_made _ (call_so form version s (l ∷ []) _ refl refl) _
  create_super_made l place rect _ = tt

  create_made : (l : List ℕ) (place : Place) (rect : Rectangle) (ts : List Token) (kind : Kind) → IfSome (create_kind l place rect ts kind) (IsVerbStatement form version s (are_calls_due s))
  create_made l place rect ts Simple = end_made _ (call_so form version s (l ∷ []) _ refl (refl, refl)) _
  create_made l place rect ts Smart = end_made _ (call_so form version s (l ∷ []) _ refl (refl, refl)) _
  create_made l place rect ts SuperBitmap = create_super_made l place rect ts

  -- the statement at the title
  titled_made : (l : List ℕ) (at : Box) (layer : NewLayer) (framed nocare : Bool) (classes : ℕ) → IsNewLayerOf layer.kind layer → (framed && is_super layer.kind) ≡ false → classes < 32 → (ts : List Token) → IfSome (titled_line l at layer framed nocare classes ts) (IsVerbStatement form version s (are_calls_due s))
  titled_made l at layer framed nocare classes a f c (TextToken title ∷ []) =
      call_so form version s (l ∷ []) (OpenAct at layer framed nocare classes title) refl (a, f, c)
  titled_made l at layer framed nocare classes a f c _ = tt

  -- what stands after an opening's box
  open_super_made : (l : List ℕ) (place : Place) (at : Box) (ts : List Token) → IfSome (open_super l place at ts) (IsVerbStatement form version s (are_calls_due s))
  open_super_made l place at (NumberToken a w ∷ NumberToken b h ∷ ts) = titled_made l at _ false false _ refl refl (ask_small ((flag (codes "backdrop") ts).1)) _
  open_super_made l place at _ = tt

  open_made : (l : List ℕ) (place : Place) (at : Box) (ts : List Token) (kind : Kind) → IfSome (open_kind l place at ts kind) (IsVerbStatement form version s (are_calls_due s))
  open_made l place at ts Simple = titled_made l at _ _ _ _ (refl, refl) (and_right _ false refl) (ask_small (behind_hook ts)) _
  open_made l place at ts Smart = titled_made l at _ _ _ _ (refl, refl) (and_right _ false refl) (ask_small (behind_hook ts)) _
  open_made l place at ts SuperBitmap = open_super_made l place at ts

  -- create L KIND PLACE X0 Y0 X1 Y1 .., and open L KIND PLACE X Y W H ..
  new_layer_made : {A : Type 0} (make : ℤ → ℤ → ℤ → ℤ → A) (rest : List ℕ → Place → A → List Token → Kind → Option Statement) → ((l : List ℕ) (place : Place) (at : A) (ts : List Token) (kind : Kind) → IfSome (rest l place at ts kind) (IsVerbStatement form version s (are_calls_due s))) → (ts : List Token) → IfSome (new_layer_line make rest ts) (IsVerbStatement form version s (are_calls_due s))
  new_layer_made make rest made (NameToken l ∷ NameToken k ∷ NameToken p ∷ NumberToken a x ∷ NumberToken b y ∷ NumberToken c z ∷ NumberToken d w ∷ ts) =
      then_has (IsVerbStatement form version s (are_calls_due s)) _ (place_of p) (λ place. then_has (IsVerbStatement form version s (are_calls_due s)) _ (kind_of k) (λ kind. made l place (make x y z w) ts kind))
  new_layer_made make rest made _ = tt

-- so it is for each verb
verb_made : (form : Form) (version : ℕ) (s : Section) (verb : Verb) (ts : List Token) → IfSome (statement_by verb ts) (IsVerbStatement form version s (is_known_in version verb && belongs_in form version s verb))
verb_made form version s (Part verb) ts = part_made form version s verb ts
verb_made form version s (Bare verb) ts = layer_made form version s verb ts
verb_made form version s (Number verb) ts = number_made form version s verb ts
verb_made form version s (Pair verb) ts = pair_made form version s verb ts
verb_made form version s (Text verb) ts = text_made form version s verb ts
verb_made form version s (Rect op) ts = rect_made form version s op ts
verb_made form version s (Region op) ts = region_made form version s op ts
verb_made form version s ClearRegion ts = clear_made form version s ts
verb_made form version s Create ts = new_layer_made form version s rectangle create_kind (create_made form version s) ts
verb_made form version s Open ts = new_layer_made form version s box open_kind (open_made form version s) ts
verb_made form version s InFront ts = infront_made form version s ts
verb_made form version s BoxOf ts = four_made form version s (λ x y w h. BoxAct (box x y w h)) (λ x y w h. refl) (λ x y w h. refl) (λ x y w h. tt) ts
verb_made form version s Which ts = which_made form version s ts
verb_made form version s Fill ts = four_made form version s (λ x0 y0 x1 y1. FillAct (rectangle x0 y0 x1 y1)) (λ x0 y0 x1 y1. refl) (λ x0 y0 x1 y1. refl) (λ x0 y0 x1 y1. tt) ts
verb_made form version s ScrollRaster ts = scrollraster_made form version s ts
verb_made form version s Put ts = put_made form version s ts
verb_made form version s Blit ts = blit_made form version s ts
verb_made form version s EndRefresh ts = endrefresh_made form version s ts
verb_made form version s AreaVerb ts = tt
verb_made form version s AreaPatternVerb ts = tt
verb_made form version s (Gzz verb) ts = tt

-- a statement of a verb is good for this, where its lines stand
verb_here : (s : Setting) (above : List Statement) → ((told above).rows_due == 0) ≡ true → (stands : Bool) → stands ≡ true → (f : Statement) → IsVerbStatement s.form (told above).version (told above).section stands f → IsStatementHere s above f
verb_here s above e stands h (RowLine bytes) k = absurd (false≢true (k.place h))
verb_here s above e stands h (NumbersLine zs) k = absurd (false≢true (k.place h))
verb_here s above e stands h f k = (e, k.place h, k.made, k.known h)

-- what is found is found as a result too
pub found_has : {A : Type 0} (P : A → Type 0) (o : Option A) (r : Reason) → IfSome o P → IfOk (ok_or o r) P
found_has P None r h = tt
found_has P (Some a) r h = h

-- What an area's line was good for: it stands in a task, and its layer has a name.
pub record IsAreaHere (above : List Statement) (layer : List ℕ) : Type 0 where
  pub rows : ((told above).rows_due == 0) ≡ true
  pub calls : are_calls_due (told above).section ≡ true
  pub name : token_of layer ≡ NameToken layer

-- what the words of a line that is done with a window of two layers are good for, besides its box
abbrev pub IsGzzMade : GzzAct → Type 0
IsGzzMade (OpenGzz inner kind place box classes title) = (is_super kind ≡ false) × (classes < 32)
IsGzzMade act = Unit {0}

-- What such a line was good for: it stands in a task, in version 2.
pub record IsGzzHere (above : List Statement) (act : GzzAct) : Type 0 where
  pub rows : ((told above).rows_due == 0) ≡ true
  pub calls : are_calls_due (told above).section ≡ true
  pub version : ((told above).version == 2) ≡ true
  pub made : IsGzzMade act

-- The same of any line.
abbrev pub IsLineHere : Setting → List Statement → Line → Type 0
IsLineHere s above (StatementLine f) = IsStatementHere s above f
IsLineHere s above (AreaLine layer pattern points) = IsAreaHere above layer
IsLineHere s above (GzzLine g act) = IsGzzHere above act

-- a word that is a name is that name
name_itself : (w l : List ℕ) → token_of w ≡ NameToken l → token_of l ≡ NameToken l
name_itself w l h =
    let same = go (is_a_text w) (is_a_name w) (is_a_number w) h in
    subst (λ (k : List ℕ). token_of k ≡ NameToken k) same (h ∙ ap (λ (k : List ℕ). NameToken k) (sym same))
  where
    go : (t n m : Bool) → cond t (TextToken (without_last (drop 1 w))) (cond n (NameToken w) (cond m (NumberToken w (value_of_number w)) (OddToken w))) ≡ NameToken l → w ≡ l
    go true n m e = absurd (cc)
    go false true m e = cc
    go false false true e = absurd (cc)
    go false false false e = absurd (cc)

-- a statement that is found, as a line
stated_has : (s : Setting) (above : List Statement) (o : Option Statement) → IfSome o (IsStatementHere s above) → IfSome (stated o) (IsLineHere s above)
stated_has s above o h = map_has (IsStatementHere s above) (IsLineHere s above) (λ f. StatementLine f) o h (λ f k. k)

module _ (s : Setting) (above : List Statement) (rows : ((told above).rows_due == 0) ≡ true) (calls : are_calls_due (told above).section ≡ true) where
  -- area L X Y X Y X Y ..
  area_here : (ws : List (List ℕ)) → IfSome (area_line (map token_of ws)) (IsLineHere s above)
  area_here [] = tt
  area_here (w ∷ ws) = step (token_of w) refl
    where
      step : (t : Token) → token_of w ≡ t → IfSome (area_line (t ∷ map token_of ws)) (IsLineHere s above)
      step (NameToken l) h = map_all (IsLineHere s above) (λ ps. AreaLine l None ps) (area_points (map token_of ws)) (λ ps. record { rows = rows; calls = calls; name = name_itself w l h })
      step _ h = tt

  -- areapat L PN X Y X Y X Y ..
  area_pattern_here : (ws : List (List ℕ)) → IfSome (area_pattern_line (map token_of ws)) (IsLineHere s above)
  area_pattern_here [] = tt
  area_pattern_here (w ∷ []) = alone (token_of w)
    where
      alone : (t : Token) → IfSome (area_pattern_line (t ∷ [])) (IsLineHere s above)
      alone (NameToken l) = tt
      alone _ = tt
  area_pattern_here (w ∷ v ∷ ws) = step (token_of w) refl (token_of v)
    where
      step : (t : Token) → token_of w ≡ t → (u : Token) → IfSome (area_pattern_line (t ∷ u ∷ map token_of ws)) (IsLineHere s above)
      step (NameToken l) h (NameToken n) = map_all (IsLineHere s above) (λ ps. AreaLine l (Some n) ps) (area_points (map token_of ws)) (λ ps. record { rows = rows; calls = calls; name = name_itself w l h })
      step (NameToken l) h _ = tt
      step _ h u = tt

-- the lines that are done with a window of two layers
module _ (s : Setting) (above : List Statement) (rows : ((told above).rows_due == 0) ≡ true) (version : ((told above).version == 2) ≡ true) (calls : are_calls_due (told above).section ≡ true) where
  gzz_so : (g : List ℕ) (act : GzzAct) → IsGzzMade act → IsLineHere s above (GzzLine g act)
  gzz_so g act h = record { rows = rows; calls = calls; version = version; made = h }

  -- gopen G I KIND PLACE X Y W H ..
  titled_gzz_here : (g i : List ℕ) (kind : Kind) (place : Place) (at : Box) (classes : ℕ) → is_super kind ≡ false → classes < 32 → (ts : List Token) → IfSome (titled_gzz g i kind place at classes ts) (IsLineHere s above)
  titled_gzz_here g i kind place at classes k c (TextToken title ∷ []) = gzz_so g (OpenGzz i kind place at classes title) (k, c)
  titled_gzz_here g i kind place at classes k c _ = tt

  opened_gzz_here : (g i : List ℕ) (place : Place) (at : Box) (ts : List Token) (kind : Kind) → is_super kind ≡ false → IfSome (opened_gzz g i place at ts kind) (IsLineHere s above)
  opened_gzz_here g i place at ts kind k = titled_gzz_here g i kind place at _ k (ask_small ts) _

  inner_kind_here : (w : List ℕ) (f : Kind → Option Line) → ((kind : Kind) → is_super kind ≡ false → IfSome (f kind) (IsLineHere s above)) → IfSome (option_and_then f (inner_kind_of w)) (IsLineHere s above)
  inner_kind_here w f h = step (bytes_eq w (codes "simple")) (bytes_eq w (codes "smart"))
    where
      step : (a b : Bool) → IfSome (option_and_then f (cond a (Some Simple) (cond b (Some Smart) None))) (IsLineHere s above)
      step true b = h Simple refl
      step false true = h Smart refl
      step false false = tt

  gopen_here : (ts : List Token) → IfSome (gopen_line ts) (IsLineHere s above)
  gopen_here (NameToken g ∷ NameToken i ∷ NameToken k ∷ NameToken p ∷ NumberToken a x ∷ NumberToken b y ∷ NumberToken c z ∷ NumberToken d w ∷ ts) =
      then_has (IsLineHere s above) _ (place_of p) (λ place. inner_kind_here k _ (λ kind h. opened_gzz_here g i place (box x y z w) ts kind h))
  gopen_here _ = tt

  -- gbox G X Y W H
  gbox_here : (ts : List Token) → IfSome (gbox_line ts) (IsLineHere s above)
  gbox_here (NameToken g ∷ ts) = map_all (IsLineHere s above) (λ at. GzzLine g (BoxGzz at)) (last_four box ts) (λ at. gzz_so g (BoxGzz at) tt)
  gbox_here _ = tt

  -- gfront G, and its kin
  gzz_alone_here : (act : GzzAct) → IsGzzMade act → (ts : List Token) → IfSome (gzz_alone act ts) (IsLineHere s above)
  gzz_alone_here act h (NameToken g ∷ []) = gzz_so g act h
  gzz_alone_here act h _ = tt

  -- ginfront G M
  ginfront_here : (ts : List Token) → IfSome (ginfront_line ts) (IsLineHere s above)
  ginfront_here (NameToken g ∷ NameToken m ∷ []) = gzz_so g (InFrontGzz m) tt
  ginfront_here _ = tt

  gzz_here : (verb : GzzVerb) (ts : List Token) → IfSome (gzz_line verb ts) (IsLineHere s above)
  gzz_here OpenVerb ts = gopen_here ts
  gzz_here BoxVerb ts = gbox_here ts
  gzz_here FrontVerb ts = gzz_alone_here FrontGzz tt ts
  gzz_here BehindVerb ts = gzz_alone_here BehindGzz tt ts
  gzz_here InFrontVerb ts = ginfront_here ts
  gzz_here CloseVerb ts = gzz_alone_here CloseGzz tt ts

-- the same of each line with a verb
verb_line_here : (s : Setting) (above : List Statement) → ((told above).rows_due == 0) ≡ true → (ws : List (List ℕ)) → IfOk (verb_read s.form (told above).version (told above).section ws) (IsLineHere s above)
verb_line_here s above e ws = at_verb (verb_on ws)
  where
    is_known : Verb → Bool
    is_known v = is_known_in (told above).version v

    belongs : Verb → Bool
    belongs v = belongs_in s.form (told above).version (told above).section v

    at_line : (v : Verb) → (is_known v && belongs v) ≡ true → IfSome (line_by v (map token_of (after_verb ws))) (IsLineHere s above)
    at_line AreaVerb h = area_here s above e (and_parts (is_known AreaVerb) _ h).1 (after_verb ws)
    at_line AreaPatternVerb h = area_pattern_here s above e (and_parts (is_known AreaPatternVerb) _ h).1 (after_verb ws)
    at_line (Gzz verb) h =
        let halves = and_parts (is_known (Gzz verb)) _ h in
        gzz_here s above e halves.0 halves.1 verb (map token_of (after_verb ws))
    at_line v h =
        map_has (IsVerbStatement s.form (told above).version (told above).section (is_known v && belongs v)) (IsLineHere s above) (λ f. StatementLine f) (statement_by v (map token_of (after_verb ws))) (verb_made s.form (told above).version (told above).section v (map token_of (after_verb ws))) (λ f k. verb_here s above e _ h f k)

    at_tests : (v : Verb) (a b : Bool) → is_known v ≡ a → belongs v ≡ b → IfOk (demand a UnknownWord >>= (λ _. demand b Misplaced >>= (λ _. ok_or (line_by v (map token_of (after_verb ws))) FormReason))) (IsLineHere s above)
    at_tests v false b k h = tt
    at_tests v true false k h = tt
    at_tests v true true k h = found_has (IsLineHere s above) _ FormReason (at_line v (and_from _ _ k h))

    at_verb : (o : Option Verb) → IfOk (ok_or o UnknownWord >>= (λ v. demand (is_known v) UnknownWord >>= (λ _. demand (belongs v) Misplaced >>= (λ _. ok_or (line_by v (map token_of (after_verb ws))) FormReason)))) (IsLineHere s above)
    at_verb None = tt
    at_verb (Some v) = at_tests v (is_known v) (belongs v) refl refl

-- a row of a bitmap
row_here : (s : Setting) (above : List Statement) → ((told above).rows_due == 0) ≡ false → (ts : List Token) → IfSome (row_line (told above).row_width ts) (IsStatementHere s above)
row_here s above e (t ∷ []) =
    map_has (AreSoMany (row_bytes (told above).row_width)) (IsStatementHere s above) _ (bytes_in (row_bytes (told above).row_width) t) (token_spelled _ t) (λ bytes k. (e, k.0, k.1))
row_here s above e _ = tt

-- as many numbers as words
numbers_long : (ts : List Token) → IfSome (all_numbers ts) (λ zs. length zs ≡ length ts)
numbers_long [] = refl
numbers_long (NumberToken a z ∷ ts) =
    map_has (λ zs. length zs ≡ length ts) (λ zs. length zs ≡ suc (length ts)) (λ zs. z ∷ zs) (all_numbers ts) (numbers_long ts) (λ zs h. ap suc h)
numbers_long (NameToken w ∷ ts) = tt
numbers_long (TextToken w ∷ ts) = tt
numbers_long (OddToken w ∷ ts) = tt

-- numbers of an order
numbers_here : (s : Setting) (above : List Statement) → ((told above).rows_due == 0) ≡ true → are_numbers_due (told above).section ≡ true → (ts : List Token) → IfSome (numbers_line ts) (IsStatementHere s above)
numbers_here s above e d ts = step (nat_le (length ts) numbers_limit) refl
  where
    step : (t : Bool) → nat_le (length ts) numbers_limit ≡ t → IfSome (cond t (option_map (λ zs. NumbersLine zs) (all_numbers ts)) None) (IsStatementHere s above)
    step false h = tt
    step true h =
        map_has (λ zs. length zs ≡ length ts) (IsStatementHere s above) (λ zs. NumbersLine zs) (all_numbers ts) (numbers_long ts) (λ zs k. (e, d, subst (λ (n : ℕ). n ≤ numbers_limit) (sym k) (leb-true (length ts) numbers_limit h)))

-- What a line's words say is good for what such a line is good for here.
pub line_here : (s : Setting) (above : List Statement) (ws : List (List ℕ)) → IfOk (line_made s.form (told above).version (told above).section (told above).rows_due (told above).row_width ws) (IsLineHere s above)
line_here s above ws = at_rows ((told above).rows_due == 0) refl
  where
    at_numbers : (t : Bool) → are_numbers_due (told above).section ≡ t → ((told above).rows_due == 0) ≡ true → IfOk (cond t (ok_or (stated (numbers_line (map token_of ws))) FormReason) (verb_read s.form (told above).version (told above).section ws)) (IsLineHere s above)
    at_numbers true d e = found_has (IsLineHere s above) _ FormReason (stated_has s above _ (numbers_here s above e d (map token_of ws)))
    at_numbers false d e = verb_line_here s above e ws

    at_rows : (t : Bool) → ((told above).rows_due == 0) ≡ t → IfOk (cond (not t) (ok_or (stated (row_line (told above).row_width (map token_of ws))) FormReason) (cond (are_numbers_due (told above).section) (ok_or (stated (numbers_line (map token_of ws))) FormReason) (verb_read s.form (told above).version (told above).section ws))) (IsLineHere s above)
    at_rows true e = at_numbers (are_numbers_due (told above).section) refl e
    at_rows false e = found_has (IsLineHere s above) _ FormReason (stated_has s above _ (row_here s above e (map token_of ws)))
