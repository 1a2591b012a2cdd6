-- The words of each statement are those that it was read from, where its numbers are in their ranges.
use Rattle.std.proofs.Common.{◌≡◌, ℕ, ◌+◌, ◌*◌, ◌/◌, ◌%◌, ◌≤◌, ◌==◌, true, ◌&&◌, nat_le, List, [], ◌∷◌, length, map, ℤ, pos, codes, bytes_eq, Option, Some, None, option_map, option_and_then, IfSome, refl, sym, ap₂, ◌∙◌, arith}
use Rattle.std.specs.List.{list_all}
use Rattle.std.specs.Fmt.{signed_decimal}
use Rattle.lw_region.specs.Rectangle.{within}
use Rattle.lw_planes.specs.Bitmap.{row_bytes}
use Rattle.lw_calls.specs.declared.operation.RectOp.{RectOp}
use Rattle.lw_calls.specs.declared.operation.PairOp.{PairOp}
use Rattle.lw_grammar.specs.Tokens.{Token, NameToken, NumberToken, TextToken, OddToken, hex_bytes, spelled_bytes, bytes_in}
use Rattle.lw_calls.specs.Limits.{limits_of, coordinates_fit, is_extent}
use Rattle.lw_calls.proofs.LimitLaws.{screen_at_most}
use Rattle.lw_calls.specs.declared.area.Area.{Area}
use Rattle.lw_grammar.specs.declared.verb.PartVerb.{PartVerb}
use Rattle.lw_grammar.specs.declared.verb.PartVerb.TheVariants.{Layers as LayersVerb, Screen as ScreenVerb, Glyph as GlyphVerb, Bitmap as BitmapVerb, Pattern as PatternVerb, Task as TaskVerb, End as EndVerb, Order as OrderVerb, Report as ReportVerb, Lock as LockVerb, Unlock as UnlockVerb, Hold as HoldVerb, Release as ReleaseVerb}
use Rattle.lw_grammar.specs.declared.verb.BareVerb.{BareVerb}
use Rattle.lw_grammar.specs.declared.verb.NumberVerb.{NumberVerb}
use Rattle.lw_grammar.specs.declared.verb.PairVerb.{PairVerb}
use Rattle.lw_grammar.specs.declared.verb.TextVerb.{TextVerb}
use Rattle.lw_grammar.specs.Verbs.{part_word, bare_word, number_word, pair_word, text_verb_word, rect_word, region_word}
use Rattle.lw_area.specs.Patterns.{is_pattern_count}
use Rattle.lw_grammar.specs.Statements.{Act, Statement, LayersLine, RowLine, PatternLine, TaskLine, EndLine, OrderLine, NumbersLine, ReportLine, LockLine, UnlockLine, HoldLine, ReleaseLine, layers_line, screen_line, glyph_of_bytes, glyph_line, bitmap_line, row_line, pattern_word, pattern_words, pattern_line, all_numbers, numbers_limit, numbers_line, name_line, alone_line, part_line, layer_line, number_line, pair_line, text_line, rect_line, region_line, clear_line, which_line, infront_line, four_line, scrollraster_line, minterm_of, put_line, blit_line, endrefresh_line, is_blit_in_range, is_act_in_range, version_at_screen, bitmap_size_limit, is_line_in_range}
use Rattle.lw_calls.specs.Written.{hex_byte}
use Rattle.lw_canonical.specs.Spelling.{hex_word, four_words, call_words, pattern_digits, words_of}
use Rattle.lw_grammar.proofs.ScriptStatements.{either_has, map_has, twice_has, AreSoMany, token_spelled}
use Rattle.lw_grammar.proofs.ScriptNames.{equal_names}
use Rattle.lw_canonical.proofs.SpelledNumbers.{hex_written, found_if}
use Rattle.lw_canonical.proofs.SpelledWords.{token_word, AreTokens}
use Rattle.lw_canonical.proofs.SpelledRanges.{IsSmall, places_small, size_small, register_small, after_layer_small, task_small, sizes_small, AreSmall, rect_small, also}
use Rattle.std.proofs.lemmas.Bool.{and_parts}

-- The statement's words are these, where the words are good for what they are and the statement is in range in some version.
abbrev pub HasWords : List (List ℕ) → List Token → Statement → Type 0
HasWords words ts f = AreTokens ts → (version : ℕ) → is_line_in_range version f ≡ true → words_of f ≡ words

-- the same of the words after a verb
abbrev pub IsSpelt : List ℕ → List Token → Statement → Type 0
IsSpelt word ts f = HasWords (word ∷ map token_word ts) ts f

-- the bytes that a word spells are written so
word_bytes : (count : ℕ) (word : List ℕ) → IfSome (spelled_bytes count word) (λ bytes. hex_word bytes ≡ word)
word_bytes count word = either_has (λ bytes. hex_word bytes ≡ word) (length word == 2 * count) (hex_bytes word) None (hex_written word) tt

-- the same of what a word is
pub token_bytes : (count : ℕ) (t : Token) → IfSome (bytes_in count t) (λ bytes. hex_word bytes ≡ token_word t)
token_bytes count (NameToken word) = word_bytes count word
token_bytes count (NumberToken word z) = word_bytes count word
token_bytes count (TextToken text) = tt
token_bytes count (OddToken word) = word_bytes count word

-- layers 2
pub layers_spelt : (ts : List Token) → IfSome (layers_line ts) (IsSpelt (codes "layers") ts)
layers_spelt (NumberToken a z ∷ []) =
    found_if (IsSpelt (codes "layers") (NumberToken a z ∷ [])) (bytes_eq a (codes "2")) LayersLine None (λ e t v r. also refl (also (sym (equal_names a (codes "2") e)) refl)) tt
layers_spelt _ = tt

-- screen W H D
pub screen_spelt : (ts : List Token) → IfSome (screen_line ts) (IsSpelt (codes "screen") ts)
screen_spelt (NumberToken a w ∷ NumberToken b h ∷ NumberToken c d ∷ []) = λ t v r.
    let s = sizes_small (limits_of (version_at_screen v)).screen w h d (screen_at_most (version_at_screen v)) r in
    also refl (also (t.0 s.0) (also (t.1.0 s.1.0) (also (t.1.1.0 s.1.1) refl)))
screen_spelt _ = tt

-- a glyph of the bytes that its words spell
glyph_bytes_spelt : (x y : Token) (code rows : Option (List ℕ)) → IfSome code (λ bytes. hex_word bytes ≡ token_word x) → IfSome rows (λ bytes. hex_word bytes ≡ token_word y) → IfSome (glyph_of_bytes code rows) (IsSpelt (codes "glyph") (x ∷ y ∷ []))
glyph_bytes_spelt x y (Some (code ∷ [])) (Some rows) h k = λ t v r. also refl (also h (also k refl))
glyph_bytes_spelt x y _ _ h k = tt

-- glyph CC HHHHHHHHHHHHHHHH
pub glyph_spelt : (ts : List Token) → IfSome (glyph_line ts) (IsSpelt (codes "glyph") ts)
glyph_spelt (code ∷ rows ∷ []) = glyph_bytes_spelt code rows (bytes_in 1 code) (bytes_in 8 rows) (token_bytes 1 code) (token_bytes 8 rows)
glyph_spelt _ = tt

-- bitmap NAME W H D
pub bitmap_spelt : (ts : List Token) → IfSome (bitmap_line ts) (IsSpelt (codes "bitmap") ts)
bitmap_spelt (NameToken n ∷ NumberToken a w ∷ NumberToken b h ∷ NumberToken c d ∷ []) = λ t v r.
    let s = sizes_small bitmap_size_limit w h d (omega arith) r in
    also refl (also refl (also (t.1.0 s.0) (also (t.1.1.0 s.1.0) (also (t.1.1.1.0 s.1.1) refl))))
bitmap_spelt _ = tt

-- a row of a bitmap
pub row_spelt : (width : ℕ) (ts : List Token) → IfSome (row_line width ts) (HasWords (map token_word ts) ts)
row_spelt width (t ∷ []) =
    map_has (λ bytes. hex_word bytes ≡ token_word t) (HasWords (token_word t ∷ []) (t ∷ [])) (λ bytes. RowLine bytes) (bytes_in (row_bytes width) t) (token_bytes (row_bytes width) t) (λ bytes e u v r. also e refl)
row_spelt width _ = tt

-- numbers of an order
abbrev AreNumbers : List Token → List ℤ → Type 0
AreNumbers ts zs = AreTokens ts → list_all (λ z. within (pos 0) z (pos 15)) zs ≡ true → map signed_decimal zs ≡ map token_word ts

all_spelt : (ts : List Token) → IfSome (all_numbers ts) (AreNumbers ts)
all_spelt [] = λ t r. refl
all_spelt (NumberToken a z ∷ ts) =
    map_has (AreNumbers ts) (AreNumbers (NumberToken a z ∷ ts)) (λ zs. z ∷ zs) (all_numbers ts) (all_spelt ts) (λ zs h t r.
    let k = and_parts (within (pos 0) z (pos 15)) _ r in
    also (t.0 (task_small z k.0)) (h t.1 k.1))
all_spelt (NameToken n ∷ ts) = tt
all_spelt (TextToken n ∷ ts) = tt
all_spelt (OddToken n ∷ ts) = tt

pub numbers_spelt : (ts : List Token) → IfSome (numbers_line ts) (HasWords (map token_word ts) ts)
numbers_spelt ts =
    either_has (HasWords (map token_word ts) ts) (nat_le (length ts) numbers_limit) _ None (map_has (AreNumbers ts) (HasWords (map token_word ts) ts) (λ zs. NumbersLine zs) (all_numbers ts) (all_spelt ts) (λ zs h t v r. h t r)) tt

-- a word of a pattern, in its four digits
word_spelt : (word : List ℕ) (o : Option (List ℕ)) → IfSome o (AreSoMany 2) → IfSome o (λ bytes. hex_word bytes ≡ word) → IfSome (pattern_word o) (λ w. pattern_digits w ≡ word)
word_spelt word None h k = tt
word_spelt word (Some []) h k = tt
word_spelt word (Some (a ∷ [])) h k = tt
word_spelt word (Some (a ∷ b ∷ [])) h k =
    let low : b ≤ 255 = h.1.1.0 in
    let high : (a * 256 + b) / 256 ≡ a = omega (arith, low) in
    let rest : (a * 256 + b) % 256 ≡ b = omega (arith, low) in
    ap₂ (λ x y. hex_word (x ∷ y ∷ [])) high rest ∙ k
word_spelt word (Some (a ∷ b ∷ c ∷ cs)) h k = tt

-- those of a pattern
words_spelt : (ts : List Token) → IfSome (pattern_words ts) (λ ws. map pattern_digits ws ≡ map token_word ts)
words_spelt [] = refl
words_spelt (t ∷ ts) = at_word (pattern_word (bytes_in 2 t)) (word_spelt (token_word t) (bytes_in 2 t) (token_spelled 2 t) (token_bytes 2 t)) (words_spelt ts)
  where
    at_word : (o : Option ℕ) → IfSome o (λ w. pattern_digits w ≡ token_word t) → IfSome (pattern_words ts) (λ ws. map pattern_digits ws ≡ map token_word ts) → IfSome (option_and_then (λ w. option_map (λ ws. w ∷ ws) (pattern_words ts)) o) (λ ws. map pattern_digits ws ≡ token_word t ∷ map token_word ts)
    at_word None h k = tt
    at_word (Some w) h k =
        map_has (λ ws. map pattern_digits ws ≡ map token_word ts) (λ ws. map pattern_digits ws ≡ token_word t ∷ map token_word ts) (λ ws. w ∷ ws) (pattern_words ts) k (λ ws e. also h e)

-- pattern PN HHHH ..
pub pattern_spelt : (ts : List Token) → IfSome (pattern_line ts) (IsSpelt (codes "pattern") ts)
pattern_spelt (NameToken n ∷ ts) =
    either_has (IsSpelt (codes "pattern") (NameToken n ∷ ts)) (is_pattern_count (length ts)) _ None (map_has (λ ws. map pattern_digits ws ≡ map token_word ts) (IsSpelt (codes "pattern") (NameToken n ∷ ts)) (λ ws. PatternLine n ws) (pattern_words ts) (words_spelt ts) (λ ws e t v r. also refl (also refl e))) tt
pattern_spelt _ = tt

-- a verb with a name
name_spelt : (word : List ℕ) (f : List ℕ → Statement) → ((n : List ℕ) → words_of (f n) ≡ word ∷ n ∷ []) → (ts : List Token) → IfSome (name_line f ts) (IsSpelt word ts)
name_spelt word f h (NameToken n ∷ []) = λ t v r. h n
name_spelt word f h _ = tt

-- a verb alone
bare_spelt : (word : List ℕ) (f : Statement) → words_of f ≡ word ∷ [] → (ts : List Token) → IfSome (alone_line f ts) (IsSpelt word ts)
bare_spelt word f h [] = λ t v r. h
bare_spelt word f h _ = tt

-- a line that parts a script or a task
pub part_spelt : (verb : PartVerb) (ts : List Token) → IfSome (part_line verb ts) (IsSpelt (part_word verb) ts)
part_spelt LayersVerb ts = layers_spelt ts
part_spelt ScreenVerb ts = screen_spelt ts
part_spelt GlyphVerb ts = glyph_spelt ts
part_spelt BitmapVerb ts = bitmap_spelt ts
part_spelt PatternVerb ts = pattern_spelt ts
part_spelt TaskVerb ts = name_spelt (codes "task") (λ n. TaskLine n) (λ n. refl) ts
part_spelt EndVerb ts = bare_spelt (codes "end") EndLine refl ts
part_spelt OrderVerb ts = bare_spelt (codes "order") OrderLine refl ts
part_spelt ReportVerb ts = bare_spelt (codes "report") ReportLine refl ts
part_spelt LockVerb ts = name_spelt (codes "lock") (λ n. LockLine n) (λ n. refl) ts
part_spelt UnlockVerb ts = name_spelt (codes "unlock") (λ n. UnlockLine n) (λ n. refl) ts
part_spelt HoldVerb ts = bare_spelt (codes "hold") HoldLine refl ts
part_spelt ReleaseVerb ts = bare_spelt (codes "release") ReleaseLine refl ts

-- a verb with a layer
pub layer_spelt : (verb : BareVerb) (ts : List Token) → IfSome (layer_line verb ts) (IsSpelt (bare_word verb) ts)
layer_spelt verb (NameToken l ∷ []) = λ t v r. refl
layer_spelt verb _ = tt

-- a verb with a layer and a number
pub number_spelt : (verb : NumberVerb) (ts : List Token) → IfSome (number_line verb ts) (IsSpelt (number_word verb) ts)
number_spelt verb (NameToken l ∷ NumberToken a z ∷ []) = λ t v r. also refl (also refl (also (t.1.0 (after_layer_small verb z r)) refl))
number_spelt verb _ = tt

-- a verb with a layer and two numbers
pub pair_spelt : (verb : PairVerb) (ts : List Token) → IfSome (pair_line verb ts) (IsSpelt (pair_word verb) ts)
pair_spelt verb (NameToken l ∷ NumberToken a x ∷ NumberToken b y ∷ []) = λ t v r.
    let s = places_small x y r in
    also refl (also refl (also (t.1.0 s.0) (also (t.1.1.0 s.1) refl)))
pair_spelt verb _ = tt

-- a verb with a layer and a text
pub text_spelt : (verb : TextVerb) (ts : List Token) → IfSome (text_line verb ts) (IsSpelt (text_verb_word verb) ts)
text_spelt verb (NameToken l ∷ TextToken text ∷ []) = λ t v r. refl
text_spelt verb _ = tt

-- a verb with a layer and four numbers
pub four_spelt : (word : List ℕ) (act : ℤ → ℤ → ℤ → ℤ → Act) → ((l : List ℕ) (x y w h : ℤ) → call_words (l ∷ []) (act x y w h) ≡ word ∷ l ∷ four_words x y w h) → ((x y w h : ℤ) → is_act_in_range (act x y w h) ≡ true → AreSmall x y w h) → (ts : List Token) → IfSome (four_line act ts) (IsSpelt word ts)
four_spelt word act k small (NameToken l ∷ NumberToken a x ∷ NumberToken b y ∷ NumberToken c w ∷ NumberToken d h ∷ []) = λ t v r.
    let s = small x y w h r in
    k l x y w h ∙ also refl (also refl (also (t.1.0 s.0) (also (t.1.1.0 s.1.0) (also (t.1.1.1.0 s.1.1.0) (also (t.1.1.1.1.0 s.1.1.1) refl)))))
four_spelt word act k small _ = tt

-- orrect R X0 Y0 X1 Y1, and its kin
pub rect_spelt : (op : RectOp) (ts : List Token) → IfSome (rect_line op ts) (IsSpelt (rect_word op) ts)
rect_spelt op (NumberToken a r ∷ NumberToken b x0 ∷ NumberToken c y0 ∷ NumberToken d x1 ∷ NumberToken e y1 ∷ []) = λ t v k.
    let m = and_parts (within (pos 0) r (pos 7)) _ k in
    let s = rect_small x0 y0 x1 y1 m.1 in
    also refl (also (t.0 (register_small r m.0)) (also (t.1.0 s.0) (also (t.1.1.0 s.1.0) (also (t.1.1.1.0 s.1.1.0) (also (t.1.1.1.1.0 s.1.1.1) refl)))))
rect_spelt op _ = tt

-- orregion S R, and its kin
pub region_spelt : (op : PairOp) (ts : List Token) → IfSome (region_line op ts) (IsSpelt (region_word op) ts)
region_spelt op (NumberToken a s ∷ NumberToken b r ∷ []) = λ t v k.
    let m = and_parts (within (pos 0) s (pos 7)) _ k in
    also refl (also (t.0 (register_small s m.0)) (also (t.1.0 (register_small r m.1)) refl))
region_spelt op _ = tt

-- clearregion R
pub clear_spelt : (ts : List Token) → IfSome (clear_line ts) (IsSpelt (codes "clearregion") ts)
clear_spelt (NumberToken a r ∷ []) = λ t v k. also refl (also (t.0 (register_small r k)) refl)
clear_spelt _ = tt

-- which X Y
pub which_spelt : (ts : List Token) → IfSome (which_line ts) (IsSpelt (codes "which") ts)
which_spelt (NumberToken a x ∷ NumberToken b y ∷ []) = λ t v k.
    let s = places_small x y k in
    also refl (also (t.0 s.0) (also (t.1.0 s.1) refl))
which_spelt _ = tt

-- infront L M
pub infront_spelt : (ts : List Token) → IfSome (infront_line ts) (IsSpelt (codes "infront") ts)
infront_spelt (NameToken l ∷ NameToken m ∷ []) = λ t v k. refl
infront_spelt _ = tt

-- scrollraster L DX DY X0 Y0 X1 Y1
pub scrollraster_spelt : (ts : List Token) → IfSome (scrollraster_line ts) (IsSpelt (codes "scrollraster") ts)
scrollraster_spelt (NameToken l ∷ NumberToken a dx ∷ NumberToken b dy ∷ NumberToken c x0 ∷ NumberToken d y0 ∷ NumberToken e x1 ∷ NumberToken f y1 ∷ []) = λ t v k.
    let m = and_parts (coordinates_fit dx dy) _ k in
    let p = places_small dx dy m.0 in
    let s = rect_small x0 y0 x1 y1 m.1 in
    also refl (also refl (also (t.1.0 p.0) (also (t.1.1.0 p.1) (also (t.1.1.1.0 s.0) (also (t.1.1.1.1.0 s.1.0) (also (t.1.1.1.1.1.0 s.1.1.0) (also (t.1.1.1.1.1.1.0 s.1.1.1) refl)))))))
scrollraster_spelt _ = tt

-- endrefresh L full, endrefresh L part
pub endrefresh_spelt : (ts : List Token) → IfSome (endrefresh_line ts) (IsSpelt (codes "endrefresh") ts)
endrefresh_spelt (NameToken l ∷ NameToken how ∷ []) =
    found_if (IsSpelt (codes "endrefresh") (NameToken l ∷ NameToken how ∷ [])) (bytes_eq how (codes "full")) _ _ (λ e t v r. also refl (also refl (also (sym (equal_names how (codes "full") e)) refl))) (found_if (IsSpelt (codes "endrefresh") (NameToken l ∷ NameToken how ∷ [])) (bytes_eq how (codes "part")) _ None (λ e t v r. also refl (also refl (also (sym (equal_names how (codes "part") e)) refl))) tt)
endrefresh_spelt _ = tt

-- a minterm is written as it was read
minterm_spelt : (word : List ℕ) (o : Option (List ℕ)) → IfSome o (λ bytes. hex_word bytes ≡ word) → IfSome (minterm_of o) (λ m. hex_byte m ≡ word)
minterm_spelt word None h = tt
minterm_spelt word (Some []) h = tt
minterm_spelt word (Some (m ∷ [])) h = found_if (λ k. hex_byte k ≡ word) (m % 16 == 0) m None (λ e. h) tt
minterm_spelt word (Some (m ∷ n ∷ ms)) h = tt

-- each number of a blit
abbrev AreBlitSmall : Area → Type 0
AreBlitSmall b = (IsSmall b.sx × IsSmall b.sy) × ((IsSmall b.x × IsSmall b.y) × (IsSmall b.w × IsSmall b.h))

blit_small : (b : Area) → is_blit_in_range b ≡ true → AreBlitSmall b
blit_small b r =
    let k = and_parts (coordinates_fit b.sx b.sy && coordinates_fit b.x b.y) _ r in
    let places = and_parts (coordinates_fit b.sx b.sy) (coordinates_fit b.x b.y) k.0 in
    let sizes = and_parts (is_extent b.w) (is_extent b.h) k.1 in
    (places_small b.sx b.sy places.0, (places_small b.x b.y places.1, (size_small b.w sizes.0, size_small b.h sizes.1)))

-- put BM SX SY L X Y W H MM
pub put_spelt : (ts : List Token) → IfSome (put_line ts) (IsSpelt (codes "put") ts)
put_spelt (NameToken bm ∷ NumberToken a sx ∷ NumberToken b sy ∷ NameToken l ∷ NumberToken c x ∷ NumberToken d y ∷ NumberToken e w ∷ NumberToken f h ∷ mm ∷ []) =
    twice_has (λ m. hex_byte m ≡ token_word mm) (IsSpelt (codes "put") (NameToken bm ∷ NumberToken a sx ∷ NumberToken b sy ∷ NameToken l ∷ NumberToken c x ∷ NumberToken d y ∷ NumberToken e w ∷ NumberToken f h ∷ mm ∷ [])) _ _ (minterm_of (bytes_in 1 mm)) (minterm_spelt (token_word mm) (bytes_in 1 mm) (token_bytes 1 mm)) (λ m k t v r.
    let s = blit_small (record { sx = sx; sy = sy; x = x; y = y; w = w; h = h; minterm = m }) r in
    also refl (also refl (also (t.1.0 s.0.0) (also (t.1.1.0 s.0.1) (also refl (also (t.1.1.1.1.0 s.1.0.0) (also (t.1.1.1.1.1.0 s.1.0.1) (also (t.1.1.1.1.1.1.0 s.1.1.0) (also (t.1.1.1.1.1.1.1.0 s.1.1.1) (also k refl))))))))))
put_spelt _ = tt

-- blit L SX SY M X Y W H MM
pub blit_spelt : (ts : List Token) → IfSome (blit_line ts) (IsSpelt (codes "blit") ts)
blit_spelt (NameToken l ∷ NumberToken a sx ∷ NumberToken b sy ∷ NameToken n ∷ NumberToken c x ∷ NumberToken d y ∷ NumberToken e w ∷ NumberToken f h ∷ mm ∷ []) =
    twice_has (λ m. hex_byte m ≡ token_word mm) (IsSpelt (codes "blit") (NameToken l ∷ NumberToken a sx ∷ NumberToken b sy ∷ NameToken n ∷ NumberToken c x ∷ NumberToken d y ∷ NumberToken e w ∷ NumberToken f h ∷ mm ∷ [])) _ _ (minterm_of (bytes_in 1 mm)) (minterm_spelt (token_word mm) (bytes_in 1 mm) (token_bytes 1 mm)) (λ m k t v r.
    let s = blit_small (record { sx = sx; sy = sy; x = x; y = y; w = w; h = h; minterm = m }) r in
    also refl (also refl (also (t.1.0 s.0.0) (also (t.1.1.0 s.0.1) (also refl (also (t.1.1.1.1.0 s.1.0.0) (also (t.1.1.1.1.1.0 s.1.0.1) (also (t.1.1.1.1.1.1.0 s.1.1.0) (also (t.1.1.1.1.1.1.1.0 s.1.1.1) (also k refl))))))))))
blit_spelt _ = tt
