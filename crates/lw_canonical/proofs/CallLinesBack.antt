-- The line of the call that a call line spells is this line.
use Rattle.std.proofs.Common.{◌≡◌, ℕ, zero, suc, true, List, [], ◌∷◌, length, map, slice_index, slice_index_or, ℤ, pos, negsuc, ◌+ℤ◌, ◌-ℤ◌, unsigned_abs, Option, Some, None, option_map, refl, sym, ap, ◌∙◌, arith, ap₂}
use Rattle.lw_region.specs.Rectangle.{within, Rectangle}
use Rattle.lw_calls.specs.declared.make.Kind.{Kind}
use Rattle.lw_calls.specs.declared.make.Kind.TheVariants.{Simple, Smart, SuperBitmap}
use Rattle.lw_calls.specs.Limits.{rect_fits}
use Rattle.lw_grammar.specs.declared.verb.BareVerb.TheVariants.{Close as CloseVerb}
use Rattle.lw_grammar.specs.declared.verb.NumberVerb.{NumberVerb}
use Rattle.lw_grammar.specs.declared.verb.NumberVerb.TheVariants.{APen as APenVerb}
use Rattle.lw_grammar.specs.declared.verb.PairVerb.TheVariants.{Move as MoveVerb}
use Rattle.lw_grammar.specs.declared.verb.TextVerb.TheVariants.{Text as TextOf}
use Rattle.lw_grammar.specs.Statements.{NewLayer, Act, NumberAct, PairAct, TextAct, BareAct, RegRectAct, RegPairAct, RegClearAct, CreateAct, OpenAct, InFrontAct, WhichAct, PutAct, BlitAct, CallLine, is_hook_number, is_own_size, is_new_layer_in_range, greatest_number, is_act_in_range, rectangle, box_fits}
use Rattle.lw_grammar.specs.Told.{place_among, created_make, number_call, spelled_call, make_of}
use Rattle.lw_canonical.specs.Canonical.{line_of_call, new_layer_of, created_bounds}
use Rattle.lw_grammar.specs.GoodLines.{IsNewLayerOf, IsStatementMade}
use Rattle.std.proofs.lemmas.Int.{ints}
use Rattle.std.proofs.lemmas.Bool.{false≢true, and_parts}
use Rattle.std.proofs.lemmas.List.{nil_from_length}

-- a number in a range that begins at 0 or above is what its distance from 0 counts
pub number_back : (low : ℕ) (z : ℤ) (high : ℕ) → within (pos low) z (pos high) ≡ true → pos (unsigned_abs z) ≡ z
unfolding within
number_back low (pos n) high h = refl
number_back low (negsuc n) high h = absurd (false≢true h)

-- a layer's names by its slots: of a call on one layer, and of a call on two
one_back : (names : List (List ℕ)) (slots : List ℕ) (layers : List (List ℕ)) → map (λ s. slice_index_or names s []) slots ≡ layers → length layers ≡ 1 → slice_index_or names (slice_index slots 0) [] ∷ [] ≡ layers
one_back names [] layers e n = let long : zero ≡ suc zero = ap length e ∙ n in absurd (omega arith)
one_back names (s ∷ []) layers e n = e
one_back names (s ∷ t ∷ ts) layers e n =
    let more : List (List ℕ) = map (λ (k : ℕ). slice_index_or names k []) ts in
    let long : suc (suc (length more)) ≡ suc zero = ap length e ∙ n in
    absurd (omega arith)

two_back : (names : List (List ℕ)) (slots : List ℕ) (layers : List (List ℕ)) → map (λ s. slice_index_or names s []) slots ≡ layers → length layers ≡ 2 → slice_index_or names (slice_index slots 0) [] ∷ slice_index_or names (slice_index slots 1) [] ∷ [] ≡ layers
two_back names [] layers e n = let long : zero ≡ suc (suc zero) = ap length e ∙ n in absurd (omega arith)
two_back names (s ∷ []) layers e n = let long : suc zero ≡ suc (suc zero) = ap length e ∙ n in absurd (omega arith)
two_back names (s ∷ t ∷ []) layers e n = e
two_back names (s ∷ t ∷ u ∷ us) layers e n =
    let more : List (List ℕ) = map (λ (k : ℕ). slice_index_or names k []) us in
    let long : suc (suc (suc (length more))) ≡ suc (suc zero) = ap length e ∙ n in
    absurd (omega arith)

-- the hook of a layer that is asked for
hook_back : (hook : Option ℤ) → is_hook_number hook ≡ true → option_map pos (option_map unsigned_abs hook) ≡ hook
hook_back None h = refl
hook_back (Some n) h = ap (λ (z : ℤ). Some z) (number_back 0 n 4294967295 h)

-- the size of its bitmap
own_back : (kind : Kind) (a : NewLayer) → IsNewLayerOf kind a → is_own_size kind a.bits_w a.bits_h ≡ true → (pos (unsigned_abs a.bits_w) ≡ a.bits_w) × (pos (unsigned_abs a.bits_h) ≡ a.bits_h)
own_back Simple a m h = (ap (λ z. pos (unsigned_abs z)) m.0 ∙ sym m.0, ap (λ z. pos (unsigned_abs z)) m.1 ∙ sym m.1)
own_back Smart a m h = (ap (λ z. pos (unsigned_abs z)) m.0 ∙ sym m.0, ap (λ z. pos (unsigned_abs z)) m.1 ∙ sym m.1)
own_back SuperBitmap a m h =
    let sides = and_parts (within (pos 1) a.bits_w (pos 2048)) _ h in
    (number_back 1 a.bits_w 2048 sides.0, number_back 1 a.bits_h 2048 sides.1)

-- a layer that is asked for, by its parts
abbrev layer_with : NewLayer → Option ℤ → ℤ → ℤ → NewLayer
layer_with a hook w h = record { kind = a.kind; place = a.place; backdrop = a.backdrop; hook = hook; bits_w = w; bits_h = h }

layer_same : (a : NewLayer) (hook : Option ℤ) (w h : ℤ) → hook ≡ a.hook → w ≡ a.bits_w → h ≡ a.bits_h → layer_with a hook w h ≡ a
layer_same a hook w h k c d =
    ap (λ (q : Option ℤ). layer_with a q w h) k ∙ ap (λ (q : ℤ). layer_with a a.hook q h) c ∙ ap (λ (q : ℤ). layer_with a a.hook a.bits_w q) d

layer_back : (a : NewLayer) (x y w h : ℤ) → IsNewLayerOf a.kind a → is_new_layer_in_range a ≡ true → new_layer_of (make_of a x y w h) ≡ a
layer_back a x y w h m e =
    let halves = and_parts (is_hook_number a.hook) _ e in
    let own = own_back a.kind a m halves.1 in
    layer_same a _ _ _ (hook_back a.hook halves.0) own.0 own.1

-- the bounds of a creation
bound_back : (low high : ℤ) → (low +ℤ ((high -ℤ low) +ℤ pos 1)) -ℤ pos 1 ≡ high
bound_back low high = omega (arith, ints)

bounds_back : (r : Rectangle) (a : NewLayer) → created_bounds (created_make r a) ≡ r
bounds_back r a = ap₂ (λ (q s : ℤ). rectangle r.min_x r.min_y q s) (bound_back r.min_x r.max_x) (bound_back r.min_y r.max_y)

-- the bitmap of a blit from a bitmap is found by its place among those above the line
abbrev pub IsBitmapBack : List (List ℕ) → List (List ℕ) → Act → Type 0
IsBitmapBack bitmaps among (PutAct bm b) = slice_index_or bitmaps (place_among among bm) [] ≡ bm
IsBitmapBack bitmaps among act = Unit {0}

-- the line of the call of a verb with a number
number_line_back : (names bitmaps : List (List ℕ)) (verb : NumberVerb) (slot : ℕ) (n : ℤ) → pos (unsigned_abs n) ≡ n → line_of_call names bitmaps (number_call verb slot (unsigned_abs n)) ≡ CallLine (slice_index_or names slot [] ∷ []) (NumberAct verb n)
number_line_back names bitmaps APenVerb slot n e = ap (λ z. CallLine (slice_index_or names slot [] ∷ []) (NumberAct APenVerb z)) e
number_line_back names bitmaps verb slot n e = ap (λ z. CallLine (slice_index_or names slot [] ∷ []) (NumberAct verb z)) e

-- The line of a call, where the slots' names are its layers and the bitmaps above the line are found among all.
pub line_back : (names bitmaps among layers : List (List ℕ)) (act : Act) → IsStatementMade (CallLine layers act) → is_act_in_range act ≡ true → IsBitmapBack bitmaps among act → (slots : List ℕ) → map (λ s. slice_index_or names s []) slots ≡ layers → line_of_call names bitmaps (spelled_call among act slots) ≡ CallLine layers act
line_back names bitmaps among layers (RegRectAct op r rect) m h b slots e =
    let halves = and_parts (within (pos 0) r (pos 7)) _ h in
    ap (λ z. CallLine [] (RegRectAct op z rect)) (number_back 0 r 7 halves.0) ∙ ap (λ ls. CallLine ls (RegRectAct op r rect)) (sym (nil_from_length layers m.0))
line_back names bitmaps among layers (RegPairAct op s r) m h b slots e =
    let halves = and_parts (within (pos 0) s (pos 7)) _ h in
    ap (λ z. CallLine [] (RegPairAct op z (pos (unsigned_abs r)))) (number_back 0 s 7 halves.0) ∙ ap (λ z. CallLine [] (RegPairAct op s z)) (number_back 0 r 7 halves.1) ∙ ap (λ ls. CallLine ls (RegPairAct op s r)) (sym (nil_from_length layers m.0))
line_back names bitmaps among layers (RegClearAct r) m h b slots e =
    ap (λ z. CallLine [] (RegClearAct z)) (number_back 0 r 7 h) ∙ ap (λ ls. CallLine ls (RegClearAct r)) (sym (nil_from_length layers m.0))
line_back names bitmaps among layers (WhichAct x y) m h b slots e = ap (λ ls. CallLine ls (WhichAct x y)) (sym (nil_from_length layers m.0))
line_back names bitmaps among layers InFrontAct m h b slots e = ap (λ ls. CallLine ls InFrontAct) (two_back names slots layers e m.0)
line_back names bitmaps among layers (BlitAct g) m h b slots e = ap (λ ls. CallLine ls (BlitAct g)) (two_back names slots layers e m.0)
line_back names bitmaps among layers (CreateAct rect a) m h b slots e =
    let halves = and_parts (rect_fits rect) _ h in
    ap₂ (λ q k. CallLine (slice_index_or names (slice_index slots 0) [] ∷ []) (CreateAct q k)) (bounds_back rect a) (layer_back a rect.min_x rect.min_y ((rect.max_x -ℤ rect.min_x) +ℤ pos 1) ((rect.max_y -ℤ rect.min_y) +ℤ pos 1) m.1 halves.1) ∙ ap (λ ls. CallLine ls (CreateAct rect a)) (one_back names slots layers e m.0)
line_back names bitmaps among layers (OpenAct at a framed nocare classes title) m h b slots e =
    let halves = and_parts (box_fits at) _ h in
    ap (λ k. CallLine (slice_index_or names (slice_index slots 0) [] ∷ []) (OpenAct at k framed nocare classes title)) (layer_back a at.x at.y at.w at.h m.1.0 halves.1) ∙ ap (λ ls. CallLine ls (OpenAct at a framed nocare classes title)) (one_back names slots layers e m.0)
line_back names bitmaps among layers (NumberAct verb n) m h b slots e =
    number_line_back names bitmaps verb (slice_index slots 0) n (number_back 0 n (greatest_number verb) h) ∙ ap (λ ls. CallLine ls (NumberAct verb n)) (one_back names slots layers e m.0)
line_back names bitmaps among layers (BareAct CloseVerb) m h b slots e = ap (λ ls. CallLine ls (BareAct CloseVerb)) (one_back names slots layers e m.0)
line_back names bitmaps among layers (PairAct MoveVerb x y) m h b slots e = ap (λ ls. CallLine ls (PairAct MoveVerb x y)) (one_back names slots layers e m.0)
line_back names bitmaps among layers (TextAct TextOf text) m h b slots e = ap (λ ls. CallLine ls (TextAct TextOf text)) (one_back names slots layers e m.0)
line_back names bitmaps among layers (PutAct bm g) m h b slots e =
    ap (λ n. CallLine (slice_index_or names (slice_index slots 0) [] ∷ []) (PutAct n g)) b ∙ ap (λ ls. CallLine ls (PutAct bm g)) (one_back names slots layers e m.0)
line_back names bitmaps among layers act m h b slots e = ap (λ ls. CallLine ls act) (one_back names slots layers e m.0)
