-- Laws of a blit part by part.
use Rattle.std.proofs.Common.{◌≡◌, ℕ, ◌+◌, ◌==◌, ◌<◌, ◌≤◌, Bool, true, false, ◌&&◌, ◌||◌, if◌then◌else◌, Some, None, ◌∙◌, refl, ap, subst, arith, ℤ, pos, negsuc, ◌+ℤ◌, ◌≤ℤ◌}
use Rattle.std.specs.Int.{bit_at}
use Rattle.std.proofs.lemmas.Bool.Decides.{nat_tests}
use Rattle.std.proofs.lemmas.Int.{ints}
use Rattle.lw_planes.specs.Bitmap.{Bitmap, IsBitmap, pen_at}
use Rattle.lw_planes.proofs.ChosenLaws.{minterm_bit_lt}
use Rattle.lw_kernels.specs.Kernel.{is_between}
use Rattle.lw_calls.specs.declared.area.Area.{Area}
use Rattle.lw_machine.specs.Kept.{holds_at, is_kept}
use Rattle.lw_machine.specs.Blits.{source_pen}
use Rattle.lw_layer.specs.View.{LiveView, keeps, draws}
use Rattle.lw_layer.specs.Copied.{bit_in, kept_bit}
use Rattle.lw_draw.specs.Drawn.{drawn, GivesBits, in_rows}
use Rattle.lw_draw.specs.Stretches.{IsNextStretch}
use Rattle.lw_draw.proofs.DrawnLaws.{bit_of_layer, bit_drawn}
use Rattle.lw_draw.proofs.PaintLaws.{layer_nowhere, layer_same, layer_alike, layer_more, draws_stays, depth_stays, next_rows, no_row}
use Rattle.lw_blit.specs.Blitting.{blended, has_source, source_bit, from_layer, from_bits, masked, taken_column, taken_row}
use Rattle.lw_blit.specs.declared.transfers.Transfer.{Transfer}
use Rattle.lw_blit.proofs.PaintingLaws.{blended_small}
use Rattle.lw_blit.proofs.SourceLaws.{kept_place, IsPixelIn, pixel_in}

-- what a layer gives are bits
pub layer_gives_bits : (source : LiveView) (t : Transfer) → GivesBits (from_layer source t)
unfolding from_layer
layer_gives_bits source t p x y old small = blended_small t.minterm (t.clears || has_source source t x y) (source_bit source t p x y) old small

-- the drawable pixels of some rows and columns are the same once the layer was drawn on
pub rows_stay : (v w : LiveView) (on : ℕ → ℕ → ℕ → Bool) (new : ℕ → ℕ → ℕ → ℕ → ℕ) (top bottom from end i j : ℕ) → w ≡ drawn on new v → in_rows w top bottom from end i j ≡ in_rows v top bottom from end i j
rows_stay v w on new top bottom from end i j is = ap (λ t. is_between top bottom j && (is_between from end i && t)) (draws_stays v w on new i j is)

-- no row so far
pub no_rows : (v : LiveView) (mask top from end : ℕ) (new : ℕ → ℕ → ℕ → ℕ → ℕ) → IsBitmap v.layer.bits → v ≡ drawn (masked mask v top top from end) new v
no_rows v mask top from end new ok = layer_nowhere v (masked mask v top top from end) new ok (λ p i j. no_row (bit_at mask p == 1) top j (is_between from end i && draws v i j))

-- with no column nothing is painted
no_column : (has row drawable : Bool) (from end i : ℕ) → end ≤ from → (has && (row && (is_between from end i && drawable))) ≡ false
no_column has row drawable from end i none = grind (arith, nat_tests)

pub no_columns : (v : LiveView) (mask top bottom from end : ℕ) (new : ℕ → ℕ → ℕ → ℕ → ℕ) → IsBitmap v.layer.bits → end ≤ from → v ≡ drawn (masked mask v top bottom from end) new v
no_columns v mask top bottom from end new ok none = layer_nowhere v (masked mask v top bottom from end) new ok (λ p i j. no_column (bit_at mask p == 1) (is_between top bottom j) (draws v i j) from end i none)

-- and where no pixel of a row is drawable nothing is painted
undrawn : (has row drawable : Bool) (from end i : ℕ) → (row ≡ true → from ≤ i → i < end → drawable ≡ false) → (has && (row && (is_between from end i && drawable))) ≡ false
undrawn has row drawable from end i none = grind (arith, nat_tests)

pub none_drawable : (v : LiveView) (mask y from end : ℕ) (new : ℕ → ℕ → ℕ → ℕ → ℕ) → IsBitmap v.layer.bits → IsNextStretch v from y end None → v ≡ drawn (masked mask v y (y + 1) from end) new v
none_drawable v mask y from end new ok none =
    let at : ℕ → ℕ → Bool = λ u z. draws v u z in
    layer_nowhere v (masked mask v y (y + 1) from end) new ok
    (λ p i j.
    undrawn (bit_at mask p == 1) (is_between y (y + 1) j) (draws v i j) from end i
    (λ row first last. let same : j ≡ y = grind (arith, nat_tests) in ap (at i) same ∙ none (pos i) (omega (arith, ints, first)) (omega (arith, ints, last))))

-- a part of them is the same once the layer was drawn on
part_stays : (v w u : LiveView) (on : ℕ → ℕ → ℕ → Bool) (new : ℕ → ℕ → ℕ → ℕ → ℕ) (mask top bottom from end : ℕ) → w ≡ drawn on new v → u ≡ drawn (masked mask w top bottom from end) new w → u ≡ drawn (masked mask v top bottom from end) new w
part_stays v w u on new mask top bottom from end was is =
    layer_same w u (masked mask w top bottom from end) (masked mask v top bottom from end) new is
    (λ p i j _. ap (λ t. bit_at mask p == 1 && t) (rows_stay v w on new top bottom from end i j was))

-- some rows more below those that were painted
pub rows_below : (v w u : LiveView) (mask top y n from end : ℕ) (new : ℕ → ℕ → ℕ → ℕ → ℕ) → GivesBits new → top ≤ y → w ≡ drawn (masked mask v top y from end) new v → u ≡ drawn (masked mask w y (y + n) from end) new w → u ≡ drawn (masked mask v top (y + n) from end) new v
rows_below v w u mask top y n from end new gives low was is =
    layer_more v w u (masked mask v top y from end) (masked mask v y (y + n) from end) (masked mask v top (y + n) from end) new gives
    (next_rows v (λ p. bit_at mask p == 1) top y n from end low) was
    (part_stays v w u (masked mask v top y from end) new mask y (y + n) from end was is)

-- and above them
above_apart : (has inside : Bool) (j y n next bottom : ℕ) → next ≡ n → ((has && (is_between next bottom j && inside)) && (has && (is_between y n j && inside))) ≡ false
above_apart has inside j y n next bottom is = grind (arith, nat_tests)

above_whole : (has inside : Bool) (j y n next bottom : ℕ) → next ≡ n → y ≤ n → n ≤ bottom → (has && (is_between y bottom j && inside)) ≡ ((has && (is_between next bottom j && inside)) || (has && (is_between y n j && inside)))
above_whole has inside j y n next bottom is some low = grind (arith, nat_tests)

pub rows_above : (v w u : LiveView) (mask y n next bottom from end : ℕ) (new : ℕ → ℕ → ℕ → ℕ → ℕ) → GivesBits new → next ≡ n → y ≤ n → n ≤ bottom → w ≡ drawn (masked mask v next bottom from end) new v → u ≡ drawn (masked mask w y n from end) new w → u ≡ drawn (masked mask v y bottom from end) new v
rows_above v w u mask y n next bottom from end new gives after some low was is =
    layer_more v w u (masked mask v next bottom from end) (masked mask v y n from end) (masked mask v y bottom from end) new gives
    (record {
      apart = λ p i j _ _ _. above_apart (bit_at mask p == 1) (is_between from end i && draws v i j) j y n next bottom after;
      whole = λ p i j _ _ _. above_whole (bit_at mask p == 1) (is_between from end i && draws v i j) j y n next bottom after some low;
    }) was
    (part_stays v w u (masked mask v next bottom from end) new mask y n from end was is)

-- some columns more right of those that were painted, or left of them
right_apart : (has row drawable : Bool) (i from x end : ℕ) → ((has && (row && (is_between from x i && drawable))) && (has && (row && (is_between x end i && drawable)))) ≡ false
right_apart has row drawable i from x end = grind (arith, nat_tests)

left_apart : (has row drawable : Bool) (i from x end : ℕ) → ((has && (row && (is_between x end i && drawable))) && (has && (row && (is_between from x i && drawable)))) ≡ false
left_apart has row drawable i from x end = grind (arith, nat_tests)

right_whole : (has row drawable : Bool) (i from x end : ℕ) → from ≤ x → x ≤ end → (has && (row && (is_between from end i && drawable))) ≡ ((has && (row && (is_between from x i && drawable))) || (has && (row && (is_between x end i && drawable))))
right_whole has row drawable i from x end first last = grind (arith, nat_tests)

left_whole : (has row drawable : Bool) (i from x end : ℕ) → from ≤ x → x ≤ end → (has && (row && (is_between from end i && drawable))) ≡ ((has && (row && (is_between x end i && drawable))) || (has && (row && (is_between from x i && drawable))))
left_whole has row drawable i from x end first last = grind (arith, nat_tests)

pub columns_right : (v w u : LiveView) (mask top bottom from x end : ℕ) (new : ℕ → ℕ → ℕ → ℕ → ℕ) → GivesBits new → from ≤ x → x ≤ end → w ≡ drawn (masked mask v top bottom from x) new v → u ≡ drawn (masked mask w top bottom x end) new w → u ≡ drawn (masked mask v top bottom from end) new v
columns_right v w u mask top bottom from x end new gives first last was is =
    layer_more v w u (masked mask v top bottom from x) (masked mask v top bottom x end) (masked mask v top bottom from end) new gives
    (record {
      apart = λ p i j _ _ _. right_apart (bit_at mask p == 1) (is_between top bottom j) (draws v i j) i from x end;
      whole = λ p i j _ _ _. right_whole (bit_at mask p == 1) (is_between top bottom j) (draws v i j) i from x end first last;
    }) was
    (part_stays v w u (masked mask v top bottom from x) new mask top bottom x end was is)

pub columns_left : (v w u : LiveView) (mask top bottom from x end : ℕ) (new : ℕ → ℕ → ℕ → ℕ → ℕ) → GivesBits new → from ≤ x → x ≤ end → w ≡ drawn (masked mask v top bottom x end) new v → u ≡ drawn (masked mask w top bottom from x) new w → u ≡ drawn (masked mask v top bottom from end) new v
columns_left v w u mask top bottom from x end new gives first last was is =
    layer_more v w u (masked mask v top bottom x end) (masked mask v top bottom from x) (masked mask v top bottom from end) new gives
    (record {
      apart = λ p i j _ _ _. left_apart (bit_at mask p == 1) (is_between top bottom j) (draws v i j) i from x end;
      whole = λ p i j _ _ _. left_whole (bit_at mask p == 1) (is_between top bottom j) (draws v i j) i from x end first last;
    }) was
    (part_stays v w u (masked mask v top bottom x end) new mask top bottom from x was is)

-- which pixels are kept stays
keeps_stays : (v w : LiveView) (on : ℕ → ℕ → ℕ → Bool) (new : ℕ → ℕ → ℕ → ℕ → ℕ) (x y : ℕ) → w ≡ drawn on new v → keeps w x y ≡ keeps v x y
unfolding drawn keeps is_kept
keeps_stays v w on new x y is = ap (λ (q : LiveView). keeps q x y) is

kept_stays : (v w : LiveView) (on : ℕ → ℕ → ℕ → Bool) (new : ℕ → ℕ → ℕ → ℕ → ℕ) (x y : ℤ) → w ≡ drawn on new v → holds_at (λ i j. keeps w i j) x y ≡ holds_at (λ i j. keeps v i j) x y
kept_stays v w on new (pos x) (pos y) is = keeps_stays v w on new x y is
kept_stays v w on new (pos x) (negsuc y) is = refl
kept_stays v w on new (negsuc x) y is = refl

-- and so do bits where none was drawn
left_bit : (on : Bool) (new old : ℕ) → on ≡ false → (if on then new else old) ≡ old
left_bit on new old off = ap (λ t. if t then new else old) off

bit_where : (there : Bool) (a b p : ℕ) → (there ≡ true → bit_at a p ≡ bit_at b p) → bit_in p (if there then Some a else None) ≡ bit_in p (if there then Some b else None)
bit_where true a b p same = same refl
bit_where false a b p same = refl

bit_stays : (v w : LiveView) (on : ℕ → ℕ → ℕ → Bool) (new : ℕ → ℕ → ℕ → ℕ → ℕ) (p : ℕ) (x y : ℤ) → GivesBits new → w ≡ drawn on new v → p < v.layer.bits.depth → ((i j : ℕ) → x ≡ pos i → y ≡ pos j → on p i j ≡ false) → kept_bit w p x y ≡ kept_bit v p x y
unfolding kept_bit
bit_stays v w on new p (pos x) (pos y) gives is deep off =
    ap (λ t. bit_in p (if t then Some (pen_at w.layer.bits x y) else None)) (keeps_stays v w on new x y is) ∙
    bit_where (keeps v x y) (pen_at w.layer.bits x y) (pen_at v.layer.bits x y) p
    (λ there.
    let at = kept_place v x y there in
    ap (λ (q : LiveView). bit_of_layer q p x y) is ∙
    (bit_drawn v on new p x y gives deep at.0 at.1 ∙ left_bit (on p x y) (new p x y (bit_of_layer v p x y)) (bit_of_layer v p x y) (off x y refl refl)))
bit_stays v w on new p (pos x) (negsuc y) gives is deep off = refl
bit_stays v w on new p (negsuc x) y gives is deep off = refl

-- What a layer gives is the same as before, from pixels that weren't painted so far.
pub source_stays : (v w : LiveView) (on : ℕ → ℕ → ℕ → Bool) (new : ℕ → ℕ → ℕ → ℕ → ℕ) (t : Transfer) (p x y old : ℕ) → GivesBits new → w ≡ drawn on new v → p < v.layer.bits.depth → ((i j : ℕ) → taken_column t x ≡ pos i → taken_row t y ≡ pos j → on p i j ≡ false) → from_layer w t p x y old ≡ from_layer v t p x y old
unfolding from_layer
source_stays v w on new t p x y old gives is deep off =
    ap (λ h. blended t.minterm (t.clears || h) (source_bit w t p x y) old) (kept_stays v w on new (taken_column t x) (taken_row t y) is) ∙
    ap (λ b. blended t.minterm (t.clears || has_source v t x y) b old) (bit_stays v w on new p (taken_column t x) (taken_row t y) gives is deep off)

pub bitmap_gives_bits : (source : Bitmap) (a : Area) → GivesBits (from_bits source a)
bitmap_gives_bits source a p x y old small = minterm_bit_lt a.minterm (bit_at (source_pen source a x y) p) old

-- a pixel that isn't in a part isn't drawable there
not_there : (has row column drawable : Bool) → (row && column) ≡ false → (has && (row && (column && drawable))) ≡ false
not_there has row column drawable off = grind (arith, nat_tests)

-- A part that is painted from the layer as it is by then is painted from the layer before, where its sources weren't painted so far.
pub part_as_before : (v w u : LiveView) (mask top bottom from end y n x e : ℕ) (t : Transfer) → ((i j z k : ℕ) → IsPixelIn y n x e i j → taken_column t i ≡ pos z → taken_row t j ≡ pos k → (is_between top bottom k && is_between from end z) ≡ false) → w ≡ drawn (masked mask v top bottom from end) (from_layer v t) v → u ≡ drawn (masked mask w y n x e) (from_layer w t) w → u ≡ drawn (masked mask w y n x e) (from_layer v t) w
part_as_before v w u mask top bottom from end y n x e t off was is =
    let before = masked mask v top bottom from end in
    layer_alike w u (masked mask w y n x e) (from_layer w t) (from_layer v t) is
    (λ p i j old deep _ _ on _.
    let at = pixel_in (bit_at mask p == 1) y n x e i j (draws w i j) on in
    source_stays v w before (from_layer v t) t p i j old (layer_gives_bits v t) was
    (subst (λ k. p < k) (depth_stays v w before (from_layer v t) was) deep)
    (λ z k column row. not_there (bit_at mask p == 1) (is_between top bottom k) (is_between from end z) (draws v z k) (off i j z k at column row)))

-- No source lies before its pixel where the step to it is forwards, and none behind it where that is backwards.
pub not_before : (step : ℤ) (from x i z : ℕ) → pos 0 ≤ℤ step → x ≤ i → (pos i +ℤ step) ≡ pos z → is_between from x z ≡ false
not_before step from x i z order late is = let low : x ≤ z = omega (arith, ints, order, is, late) in grind (arith, nat_tests)

pub not_behind : (step : ℤ) (x end i z : ℕ) → step ≤ℤ pos 0 → i < x → (pos i +ℤ step) ≡ pos z → is_between x end z ≡ false
not_behind step x end i z order low is = let high : z < x = omega (arith, ints, order, is, low) in grind (arith, nat_tests)
