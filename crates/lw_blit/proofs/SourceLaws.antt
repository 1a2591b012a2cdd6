-- Laws of rows of a layer as sources.
use Rattle.std.proofs.Common.{◌≡◌, ◌≢◌, ℕ, ◌+◌, ◌-◌, ◌*◌, ◌/◌, ◌%◌, ◌<◌, ◌≤◌, ◌==◌, nat_lt, Bool, true, false, ◌&&◌, ◌||◌, if◌then◌else◌, List, [], ◌++◌, take, set, length, slice_index, Some, None, ⊎_elim, ◌∙◌, sym, refl, ap, arith, ℤ, pos, negsuc, ◌+ℤ◌}
use Rattle.std.specs.Int.{bit_at}
use Rattle.std.proofs.lemmas.Bool.{cases_Bool, cases_eq, and_parts}
use Rattle.std.proofs.lemmas.Bool.Decides.{nat_tests}
use Rattle.std.proofs.lemmas.List.{length-take-le, get_or-take, get_or_append_left, get_or-set_same, get_or-set_other}
use Rattle.std.proofs.lemmas.Int.{ints}
use Rattle.std.proofs.lemmas.Nat.Bits.{bit_at_ones, bit_at_above}
use Rattle.lw_planes.specs.Row.{bit_of, row_bit}
use Rattle.lw_planes.specs.Bitmap.{IsBitmap, pen_at}
use Rattle.lw_kernels.specs.Kernel.{is_between, is_named}
use Rattle.lw_machine.specs.Kept.{holds_at, is_kept}
use Rattle.lw_layer.specs.View.{LiveView, keeps, draws}
use Rattle.lw_layer.specs.Copied.{bit_in, kept_bit}
use Rattle.lw_layer.proofs.CopyingLaws.{kept_no}
use Rattle.lw_draw.specs.Drawn.{drawn, in_rows}
use Rattle.lw_draw.proofs.PaintLaws.{layer_alike}
use Rattle.lw_blit.specs.Blitting.{blended, from_rows, from_layer, masked, plane_of, has_source, source_bit, taken_column, taken_row, AreRead, AreSources}
use Rattle.lw_blit.specs.declared.sources.SourceRows.{SourceRows}
use Rattle.lw_blit.specs.declared.transfers.Transfer.{Transfer}

-- all bits of full bytes are set
pub full_bit : (bytes : List ℕ) (i : ℕ) → slice_index bytes (i / 8) ≡ 255 → row_bit bytes i ≡ 1
unfolding row_bit
full_bit bytes i full =
    let low : 7 - i % 8 < 8 = omega arith in
    ap (λ b. bit_at b (7 - i % 8)) full ∙ bit_at_ones 8 (7 - i % 8) low

-- a bit of the first bytes of a row
pub bit_of_first : (bytes : List ℕ) (n i : ℕ) → i / 8 < n → row_bit (take n bytes) i ≡ row_bit bytes i
unfolding row_bit
bit_of_first bytes n i low = ap (λ b. bit_at b (7 - i % 8)) (get_or-take n bytes (i / 8) 0 low)

pub bit_in_front : (bytes rest : List ℕ) (i : ℕ) → i / 8 < length bytes → row_bit (bytes ++ rest) i ≡ row_bit bytes i
unfolding row_bit
bit_in_front bytes rest i low = ap (λ b. bit_at b (7 - i % 8)) (get_or_append_left bytes rest 0 (i / 8) low)

-- All bits are set where the bytes are full once the bits after them are set.
pub all_set : (row whole : List ℕ) (count bytes : ℕ) → 8 * bytes ≤ 8 * length whole → count ≤ 8 * bytes → ((x : ℕ) → row_bit whole x ≡ (if is_named count (8 * bytes - count) x then 1 else row_bit row x)) → ((n : ℕ) → n < length (take bytes whole) → slice_index (take bytes whole) n ≡ 255) → (i : ℕ) → i < count → row_bit row i ≡ 1
all_set row whole count bytes long few filled full i low =
    let before : is_named count (8 * bytes - count) i ≡ false = grind (arith, nat_tests) in
    let near : i / 8 < bytes = omega (arith, low, few) in
    let inside : i / 8 < length (take bytes whole) = rw (length-take-le bytes whole (omega (arith, long))) near in
    sym (ap (λ t. if t then 1 else row_bit row i) before) ∙ (sym (filled i) ∙ (sym (bit_of_first whole bytes i near) ∙ full_bit (take bytes whole) i (full (i / 8) inside)))

-- and the bits in front of them are as they were
pub front_stays : (row whole : List ℕ) (count more i : ℕ) → ((x : ℕ) → row_bit whole x ≡ (if is_named count more x then 1 else row_bit row x)) → i < count → row_bit whole i ≡ row_bit row i
front_stays row whole count more i filled low =
    let before : is_named count more i ≡ false = grind (arith, nat_tests) in
    filled i ∙ ap (λ t. if t then 1 else row_bit row i) before

-- and in planes that it lacks
pub kept_place : (c : LiveView) (x y : ℕ) → keeps c x y ≡ true → (x < c.layer.bits.width) × (y < c.layer.bits.height)
unfolding keeps is_kept
kept_place c x y is =
    let inside = (and_parts (nat_lt x c.layer.bits.width && nat_lt y c.layer.bits.height) _ is).0 in
    (grind (arith, nat_tests), grind (arith, nat_tests))

past_planes : (c : LiveView) (p : ℕ) (x y : ℤ) → IsBitmap c.layer.bits → c.layer.bits.depth ≤ p → holds_at (λ i j. keeps c i j) x y ≡ true → kept_bit c p x y ≡ 0
unfolding kept_bit
past_planes c p (pos x) (pos y) ok past on =
    let at = kept_place c x y on in
    ap (λ t. bit_in p (if t then Some (pen_at c.layer.bits x y) else None)) on ∙ bit_at_above (pen_at c.layer.bits x y) c.layer.bits.depth p (ok.pens x y at.0 at.1) past
past_planes c p (pos x) (negsuc y) ok past on = refl
past_planes c p (negsuc x) y ok past on = refl

pub kept_past : (c : LiveView) (p : ℕ) (x y : ℤ) → IsBitmap c.layer.bits → c.layer.bits.depth ≤ p → kept_bit c p x y ≡ 0
kept_past c p x y ok past =
    ⊎_elim (λ (on : holds_at (λ i j. keeps c i j) x y ≡ true). past_planes c p x y ok past on)
    (λ (off : holds_at (λ i j. keeps c i j) x y ≡ false). kept_no c p x y off)
    (cases_Bool (holds_at (λ i j. keeps c i j) x y))

-- bits that were cleared
pub cleared : (row : List ℕ) (count i old : ℕ) → row_bit row i ≡ (if is_named 0 count i then 0 else old) → i < count → row_bit row i ≡ 0
cleared row count i old is low = is ∙ (let named : is_named 0 count i ≡ true = grind (arith, nat_tests) in ap (λ t. if t then 0 else old) named)

-- transfers with the same sources
abbrev transfer : ℤ → ℤ → ℕ → Bool → Transfer
transfer dx dy m clears = record { dx = dx; dy = dy; minterm = m; clears = clears }

pub transfer_same : (dx dy ex ey : ℤ) (m : ℕ) (clears : Bool) → dx ≡ ex → dy ≡ ey → transfer dx dy m clears ≡ transfer ex ey m clears
transfer_same dx dy ex ey m clears across down = ap (λ x. transfer x dy m clears) across ∙ ap (λ y. transfer ex y m clears) down

-- no plane was read so far
pub none_read : (c : LiveView) (mask : ℕ) (x y : ℤ) (n : ℕ) (r : SourceRows) → AreRead c mask 0 x y n r
none_read c mask x y n r = record { pens = λ p i below _ _. absurd (omega (arith, below)); kept = λ p i below _ _. absurd (omega (arith, below)) }

-- one plane more
pub plane_read : (c : LiveView) (mask k : ℕ) (x y : ℤ) (n : ℕ) (r : SourceRows) (bits kept : List ℕ) → k < length r.bits → ((i : ℕ) → i < n → row_bit bits i ≡ kept_bit c k (x +ℤ pos i) y) → ((i : ℕ) → i < n → row_bit kept i ≡ bit_of (holds_at (λ u v. keeps c u v) (x +ℤ pos i) y)) → AreRead c mask k x y n r → AreRead c mask (k + 1) x y n (record r { bits = set r.bits k bits; kept = kept })
plane_read c mask k x y n r bits kept there new which are = record {
  pens =
      λ p i below has low.
      ⊎_elim
      (λ (same : p ≡ k).
      ap (λ q. row_bit (plane_of (record r { bits = set r.bits k bits; kept = kept }) q) i) same ∙
      (ap (λ b. row_bit b i) (get_or-set_same r.bits k bits [] there) ∙ (new i low ∙ ap (λ q. kept_bit c q (x +ℤ pos i) y) (sym same))))
      (λ (other : p ≢ k).
      let before : p < k = omega (arith, below, other) in
      ap (λ b. row_bit b i) (get_or-set_other r.bits k p bits [] other) ∙ are.pens p i before has low)
      (cases_eq p k);
  kept = λ p i _ _ low. which i low;
}

pub plane_skipped : (c : LiveView) (mask k : ℕ) (x y : ℤ) (n : ℕ) (r : SourceRows) → (bit_at mask k == 1) ≡ false → AreRead c mask k x y n r → AreRead c mask (k + 1) x y n r
plane_skipped c mask k x y n r left are =
    let earlier : (p : ℕ) → p < k + 1 → (bit_at mask p == 1) ≡ true → p < k =
    λ p below has.
    ⊎_elim (λ (same : p ≡ k). absurd (cc (sym has ∙ (ap (λ q. bit_at mask q == 1) same ∙ left)))) (λ (other : p ≢ k). omega (arith, below, other)) (cases_eq p k) in
    record {
      pens = λ p i below has low. are.pens p i (earlier p below has) has low;
      kept = λ p i below has low. are.kept p i (earlier p below has) has low;
    }

-- What was read are the sources.
pub sources_read : (c : LiveView) (t : Transfer) (mask planes y from end : ℕ) (x line : ℤ) (r : SourceRows) (kept : List ℕ) (all : Bool) → x ≡ taken_column t from → line ≡ taken_row t y → AreRead c mask planes x line (end - from) r → ((i : ℕ) → i < end - from → row_bit kept i ≡ row_bit r.kept i) → ((i : ℕ) → i < end - from → (all || row_bit kept i == 1) ≡ (t.clears || row_bit kept i == 1)) → AreSources c t mask planes y from end (record r { kept = kept; all = all })
sources_read c t mask planes y from end x line r kept all column row are same which =
    let along : (i : ℕ) → x +ℤ pos i ≡ taken_column t (from + i) = λ i. omega (arith, ints, column) in
    record {
      pens =
          λ p i deep has low.
          are.pens p i deep has low ∙ (ap (λ z. kept_bit c p z line) (along i) ∙ ap (λ z. kept_bit c p (taken_column t (from + i)) z) row);
      kept =
          λ p i deep has low.
          same i low ∙
          (are.kept p i deep has low ∙
          (ap (λ z. bit_of (holds_at (λ u v. keeps c u v) z line)) (along i) ∙ ap (λ z. bit_of (holds_at (λ u v. keeps c u v) (taken_column t (from + i)) z)) row));
      all = which;
    }

-- whether all pixels take their sources
pub all_taken : (all : Bool) (k : ℕ) → (all ≡ true → k ≡ 1) → (all || k == 1) ≡ (false || k == 1)
all_taken true k is = sym (ap (λ n. n == 1) (is refl))
all_taken false k is = refl

-- what is told of a pixel of some rows and columns
pub record IsPixelIn (top bottom from end i j : ℕ) : Type 0 where
  pub upper : top ≤ j
  pub lower : j < bottom
  pub first : from ≤ i
  pub last : i < end

pub pixel_in : (has : Bool) (top bottom from end i j : ℕ) (drawable : Bool) → (has && (is_between top bottom j && (is_between from end i && drawable))) ≡ true → IsPixelIn top bottom from end i j
pixel_in has top bottom from end i j drawable on = record { upper = grind (arith, nat_tests); lower = grind (arith, nat_tests); first = grind (arith, nat_tests); last = grind (arith, nat_tests) }

-- a pixel takes its source as the layer has it
taken_alike : (all clears there : Bool) (b k : ℕ) → k ≡ bit_of there → (there ≡ false → b ≡ 0) → (all || k == 1) ≡ (clears || k == 1) → (all || (b == 1 || k == 1)) ≡ (clears || there)
taken_alike all clears true b k is none same = let one : k ≡ 1 = is in grind (arith, nat_tests)
taken_alike all clears false b k is none same = let zero : k ≡ 0 = is in let clear : b ≡ 0 = none refl in grind (arith, nat_tests)

-- A row that is painted from its sources is painted from the layer.
pub row_as_layer : (v w : LiveView) (source : LiveView) (t : Transfer) (mask planes y from end : ℕ) (r : SourceRows) → AreSources source t mask planes y from end r → v.layer.bits.depth ≤ planes → w ≡ drawn (masked mask v y (y + 1) from end) (from_rows t.minterm r from) v → w ≡ drawn (masked mask v y (y + 1) from end) (from_layer source t) v
unfolding from_layer
row_as_layer v w source t mask planes y from end r are enough is =
    layer_alike v w (masked mask v y (y + 1) from end) (from_rows t.minterm r from) (from_layer source t) is
    (λ p i j old deep _ _ on _.
    let at = pixel_in (bit_at mask p == 1) y (y + 1) from end i j (draws v i j) on in
    let has : (bit_at mask p == 1) ≡ true = (and_parts (bit_at mask p == 1) (in_rows v y (y + 1) from end i j) on).0 in
    let down : j ≡ y = omega (arith, at.upper, at.lower) in
    let first : from ≤ i = at.first in
    let last : i < end = at.last in
    let n = i - from in
    let low : n < end - from = omega (arith, first, last) in
    let below : p < planes = omega (arith, deep, enough) in
    let column : from + n ≡ i = omega (arith, first) in
    let bit : row_bit (plane_of r p) n ≡ source_bit source t p i j = are.pens p n below has low ∙ (ap (λ u. source_bit source t p u y) column ∙ ap (λ q. source_bit source t p i q) (sym down)) in
    let there : row_bit r.kept n ≡ bit_of (has_source source t i j) = are.kept p n below has low ∙ (ap (λ u. bit_of (has_source source t u y)) column ∙ ap (λ q. bit_of (has_source source t i q)) (sym down)) in
    ap (λ q. blended t.minterm q (row_bit (plane_of r p) n) old)
    (taken_alike r.all t.clears (has_source source t i j) (row_bit (plane_of r p) n) (row_bit r.kept n) there
    (λ off. bit ∙ kept_no source p (taken_column t i) (taken_row t j) off) (are.all n low)) ∙
    ap (λ b. blended t.minterm (t.clears || has_source source t i j) b old) bit)
