-- Eight pens as the bytes of one word, which is made of a byte of each plane.
use Rattle.std.proofs.Common.{◌≡◌, ℕ, ◌+◌, ◌-◌, ◌*◌, ◌/◌, ◌%◌, ◌^◌, ◌<◌, ◌≤◌, ◌==◌, bit_and, Bool, true, inl, inr}
use Rattle.std.proofs.Common.{List, length, map, take, drop, ◌++◌, get_or, refl, ap, sym, ◌∙◌, subst, zero-add, arith}
use Rattle.std.specs.Int.{w64, bit_at, from_be_bytes, to_be_bytes}
use Rattle.std.specs.List.{range_with_len, list_all}
use Rattle.std.proofs.Math.Nat.{pow-le-pow_right}
use Rattle.std.proofs.lemmas.Bool.{cases_lt}
use Rattle.std.proofs.lemmas.Bool.Decides.{Decides-eqb}
use Rattle.std.proofs.lemmas.List.{get_or_past, ext_get_or, length-take, length-drop, length-append, length-take-le, get_or-take}
use Rattle.std.proofs.lemmas.List.{get_or_append_left, get_or-append_right}
use Rattle.std.proofs.lemmas.List.FromFn.{length-range_with_len, get_or-range_with_len, get_or-map-range_with_len}
use Rattle.std.proofs.lemmas.List.Sums.{AllPass-from_list_all}
use Rattle.std.proofs.lemmas.Nat.{shl_whole, be_bytes_8}
use Rattle.lw_planes.specs.Pen.{pen_of}
use Rattle.lw_planes.specs.Row.{row_bit}
use Rattle.lw_planes.specs.Grid.{at}
use Rattle.lw_planes.specs.Bitmap.{Bitmap, pen_at, row_at, row_bytes}
use Rattle.lw_planes.specs.Storage.{bit_place, stored}
use Rattle.lw_planes.proofs.GridLaws.{map_range_same}
use Rattle.lw_planes.proofs.PenLaws.{pen_of_lt, pen_of_same}
use Rattle.lw_planes.proofs.BitLaws.{pen_of_more}
use Rattle.lw_planes.proofs.RowLaws.{row_bit_at}
use Rattle.lw_planes.proofs.BitmapLaws.{row_bytes_wide}
use Rattle.lw_planes.proofs.StorageLaws.{rows_inside, pen_at_stored}

-- eight numbers as the bytes of a word, the first one the most significant
abbrev pub word_of : (ℕ → ℕ) → ℕ
word_of f = from_be_bytes w64 (map f (range_with_len 0 8))

-- what holds of all numbers below one, by trying each
each_below : (p : ℕ → Bool) (n k : ℕ) → list_all p (range_with_len 0 n) ≡ true → k < n → p k ≡ true
each_below p n k all low =
    subst (λ i. p i ≡ true) (get_or-range_with_len 0 n k 0 low ∙ zero-add k)
    (AllPass-from_list_all p (range_with_len 0 n) all k 0 (omega (arith, length-range_with_len 0 n, low)))

-- the word that is computed of a byte
abbrev pub spread_word : ℕ → ℕ
spread_word b =
    bit_and ((bit_and (b * 72340172838076673) 9241421688590303745 + 9187201950435737471) / 128) 72340172838076673

abbrev is_spread : ℕ → Bool
is_spread b = spread_word b == word_of (λ j. bit_at b (7 - j))

all_spread : list_all is_spread (range_with_len 0 256) ≡ true
all_spread = refl

-- it has the byte's bits as its bytes
pub spread_bits : (b : ℕ) → b < 256 → spread_word b ≡ word_of (λ j. bit_at b (7 - j))
spread_bits b small =
    (Decides-eqb (spread_word b) (word_of (λ j. bit_at b (7 - j)))).0 (each_below is_spread 256 b all_spread small)

-- equal bytes make equal words
word_same : (f g : ℕ → ℕ) → ((j : ℕ) → j < 8 → f j ≡ g j) → word_of f ≡ word_of g
word_same f g same = ap (from_be_bytes w64) (map_range_same 8 f g same)

-- the bytes of a word of small numbers are these numbers
word_bytes : (f : ℕ → ℕ) (word : ℕ) → ((j : ℕ) → f j < 256) → word ≡ word_of f
    → to_be_bytes w64 word ≡ map f (range_with_len 0 8)
word_bytes f word small is = be_bytes_8 (map f (range_with_len 0 8)) word refl each is
  where
    each : (i : ℕ) → get_or (map f (range_with_len 0 8)) i 0 < 256
    each i = elim (cases_lt i 8) [
      | inl low ↦ rw (get_or-map-range_with_len f 0 8 i i 0 low (zero-add i)) (small i)
      | inr past ↦ omega (arith, get_or_past (map f (range_with_len 0 8)) i 0 past)
    ]

-- a word of small numbers, over plain numbers
fits_8 : (a b c d e f g h : ℕ) → a < 256 → b < 256 → c < 256 → d < 256 → e < 256 → f < 256 → g < 256 → h < 256
    → a * 72057594037927936 + b * 281474976710656 + c * 1099511627776 + d * 4294967296 + e * 16777216 + f * 65536 + g * 256 + h
    < 2 ^ 64
fits_8 a b c d e f g h a' b' c' d' e' f' g' h' = omega arith

word_fits : (f : ℕ → ℕ) → ((j : ℕ) → f j < 256) → word_of f < 2 ^ 64
word_fits f small = fits_8 _ _ _ _ _ _ _ _ (small 0) (small 1) (small 2) (small 3) (small 4) (small 5) (small 6) (small 7)

-- a word of bits
bits_8 : (a b c d e f g h : ℕ) → a < 2 → b < 2 → c < 2 → d < 2 → e < 2 → f < 2 → g < 2 → h < 2
    → a * 72057594037927936 + b * 281474976710656 + c * 1099511627776 + d * 4294967296 + e * 16777216 + f * 65536 + g * 256 + h
    < 2 ^ 57
bits_8 a b c d e f g h a' b' c' d' e' f' g' h' = omega arith

word_of_bits : (f : ℕ → ℕ) → ((j : ℕ) → f j < 2) → word_of f < 2 ^ 57
word_of_bits f bits = bits_8 _ _ _ _ _ _ _ _ (bits 0) (bits 1) (bits 2) (bits 3) (bits 4) (bits 5) (bits 6) (bits 7)

-- a word of sums, over plain numbers
sums_8 : (a b c d e f g h p q r s t u v w m : ℕ)
    → (a + p * m) * 72057594037927936 + (b + q * m) * 281474976710656 + (c + r * m) * 1099511627776 + (d + s * m) * 4294967296
    + (e + t * m) * 16777216 + (f + u * m) * 65536 + (g + v * m) * 256 + (h + w * m)
    ≡ (a * 72057594037927936 + b * 281474976710656 + c * 1099511627776 + d * 4294967296 + e * 16777216 + f * 65536 + g * 256 + h)
    + (p * 72057594037927936 + q * 281474976710656 + r * 1099511627776 + s * 4294967296 + t * 16777216 + u * 65536 + v * 256 + w)
    * m
sums_8 a b c d e f g h p q r s t u v w m = omega arith

word_sum : (f g : ℕ → ℕ) (m : ℕ) → word_of (λ j. f j + g j * m) ≡ word_of f + word_of g * m
word_sum f g m = sums_8 _ _ _ _ _ _ _ _ _ _ _ _ _ _ _ _ m

-- pens of a few planes are bytes
pens_small : (n : ℕ) (g : ℕ → ℕ → ℕ) → n ≤ 8 → ((j k : ℕ) → g j k < 2) → (j : ℕ) → pen_of n (g j) < 256
pens_small n g few bits j =
    let low : pen_of n (g j) < 2 ^ n = pen_of_lt n (g j) (λ k _. bits j k) in
    let most : 2 ^ n ≤ 2 ^ 8 = pow-le-pow_right {n = 2} (omega arith) {i = n} {j = 8} few in
    omega arith

-- eight pens of no plane
pub eight_none : (g : ℕ → ℕ → ℕ) → word_of (λ j. pen_of 0 (g j)) ≡ 0
unfolding pen_of
eight_none g = refl

-- eight pens of one plane more
pub eight_more : (n word bits : ℕ) (g : ℕ → ℕ → ℕ) → n < 8 → ((j k : ℕ) → g j k < 2) → word ≡ word_of (λ j. pen_of n (g j))
    → bits ≡ word_of (λ j. g j n) → word + bits * 2 ^ n % 2 ^ 64 ≡ word_of (λ j. pen_of (n + 1) (g j))
eight_more n word bits g low small is last =
    let few : word_of (λ j. g j n) < 2 ^ 57 = word_of_bits (λ j. g j n) (λ j. small j n) in
    let whole : bits * 2 ^ n % 2 ^ 64 ≡ bits * 2 ^ n = shl_whole bits 57 n 64 (rw last few) (omega arith) in
    let sum : word_of (λ j. pen_of n (g j) + g j n * 2 ^ n) ≡ word_of (λ j. pen_of n (g j)) + word_of (λ j. g j n) * 2 ^ n =
    word_sum (λ j. pen_of n (g j)) (λ j. g j n) (2 ^ n) in
    let more : word_of (λ j. pen_of (n + 1) (g j)) ≡ word_of (λ j. pen_of n (g j) + g j n * 2 ^ n) =
    word_same (λ j. pen_of (n + 1) (g j)) (λ j. pen_of n (g j) + g j n * 2 ^ n) (λ j _. pen_of_more n (g j)) in
    rw (whole, is, last) (sym (more ∙ sum))

-- they fit a word
pub eight_fit : (n word bits : ℕ) (g : ℕ → ℕ → ℕ) → n < 8 → ((j k : ℕ) → g j k < 2) → word ≡ word_of (λ j. pen_of n (g j))
    → bits ≡ word_of (λ j. g j n) → word + bits * 2 ^ n % 2 ^ 64 < 2 ^ 64
eight_fit n word bits g low small is last =
    rw (eight_more n word bits g low small is last)
    (word_fits (λ j. pen_of (n + 1) (g j)) (pens_small (n + 1) g (omega arith) small))

-- and are its bytes
pub eight_bytes : (n word : ℕ) (g : ℕ → ℕ → ℕ) → n ≤ 8 → ((j k : ℕ) → g j k < 2) → word ≡ word_of (λ j. pen_of n (g j))
    → to_be_bytes w64 word ≡ map (λ j. pen_of n (g j)) (range_with_len 0 8)
eight_bytes n word g few small is = word_bytes (λ j. pen_of n (g j)) word (pens_small n g few small) is

-- the bits of a byte of a row, as a word
pub row_word : (row : List ℕ) (i : ℕ) → word_of (λ j. bit_at (get_or row i 0) (7 - j)) ≡ word_of (λ j. row_bit row (8 * i + j))
row_word row i =
    word_same (λ j. bit_at (get_or row i 0) (7 - j)) (λ j. row_bit row (8 * i + j)) (λ j low. sym (row_bit_at row i j low))

-- where a byte column of a row stands in each plane, over plain numbers
column_of : (h n k c y j : ℕ) → 8 * (y * n + c + k * (h * n)) + j ≡ 8 * ((k * h + y) * n) + (8 * c + j)
column_of h n k c y j = omega arith

-- it stands before the end of the planes
pub column_inside : (w h d all k c y first step : ℕ) → first ≡ y * row_bytes w → step ≡ h * row_bytes w
    → all ≡ d * h * row_bytes w → k < d → y < h → 8 * c < w → first + c + k * step < all
column_inside w h d all k c y first step is_first is_step is_all deep low left =
    let n : ℕ = row_bytes w in
    let end = rows_inside h n d k y 1 deep (omega arith) in
    let wide = row_bytes_wide w in
    let place = column_of h n k c y 0 in
    rw (is_first, is_step, is_all) (omega (arith, end, wide, place))

-- a pen of a byte column is that of the bitmap
pub column_pen : (b : Bitmap) (bytes : List ℕ) (c y j first step : ℕ) → b ≡ stored b.width b.height b.depth bytes
    → first ≡ y * row_bytes b.width → step ≡ b.height * row_bytes b.width → y < b.height → 8 * c + j < b.width
    → pen_of b.depth (λ k. row_bit bytes (8 * (first + c + k * step) + j)) ≡ get_or (row_at b y) (8 * c + j) 0
unfolding at bit_place
column_pen b bytes c y j first step is is_first is_step low left =
    let n : ℕ = row_bytes b.width in
    pen_of_same b.depth (λ k. row_bit bytes (8 * (first + c + k * step) + j))
    (λ k. row_bit bytes (8 * ((k * b.height + y) * n) + (8 * c + j)))
    (λ k _. ap (row_bit bytes) (rw (is_first, is_step) (column_of b.height n k c y j)))
    ∙ (sym (pen_at_stored b.width b.height b.depth bytes (8 * c + j) y left low) ∙ ap (λ q. pen_at q (8 * c + j) y) (sym is))

-- a row once eight pens are put into it: as long as before, and more of it written
pub put_length : (row pens : List ℕ) (first : ℕ) → length pens ≡ 8 → first < length row
    → length (take first row ++ take (length row - first) pens ++ drop (first + 8) row) ≡ length row
put_length row pens first eight low =
    let front = length-take first row in
    let mid = length-take (length row - first) pens in
    let rest = length-drop (first + 8) row in
    let both = length-append (take first row) (take (length row - first) pens) in
    let all = length-append (take first row ++ take (length row - first) pens) (drop (first + 8) row) in
    omega (arith, front, mid, rest, both, all, eight, low)

pub put_more : (row pens whole : List ℕ) (first : ℕ) → length pens ≡ 8 → first < length row
    → ((x : ℕ) → x < first → x < length row → get_or row x 0 ≡ get_or whole x 0)
    → ((j : ℕ) → j < 8 → first + j < length row → get_or pens j 0 ≡ get_or whole (first + j) 0)
    → (x : ℕ) → x < first + 8 → x < length row
    → get_or (take first row ++ take (length row - first) pens ++ drop (first + 8) row) x 0 ≡ get_or whole x 0
put_more row pens whole first eight low front next x near inside =
    let head = take first row in
    let part = take (length row - first) pens in
    let long : length head ≡ first = length-take-le first row (omega arith) in
    let cut = length-take (length row - first) pens in
    let joined = length-append head part in
    let before : x < length (head ++ part) = omega (arith, long, cut, joined, eight, near, inside) in
    get_or_append_left (head ++ part) (drop (first + 8) row) 0 x before
    ∙ elim (cases_lt x first) [
      | inl old ↦
          get_or_append_left head part 0 x (omega (arith, long, old))
          ∙ (get_or-take first row x 0 old ∙ front x old inside)
      | inr new ↦
          let place : first + (x - first) ≡ x = omega arith in
          get_or-append_right head part first x 0 long new
          ∙ (get_or-take (length row - first) pens (x - first) 0 (omega arith)
          ∙ (next (x - first) (omega arith) (rw place inside) ∙ ap (λ i. get_or whole i 0) place))
    ]

-- a row that was written to its end
pub put_all : (row whole : List ℕ) (end : ℕ) → length row ≡ length whole → length row ≤ end
    → ((x : ℕ) → x < end → x < length row → get_or row x 0 ≡ get_or whole x 0) → row ≡ whole
put_all row whole end long past same = ext_get_or 0 row whole long (λ x low. same x (omega arith) low)
