-- Rows of screens that are laid on a display.
use Rattle.std.proofs.Common.{◌≡◌, ℕ, zero, suc, ◌+◌, ◌-◌, ◌*◌, ◌==◌, ◌<◌, ◌≤◌, min, Bool, true, false, ◌&&◌, nat_le, nat_lt, if◌then◌else◌, List, [], ◌∷◌, length, get_or, Some, None, ◌∙◌, sym, refl, ap, subst, arith}
use Rattle.std.specs.Int.{bit_at}
use Rattle.std.specs.List.{All}
use Rattle.std.proofs.lemmas.List.Elements.{All-nil, All-cons}
use Rattle.std.proofs.lemmas.List.{get_or_read}
use Rattle.std.proofs.lemmas.Bool.{and_parts, leb-true, ltb-false, lt-ltb, le-ltb}
use Rattle.std.proofs.lemmas.Bool.Decides.{nat_tests}
use Rattle.std.proofs.Math.Nat.{pow-le-pow_right, lt_of_lt_of_le}
use Rattle.std.proofs.lemmas.Nat.Bits.{bit_at-zero, bit_at_above}
use Rattle.lw_planes.specs.Row.{row_bit}
use Rattle.lw_planes.specs.Bitmap.{Bitmap, IsBitmap, bitmap, pen_at, row_bytes}
use Rattle.lw_planes.specs.Change.{with_row}
use Rattle.lw_planes.specs.Pen.{pen_of}
use Rattle.lw_planes.proofs.PenLaws.{pen_of_same, pen_same}
use Rattle.lw_planes.proofs.GridLaws.{grid_past_column}
use Rattle.lw_planes.proofs.BitmapLaws.{bitmap_again, bitmap_same, bitmap_from_pens, pen_at_bitmap, pen_at_lt, row_bytes_wide}
use Rattle.lw_planes.specs.Minterm.{minterm_bit}
use Rattle.lw_kernels.specs.Kernel.{is_named, place_in}
use Rattle.lw_strips.specs.Blocks.{in_block, block_pen}
use Rattle.lw_strips.specs.Bits.{with_bits}
use Rattle.lw_strips.specs.declared.block.Block.{Block}
use Rattle.lw_strips.proofs.BlockLaws.{line_combined, plane_copied}
use Rattle.lw_screens.specs.Display.{Display, IsDisplay, screen_of, owner_of}
use Rattle.lw_screens.specs.Composed.{bitmap_of, pen_of_owner, display_pen, greatest_depth, composed}
use Rattle.lw_screens.specs.Laid.{IsBandOf, AreBlank, IsBlockFrom, with_rows}
use Rattle.lw_screens.specs.Bands.{bands_of}
use Rattle.lw_screens.specs.Laws.{AreLongestRuns}
use Rattle.lw_screens.proofs.Owners.{owner_there}
use Rattle.lw_screens.proofs.Runs.{bands_are_runs}
use Rattle.lw_screens.specs.declared.bands.Band.{Band}

-- past its columns a bitmap has pen 0
pen_past : (b : Bitmap) (x y : ℕ) → IsBitmap b → b.width ≤ x → y < b.height → pen_at b x y ≡ 0
pen_past b x y ok past low =
    ap (λ q. pen_at q x y) (sym (bitmap_again b ok)) ∙ grid_past_column b.width b.height (λ i j. pen_at b i j) 0 x y past low

-- the source seen as one of as many planes as the bitmap
abbrev deepened : Bitmap → Bitmap → Bitmap
deepened b s = record s { depth = b.depth }

-- one plane of a block once its lines were combined
pub plane_laid : (k : Block) (s b : Bitmap) (plane to_step source_step : ℕ) (lines old new : List ℕ) → IsBlockFrom k b s → IsBitmap b → to_step ≡ row_bytes b.width → source_step ≡ row_bytes s.width
    → length new ≡ k.height * row_bytes b.width
    → ((x j : ℕ) → x < s.width → j < k.height → row_bit lines (8 * (j * row_bytes s.width) + x) ≡ bit_at (pen_at s x (k.source_y + j)) plane)
    → ((x j : ℕ) → x < b.width → j < k.height → row_bit old (8 * (j * row_bytes b.width) + x) ≡ bit_at (pen_at b x (k.y + j)) plane)
    → ((y x : ℕ) → x < 8 * to_step → row_bit new (place_in to_step y x) ≡ (if nat_lt y k.height && is_named k.x k.width x then minterm_bit 192 (row_bit lines (place_in source_step y (k.source_x + (x - k.x)))) (row_bit old (place_in to_step y x)) else row_bit old (place_in to_step y x)))
    → with_row b plane k.y new ≡ with_bits (λ p x y. p == plane && in_block k x y) (block_pen k s) b
plane_laid k s b plane to_step source_step lines old new ok to_ok is_to is_source long from was each =
    let wide : b.width ≤ 8 * to_step = omega (arith, row_bytes_wide b.width, is_to) in
    plane_copied k (deepened b s) b plane to_step source_step b.width lines old new
    (record { right = ok.right; lower = ok.lower; source_right = ok.source_right; source_lower = ok.source_lower; planes = refl })
    to_ok refl is_to is_source long from was
    (line_combined k to_step source_step b.width new lines old wide each)

-- the block lies in both bitmaps still
pub block_stays : (on : ℕ → ℕ → ℕ → Bool) (pens : ℕ → ℕ → ℕ) (k : Block) (s b c : Bitmap) → c ≡ with_bits on pens b → IsBlockFrom k b s → IsBlockFrom k c s
unfolding with_bits
block_stays on pens k s b c is ok =
    let P : Bitmap → Type 0 = λ q. IsBlockFrom k q s in
    subst P (sym is) (record { right = ok.right; lower = ok.lower; source_right = ok.source_right; source_lower = ok.source_lower })

-- A bit of a row that was laid, by the tests of its plane, its column and its row: that of the source's pen v.
laid_bit : (u h t : Bool) (p v w pen : ℕ) → t ≡ true → w ≡ v → (u ≡ false → bit_at v p ≡ 0) → (h ≡ false → v ≡ 0) → pen ≡ 0
    → (if u && (h && t) then bit_at w p else bit_at pen p) ≡ bit_at v p
laid_bit u h false p v w pen laid same deep past blank = let no : ⊥ = cc in absurd no
laid_bit true true true p v w pen laid same deep past blank = ap (λ q. bit_at q p) same
laid_bit true false true p v w pen laid same deep past blank = ap (λ q. bit_at q p) (blank ∙ sym (past refl))
laid_bit false h true p v w pen laid same deep past blank = ap (λ q. bit_at q p) blank ∙ (bit_at-zero p ∙ sym (deep refl))

-- a bit of a row that wasn't laid
other_bit : (u h t : Bool) (p w pen : ℕ) → t ≡ false → (if u && (h && t) then bit_at w p else bit_at pen p) ≡ bit_at pen p
other_bit u h true p w pen off = let no : ⊥ = cc in absurd no
other_bit true true false p w pen off = refl
other_bit true false false p w pen off = refl
other_bit false h false p w pen off = refl

-- a pen of such bits
laid_pen : (k : Block) (last : ℕ) (s b : Bitmap) (x y : ℕ) (t : Bool) → is_named k.y k.height y ≡ t → IsBitmap b → IsBitmap s → s.depth ≤ b.depth → k.x ≡ 0 → k.source_x ≡ 0
    → k.width ≡ min b.width s.width → last + 1 ≡ k.y + k.height → k.source_y + k.height ≤ s.height → AreBlank k.y last b → x < b.width → y < b.height
    → pen_of b.depth (λ p. if nat_lt p s.depth && in_block k x y then bit_at (block_pen k s x y) p else bit_at (pen_at b x y) p)
    ≡ (if t then pen_at s x (k.source_y + (y - k.y)) else pen_at b x y)
laid_pen k last s b x y false row to_ok ok deep left source_left columns rows lower blank inside low =
    pen_of_same b.depth _ (λ p. bit_at (pen_at b x y) p)
    (λ p _. other_bit (nat_lt p s.depth) (is_named k.x k.width x) (is_named k.y k.height y) p (block_pen k s x y) (pen_at b x y) row)
    ∙ pen_same b.depth (pen_at b x y) (to_ok.pens x y inside low)
laid_pen k last s b x y true row to_ok ok deep left source_left columns rows lower blank inside low =
    let line : ℕ = k.source_y + (y - k.y) in
    let v : ℕ = pen_at s x line in
    let from : k.y ≤ y = grind (arith, nat_tests) in
    let to : y < k.y + k.height = grind (arith, nat_tests) in
    let column : k.source_x + (x - k.x) ≡ x = omega arith in
    let small = pen_at_lt s x line ok in
    pen_of_same b.depth _ (λ p. bit_at v p)
    (λ p _. laid_bit (nat_lt p s.depth) (is_named k.x k.width x) (is_named k.y k.height y) p v (block_pen k s x y) (pen_at b x y) row
    (ap (λ i. pen_at s i line) column)
    (λ above. bit_at_above v s.depth p small (ltb-false p s.depth above))
    (λ off. pen_past s x line ok (let past : k.width ≤ x = grind (arith, nat_tests) in omega arith) (omega arith))
    (blank x y inside from (omega arith)))
    ∙ pen_same b.depth v (lt_of_lt_of_le small (pow-le-pow_right {n = 2} (omega arith) deep))

-- rows of a source that were laid plane by plane
pub rows_laid : (k : Block) (last : ℕ) (s b c : Bitmap) → IsBitmap b → IsBitmap s → s.depth ≤ b.depth → k.x ≡ 0 → k.source_x ≡ 0 → k.width ≡ min b.width s.width
    → last + 1 ≡ k.y + k.height → k.source_y + k.height ≤ s.height → AreBlank k.y last b
    → c ≡ with_bits (λ p x y. nat_lt p s.depth && in_block k x y) (block_pen k s) b
    → c ≡ with_rows k.y last (λ x y. pen_at s x (k.source_y + (y - k.y))) b
unfolding with_bits
rows_laid k last s b c to_ok ok deep left source_left columns rows lower blank is =
    is ∙ bitmap_same b.width b.height b.depth _ _
    (λ x y inside low.
    let row : is_named k.y k.height y ≡ (nat_le k.y y && nat_le y last) = grind (arith, nat_tests) in
    laid_pen k last s b x y (nat_le k.y y && nat_le y last) row to_ok ok deep left source_left columns rows lower blank inside low)

-- a choice between pens
chosen_same : (t : Bool) (a b other : ℕ) → (t ≡ true → a ≡ b) → (if t then a else other) ≡ (if t then b else other)
chosen_same true a b other same = same refl
chosen_same false a b other same = refl

-- rows of other pens that are the same
pub rows_same : (first last : ℕ) (f g : ℕ → ℕ → ℕ) (b : Bitmap) → ((x y : ℕ) → first ≤ y → y ≤ last → f x y ≡ g x y) → with_rows first last f b ≡ with_rows first last g b
rows_same first last f g b same =
    bitmap_same b.width b.height b.depth _ _
    (λ x y _ _. chosen_same (nat_le first y && nat_le y last) (f x y) (g x y) (pen_at b x y)
    (λ inside. let parts = and_parts (nat_le first y) (nat_le y last) inside in same x y (leb-true first y parts.0) (leb-true y last parts.1)))

-- the owner of a band is a screen of the display that has all of its rows
pub band_there : (d : Display) (band : Band) (k : ℕ) → IsDisplay d → IsBandOf d band → band.screen ≡ Some k
    → (k < length d.screens) × ((screen_of d.screens k).top ≤ band.first) × (band.last < (screen_of d.screens k).top + (screen_of d.screens k).height)
band_there d band k ok of own =
    let order = of.order in
    let first = owner_there d band.first k ok (of.owned band.first (omega arith) order ∙ own) in
    let last = owner_there d band.last k ok (of.owned band.last order (omega arith) ∙ own) in
    (first.0, first.1, last.2)

-- the bitmap that was read is that of its number
pub bitmap_read : (planes : List Bitmap) (k : ℕ) (s : Bitmap) → k < length planes → s ≡ get_or planes k s → s ≡ bitmap_of planes k
bitmap_read planes k s there read = get_or_read planes k s there read (record { width = 0; height = 0; depth = 0; rows = [] })

-- blank rows without an owner stay blank
pub none_laid : (d : Display) (planes : List Bitmap) (band : Band) (b : Bitmap) → IsBandOf d band → band.screen ≡ None → IsBitmap b → AreBlank band.first band.last b
    → b ≡ with_rows band.first band.last (display_pen d planes) b
none_laid d planes band b of none ok blank =
    bitmap_from_pens b _ ok
    (λ x y inside _. none_chosen (nat_le band.first y && nat_le y band.last) (display_pen d planes x y) (pen_at b x y)
    (λ named.
    let parts = and_parts (nat_le band.first y) (nat_le y band.last) named in
    let from = leb-true band.first y parts.0 in
    let to = leb-true y band.last parts.1 in
    blank x y inside from to ∙ sym (ap (λ o. pen_of_owner d planes o x y) (of.owned y from to ∙ none))))
  where
    none_chosen : (t : Bool) (a b : ℕ) → (t ≡ true → b ≡ a) → b ≡ (if t then a else b)
    none_chosen true a b same = same refl
    none_chosen false a b same = refl

-- rows of the owner's pens are rows of the display's pens
pub owner_laid : (d : Display) (planes : List Bitmap) (band : Band) (k last source_first : ℕ) (s b c : Bitmap) → IsBandOf d band → band.screen ≡ Some k
    → s ≡ bitmap_of planes k → last ≡ band.last → source_first + (screen_of d.screens k).top ≡ band.first
    → c ≡ with_rows band.first last (λ x y. pen_at s x (source_first + (y - band.first))) b
    → c ≡ with_rows band.first band.last (display_pen d planes) b
owner_laid d planes band k last source_first s b c of own is_source is_last is_first is =
    let top : ℕ = (screen_of d.screens k).top in
    is ∙ (ap (λ l. with_rows band.first l (λ x y. pen_at s x (source_first + (y - band.first))) b) is_last
    ∙ rows_same band.first band.last _ _ b
    (λ x y from to.
    let line : source_first + (y - band.first) ≡ y - top = omega arith in
    ap (λ q. pen_at q x (source_first + (y - band.first))) is_source
    ∙ (ap (λ j. pen_at (bitmap_of planes k) x j) line ∙ sym (ap (λ o. pen_of_owner d planes o x y) (of.owned y from to ∙ own)))))

-- The bands that are left of a display, of which the rows above them are laid.
pub record AreLaid (d : Display) (planes : List Bitmap) (width : ℕ) (rest : List Band) (made : Bitmap) : Type 0 where
  pub next : ℕ
  pub runs : AreLongestRuns (owner_of d) next d.height rest
  pub pens : made ≡ bitmap width d.height (greatest_depth planes) (λ x y. if nat_lt y next then display_pen d planes x y else 0)

-- before the first band
pub laid_none : (d : Display) (planes : List Bitmap) (width depth height : ℕ) (bands : List Band) (made : Bitmap) → bands ≡ bands_of d → depth ≡ greatest_depth planes → height ≡ d.height
    → made ≡ bitmap width height depth (λ _ _. 0) → AreLaid d planes width bands made
laid_none d planes width depth height bands made is deep high new = record {
  next = 0;
  runs = subst (λ bs. AreLongestRuns (owner_of d) 0 d.height bs) (sym is) (bands_are_runs (owner_of d) d.height 0 d.height (omega arith));
  pens = new ∙ (ap (λ n. bitmap width height n (λ _ _. 0)) deep ∙ (ap (λ n. bitmap width n (greatest_depth planes) (λ _ _. 0)) high
      ∙ bitmap_same width d.height (greatest_depth planes) _ _ (λ x y _ _. let above : nat_lt y 0 ≡ false = grind (arith, nat_tests) in sym (ap (λ t. if t then display_pen d planes x y else 0) above))));
}

-- what the next band finds
pub band_next : (d : Display) (planes : List Bitmap) (width : ℕ) (band : Band) (rest : List Band) (made : Bitmap) → AreLaid d planes width (band ∷ rest) made → IsBandOf d band
band_next d planes width band rest made laid = record { order = laid.runs.0.order; inside = laid.runs.0.inside; owned = laid.runs.0.owned }

pub blank_next : (d : Display) (planes : List Bitmap) (width : ℕ) (band : Band) (rest : List Band) (made : Bitmap) → AreLaid d planes width (band ∷ rest) made → AreBlank band.first band.last made
blank_next d planes width band rest made laid x y inside from to =
    let first = laid.runs.0.first in
    let low = laid.runs.0.inside in
    let wide : made.width ≡ width = ap (λ (q : Bitmap). q.width) laid.pens in
    let off : nat_lt y laid.next ≡ false = le-ltb y laid.next (omega arith) in
    ap (λ q. pen_at q x y) laid.pens
    ∙ (pen_at_bitmap width d.height (greatest_depth planes) _ x y (omega arith) (omega arith) ∙ ap (λ t. if t then display_pen d planes x y else 0) off)

-- a pen before and after a band
pen_more : (first next last y a : ℕ) → first ≡ next → first ≤ last → (if nat_le first y && nat_le y last then a else (if nat_lt y next then a else 0)) ≡ (if nat_lt y (last + 1) then a else 0)
pen_more first next last y a same order = grind (arith, nat_tests)

-- one band more
pub laid_more : (d : Display) (planes : List Bitmap) (width : ℕ) (band : Band) (rest : List Band) (made new : Bitmap) → AreLaid d planes width (band ∷ rest) made
    → new ≡ with_rows band.first band.last (display_pen d planes) made → AreLaid d planes width rest new
laid_more d planes width band rest made new laid is = record {
  next = band.last + 1;
  runs = laid.runs.1;
  pens = is ∙ (ap (with_rows band.first band.last (display_pen d planes)) laid.pens
      ∙ bitmap_same width d.height (greatest_depth planes) _ _
      (λ x y inside low.
      ap (λ a. if nat_le band.first y && nat_le y band.last then display_pen d planes x y else a) (pen_at_bitmap width d.height (greatest_depth planes) _ x y inside low)
      ∙ pen_more band.first laid.next band.last y (display_pen d planes x y) laid.runs.0.first laid.runs.0.order));
}

-- after the last band
pub laid_all : (d : Display) (planes : List Bitmap) (width : ℕ) (made : Bitmap) → AreLaid d planes width [] made → made ≡ composed width d planes
laid_all d planes width made laid =
    let end = laid.runs in
    laid.pens ∙ bitmap_same width d.height (greatest_depth planes) _ _
    (λ x y inside low. let above : nat_lt y laid.next ≡ true = lt-ltb y laid.next (omega arith) in ap (λ t. if t then display_pen d planes x y else 0) above)

-- the sizes of what is laid
pub laid_sizes : (d : Display) (planes : List Bitmap) (width : ℕ) (rest : List Band) (made : Bitmap) → AreLaid d planes width rest made → (made.height ≡ d.height) × (made.depth ≡ greatest_depth planes)
laid_sizes d planes width rest made laid = (ap (λ (q : Bitmap). q.height) laid.pens, ap (λ (q : Bitmap). q.depth) laid.pens)

-- no bitmap is deeper than the deepest
pub depth_below : (planes : List Bitmap) (k : ℕ) → k < length planes → (bitmap_of planes k).depth ≤ greatest_depth planes
depth_below [] k there = absurd (omega arith)
depth_below (b ∷ bs) zero there = omega arith
depth_below (b ∷ bs) (suc k) there = let below = depth_below bs k (omega arith) in omega arith

-- each band of a display has its rows
bands_owned : (d : Display) (y : ℕ) (bs : List Band) → AreLongestRuns (owner_of d) y d.height bs → All (IsBandOf d) bs
bands_owned d y [] runs = All-nil (IsBandOf d)
bands_owned d y (b ∷ bs) runs =
    All-cons (IsBandOf d) b bs (record { order = runs.0.order; inside = runs.0.inside; owned = runs.0.owned }) (bands_owned d (b.last + 1) bs runs.1)

pub all_bands : (d : Display) → All (IsBandOf d) (bands_of d)
all_bands d = bands_owned d 0 (bands_of d) (bands_are_runs (owner_of d) d.height 0 d.height (omega arith))
