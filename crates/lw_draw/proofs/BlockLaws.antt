-- Laws of blocks: they go down from a run through rows that are alike, and stay while a layer is drawn on.
use Rattle.std.proofs.Common.{◌≡◌, ℕ, ◌+◌, ◌-◌, ◌==◌, ◌<◌, ◌≤◌, Bool, true, false, ◌&&◌, ◌||◌, Option, Some, None, IfSome, ◌∙◌, sym, refl, ap, subst, arith, ℤ, pos, ◌+ℤ◌, ◌-ℤ◌, ◌≤ℤ◌}
use Rattle.std.proofs.lemmas.Bool.{and_parts}
use Rattle.std.proofs.lemmas.Bool.Decides.{nat_tests}
use Rattle.std.proofs.lemmas.Int.{ints}
use Rattle.lw_region.specs.Rectangle.{height}
use Rattle.lw_region.proofs.Within.{within_low}
use Rattle.lw_kernels.specs.Kernel.{is_between, is_named}
use Rattle.lw_machine.specs.Desk.{is_the}
use Rattle.lw_machine.specs.Screen.{distance}
use Rattle.lw_machine.specs.Kept.{is_drawable, is_kept}
use Rattle.lw_layer.specs.View.{LiveView, keeps, draws}
use Rattle.lw_layer.specs.Pieces.{Layout, layout_of, buffer_rectangle, buffer_at, column_in, line_in, in_line, HaveLines}
use Rattle.lw_layer.specs.Runs.{IsRun, AreAlike}
use Rattle.lw_layer.specs.declared.run.Run.{Run}
use Rattle.lw_layer.proofs.ViewLaws.{has_place}
use Rattle.lw_layer.proofs.StateLaws.{pen_in_line}
use Rattle.lw_draw.specs.Drawn.{drawn, in_rows}
use Rattle.lw_draw.specs.Blocks.{IsBlock, IsWholeBlock, AreBand, IsRowBlock, in_block}
use Rattle.lw_draw.specs.Stretches.{IsFirstStretch, IsNextStretch}
use Rattle.lw_draw.specs.declared.blocks.Block.{Block}
use Rattle.lw_draw.specs.declared.spans.Places.{Places}
use Rattle.lw_draw.specs.declared.stretch.Stretch.{Stretch}
use Rattle.lw_draw.proofs.DrawnLaws.{AreMore}
use Rattle.lw_draw.proofs.PaintLaws.{run_stays, row_end}

-- how far two places are from an edge differs as they do
same_gap : (edge from : ℤ) (scroll u x : ℕ) → edge ≤ℤ ((from +ℤ pos u) -ℤ pos scroll) → edge ≤ℤ ((from +ℤ pos x) -ℤ pos scroll) → distance edge ((from +ℤ pos u) -ℤ pos scroll) + x ≡ distance edge ((from +ℤ pos x) -ℤ pos scroll) + u
same_gap edge from scroll u x first second = omega (arith, ints)

-- what is told of two pixels with their pens in one buffer
pub record AreBeside (l : Layout) (n x y u v : ℕ) : Type 0 where
  pub columns : column_in l n u + x ≡ column_in l n x + u
  pub lines : line_in l n v + y ≡ line_in l n y + v

-- they lie there as they do in the layer
pub beside : (l : Layout) (n x y u v : ℕ) → buffer_at l x y ≡ Some n → buffer_at l u v ≡ Some n → AreBeside l n x y u v
beside l n x y u v first second =
    let one_in = and_parts _ _ (has_place l x y n first).has in
    let other_in = and_parts _ _ (has_place l u v n second).has in
    let r = buffer_rectangle l n in
    record {
      columns = same_gap r.min_x l.bounds.min_x l.scroll_x u x (within_low r.min_x _ r.max_x other_in.0) (within_low r.min_x _ r.max_x one_in.0);
      lines = same_gap r.min_y l.bounds.min_y l.scroll_y v y (within_low r.min_y _ r.max_y other_in.1) (within_low r.min_y _ r.max_y one_in.1);
    }

-- a pixel has its pen in this line of this buffer
has_line : (l : Layout) (n line x y : ℕ) → buffer_at l x y ≡ Some n → line_in l n y ≡ line → in_line l n line x y ≡ true
unfolding in_line
has_line l n line x y found is =
    let here : (n == n) ≡ true = grind (arith, nat_tests) in
    let there : (line_in l n y == line) ≡ true = grind (arith, nat_tests) in
    ap (λ o. is_the o n && line_in l n y == line) found ∙ (ap (λ t. t && line_in l n y == line) here ∙ there)

-- the pixel below one of a line, in a row that is like its own
row_below : (c : LiveView) (u y n line k : ℕ) → AreAlike c y (y + k) → in_line (layout_of c) n line u y ≡ true → (line_in (layout_of c) n (y + k) ≡ line + k) × (buffer_at (layout_of c) u (y + k) ≡ Some n)
row_below c u y n line k are inside =
    let l = layout_of c in
    let at = pen_in_line l n line u y inside in
    let first : line_in l n y ≡ line = at.0 in
    let found : buffer_at l u (y + k) ≡ Some n = sym (are.found u) ∙ at.1 in
    let lines : line_in l n (y + k) + y ≡ line_in l n y + (y + k) = (beside l n u y u (y + k) at.1 found).lines in
    (omega (arith, lines, first), found)

-- a run goes down to a row that is like its own
run_below : (c : LiveView) (test : ℕ → ℕ → Bool) (x y : ℕ) (r : Run) (k : ℕ) → IsRun c test x y r → AreAlike c y (y + k) → ((u : ℕ) → test u y ≡ test u (y + k)) → IsRun c test x (y + k) (record r { line = r.line + k })
run_below c test x y r k run are same =
    let l = layout_of c in
    let n = r.buffer in
    let first = row_below c x y n r.line k are (run.inside x (omega arith) (omega (arith, run.some))) in
    let is : line_in l n (y + k) ≡ r.line + k = first.0 in
    let low : line_in l n (y + k) < height (buffer_rectangle l n) = (has_place l x (y + k) n first.1).line in
    record {
      some = run.some;
      there = record { buffer = run.there.buffer; below = omega (arith, low, is) };
      holds = λ u late before. sym (same u) ∙ run.holds u late before;
      inside = λ u late before. let at = row_below c u y n r.line k are (run.inside u late before) in has_line l n (r.line + k) u (y + k) at.1 at.0;
      fits = run.fits;
      bits = run.bits;
    }

-- A run and the rows below that are like its own are a block.
pub block_of_run : (c : LiveView) (test : ℕ → ℕ → Bool) (b : Block) → 0 < b.rows → IsRun c test b.x b.y b.run → AreBand c b.y b.rows → ((k u : ℕ) → k < b.rows → test u b.y ≡ test u (b.y + k)) → IsBlock c test b
block_of_run c test b some run band same = record {
  some = some;
  runs = λ k low. run_below c test b.x b.y b.run k run (band k low) (λ u. same k u low);
}

-- of drawable pixels
pub drawable_block : (c : LiveView) (b : Block) → 0 < b.rows → IsRun c (λ i j. draws c i j) b.x b.y b.run → AreBand c b.y b.rows → IsBlock c (λ i j. draws c i j) b
drawable_block c b some run band = block_of_run c (λ i j. draws c i j) b some run band (λ k u low. (band k low).drawn u)

-- of kept ones
pub kept_block : (c : LiveView) (b : Block) → 0 < b.rows → IsRun c (λ i j. keeps c i j) b.x b.y b.run → AreBand c b.y b.rows → IsBlock c (λ i j. keeps c i j) b
kept_block c b some run band = block_of_run c (λ i j. keeps c i j) b some run band (λ k u low. (band k low).kept u)

-- one row is a band
pub band_of_one : (c : LiveView) (y : ℕ) → AreBand c y 1
band_of_one c y k low =
    let same : y ≡ y + k = omega arith in
    let P : ℕ → Type 0 = λ j. AreAlike c y j in
    subst P same (record { found = λ x. refl; kept = λ x. refl; drawn = λ x. refl })

-- a run is a block of one row
pub block_of_one : (c : LiveView) (s : Stretch) → IsRun c (λ i j. draws c i j) s.x s.y s.run → IsBlock c (λ i j. draws c i j) (record { x = s.x; y = s.y; rows = 1; run = s.run })
block_of_one c s run = drawable_block c (record { x = s.x; y = s.y; rows = 1; run = s.run }) (omega arith) run (band_of_one c s.y)

-- a block that is known
pub known_block : (c : LiveView) (o : Option Block) (b : Block) → o ≡ Some b → IfSome o (λ b. IsBlock c (λ i j. draws c i j) b) → IsBlock c (λ i j. draws c i j) b
known_block c o b is has = let P : Option Block → Type 0 = λ q. IfSome q (λ b. IsBlock c (λ i j. draws c i j) b) in subst P is has

-- some pixels of a run are one
run_part : (c : LiveView) (test : ℕ → ℕ → Bool) (x y : ℕ) (r : Run) (right len : ℕ) → 0 < len → right + len ≤ r.len → IsRun c test x y r → IsRun c test (x + right) y (record r { bit = r.bit + right; len = len })
run_part c test x y r right len some short run = record {
  some = some;
  there = run.there;
  holds = λ u late before. run.holds u (omega arith) (omega arith);
  inside = λ u late before. run.inside u (omega arith) (omega arith);
  fits = omega (arith, run.fits);
  bits = λ u late before. let at = run.bits u (omega arith) (omega arith) in omega (arith, at);
}

-- the pixels of a block of one row, all of them drawable
row_named : (drawable : Bool) (y from end i j : ℕ) → from ≤ end → (from ≤ i → i < end → j ≡ y → drawable ≡ true) → (is_named y 1 j && is_named from (end - from) i) ≡ (is_between y (y + 1) j && (is_between from end i && drawable))
row_named drawable y from end i j ordered holds = grind (arith, nat_tests)

-- Some columns of a row of a block are a block.
pub row_of_block : (c : LiveView) (known : Block) (y : ℕ) (columns : Places) → IsBlock c (λ i j. draws c i j) known → known.y ≤ y → y - known.y < known.rows → known.x ≤ columns.from → columns.from < columns.end → columns.end - known.x ≤ known.run.len → IsRowBlock c y columns (record { x = columns.from; y = y; rows = 1; run = record known.run { line = known.run.line + (y - known.y); bit = known.run.bit + (columns.from - known.x); len = columns.end - columns.from } })
row_of_block c known y columns block first last left some right =
    let down : ℕ = y - known.y in
    let gap : ℕ = columns.from - known.x in
    let len : ℕ = columns.end - columns.from in
    let r : Run = record known.run { line = known.run.line + down; bit = known.run.bit + gap; len = len } in
    let row : known.y + down ≡ y = omega arith in
    let column : known.x + gap ≡ columns.from = omega arith in
    let X : ℕ → Type 0 = λ x. IsRun c (λ i j. draws c i j) x y r in
    let Y : ℕ → Type 0 = λ j. IsRun c (λ i j. draws c i j) (known.x + gap) j r in
    let part : Y (known.y + down) = run_part c (λ i j. draws c i j) known.x (known.y + down) (record known.run { line = known.run.line + down }) gap len (omega arith) (omega arith) (block.runs down last) in
    let run : X columns.from = subst X column (subst Y row part) in
    let at : ℕ → ℕ → Bool = λ i j. draws c i j in
    record {
      block = block_of_one c (record { x = columns.from; y = y; run = r }) run;
      all = λ i j. row_named (draws c i j) y columns.from columns.end i j (omega arith) (λ late before same. ap (at i) same ∙ run.holds i late (omega arith));
    }

-- the lines of a block are lines of its buffer
pub block_lines : (c : LiveView) (test : ℕ → ℕ → Bool) (b : Block) → IsBlock c test b → HaveLines (layout_of c) b.run.buffer b.run.line b.rows
block_lines c test b block =
    let n : ℕ = b.rows - 1 in
    let last = block.runs n (omega (arith, block.some)) in
    let below : b.run.line + n < height (buffer_rectangle (layout_of c) b.run.buffer) = last.there.below in
    record { buffer = last.there.buffer; below = omega (arith, below, block.some) }

-- a block stays one
pub block_stays : (v w : LiveView) (on : ℕ → ℕ → ℕ → Bool) (new : ℕ → ℕ → ℕ → ℕ → ℕ) (b : Block) → w ≡ drawn on new v → IsBlock v (λ i j. draws v i j) b → IsBlock w (λ i j. draws w i j) b
block_stays v w on new b is block = record {
  some = block.some;
  runs = λ k low. run_stays v w on new b.x (b.y + k) (record b.run { line = b.run.line + k }) is (block.runs k low);
}

-- a block that is known stays one
pub known_stays : (v w : LiveView) (on : ℕ → ℕ → ℕ → Bool) (new : ℕ → ℕ → ℕ → ℕ → ℕ) (rows columns : Places) (o : Option Block) → w ≡ drawn on new v → IfSome o (λ b. IsWholeBlock v (λ i j. draws v i j) rows columns b) → IfSome o (λ b. IsBlock w (λ i j. draws w i j) b)
known_stays v w on new rows columns None is has = tt
known_stays v w on new rows columns (Some b) is has = block_stays v w on new b is has.block

-- rows that are alike stay so
pub band_stays : (v w : LiveView) (on : ℕ → ℕ → ℕ → Bool) (new : ℕ → ℕ → ℕ → ℕ → ℕ) (y rows : ℕ) → w ≡ drawn on new v → AreBand v y rows → AreBand w y rows
unfolding drawn keeps draws is_drawable is_kept
band_stays v w on new y rows is band =
    let P : LiveView → Type 0 = λ q. AreBand q y rows in
    subst P (sym is) (λ k low. let are = band k low in record { found = are.found; kept = are.kept; drawn = are.drawn })

-- a pixel of a band is drawable where the first row's one is
drawn_as_first : (c : LiveView) (y rows i j : ℕ) → AreBand c y rows → y ≤ j → j < y + rows → draws c i j ≡ draws c i y
drawn_as_first c y rows i j band late low =
    let at : ℕ → Bool = λ v. draws c i v in
    let gap : ℕ = j - y in
    let row : y + gap ≡ j = omega arith in
    ap at (sym row) ∙ sym ((band gap (omega arith)).drawn i)

-- a block from a band's first run on has pixels of the band
inside_band : (drawable : Bool) (y rows from x end column len i j : ℕ) → from ≤ x → x ≤ column → column + len ≤ end → drawable ≡ true → (is_named y rows j && is_named column len i) ≡ true → (is_between y (y + rows) j && (is_between from end i && drawable)) ≡ true
inside_band drawable y rows from x end column len i j first late ends holds on = grind (arith, nat_tests)

pub block_in_band : (c : LiveView) (y rows from x end : ℕ) (s : Stretch) (i j : ℕ) → from ≤ x → AreBand c y rows → IsFirstStretch c x y end s → in_block (record { x = s.x; y = y; rows = rows; run = s.run }) i j ≡ true → in_rows c y (y + rows) from end i j ≡ true
block_in_band c y rows from x end s i j first band is on =
    let at : ℕ → ℕ → Bool = λ u v. draws c u v in
    let reaches : x ≤ s.x = let e = is.column.reaches in omega (arith, ints) in
    let left : s.x ≤ i = grind (arith, nat_tests) in
    let right : i < s.x + s.run.len = grind (arith, nat_tests) in
    let down : y ≤ j = grind (arith, nat_tests) in
    let up : j < y + rows = grind (arith, nat_tests) in
    inside_band (draws c i j) y rows from x end s.x s.run.len i j first reaches is.ends
    (drawn_as_first c y rows i j band down up ∙ (ap (at i) (sym is.row) ∙ is.run.holds i left right)) on

-- one block more of a band
block_apart : (has : Bool) (i j y rows from x column len : ℕ) (drawable : Bool) → x ≤ column → ((has && (is_between y (y + rows) j && (is_between from x i && drawable))) && (has && (is_named y rows j && is_named column len i))) ≡ false
block_apart has i j y rows from x column len drawable late = grind (arith, nat_tests)

block_whole : (has : Bool) (i j y rows from x column len : ℕ) (drawable : Bool) → from ≤ x → x ≤ column → (x ≤ i → i < column → y ≤ j → j < y + rows → drawable ≡ false) → (column ≤ i → i < column + len → y ≤ j → j < y + rows → drawable ≡ true) → (has && (is_between y (y + rows) j && (is_between from (column + len) i && drawable))) ≡ ((has && (is_between y (y + rows) j && (is_between from x i && drawable))) || (has && (is_named y rows j && is_named column len i)))
block_whole has i j y rows from x column len drawable first late before inside = grind (arith, nat_tests)

pub next_block : (c : LiveView) (has : ℕ → Bool) (y rows from x end : ℕ) (s : Stretch) → from ≤ x → AreBand c y rows → IsFirstStretch c x y end s → AreMore c (λ p i j. has p && in_rows c y (y + rows) from x i j) (λ p i j. has p && in_block (record { x = s.x; y = y; rows = rows; run = s.run }) i j) (λ p i j. has p && in_rows c y (y + rows) from (s.x + s.run.len) i j)
next_block c has y rows from x end s first band is =
    let at : ℕ → ℕ → Bool = λ i j. draws c i j in
    let reaches : x ≤ s.x = let e = is.column.reaches in omega (arith, ints) in
    record {
      apart = λ p i j _ _ _. block_apart (has p) i j y rows from x s.x s.run.len (draws c i j) reaches;
      whole =
          λ p i j _ _ _. block_whole (has p) i j y rows from x s.x s.run.len (draws c i j) first reaches
          (λ late low down up. drawn_as_first c y rows i j band down up ∙ is.column.before (pos i) (omega (arith, ints)) (omega (arith, ints)))
          (λ late low down up. drawn_as_first c y rows i j band down up ∙ (ap (at i) (sym is.row) ∙ is.run.holds i late low));
    }

-- the end of a band
pub band_done : (c : LiveView) (has : Bool) (y rows from x end i j : ℕ) → from ≤ x → x ≤ end → AreBand c y rows → IsNextStretch c x y end None → (has && in_rows c y (y + rows) from x i j) ≡ (has && in_rows c y (y + rows) from end i j)
band_done c has y rows from x end i j first late band none =
    row_end has (is_between y (y + rows) j) i from x end (draws c i j) first late
    (λ on low same.
    let down : y ≤ j = grind (arith, nat_tests) in
    let up : j < y + rows = grind (arith, nat_tests) in
    drawn_as_first c y rows i j band down up ∙ none (pos i) (omega (arith, ints)) (omega (arith, ints)))
