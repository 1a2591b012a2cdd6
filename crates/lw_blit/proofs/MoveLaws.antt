-- Laws of moves of whole blocks.
use Rattle.std.proofs.Common.{◌≡◌, ℕ, ◌+◌, ◌-◌, ◌==◌, ◌<◌, ◌≤◌, nat_lt, Bool, true, false, ◌&&◌, ◌||◌, ◌∙◌, sym, refl, ap, subst, arith, pos}
use Rattle.std.specs.Int.{bit_at}
use Rattle.std.proofs.lemmas.Bool.Decides.{nat_tests}
use Rattle.std.proofs.lemmas.Int.{ints}
use Rattle.lw_planes.specs.Bitmap.{pen_at}
use Rattle.lw_planes.specs.Minterm.{minterm_bit}
use Rattle.lw_kernels.specs.Kernel.{is_between, is_named}
use Rattle.lw_machine.specs.Kept.{holds_at, is_kept}
use Rattle.lw_layer.specs.View.{LiveView, keeps, draws}
use Rattle.lw_layer.specs.Copied.{kept_bit}
use Rattle.lw_draw.specs.Blocks.{in_block, moved_bit, IsBlock, IsWholeBlock}
use Rattle.lw_draw.specs.Drawn.{drawn, in_rows}
use Rattle.lw_draw.specs.declared.blocks.Block.{Block}
use Rattle.lw_draw.specs.declared.spans.Places.{Places}
use Rattle.lw_draw.proofs.BlockLaws.{block_stays}
use Rattle.lw_draw.proofs.PaintLaws.{layer_same, layer_alike, depth_stays}
use Rattle.lw_blit.specs.Blitting.{blended, from_layer, has_source, source_bit, masked, planes_before, taken_column, taken_row}
use Rattle.lw_blit.specs.Moves.{AreMoved, IsMove, IsMoveOf}
use Rattle.lw_blit.specs.declared.moving.Move.{Move}
use Rattle.lw_blit.specs.declared.transfers.Transfer.{Transfer}
use Rattle.lw_blit.proofs.BitmapLaws.{pixel_of}
use Rattle.lw_blit.proofs.LoopLaws.{layer_gives_bits, source_stays}
use Rattle.lw_blit.proofs.ShapeLaws.{kept_pen_bit}

-- Two blocks of one buffer are a move, where the sources of the one are the other.
pub move_is : (c : LiveView) (t : Transfer) (rows columns down across : Places) (to source : Block) → IsWholeBlock c (λ i j. draws c i j) rows columns to → IsWholeBlock c (λ i j. keeps c i j) down across source → AreMoved rows t.dy down → AreMoved columns t.dx across → source.run.buffer ≡ to.run.buffer → IsMoveOf c t rows columns (record { to = to; source = source })
move_is c t rows columns down across to source target kept by_rows by_columns same =
    let top = by_rows.from in
    let bottom = by_rows.end in
    let left = by_columns.from in
    let right = by_columns.end in
    let one = target.all in
    let other = kept.all in
    record {
      move = record {
        column = omega (arith, ints, left, one.column, other.column);
        row = omega (arith, ints, top, one.row, other.row);
        shape = record {
          buffer = sym same;
          rows = omega (arith, ints, top, bottom, one.row, other.row, one.bottom, other.bottom);
          len = omega (arith, ints, left, right, one.column, other.column, one.right, other.right);
        };
        to = target.block;
        source = kept.block;
      };
      all = target.all;
    }

-- a source that is kept is taken
taken_there : (clears there : Bool) (m source old : ℕ) → there ≡ true → minterm_bit m source old ≡ blended m (clears || there) source old
taken_there true there m source old is = refl
taken_there false there m source old is = sym (ap (λ t. blended m t source old) is)

kept_source : (c : LiveView) (t : Transfer) (p i j x y old : ℕ) → taken_column t i ≡ pos x → taken_row t j ≡ pos y → keeps c x y ≡ true → minterm_bit t.minterm (bit_at (pen_at c.layer.bits x y) p) old ≡ from_layer c t p i j old
unfolding from_layer
kept_source c t p i j x y old column row kept =
    let there : has_source c t i j ≡ true = ap (λ z. holds_at (λ u v. keeps c u v) z (taken_row t j)) column ∙ (ap (λ z. holds_at (λ u v. keeps c u v) (pos x) z) row ∙ kept) in
    let bit : source_bit c t p i j ≡ bit_at (pen_at c.layer.bits x y) p = ap (λ z. kept_bit c p z (taken_row t j)) column ∙ (ap (λ z. kept_bit c p (pos x) z) row ∙ kept_pen_bit c p (pos x) (pos y) kept) in
    ap (λ b. minterm_bit t.minterm b old) (sym bit) ∙ taken_there t.clears (has_source c t i j) t.minterm (source_bit c t p i j) old there

-- where the source of a target is
column_on : (t : Transfer) (from x i : ℕ) → taken_column t from ≡ pos x → from ≤ i → taken_column t i ≡ pos (x + (i - from))
column_on t from x i is late = omega (arith, ints, is, late)

row_on : (t : Transfer) (from y j : ℕ) → taken_row t from ≡ pos y → from ≤ j → taken_row t j ≡ pos (y + (j - from))
row_on t from y j is late = omega (arith, ints, is, late)

-- A plane of a block that takes the pixels of another one takes what the layer gives.
pub moved_as_layer : (v w : LiveView) (t : Transfer) (m : Move) (k : ℕ) → IsMove v t m → w ≡ drawn (λ p i j. p == k && in_block m.to i j) (moved_bit t.minterm v m.to m.source) v → w ≡ drawn (λ p i j. p == k && in_block m.to i j) (from_layer v t) v
moved_as_layer v w t m k move is =
    layer_alike v w (λ p i j. p == k && in_block m.to i j) (moved_bit t.minterm v m.to m.source) (from_layer v t) is
    (λ p i j old _ _ _ on _.
    let at = pixel_of k m.to p i j on in
    let dv : ℕ = j - m.to.y in
    let low : dv < m.source.rows = omega (arith, at.top, at.bottom, move.shape.rows) in
    let late : m.source.x ≤ m.source.x + (i - m.to.x) = omega arith in
    let before : m.source.x + (i - m.to.x) < m.source.x + m.source.run.len = omega (arith, at.first, at.last, move.shape.len) in
    kept_source v t p i j (m.source.x + (i - m.to.x)) (m.source.y + dv) old (column_on t m.to.x m.source.x i move.column at.first) (row_on t m.to.y m.source.y j move.row at.top)
    ((move.source.runs dv low).holds (m.source.x + (i - m.to.x)) late before))

-- a block of kept pixels stays one, and a move
kept_stays : (v w : LiveView) (on : ℕ → ℕ → ℕ → Bool) (new : ℕ → ℕ → ℕ → ℕ → ℕ) (b : Block) → w ≡ drawn on new v → IsBlock v (λ i j. keeps v i j) b → IsBlock w (λ i j. keeps w i j) b
unfolding drawn keeps is_kept
kept_stays v w on new b is block =
    let P : LiveView → Type 0 = λ q. IsBlock q (λ i j. keeps q i j) b in
    subst P (sym is) (record {
      some = block.some;
      runs = λ k low. let run = block.runs k low in record { some = run.some; there = run.there; holds = run.holds; inside = run.inside; fits = run.fits; bits = run.bits };
    })

pub move_stays : (v w : LiveView) (on : ℕ → ℕ → ℕ → Bool) (new : ℕ → ℕ → ℕ → ℕ → ℕ) (t : Transfer) (m : Move) → w ≡ drawn on new v → IsMove v t m → IsMove w t m
move_stays v w on new t m is move = record {
  column = move.column;
  row = move.row;
  shape = move.shape;
  to = block_stays v w on new m.to is move.to;
  source = kept_stays v w on new m.source is move.source;
}

-- no plane before one is that one
before_apart : (p k : ℕ) (rest has : Bool) (inside : Bool) → (p == k && inside) ≡ true → (nat_lt p k && (has && rest)) ≡ false
before_apart p k rest has inside on = grind (arith, nat_tests)

-- A plane that is moved by the layer as it is by then is moved by the layer before.
pub plane_as_before : (v w u : LiveView) (mask k : ℕ) (inside : ℕ → ℕ → Bool) (t : Transfer) → w ≡ drawn (planes_before mask k inside) (from_layer v t) v → u ≡ drawn (λ p i j. p == k && inside i j) (from_layer w t) w → u ≡ drawn (λ p i j. p == k && inside i j) (from_layer v t) w
plane_as_before v w u mask k inside t was is =
    let before = planes_before mask k inside in
    layer_alike w u (λ p i j. p == k && inside i j) (from_layer w t) (from_layer v t) is
    (λ p i j old deep _ _ on _.
    source_stays v w before (from_layer v t) t p i j old (layer_gives_bits v t) was
    (subst (λ n. p < n) (depth_stays v w before (from_layer v t) was) deep)
    (λ x z _ _. before_apart p k (inside x z) (bit_at mask p == 1) (inside i j) on))

-- tests of which the last holds wherever the others do
and_drawn : (a b d : Bool) → (a ≡ true → b ≡ true → d ≡ true) → (a && b) ≡ (a && (b && d))
and_drawn true true d is = sym (is refl refl)
and_drawn true false d is = refl
and_drawn false b d is = refl

-- The pixels of a block are the drawable ones of its rows and columns.
rows_and_columns : (c : LiveView) (t : Transfer) (rows columns : Places) (m : Move) (i j : ℕ) → IsMoveOf c t rows columns m → in_block m.to i j ≡ in_rows c rows.from rows.end columns.from columns.end i j
rows_and_columns c t rows columns m i j is =
    let b = m.to in
    let all = is.all in
    and_drawn (is_named b.y b.rows j) (is_named b.x b.run.len i) (draws c i j)
    (λ down across.
    let first : b.y ≤ j = grind (arith, nat_tests) in
    let last : j < b.y + b.rows = grind (arith, nat_tests) in
    let left : b.x ≤ i = grind (arith, nat_tests) in
    let right : i < b.x + b.run.len = grind (arith, nat_tests) in
    let row : b.y + (j - b.y) ≡ j = omega (arith, first) in
    ap (λ v. draws c i v) (sym row) ∙ (is.move.to.runs (j - b.y) (omega (arith, first, last))).holds i left right) ∙
    (ap (λ n. is_between n (b.y + b.rows) j && (is_named b.x b.run.len i && draws c i j)) all.row ∙
    (ap (λ n. is_between rows.from n j && (is_named b.x b.run.len i && draws c i j)) all.bottom ∙
    (ap (λ n. is_between rows.from rows.end j && (is_between n (b.x + b.run.len) i && draws c i j)) all.column ∙
    ap (λ n. is_between rows.from rows.end j && (is_between columns.from n i && draws c i j)) all.right)))

pub rows_moved : (v w : LiveView) (t : Transfer) (mask : ℕ) (rows columns : Places) (m : Move) → IsMoveOf v t rows columns m → w ≡ drawn (λ p i j. bit_at mask p == 1 && in_block m.to i j) (from_layer v t) v → w ≡ drawn (masked mask v rows.from rows.end columns.from columns.end) (from_layer v t) v
rows_moved v w t mask rows columns m are is =
    layer_same v w (λ p i j. bit_at mask p == 1 && in_block m.to i j) (masked mask v rows.from rows.end columns.from columns.end) (from_layer v t) is
    (λ p i j _. ap (λ b. bit_at mask p == 1 && b) (rows_and_columns v t rows columns m i j are))
