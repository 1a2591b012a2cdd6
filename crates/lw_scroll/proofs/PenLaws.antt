-- Laws of the pens that a scroll brings.
use Rattle.std.proofs.Common.{◌≡◌, ℕ, Bool, true, false, not, ◌&&◌, ◌||◌, ◌⊎◌, inl, inr, if◌then◌else◌, List, ℤ, pos, negsuc, ◌+ℤ◌, unsigned_abs, Some, None, ◌∙◌, sym, refl, ap, arith}
use Rattle.std.specs.Int.{bit_at}
use Rattle.std.proofs.lemmas.Bool.{lt-ltb, and_from, and_parts}
use Rattle.std.proofs.lemmas.Bool.Decides.{nat_tests}
use Rattle.std.proofs.lemmas.Nat.Bits.{bit_at-zero, bit_at-lt}
use Rattle.lw_region.specs.Rectangle.{Rectangle, has_pixel}
use Rattle.lw_planes.specs.Bitmap.{IsBitmap, pen_at}
use Rattle.lw_kernels.specs.Kernel.{is_between}
use Rattle.lw_damage.specs.Damaged.{Damaged}
use Rattle.lw_machine.specs.Layer.{Raster}
use Rattle.lw_machine.specs.Kept.{holds_at, is_kept}
use Rattle.lw_machine.specs.Paint.{with_pens}
use Rattle.lw_machine.specs.Blits.{in_scroll_area, brought_if, brought_pen, scroll_raster}
use Rattle.lw_layer.specs.View.{LiveView, shows, keeps, draws, with_layer}
use Rattle.lw_layer.specs.Pieces.{inner_in, damage_table}
use Rattle.lw_layer.specs.Copied.{bit_in, kept_bit}
use Rattle.lw_draw.specs.Drawn.{drawn, GivesBits, in_mask, in_rows, painted, painted_bit}
use Rattle.lw_draw.proofs.PaintLaws.{layer_same, layer_alike, draws_stays, shape_drawn}
use Rattle.lw_draw.specs.declared.spans.Places.{Places}
use Rattle.lw_scroll.specs.declared.block.Block.{Block}
use Rattle.lw_scroll.specs.Blocks.{has_place, in_block, IsBlockOf, IsAtSide, IsBrought}
use Rattle.lw_scroll.specs.Scrolled.{pens_scrolled, brought_bit, scrolled_damage}
use Rattle.lw_scroll.proofs.BlockLaws.{place_between, leads_inside}

-- the bit of a pen that is brought from within the rectangle is that of a kept pixel, or 0
pen_or_none : (c : LiveView) (p x y : ℕ) (kept : Bool)
    → bit_in p (if kept then Some (pen_at c.layer.bits x y) else None)
    ≡ bit_at (brought_pen c.layer (brought_if true kept x y)) p
pen_or_none c p x y true = refl
pen_or_none c p x y false = sym (bit_at-zero p)

kept_brought : (c : LiveView) (p : ℕ) (x y : ℤ)
    → kept_bit c p x y
    ≡ bit_at (brought_pen c.layer (brought_if true (holds_at (λ i j. keeps c i j) x y) (unsigned_abs x) (unsigned_abs y))) p
unfolding kept_bit
kept_brought c p (pos x) (pos y) = pen_or_none c p x y (keeps c x y)
kept_brought c p (pos x) (negsuc y) = sym (bit_at-zero p)
kept_brought c p (negsuc x) y = sym (bit_at-zero p)

-- So it is of a pixel that leads into the rectangle,
pub bit_inside : (c : LiveView) (rect : Rectangle) (dx dy : ℤ) (p x y old : ℕ)
    → holds_at (λ i j. in_scroll_area rect c.layer i j) (pos x +ℤ dx) (pos y +ℤ dy) ≡ true
    → kept_bit c p (pos x +ℤ dx) (pos y +ℤ dy) ≡ brought_bit c rect dx dy p x y old
unfolding brought_bit keeps
bit_inside c rect dx dy p x y old inside =
    let column = pos x +ℤ dx in
    let row = pos y +ℤ dy in
    kept_brought c p column row
    ∙ ap (λ t. bit_at
    (brought_pen c.layer (brought_if t (holds_at (λ i j. keeps c i j) column row) (unsigned_abs column) (unsigned_abs row))) p)
    (sym inside)

-- and pen B's of one that leads out of it.
pub bit_outside : (c : LiveView) (rect : Rectangle) (dx dy : ℤ) (p x y old : ℕ)
    → holds_at (λ i j. in_scroll_area rect c.layer i j) (pos x +ℤ dx) (pos y +ℤ dy) ≡ false
    → bit_at c.layer.raster.pen_b p ≡ brought_bit c rect dx dy p x y old
unfolding brought_bit keeps
bit_outside c rect dx dy p x y old outside =
    let column = pos x +ℤ dx in
    let row = pos y +ℤ dy in
    ap (λ t. bit_at
    (brought_pen c.layer (brought_if t (holds_at (λ i j. keeps c i j) column row) (unsigned_abs column) (unsigned_abs row))) p)
    (sym outside)

-- It is a bit.
pub brought_bits : (c : LiveView) (rect : Rectangle) (dx dy : ℤ) → GivesBits (brought_bit c rect dx dy)
unfolding brought_bit
brought_bits c rect dx dy p x y old small = bit_at-lt _ p

-- The parts of a block that are painted one after another: the target, the rows beside it, and the columns beside it.
pub part_apart : (m d rows columns row beside column : Bool) → beside ≡ (rows && not row)
    → ((m && (row && (column && d))) && (m && (beside && (columns && d)))) ≡ false
part_apart m d rows columns true beside column is = rw is (grind (arith, nat_tests))
part_apart m d rows columns false beside column is = grind (arith, nat_tests)

pub last_apart : (m d rows columns row beside column rest : Bool) → beside ≡ (rows && not row) → rest ≡ (columns && not column)
    → (((m && (row && (column && d))) || (m && (beside && (columns && d)))) && (m && (row && (rest && d)))) ≡ false
last_apart m d rows columns row beside column rest first second = rw (first, second) (grind (arith, nat_tests))

pub last_whole : (m d rows columns row beside column rest : Bool) → beside ≡ (rows && not row) → rest ≡ (columns && not column)
    → (row ≡ true → rows ≡ true) → (column ≡ true → columns ≡ true)
    → (m && (rows && (columns && d)))
    ≡ (((m && (row && (column && d))) || (m && (beside && (columns && d)))) || (m && (row && (rest && d))))
last_whole m d rows columns row beside column rest first second inside_rows inside_columns =
    rw (first, second) (grind (arith, nat_tests))

-- what is painted of a block's pixels that lead into the rectangle, and of those that lead out of it
and_all : (m row column d : Bool) → (m && (row && (column && d))) ≡ true → (row ≡ true) × (column ≡ true)
and_all true true true true is = (refl, refl)
and_all true true true false is = absurd (cc is)
and_all true true false d is = absurd (cc is)
and_all true false column d is = absurd (cc is)
and_all false row column d is = absurd (cc is)

pub target_leads : (c : LiveView) (rect : Rectangle) (b target : Block) (dx dy : ℤ) → IsBlockOf c rect b
    → IsBrought b dx dy target
    → (m d : Bool) (i j : ℕ)
    → (m && (is_between target.rows.from target.rows.end j && (is_between target.columns.from target.columns.end i && d)))
    ≡ true
    → holds_at (λ u v. in_scroll_area rect c.layer u v) (pos i +ℤ dx) (pos j +ℤ dy) ≡ true
target_leads c rect b target dx dy is are m d i j on =
    let sides =
    and_all m (is_between target.rows.from target.rows.end j) (is_between target.columns.from target.columns.end i) d on
    in
    let inside : in_block target (pos i) (pos j) ≡ true =
    and_from _ _ (place_between target.columns i ∙ sides.1) (place_between target.rows j ∙ sides.0)
    in
    sym (is (pos i +ℤ dx) (pos j +ℤ dy)) ∙ (and_parts _ _ (sym (leads_inside b target dx dy are (pos i) (pos j)) ∙ inside)).1

-- a pixel of a block that isn't one of the target leads out of it
off_and : (a b : Bool) → a ≡ true → false ≡ (a && b) → b ≡ false
off_and true b has is = sym is
off_and false b has is = absurd (cc has)

no_and : (a b : Bool) → (a ≡ false) ⊎ (b ≡ false) → (a && b) ≡ false
no_and false b off = refl
no_and true false off = refl
no_and true true (inl off) = off
no_and true true (inr off) = off

pub beside_leads : (c : LiveView) (rect : Rectangle) (b target : Block) (dx dy : ℤ) → IsBlockOf c rect b
    → IsBrought b dx dy target
    → (i j : ℕ) → is_between b.rows.from b.rows.end j ≡ true → is_between b.columns.from b.columns.end i ≡ true
    → (is_between target.columns.from target.columns.end i ≡ false) ⊎ (is_between target.rows.from target.rows.end j ≡ false)
    → holds_at (λ u v. in_scroll_area rect c.layer u v) (pos i +ℤ dx) (pos j +ℤ dy) ≡ false
beside_leads c rect b target dx dy is are i j row column off =
    let inside : in_block b (pos i) (pos j) ≡ true =
    and_from _ _ (place_between b.columns i ∙ column) (place_between b.rows j ∙ row)
    in
    let out : in_block target (pos i) (pos j) ≡ false =
    rw (place_between target.columns i, place_between target.rows j)
    (no_and (is_between target.columns.from target.columns.end i) (is_between target.rows.from target.rows.end j) off)
    in
    sym (is (pos i +ℤ dx) (pos j +ℤ dy))
    ∙ off_and (in_block b (pos i) (pos j)) (in_block b (pos i +ℤ dx) (pos j +ℤ dy)) inside
    (sym out ∙ leads_inside b target dx dy are (pos i) (pos j))

-- a part of places is in them, and what is beside it isn't in it
beside_parts : (whole part rest : Bool) → rest ≡ (whole && not part) → rest ≡ true → (whole ≡ true) × (part ≡ false)
beside_parts true false rest is on = (refl, refl)
beside_parts true true rest is on = absurd (cc (sym on ∙ is))
beside_parts false part rest is on = absurd (cc (sym on ∙ is))

pub part_inside : (p part : Places) → IsAtSide p part → (u : ℕ) → is_between part.from part.end u ≡ true
    → is_between p.from p.end u ≡ true
part_inside p part at_side u on = let first = at_side.first in let last = at_side.last in grind (arith, nat_tests)

pub row_beside : (c : LiveView) (rect : Rectangle) (b target : Block) (rest : Places) (dx dy : ℤ) → IsBlockOf c rect b
    → IsBrought b dx dy target
    → ((u : ℕ) → is_between rest.from rest.end u ≡
    (is_between b.rows.from b.rows.end u && not (is_between target.rows.from target.rows.end u)))
    → (m d : Bool) (i j : ℕ)
    → (m && (is_between rest.from rest.end j && (is_between b.columns.from b.columns.end i && d))) ≡ true
    → holds_at (λ u v. in_scroll_area rect c.layer u v) (pos i +ℤ dx) (pos j +ℤ dy) ≡ false
row_beside c rect b target rest dx dy is are has m d i j on =
    let sides = and_all m (is_between rest.from rest.end j) (is_between b.columns.from b.columns.end i) d on in
    let parts = beside_parts _ _ _ (has j) sides.0 in
    beside_leads c rect b target dx dy is are i j parts.0 sides.1 (inr parts.1)

pub column_beside : (c : LiveView) (rect : Rectangle) (b target : Block) (rest : Places) (dx dy : ℤ) → IsBlockOf c rect b
    → IsBrought b dx dy target
    → ((u : ℕ) → is_between rest.from rest.end u ≡
    (is_between b.columns.from b.columns.end u && not (is_between target.columns.from target.columns.end u)))
    → (m d : Bool) (i j : ℕ)
    → (m && (is_between target.rows.from target.rows.end j && (is_between rest.from rest.end i && d))) ≡ true
    → holds_at (λ u v. in_scroll_area rect c.layer u v) (pos i +ℤ dx) (pos j +ℤ dy) ≡ false
column_beside c rect b target rest dx dy is are has m d i j on =
    let sides = and_all m (is_between target.rows.from target.rows.end j) (is_between rest.from rest.end i) d on in
    let parts = beside_parts _ _ _ (has i) sides.1 in
    beside_leads c rect b target dx dy is are i j (part_inside b.rows target.rows are.rows.at_side j sides.0) parts.0
    (inl parts.1)

-- a layer that was drawn on, once some rows and columns are filled with what they become
pub filled_as : (v w z : LiveView) (done : ℕ → ℕ → ℕ → Bool) (new : ℕ → ℕ → ℕ → ℕ → ℕ) (solid : Raster)
    (top bottom from end : ℕ)
    → w ≡ drawn done new v
    → z ≡ painted solid (λ i j. in_rows w top bottom from end i j) w
    → ((p i j old : ℕ) →
    (in_mask solid p && in_rows v top bottom from end i j) ≡ true → painted_bit solid p i j old ≡ new p i j old)
    → z ≡ drawn (λ p i j. in_mask solid p && in_rows v top bottom from end i j) new w
filled_as v w z done new solid top bottom from end was filled same =
    let on : LiveView → ℕ → ℕ → ℕ → Bool = λ q p i j. in_mask solid p && in_rows q top bottom from end i j in
    layer_alike w z (on v) (painted_bit solid) new
    (layer_same w z (on w) (on v) (painted_bit solid) filled
    (λ p i j _. ap (λ t. in_mask solid p && (is_between top bottom j && (is_between from end i && t)))
    (draws_stays v w done new i j was)))
    (λ p i j old _ _ _ has _. same p i j old has)

-- the tests of a pixel, in another order
block_turned : (drawable has column row : Bool) → (column && row) ≡ has → (drawable && has) ≡ (row && (column && drawable))
block_turned true has true true is = sym is
block_turned true has true false is = sym is
block_turned true has false true is = sym is
block_turned true has false false is = sym is
block_turned false has true true is = refl
block_turned false has true false is = refl
block_turned false has false true is = refl
block_turned false has false false is = refl

-- The pens are scrolled once the drawable pixels of the block have what is brought to them.
pub pens_drawn : (c : LiveView) (rect : Rectangle) (dx dy : ℤ) (raster : Raster) (b : Block) → IsBitmap c.layer.bits
    → raster ≡ c.layer.raster → IsBlockOf c rect b
    → drawn (λ p x y. in_mask raster p && in_rows c b.rows.from b.rows.end b.columns.from b.columns.end x y)
    (brought_bit c rect dx dy) c
    ≡ with_layer (λ l. pens_scrolled (λ i j. shows c i j) rect dx dy l) c
unfolding brought_bit
pens_drawn c rect dx dy raster b ok same is =
    ap (λ r. drawn (λ p x y. in_mask r p && in_rows c b.rows.from b.rows.end b.columns.from b.columns.end x y)
    (brought_bit c rect dx dy) c) same
    ∙ shape_drawn c (λ x y. has_pixel rect (pos x) (pos y))
    (λ x y. in_rows c b.rows.from b.rows.end b.columns.from b.columns.end x y) (brought_bit c rect dx dy) ok
    (λ x y left low.
    block_turned (draws c x y) (has_pixel rect (pos x) (pos y)) (is_between b.columns.from b.columns.end x)
    (is_between b.rows.from b.rows.end y)
    (sym (ap (λ t. t && has_place b.rows (pos y)) (place_between b.columns x)
    ∙ ap (λ t. is_between b.columns.from b.columns.end x && t) (place_between b.rows y))
    ∙ (is (pos x) (pos y) ∙ rw (lt-ltb x c.layer.bits.width left, lt-ltb y c.layer.bits.height low) refl)))

-- What a change of the pens leaves of a layer.
pub pens_inner : (v w : LiveView) (rect : Rectangle) (dx dy : ℤ)
    → w ≡ with_layer (λ l. pens_scrolled (λ i j. shows v i j) rect dx dy l) v
    → inner_in w ≡ inner_in v
unfolding with_pens
pens_inner v w rect dx dy is = ap (λ (q : LiveView). inner_in q) is

pub pens_updating : (v w : LiveView) (rect : Rectangle) (dx dy : ℤ)
    → w ≡ with_layer (λ l. pens_scrolled (λ i j. shows v i j) rect dx dy l) v
    → w.layer.updating ≡ v.layer.updating
unfolding with_pens
pens_updating v w rect dx dy is = ap (λ (q : LiveView). q.layer.updating) is

pub pens_keep : (v w : LiveView) (rect : Rectangle) (dx dy : ℤ)
    → w ≡ with_layer (λ l. pens_scrolled (λ i j. shows v i j) rect dx dy l) v
    → (table : List (List Bool)) (x y : ℤ)
    → holds_at (λ i j. keeps w i j) x y
    ≡ holds_at (λ i j. keeps (with_layer (λ l. record l { damage = table }) v) i j) x y
unfolding with_pens keeps is_kept
pens_keep v w rect dx dy is table x y = ap (λ (q : LiveView). holds_at (λ i j. keeps q i j) x y) is

-- The scroll is done once the damage is replaced,
pub damage_set : (v w z : LiveView) (rect : Rectangle) (dx dy : ℤ) (d : Damaged)
    → w ≡ with_layer (λ l. pens_scrolled (λ i j. shows v i j) rect dx dy l) v
    → z ≡ with_layer (λ l. record l { damage = damage_table l.bits d.rects }) w
    → scrolled_damage v rect dx dy ≡ damage_table v.layer.bits d.rects
    → z ≡ with_layer (λ l. scroll_raster (λ i j. shows v i j) dx dy rect l) v
unfolding with_pens
damage_set v w z rect dx dy d pens set is =
    set
    ∙ (ap (with_layer (λ l. record l { damage = damage_table l.bits d.rects })) pens
    ∙ ap (λ t. with_layer (λ l. record (pens_scrolled (λ i j. shows v i j) rect dx dy l) { damage = t }) v)
    (sym is))

-- or where it stays.
pub damage_left : (v w : LiveView) (rect : Rectangle) (dx dy : ℤ)
    → w ≡ with_layer (λ l. pens_scrolled (λ i j. shows v i j) rect dx dy l) v
    → scrolled_damage v rect dx dy ≡ v.layer.damage
    → w ≡ with_layer (λ l. scroll_raster (λ i j. shows v i j) dx dy rect l) v
unfolding with_pens
damage_left v w rect dx dy pens is =
    pens ∙ ap
    (λ t. with_layer (λ l. record (pens_scrolled (λ i j. shows v i j) rect dx dy l) { damage = t }) v)
    (sym is)
