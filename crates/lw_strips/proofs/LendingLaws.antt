-- Strips once rows that they lent were given back, or a block was copied into them.
use Rattle.std.proofs.Common.{◌≡◌, ℕ, ◌+◌, ◌^◌, ◌<◌, ◌≤◌, Bool, true, false, if◌then◌else◌, List, Option, Some, None, ◌∙◌, sym, ap, subst}
use Rattle.lw_region.specs.Rectangle.{Rectangle}
use Rattle.lw_planes.specs.Bitmap.{Bitmap, pen_at}
use Rattle.lw_planes.specs.Change.{with_row}
use Rattle.lw_planes.specs.Sizes.{IsPlanes}
use Rattle.lw_planes.proofs.BitmapLaws.{IsBitmap_bitmap, pen_at_lt}
use Rattle.lw_planes.proofs.WriteLaws.{IsPlanes_with_row}
use Rattle.lw_strips.specs.Blocks.{IsBlockOf, in_block, block_pen, with_block}
use Rattle.lw_strips.specs.Strips.{StripView, IsStrip, strip_of, filled}
use Rattle.lw_strips.specs.Lending.{AreRowsOf}
use Rattle.lw_strips.specs.Lent.{HaveRows, AreRows, changed, HaveBlock, with_copy}
use Rattle.lw_strips.specs.declared.block.Block.{Block}

-- a solid strip has a bitmap
pub solid_rows : (r : Rectangle) (depth : ℕ) (o : Option Bitmap) (s : StripView) (plane y rows : ℕ) → strip_of r depth o ≡ s → s.solid ≡ true → plane < s.planes.depth → y + rows ≤ s.planes.height → HaveRows o plane y rows
solid_rows r depth None s plane y rows is solid deep low = let not : false ≡ true = ap (λ (q : StripView). q.solid) is ∙ solid in absurd (cc not)
solid_rows r depth (Some b) s plane y rows is solid deep low =
    let P : StripView → Type 0 = λ q. (plane < q.planes.depth) × (y + rows ≤ q.planes.height) in
    subst P (sym is) (deep, low)

-- with rows written it is a strip
pub written_strip : (r : Rectangle) (depth : ℕ) (o : Option Bitmap) (plane y : ℕ) (bytes : List ℕ) → IsStrip (strip_of r depth o) × ((strip_of r depth o).planes.depth ≡ depth)
    → IsStrip (strip_of r depth (changed plane y bytes o)) × ((strip_of r depth (changed plane y bytes o)).planes.depth ≡ depth)
written_strip r depth None plane y bytes ok = ok
written_strip r depth (Some b) plane y bytes ok = (
  record {
    ordered = ok.0.ordered;
    size = record { columns = ok.0.size.columns; rows = ok.0.size.rows };
    sound = IsPlanes_with_row b plane y bytes ok.0.sound.sizes;
    blank = λ not. absurd (cc not);
  },
  ok.1,
)

-- and the strip with these rows
pub written_view : (r : Rectangle) (depth : ℕ) (o : Option Bitmap) (s : StripView) (plane y : ℕ) (bytes : List ℕ) → strip_of r depth o ≡ s → s.solid ≡ true
    → strip_of r depth (changed plane y bytes o) ≡ record s { planes = with_row s.planes plane y bytes }
written_view r depth None s plane y bytes is solid = let not : false ≡ true = ap (λ (q : StripView). q.solid) is ∙ solid in absurd (cc not)
written_view r depth (Some b) s plane y bytes is solid = ap (λ (q : StripView). record q { planes = with_row q.planes plane y bytes }) is

-- the rows that were lent are the strip's
pub lent_rows : (r : Rectangle) (depth : ℕ) (o : Option Bitmap) (s : StripView) (plane y rows : ℕ) (bytes : List ℕ) → strip_of r depth o ≡ s → AreRows o plane y rows bytes → AreRowsOf s.planes plane y rows bytes
lent_rows r depth None s plane y rows bytes is lent = absurd lent
lent_rows r depth (Some b) s plane y rows bytes is lent =
    let P : StripView → Type 0 = λ q. AreRowsOf q.planes plane y rows bytes in
    subst P is lent

-- a solid strip has the block
pub solid_block : (r : Rectangle) (depth : ℕ) (o : Option Bitmap) (s : StripView) (k : Block) (source : Bitmap) → strip_of r depth o ≡ s → s.solid ≡ true → IsBlockOf k s.planes source → HaveBlock o k source
solid_block r depth None s k source is solid has = let not : false ≡ true = ap (λ (q : StripView). q.solid) is ∙ solid in absurd (cc not)
solid_block r depth (Some b) s k source is solid has =
    let P : StripView → Type 0 = λ q. IsBlockOf k q.planes source in
    subst P (sym is) has

-- with a block copied into it it is a strip
chosen_below : (t : Bool) (a b n : ℕ) → a < n → b < n → (if t then a else b) < n
chosen_below true a b n first second = first
chosen_below false a b n first second = second

block_planes : (b source : Bitmap) (k : Block) → IsPlanes b → IsPlanes source → source.depth ≡ b.depth → IsPlanes (with_block k source b)
block_planes b source k ok from deep =
    let P : ℕ → ℕ → ℕ → Type 0 = λ d x y. block_pen k source x y < 2 ^ d in
    record {
      bitmap = IsBitmap_bitmap b.width b.height b.depth _ (λ x y left low.
          chosen_below (in_block k x y) (block_pen k source x y) (pen_at b x y) (2 ^ b.depth)
          (subst (λ d. P d x y) deep (pen_at_lt source _ _ from.bitmap)) (pen_at_lt b x y ok.bitmap));
      sizes = ok.sizes;
    }

pub copied_strip : (r : Rectangle) (depth : ℕ) (o : Option Bitmap) (k : Block) (source : Bitmap) → IsStrip (strip_of r depth o) × ((strip_of r depth o).planes.depth ≡ depth) → HaveBlock o k source → IsPlanes source
    → IsStrip (strip_of r depth (with_copy k source o)) × ((strip_of r depth (with_copy k source o)).planes.depth ≡ depth)
copied_strip r depth None k source ok has from = absurd has
copied_strip r depth (Some b) k source ok has from = (
  record {
    ordered = ok.0.ordered;
    size = record { columns = ok.0.size.columns; rows = ok.0.size.rows };
    sound = block_planes b source k ok.0.sound from has.planes;
    blank = λ not. absurd (cc not);
  },
  ok.1,
)

-- and the strip with this block
pub copied_view : (r : Rectangle) (depth : ℕ) (o : Option Bitmap) (s : StripView) (k : Block) (source : Bitmap) → strip_of r depth o ≡ s → s.solid ≡ true
    → strip_of r depth (with_copy k source o) ≡ filled (with_block k source s.planes) s
copied_view r depth None s k source is solid = let not : false ≡ true = ap (λ (q : StripView). q.solid) is ∙ solid in absurd (cc not)
copied_view r depth (Some b) s k source is solid = ap (λ (q : StripView). filled (with_block k source q.planes) q) is

-- the rectangle of a strip that has a bitmap or none
pub rect_is : (r : Rectangle) (depth : ℕ) (o : Option Bitmap) (s : StripView) → strip_of r depth o ≡ s → r ≡ s.rect
rect_is r depth None s is = ap (λ (q : StripView). q.rect) is
rect_is r depth (Some b) s is = ap (λ (q : StripView). q.rect) is
